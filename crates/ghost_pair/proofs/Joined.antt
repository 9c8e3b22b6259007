-- What a client holds agrees with what the server's ghosts tell, after every legal list of events whose verdicts are what
-- the client processed. By induction over the list, where packets that were processed are so from when they are sent: each
-- step but a packet leaves the periods that are there.
use Rattle.std.proofs.Common.{◌≡◌, ◌≢◌, ℕ, zero, suc, ◌+◌, ◌<◌, Bool, true, false, cond, List, [], ◌∷◌, ◌++◌, ◌∙◌, map, take, length, length-drop, Some, None, Option, refl, sym, ap, subst, inl, inr, arith, eqb, ltb, count_by}
use Rattle.std.specs.Prelude.{slice_get}
use Rattle.std.specs.List.{AllByRecursion}
use Rattle.std.proofs.Math.Numerals.{add-one}
use Rattle.std.proofs.lemmas.Bool.{cases_eq, and_left}
use Rattle.std.proofs.lemmas.List.{length-map}
use Rattle.tn_types.specs.declared.choices.Choice.{Choice}
use Rattle.tn_types.specs.declared.choices.Verdict.{Verdict}
use Rattle.ghost_model.specs.Phases.{is_gone, is_up, is_waiting}
use Rattle.ghost_model.specs.Scope as scope
use Rattle.ghost_model.specs.Scope.{given}
use Rattle.ghost_model.specs.Ghosts.{GhostEvent, Show, Hide, Near, Absorb, Grant, Sent, Judged, scope_log, packets, verdicts, unjudged, oldest, phase, settled_by}
use Rattle.ghost_model.specs.Legal.{KindSizes, IsLegal, NameOnce}
use Rattle.ghost_model.specs.Packets.{IsWriting, CanBeJudged}
use Rattle.ghost_model.proofs.Steps.{other_test, hide_phase, hide_other}
use Rattle.ghost_model.proofs.Granted.{unfound_given, keeps_given}
use Rattle.ghost_model.proofs.Covered.{in_turn, drop_next}
use Rattle.ghost_model.proofs.Written.{can_be_written, wrote_given, settled_given, write_alive}
use Rattle.ghost_model.proofs.Legal.{sound, writing, sent_unjudged, judge_packet}
use Rattle.ghost_model.proofs.Holders.{apart}
use Rattle.ghost_model.proofs.Sorted.{count_here, count_rest, once_rest}
use Rattle.ghost_pair.specs.Copies.{Item, Copy, choices, taken, after_done, copies_of}
use Rattle.ghost_pair.proofs.Walk.{done_push}
use Rattle.ghost_pair.proofs.There.{was_there, packet_there, verdict_by, hidden_there, slotted_there, wrote_there, judged_there, step_there, there_alive, there_slotted}
use Rattle.ghost_pair.proofs.Client.{Agree, agree_by, FindsEach, AreKnown, Took, packet_taken}

-- each verdict is Received exactly where the packet was processed
abbrev pub AreSaid : (ℕ → Bool) → List GhostEvent → Type 0
AreSaid done [] = Unit {0}
AreSaid done (Judged v ∷ log) = (v ≡ verdict_by (done (suc (verdicts log)))) × AreSaid done log
AreSaid done (_ ∷ log) = AreSaid done log

-- the copy of n is there: by what was judged, and by what was processed of the rest
abbrev pub is_there : List GhostEvent → (ℕ → Bool) → ℕ → Bool
is_there g done n = after_done (packet_there n) done (suc (verdicts g)) (was_there (phase g n)) (unjudged g)

-- each packet finds what it speaks of, right behind those before it that were processed, and names no slot twice
abbrev pub AreFound : (ℕ → Bool) → ℕ → (ℕ → Option Copy) → List (List Item) → Type 0
AreFound done k copies [] = Unit {0}
AreFound done k copies (p ∷ ps) = FindsEach p copies × NameOnce (choices p) × AreFound done (suc k) (cond (done k) (taken p copies) copies) ps

pub record Joined (g : List GhostEvent) (sent : List (List Item)) (done : ℕ → Bool) : Type 0 where
  pub agree : Agree (given (scope_log g)) (is_there g done) (copies_of done sent)
  pub found : AreFound done 1 (λ slot. None) sent

-- ---- lists

found_push : (done : ℕ → Bool) (k : ℕ) (copies : ℕ → Option Copy) (ps : List (List Item)) (p : List Item) → AreFound done k copies ps → FindsEach p (after_done taken done k copies ps) → NameOnce (choices p) → AreFound done k copies (ps ++ p ∷ [])
found_push done k copies [] p all f once = (f, once, tt)
found_push done k copies (q ∷ ps) p all f once = (all.0, all.1, found_push done (suc k) (cond (done k) (taken q copies) copies) ps p all.2 f once)

-- the packet that was sent last
pub record LastOf (sent : List (List Item)) (xs : List (List Choice)) (c : List Choice) : Type 0 where
  pub front : List (List Item)
  pub last : List Item
  pub is : sent ≡ front ++ last ∷ []
  pub fronts : xs ≡ map choices front
  pub lasts : choices last ≡ c

pub last_of : (sent : List (List Item)) (xs : List (List Choice)) (c : List Choice) → xs ++ c ∷ [] ≡ map choices sent → LastOf sent xs c
last_of [] [] c h = absurd (cc)
last_of [] (x ∷ xs) c h = absurd (cc)
last_of (p ∷ []) [] c h = record { front = []; last = p; is = refl; fronts = refl; lasts = cc }
last_of (p ∷ q ∷ ps) [] c h = absurd (cc)
last_of (p ∷ ps) (x ∷ xs) c h = further p x xs c (first h) (last_of ps xs c (rest h))
  where
    first : {X : Type 0} {a b : X} {us vs : List X} → a ∷ us ≡ b ∷ vs → a ≡ b
    first h = cc

    rest : {X : Type 0} {a b : X} {us vs : List X} → a ∷ us ≡ b ∷ vs → us ≡ vs
    rest h = cc

    further : (p : List Item) (x : List Choice) (xs : List (List Choice)) (c : List Choice) → x ≡ choices p → LastOf ps xs c → LastOf (p ∷ ps) (x ∷ xs) c
    further p x xs c e r = record { front = p ∷ r.front; last = r.last; is = ap (λ l. p ∷ l) r.is; fronts = ap (λ y. y ∷ xs) e ∙ ap (λ l. choices p ∷ l) r.fronts; lasts = r.lasts }

-- a slot that is named once is named by no other item
pub other_slots : (s : ℕ) (items : List Item) → count_by (λ (c : Choice). eqb c.slot s) (choices items) ≡ 0 → AllByRecursion (λ (x : Item). s ≢ x.choice.slot) items
other_slots s [] none = tt
other_slots s (i ∷ items) none = (
  λ same. omega (arith, none, count_here s i.choice (choices items) (sym same)),
  other_slots s items (omega (arith, none, count_rest s i.choice (choices items))),
)

-- ---- what is known of a log

module _ (kinds : KindSizes) (g : List GhostEvent) (legal : IsLegal kinds g) (done : ℕ → Bool) where
  held : (n s : ℕ) → given (scope_log g) n ≡ Some s → is_gone (phase g n) ≡ false → scope.slot (scope_log g) n ≡ Some s
  held n s h alive = ap (λ b. cond b None (given (scope_log g) n)) alive ∙ h

  pub apart_alive : (m n s : ℕ) → given (scope_log g) m ≡ Some s → given (scope_log g) n ≡ Some s → is_gone (phase g m) ≡ false → is_gone (phase g n) ≡ false → m ≡ n
  apart_alive m n s hm hn am an = apart kinds g legal m n s (held m s hm am) (held n s hn an)

  pub alive_there : (n : ℕ) → is_there g done n ≡ true → is_gone (phase g n) ≡ false
  alive_there n t = there_alive n done (suc (verdicts g)) (phase g n) (unjudged g) ((sound kinds g legal).shape n) t

  slotted : (n : ℕ) → is_there g done n ≡ true → is_waiting (phase g n) ≡ false
  slotted n t = there_slotted n done (suc (verdicts g)) (phase g n) (unjudged g) ((sound kinds g legal).shape n) t

  -- ---- a grant

  granted_there : (n : ℕ) → is_there (Grant ∷ g) done n ≡ is_there g done n
  granted_there n = ap (λ b. after_done (packet_there n) done (suc (verdicts g)) b (unjudged g)) (slotted_there _ _ _ _ _ _ _)

  granted : (copies : ℕ → Option Copy) → Agree (given (scope_log g)) (is_there g done) copies → Agree (given (scope_log (Grant ∷ g))) (is_there (Grant ∷ g) done) copies
  granted copies a = record {
    has = λ s n e t.
        let old : is_there g done n ≡ true = sym (granted_there n) ∙ t in
        a.has s n (sym (unfound_given (scope_log g) n (and_left (is_waiting (phase g n)) (ltb n (scope.shows (scope_log g))) (slotted n old))) ∙ e) old;
    is = λ s c e. let k = a.is s c e in (keeps_given (scope_log g) c.period s k.0, granted_there c.period ∙ k.1);
  }

  -- ---- a period is hidden

  hidden_same : (m : ℕ) → is_up (phase g m) ≡ true → (n : ℕ) → was_there (phase (Hide m ∷ g) n) ≡ was_there (phase g n)
  hidden_same m up n = elim (cases_eq m n) [
    | inl same ↦ subst (λ q. was_there (phase (Hide m ∷ g) q) ≡ was_there (phase g q)) same (ap was_there (hide_phase (scope_log g) m up (sound kinds g legal).kills) ∙ hidden_there (phase g m) up)
    | inr other ↦ ap was_there (hide_other (scope_log g) n m (other_test m n other))
  ]

  hidden : (m : ℕ) → is_up (phase g m) ≡ true → (copies : ℕ → Option Copy) → Agree (given (scope_log g)) (is_there g done) copies → Agree (given (scope_log (Hide m ∷ g))) (is_there (Hide m ∷ g) done) copies
  hidden m up copies a =
      agree_by (given (scope_log g)) (given (scope_log g)) (is_there g done) (is_there (Hide m ∷ g) done) copies
      (λ n. ap (λ b. after_done (packet_there n) done (suc (verdicts g)) b (unjudged g)) (hidden_same m up n)) (λ n t. refl) a

  -- ---- a packet is sent

  other_periods : (i : Item) (items : List Item) → given (scope_log g) i.choice.n ≡ Some i.choice.slot → AllByRecursion (IsWriting (scope_log g)) (choices items) → AllByRecursion (λ (x : Item). i.choice.slot ≢ x.choice.slot) items
      → AllByRecursion (λ (x : Item). i.choice.n ≢ x.choice.n) items
  other_periods i [] own all other = tt
  other_periods i (x ∷ items) own all other = (
    λ same. other.0 (let e : Some i.choice.slot ≡ Some x.choice.slot = sym own ∙ ap (given (scope_log g)) same ∙ all.0.slot in cc),
    other_periods i items own all.1 other.1,
  )

  pub known_items : (items : List Item) → AllByRecursion (IsWriting (scope_log g)) (choices items) → NameOnce (choices items) → AreKnown (given (scope_log g)) (λ n. is_gone (phase g n)) apart_alive (is_there g done) items
  known_items [] all once = tt
  known_items (i ∷ items) all once =
      let none : count_by (λ (c : Choice). eqb c.slot i.choice.slot) (choices items) ≡ 0 = omega (arith, once i.choice.slot, count_here i.choice.slot i.choice (choices items) refl) in (
        record {
          at_slot = all.0.slot;
          lives = write_alive (phase g i.choice.n) i.choice.op all.0.step;
          now = step_there i.choice.n done (suc (verdicts g)) (unjudged g) (phase g i.choice.n) i.choice.op all.0.step ((sound kinds g legal).shape i.choice.n);
        },
        other_periods i items all.0.slot all.1 (other_slots i.choice.slot items none),
        known_items items all.1 (once_rest i.choice (choices items) once),
      )

  module _ (items : List Item) (front : List (List Item)) (same : packets g ≡ map choices front) (all : AllByRecursion (IsWriting (scope_log g)) (choices items)) (once : NameOnce (choices items)) (old : Joined g front done) where
    abbrev Cs : List Choice
    Cs = choices items

    took : Took (given (scope_log g)) (λ n. is_gone (phase g n)) apart_alive (is_there g done) (copies_of done front) items
    took = packet_taken (given (scope_log g)) (λ n. is_gone (phase g n)) apart_alive items (is_there g done) (copies_of done front) alive_there (known_items items all once) old.agree

    abbrev Number : ℕ
    Number = 1 + length front

    place : suc (verdicts g) + length (unjudged g) ≡ 1 + length front
    place = omega (arith, length-drop (verdicts g) (packets g), in_turn g (sound kinds g legal).turn, ap length same, length-map front choices)

    sent_there : (n : ℕ) → is_there (Sent Cs ∷ g) done n ≡ cond (done Number) (packet_there n Cs (is_there g done n)) (is_there g done n)
    sent_there n =
        ap (λ l. after_done (packet_there n) done (suc (verdicts g)) (was_there (phase (Sent Cs ∷ g) n)) l) (sent_unjudged kinds g Cs (sound kinds g legal).turn)
        ∙ ap (λ b. after_done (packet_there n) done (suc (verdicts g)) b (unjudged g ++ Cs ∷ [])) (wrote_there Cs (scope_log g) n (can_be_written Cs (scope_log g) all once))
        ∙ done_push (packet_there n) done (suc (verdicts g)) (was_there (phase g n)) (unjudged g) Cs
        ∙ ap (λ k. cond (done k) (packet_there n Cs (is_there g done n)) (is_there g done n)) place

    either : (b : Bool) → Agree (given (scope_log g)) (λ n. cond b (packet_there n Cs (is_there g done n)) (is_there g done n)) (cond b (taken items (copies_of done front)) (copies_of done front))
    either true = took.agree
    either false = old.agree

    pub sent_joined : Joined (Sent Cs ∷ g) (front ++ items ∷ []) done
    sent_joined = record {
      agree =
          agree_by (given (scope_log g)) (given (scope_log (Sent Cs ∷ g))) (λ n. cond (done Number) (packet_there n Cs (is_there g done n)) (is_there g done n)) (is_there (Sent Cs ∷ g) done) (copies_of done (front ++ items ∷ []))
          sent_there (λ n t. wrote_given Cs (scope_log g) n)
          (subst (Agree (given (scope_log g)) (λ n. cond (done Number) (packet_there n Cs (is_there g done n)) (is_there g done n))) (sym (done_push taken done 1 (λ slot. None) front items)) (either (done Number)));
      found = found_push done 1 (λ slot. None) front items old.found took.finds once;
    }

  -- ---- the oldest packet is judged

  module _ (v : Verdict) (says : v ≡ verdict_by (done (suc (verdicts g)))) (lt : verdicts g < length (packets g)) where
    judged_same : (kept : List (List Choice)) → unjudged g ≡ kept → (n : ℕ) → is_there (Judged v ∷ g) done n ≡ is_there g done n
    judged_same [] e n = absurd (omega (arith, ap length e, length-drop (verdicts g) (packets g)))
    judged_same (p ∷ later) e n =
        let next : unjudged (Judged v ∷ g) ≡ later = rw add-one (drop_next (verdicts g) (packets g) p later e) in
        let can = (judge_packet g v (p ∷ later) e lt (sound kinds g legal)).can in
        let b = done (suc (verdicts g)) in
        let now : was_there (phase (Judged v ∷ g) n) ≡ cond b (packet_there n p (was_there (phase g n))) (was_there (phase g n)) =
        ap (λ ps. was_there (scope.phase (settled_by_all v (oldest ps)) n)) e
        ∙ subst (λ w. was_there (scope.phase (settled_by_all w p) n) ≡ cond b (packet_there n p (was_there (phase g n))) (was_there (phase g n))) (sym says)
        (judged_there b p (scope_log g) n (subst (λ w. CanBeJudged w p (scope_log g)) says can) (sound kinds g legal).kills) in
        ap (λ k. after_done (packet_there n) done k (was_there (phase (Judged v ∷ g) n)) (unjudged (Judged v ∷ g))) (ap suc (add-one (verdicts g)))
        ∙ ap (λ l. after_done (packet_there n) done (suc (suc (verdicts g))) (was_there (phase (Judged v ∷ g) n)) l) next
        ∙ ap (λ x. after_done (packet_there n) done (suc (suc (verdicts g))) x later) now
        ∙ sym (ap (λ l. after_done (packet_there n) done (suc (verdicts g)) (was_there (phase g n)) l) e)
      where
        settled_by_all : Verdict → List Choice → List scope.ScopeEvent
        settled_by_all w p = settled_by w p (scope_log g)

    judged_joined : (sent : List (List Item)) → Joined g sent done → Joined (Judged v ∷ g) sent done
    judged_joined sent old = record {
      agree = agree_by (given (scope_log g)) (given (scope_log (Judged v ∷ g))) (is_there g done) (is_there (Judged v ∷ g) done) (copies_of done sent)
          (judged_same (unjudged g) refl) (λ n t. settled_given v (oldest (unjudged g)) (scope_log g) n) old.agree;
      found = old.found;
    }

-- ---- all events

pub joined : (kinds : KindSizes) (done : ℕ → Bool) (g : List GhostEvent) (sent : List (List Item)) → packets g ≡ map choices sent → IsLegal kinds g → AreSaid done g → Joined g sent done
joined kinds done [] [] same legal said = record { agree = record { has = λ s n e t. absurd (cc); is = λ s c e. absurd (cc) }; found = tt }
joined kinds done [] (p ∷ sent) same legal said = absurd (cc)
joined kinds done (Show k b l c ∷ g) sent same legal said = let j = joined kinds done g sent same legal.1 said in record { agree = record { has = j.agree.has; is = j.agree.is }; found = j.found }
joined kinds done (Near m l ∷ g) sent same legal said = let j = joined kinds done g sent same legal.1 said in record { agree = record { has = j.agree.has; is = j.agree.is }; found = j.found }
joined kinds done (Absorb m b ∷ g) sent same legal said = let j = joined kinds done g sent same legal.1 said in record { agree = record { has = j.agree.has; is = j.agree.is }; found = j.found }
joined kinds done (Grant ∷ g) sent same legal said = let j = joined kinds done g sent same legal.1 said in record { agree = granted kinds g legal.1 done (copies_of done sent) j.agree; found = j.found }
joined kinds done (Hide m ∷ g) sent same legal said = let j = joined kinds done g sent same legal.1 said in record { agree = hidden kinds g legal.1 done m legal.0.up (copies_of done sent) j.agree; found = j.found }
joined kinds done (Judged v ∷ g) sent same legal said = judged_joined kinds g legal.1 done v said.0 legal.0 sent (joined kinds done g sent same legal.1 said.1)
joined kinds done (Sent cs ∷ g) sent same legal said =
    let s = last_of sent (packets g) cs same in
    let all = subst (λ l. AllByRecursion (IsWriting (scope_log g)) l) (sym s.lasts) (writing kinds g cs legal.0.0) in
    let j = sent_joined kinds g legal.1 done s.last s.front s.fronts all (subst NameOnce (sym s.lasts) legal.0.1) (joined kinds done g s.front s.fronts legal.1 said) in
    subst (λ l. Joined (Sent cs ∷ g) l done) (sym s.is) (subst (λ l. Joined (Sent l ∷ g) (s.front ++ s.last ∷ []) done) s.lasts j)

-- what the packet at a place found
pub found_at : (done : ℕ → Bool) (k : ℕ) (copies : ℕ → Option Copy) (ps : List (List Item)) (i : ℕ) (p : List Item) → AreFound done k copies ps → slice_get ps i ≡ Some p → FindsEach p (after_done taken done k copies (take i ps)) × NameOnce (choices p)
found_at done k copies [] zero p all at = absurd (cc)
found_at done k copies [] (suc i) p all at = absurd (cc)
found_at done k copies (q ∷ ps) zero p all at = subst (λ r. FindsEach r copies × NameOnce (choices r)) (same at) (all.0, all.1)
  where
    same : Some q ≡ Some p → q ≡ p
    same h = cc
found_at done k copies (q ∷ ps) (suc i) p all at = found_at done (suc k) (cond (done k) (taken q copies) copies) ps i p all.2 at
