-- No change is lost: a field that isn't due, and that no unjudged packet carries, has at the client the level of the last
-- packet that carries it.
use Rattle.std.proofs.Common.{◌≡◌, ℕ, suc, ◌+◌, ◌<◌, Bool, true, false, not, ◌||◌, cond, List, [], ◌∷◌, ◌∙◌, map, take, drop, length, length-take, Some, None, Option, refl, sym, ap, subst, inl, inr, arith, eqb}
use Rattle.std.specs.List.{list_any, AllByRecursion}
use Rattle.std.proofs.lemmas.Bool.{or_cases, or_parts, and_parts, or_left, or_right, and_from, false_from_ne_true, not-true}
use Rattle.std.proofs.lemmas.List.{drop-map, take-append-drop, length-map}
use Rattle.std.proofs.lemmas.List.Folds.{list_any-append}
use Rattle.tn_types.specs.declared.choices.Op.{Op}
use Rattle.tn_types.specs.declared.choices.Op.TheVariants.{Kill, Create, Update}
use Rattle.tn_types.specs.declared.choices.Verdict.TheVariants.{Received, Lost}
use Rattle.tn_types.specs.declared.choices.Choice.{Choice}
use Rattle.ghost_model.specs.declared.phase.Phase.{Phase}
use Rattle.ghost_model.specs.declared.phase.Phase.TheVariants.{Waiting, Wanted, Creating, Live}
use Rattle.ghost_model.specs.Words.{is_create}
use Rattle.ghost_model.specs.Phases.{is_gone, is_up}
use Rattle.ghost_model.specs.Scope.{given, shows}
use Rattle.ghost_model.specs.Ghosts.{GhostEvent, Show, Hide, Near, Absorb, Grant, Sent, Judged, scope_log, packets, verdicts, unjudged, phase, slot, carries, item_carries, op_carries, lost_alone, is_due}
use Rattle.ghost_model.specs.Due.{is_received_last}
use Rattle.ghost_model.specs.Legal.{KindSizes, IsLegal}
use Rattle.ghost_model.proofs.Covered.{covered}
use Rattle.ghost_model.proofs.Shape.{is_shape}
use Rattle.ghost_model.proofs.Kept.{ops_in, ops_of}
use Rattle.ghost_model.proofs.Judged.{is_new}
use Rattle.ghost_model.proofs.Fresh.{new_owes}
use Rattle.ghost_model.proofs.Legal.{sound, WasGiven}
use Rattle.ghost_pair.specs.Copies.{Item, Copy, choices, after_done, copies_of}
use Rattle.ghost_pair.specs.Levels.{put, processed_level, last_level}
use Rattle.ghost_pair.proofs.Walk.{done_push, done_append}
use Rattle.ghost_pair.proofs.There.{was_there, packet_there, verdict_by, updates_there}
use Rattle.ghost_pair.proofs.Joined.{AreSaid, last_of, joined, is_there}
use Rattle.ghost_pair.proofs.Levels.{levelled}
use Rattle.ghost_pair.proofs.Slots.{all_given, sent_given, HasSlot, carried_slot}

-- ---- the last packet that carries a field

-- where the packet doesn't carry it
put_idle : (n f : ℕ) (p : List Item) (x : Option ℕ) → carries n f (choices p) ≡ false → put n f p x ≡ x
put_idle n f [] x h = refl
put_idle n f (i ∷ p) x h =
    let parts = or_parts (item_carries n f i.choice) (carries n f (choices p)) h in
    ap (λ b. put n f p (cond b (Some (i.levels f)) x)) parts.0 ∙ put_idle n f p x parts.1

-- where it does, what came before is of no account
put_same : (n f : ℕ) (p : List Item) (x y : Option ℕ) → carries n f (choices p) ≡ true → put n f p x ≡ put n f p y
put_same n f [] x y h = absurd (cc)
put_same n f (i ∷ p) x y h = go (item_carries n f i.choice) h (λ u v k. put_same n f p u v k)
  where
    go : (b : Bool) → (b || carries n f (choices p)) ≡ true → ((u v : Option ℕ) → carries n f (choices p) ≡ true → put n f p u ≡ put n f p v) → put n f p (cond b (Some (i.levels f)) x) ≡ put n f p (cond b (Some (i.levels f)) y)
    go true k next = refl
    go false k next = next x y k

maybe_idle : (b : Bool) (n f : ℕ) (p : List Item) (x : Option ℕ) → carries n f (choices p) ≡ false → cond b (put n f p x) x ≡ x
maybe_idle true n f p x h = put_idle n f p x h
maybe_idle false n f p x h = refl

all_idle : (n f : ℕ) (done : ℕ → Bool) (k : ℕ) (x : Option ℕ) (ps : List (List Item)) → list_any (carries n f) (map choices ps) ≡ false → after_done (put n f) done k x ps ≡ x
all_idle n f done k x [] h = refl
all_idle n f done k x (p ∷ ps) h =
    let parts = or_parts (carries n f (choices p)) (list_any (carries n f) (map choices ps)) h in
    ap (λ y. after_done (put n f) done (suc k) y ps) (maybe_idle (done k) n f p x parts.0) ∙ all_idle n f done (suc k) x ps parts.1

-- from a packet on that carries it, was processed, and is the last one
from_carrier : (n f : ℕ) (done : ℕ → Bool) (k : ℕ) (x y : Option ℕ) (p : List Item) (later : List (List Item)) → done k ≡ true → carries n f (choices p) ≡ true → list_any (carries n f) (map choices later) ≡ false
    → after_done (put n f) done k x (p ∷ later) ≡ put n f p y
from_carrier n f done k x y p later now has idle =
    ap (λ b. after_done (put n f) done (suc k) (cond b (put n f p x) x) later) now ∙ all_idle n f done (suc k) (put n f p x) later idle ∙ put_same n f p x y has

by_received : (b : Bool) → Received ≡ verdict_by b → b ≡ true
by_received true e = refl
by_received false e = cc

module _ (n f : ℕ) (done : ℕ → Bool) where
  alone : (v : ℕ) (sent later : List (List Item)) (p : List Item) → drop v sent ≡ p ∷ later → v < length sent → done (suc v) ≡ true → carries n f (choices p) ≡ true → list_any (carries n f) (map choices later) ≡ false
      → processed_level n f done sent ≡ last_level n f sent
  alone v sent later p is lt now has idle = walked done now ∙ sym (walked (λ k. true) refl)
    where
      place : 1 + length (take v sent) ≡ suc v
      place = omega (arith, length-take v sent)

      walked : (d : ℕ → Bool) → d (suc v) ≡ true → after_done (put n f) d 1 None sent ≡ put n f p None
      walked d e =
          ap (after_done (put n f) d 1 None) (sym (take-append-drop v sent)) ∙ done_append (put n f) d 1 None (take v sent) (drop v sent)
          ∙ ap (λ k. after_done (put n f) d k (after_done (put n f) d 1 None (take v sent)) (drop v sent)) place
          ∙ ap (after_done (put n f) d (suc v) (after_done (put n f) d 1 None (take v sent))) is
          ∙ from_carrier n f d (suc v) (after_done (put n f) d 1 None (take v sent)) None p later e has idle

  alone_unjudged : (g : List GhostEvent) (sent : List (List Item)) → packets g ≡ map choices sent → verdicts g < length sent → done (suc (verdicts g)) ≡ true → lost_alone n f (unjudged g) ≡ true → processed_level n f done sent ≡ last_level n f sent
  alone_unjudged g sent same lt now h = go (drop (verdicts g) sent) refl (ap (lost_alone n f) (sym (ap (drop (verdicts g)) same ∙ drop-map choices (verdicts g) sent)) ∙ h)
    where
      go : (ps : List (List Item)) → drop (verdicts g) sent ≡ ps → lost_alone n f (map choices ps) ≡ true → processed_level n f done sent ≡ last_level n f sent
      go [] e k = absurd (cc)
      go (p ∷ later) e k =
          let parts = and_parts (carries n f (choices p)) (not (list_any (carries n f) (map choices later))) k in
          alone (verdicts g) sent later p e lt now parts.0 (not-true (list_any (carries n f) (map choices later)) parts.1)

  -- where that packet was received, the last level is the last processed one
  pub received_level : (kinds : KindSizes) (g : List GhostEvent) (sent : List (List Item)) → packets g ≡ map choices sent → IsLegal kinds g → AreSaid done g → is_received_last g n f ≡ true → processed_level n f done sent ≡ last_level n f sent
  received_level kinds [] sent same legal said h = absurd (cc)
  received_level kinds (Show k b l c ∷ g) sent same legal said h = received_level kinds g sent same legal.1 said h
  received_level kinds (Hide m ∷ g) sent same legal said h = received_level kinds g sent same legal.1 said h
  received_level kinds (Near m l ∷ g) sent same legal said h = received_level kinds g sent same legal.1 said h
  received_level kinds (Absorb m b ∷ g) sent same legal said h = received_level kinds g sent same legal.1 said h
  received_level kinds (Grant ∷ g) sent same legal said h = received_level kinds g sent same legal.1 said h
  received_level kinds (Judged Lost ∷ g) sent same legal said h = received_level kinds g sent same legal.1 said.1 h
  received_level kinds (Judged Received ∷ g) sent same legal said h = elim (or_cases (lost_alone n f (unjudged g)) (is_received_last g n f) h) [
    | inl now ↦ alone_unjudged g sent same (omega (arith, legal.0, ap length same, length-map sent choices)) (by_received (done (suc (verdicts g))) said.0) now
    | inr before ↦ received_level kinds g sent same legal.1 said.1 before
  ]
  received_level kinds (Sent cs ∷ g) sent same legal said h =
      let s = last_of sent (packets g) cs same in
      let parts = and_parts (not (carries n f cs)) (is_received_last g n f) h in
      let idle : carries n f (choices s.last) ≡ false = ap (carries n f) s.lasts ∙ not-true (carries n f cs) parts.0 in
      let old : processed_level n f done s.front ≡ last_level n f s.front = received_level kinds g s.front s.fronts legal.1 said parts.1 in
      ap (processed_level n f done) s.is ∙ done_push (put n f) done 1 None s.front s.last ∙ maybe_idle (done (1 + length s.front)) n f s.last (processed_level n f done s.front) idle ∙ old
      ∙ sym (ap (last_level n f) s.is ∙ done_push (put n f) (λ k. true) 1 None s.front s.last ∙ put_idle n f s.last (last_level n f s.front) idle)

-- some packet carries it
any_dropped : {X : Type 0} (test : X → Bool) (k : ℕ) (xs : List X) → list_any test (drop k xs) ≡ true → list_any test xs ≡ true
any_dropped test k xs h = ap (list_any test) (sym (take-append-drop k xs)) ∙ list_any-append test (take k xs) (drop k xs) ∙ or_right (list_any test (take k xs)) (list_any test (drop k xs)) h

alone_any : (n f : ℕ) (ps : List (List Choice)) → lost_alone n f ps ≡ true → list_any (carries n f) ps ≡ true
alone_any n f [] h = absurd (cc)
alone_any n f (p ∷ later) h = or_left (carries n f p) (list_any (carries n f) later) (and_parts (carries n f p) (not (list_any (carries n f) later)) h).0

received_carried : (n f : ℕ) (g : List GhostEvent) → is_received_last g n f ≡ true → list_any (carries n f) (packets g) ≡ true
received_carried n f [] h = absurd (cc)
received_carried n f (Show k b l c ∷ g) h = received_carried n f g h
received_carried n f (Hide m ∷ g) h = received_carried n f g h
received_carried n f (Near m l ∷ g) h = received_carried n f g h
received_carried n f (Absorb m b ∷ g) h = received_carried n f g h
received_carried n f (Grant ∷ g) h = received_carried n f g h
received_carried n f (Judged Lost ∷ g) h = received_carried n f g h
received_carried n f (Judged Received ∷ g) h = elim (or_cases (lost_alone n f (unjudged g)) (is_received_last g n f) h) [
  | inl now ↦ any_dropped (carries n f) (verdicts g) (packets g) (alone_any n f (unjudged g) now)
  | inr before ↦ received_carried n f g before
]
received_carried n f (Sent cs ∷ g) h =
    list_any-append (carries n f) (packets g) (cs ∷ [])
    ∙ or_left (list_any (carries n f) (packets g)) (list_any (carries n f) (cs ∷ [])) (received_carried n f g (and_parts (not (carries n f cs)) (is_received_last g n f) h).1)

-- ---- a period that is up, and of which nothing is due or on its way, is Live

create_carries : (n f : ℕ) (cs : List Choice) → list_any is_create (ops_in n cs) ≡ true → carries n f cs ≡ true
create_carries n f [] h = absurd (cc)
create_carries n f (c ∷ cs) h = go (eqb c.n n) refl h (create_carries n f cs)
  where
    creates : (op : Op) → is_create op ≡ true → op_carries op c.mask f ≡ true
    creates Create e = refl
    creates op e = absurd (cc)

    go : (t : Bool) → eqb c.n n ≡ t → list_any is_create (cond t (c.op ∷ ops_in n cs) (ops_in n cs)) ≡ true → (list_any is_create (ops_in n cs) ≡ true → carries n f cs ≡ true) → carries n f (c ∷ cs) ≡ true
    go true e k next = elim (or_cases (is_create c.op) (list_any is_create (ops_in n cs)) k) [
      | inl here ↦ or_left (item_carries n f c) (carries n f cs) (and_from (eqb c.n n) (op_carries c.op c.mask f) e (creates c.op here))
      | inr later ↦ or_right (item_carries n f c) (carries n f cs) (next later)
    ]
    go false e k next = or_right (item_carries n f c) (carries n f cs) (next k)

creates_carry : (n f : ℕ) (ps : List (List Choice)) → list_any is_create (ops_of n ps) ≡ true → list_any (carries n f) ps ≡ true
creates_carry n f [] h = absurd (cc)
creates_carry n f (p ∷ ps) h = elim (or_cases (list_any is_create (ops_in n p)) (list_any is_create (ops_of n ps)) (sym (list_any-append is_create (ops_in n p) (ops_of n ps)) ∙ h)) [
  | inl here ↦ or_left (carries n f p) (list_any (carries n f) ps) (create_carries n f p here)
  | inr later ↦ or_right (carries n f p) (list_any (carries n f) ps) (creates_carry n f ps later)
]

live_up : (p : Phase) (ops : List Op) → is_up p ≡ true → is_new p ≡ false → is_shape p ops ≡ true → list_any is_create ops ≡ false → p ≡ Live
live_up Live ops up new shape none = refl
live_up Waiting ops up new shape none = absurd (cc)
live_up Wanted ops up new shape none = absurd (cc)
live_up Creating [] up new shape none = absurd (cc)
live_up Creating (Create ∷ ops) up new shape none = absurd (cc)
live_up Creating (Kill ∷ ops) up new shape none = absurd (cc)
live_up Creating (Update ∷ ops) up new shape none = absurd (cc)
live_up p ops up new shape none = absurd (cc)

-- ---- the client has it

-- the period holds a slot, in which the client has its copy, with the level of the last packet that carries the field
pub record IsAtClient (g : List GhostEvent) (sent : List (List Item)) (copies : ℕ → Option Copy) (n f : ℕ) : Type 0 where
  pub received : is_received_last g n f ≡ true
  pub at : ℕ
  pub holds : slot g n ≡ Some at
  pub copy : Copy
  pub here : copies at ≡ Some copy
  pub period : copy.period ≡ n
  pub level : last_level n f sent ≡ Some (copy.levels f)

module _ (kinds : KindSizes) (done : ℕ → Bool) (g : List GhostEvent) (sent : List (List Item)) (same : packets g ≡ map choices sent) (legal : IsLegal kinds g) (said : AreSaid done g) where
  -- a copy holds its period's slot, and each field has its last processed level
  pub copy_levels : (s : ℕ) (c : Copy) → copies_of done sent s ≡ Some c → (f : ℕ) → processed_level c.period f done sent ≡ Some (c.levels f)
  copy_levels s c e =
      (levelled (given (scope_log g)) done 1 sent (sent_given g sent (subst (λ l. AllByRecursion (AllByRecursion (WasGiven g)) l) same (all_given kinds g legal)))
      (λ n f. None) (λ slot. None) (joined kinds done g sent same legal said).found (λ s c e. absurd (cc)) s c e).levels

  module _ (n f : ℕ) (shown : n < shows (scope_log g)) (up : is_up (phase g n) ≡ true) (settled : is_due g n f ≡ false) (idle : list_any (carries n f) (unjudged g) ≡ false) where
    received : is_received_last g n f ≡ true
    received = elim (or_cases (is_due g n f) (list_any (carries n f) (unjudged g) || is_received_last g n f) (covered g n f (sound kinds g legal).turn shown)) [
      | inl due ↦ let never : true ≡ false = sym due ∙ settled in absurd (cc)
      | inr rest ↦ elim (or_cases (list_any (carries n f) (unjudged g)) (is_received_last g n f) rest) [
        | inl way ↦ let never : true ≡ false = sym way ∙ idle in absurd (cc)
        | inr last ↦ last
      ]
    ]

    live : phase g n ≡ Live
    live = live_up (phase g n) (ops_of n (unjudged g)) up
        (false_from_ne_true (is_new (phase g n)) (λ new. let never : true ≡ false = sym (new_owes kinds g legal n f shown new) ∙ settled in absurd (cc)))
        ((sound kinds g legal).shape n)
        (false_from_ne_true (list_any is_create (ops_of n (unjudged g))) (λ any. let never : true ≡ false = sym (creates_carry n f (unjudged g) any) ∙ idle in absurd (cc)))

    there : is_there g done n ≡ true
    there =
        ap (λ p. after_done (packet_there n) done (suc (verdicts g)) (was_there p) (unjudged g)) live
        ∙ updates_there n done (suc (verdicts g)) (unjudged g) (ap (λ p. is_shape p (ops_of n (unjudged g))) (sym live) ∙ (sound kinds g legal).shape n)

    has_slot : HasSlot g n
    has_slot = carried_slot g n f (packets g) (all_given kinds g legal) (received_carried n f g received)

    pub at_client : IsAtClient g sent (copies_of done sent) n f
    at_client =
        let k = (joined kinds done g sent same legal said).agree.has has_slot.0 n has_slot.1 there in
        record {
          received = received;
          at = has_slot.0;
          holds = ap (λ p. cond (is_gone p) None (given (scope_log g) n)) live ∙ has_slot.1;
          copy = k.0;
          here = k.1;
          period = k.2;
          level = sym (received_level n f done kinds g sent same legal said received) ∙ ap (λ m. processed_level m f done sent) (sym k.2) ∙ copy_levels has_slot.0 k.0 k.1 f;
        }
