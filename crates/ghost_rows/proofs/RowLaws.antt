-- What each event leaves in the rows: the row of each slot says of its period what follows from the list.
use Rattle.std.proofs.Common.{◌≡◌, ◌≢◌, ℕ, ◌+◌, ◌<◌, Bool, true, false, cond, ◌&&◌, ◌||◌, List, [], ◌∷◌, ◌∙◌, length, set, Some, None, Option, refl, sym, ap, subst, inl, inr, arith, eqb, ltb}
use Rattle.std.specs.Prelude.{is_some}
use Rattle.std.proofs.lemmas.Bool.{cases_eq, cases_Bool, and_parts, and_left, and_right}
use Rattle.std.proofs.lemmas.List.{length-set}
use Rattle.std.proofs.lemmas.Bool.Decides.{nat_tests}
use Rattle.tn_types.specs.declared.choices.Verdict.{Verdict}
use Rattle.tn_types.specs.declared.choices.Verdict.TheVariants.{Received, Lost}
use Rattle.tn_types.specs.declared.choices.Choice.{Choice}
use Rattle.ghost_model.specs.declared.phase.Phase.{Phase}
use Rattle.ghost_model.specs.declared.phase.Phase.TheVariants.{Waiting}
use Rattle.tn_types.specs.BitWords.{has_bit}
use Rattle.ghost_model.specs.Phases.{is_gone, is_up, is_waiting}
use Rattle.ghost_model.specs.Scope as scope
use Rattle.ghost_model.specs.Scope.{given, shows, kept_slot}
use Rattle.ghost_model.specs.Ghosts.{GhostEvent, Show, Hide, Near, Absorb, Grant, Sent, Judged, scope_log, packets, verdicts, unjudged, oldest, wrote, settled_by, carries, is_due, phase, slot}
use Rattle.ghost_model.specs.Candidates.{names}
use Rattle.ghost_model.specs.Carriers.{last_carrier}
use Rattle.ghost_model.specs.LastTurn.{last_turn}
use Rattle.ghost_model.specs.Legal.{KindSizes, IsLegal, IsAllowed, AreApart}
use Rattle.ghost_model.proofs.Steps.{other_test, hide_other}
use Rattle.ghost_model.proofs.Granted.{is_found, unfound_given, unfound_phase, given_not_waiting}
use Rattle.ghost_model.proofs.Holders.{apart, slot_shown, up_alive, held_alive}
use Rattle.ghost_model.proofs.Legal.{sound, held_given, writing, judge_packet}
use Rattle.ghost_model.proofs.Written.{can_be_written, wrote_given, settled_given, wrote_alive}
use Rattle.ghost_model.proofs.Carriers.{alone_next}
use Rattle.ghost_model.proofs.Judged.{is_new}
use Rattle.ghost_model.proofs.Items.{next_names}
use Rattle.ghost_model.proofs.Fresh.{new_owes, slot_below, never_carried}
use Rattle.ghost_rows.specs.Kept.{Row, row_at, IsFresh, IsAbsorbed, IsRow, HaveRows, HaveNoted, HaveLost}
use Rattle.ghost_rows.proofs.Notes.{row_same, row_other}

-- ---- who holds a slot held it before

pub held_before : (old new : List scope.ScopeEvent) → ((n : ℕ) → given new n ≡ given old n) → ((n : ℕ) → is_gone (scope.phase new n) ≡ false → is_gone (scope.phase old n) ≡ false) → (n s : ℕ) → scope.slot new n ≡ Some s → scope.slot old n ≡ Some s
held_before old new same alive n s e = ap (λ b. cond b None (given old n)) (alive n (held_alive (scope.phase new n) (given new n) s e)) ∙ sym (same n) ∙ held_given (scope.phase new n) (given new n) s e

pub hide_alive : (log : List scope.ScopeEvent) (m : ℕ) → is_up (scope.phase log m) ≡ true → (n : ℕ) → is_gone (scope.phase (scope.Hide m ∷ log) n) ≡ false → is_gone (scope.phase log n) ≡ false
hide_alive log m up n e = elim (cases_eq m n) [
  | inl same ↦ up_alive (scope.phase log n) (ap (λ q. is_up (scope.phase log q)) (sym same) ∙ up)
  | inr other ↦ ap is_gone (sym (hide_other log n m (other_test m n other))) ∙ e
]

module _ (kinds : KindSizes) (log : List GhostEvent) (legal : IsLegal kinds log) where
  pub are_apart : AreApart (scope_log log)
  are_apart = apart kinds log legal

  -- the rows stay as they are
  kept : (new : List GhostEvent) (rows : List Row) → ((n s : ℕ) → slot new n ≡ Some s → slot log n ≡ Some s) → ((n s : ℕ) (r : Row) → slot log n ≡ Some s → IsRow log n r → IsRow new n r) → HaveRows log rows → HaveRows new rows
  kept new rows before same h = record { slots = h.slots; each = λ n s has. let was = before n s has in same n s (row_at rows s) was (h.each n s was) }

  pub rows_show : (k b l : ℕ) (c : Bool) (rows : List Row) → HaveRows log rows → HaveRows (Show k b l c ∷ log) rows
  rows_show k b l c rows h =
      kept (Show k b l c ∷ log) rows (λ n s e. e)
      (λ n s r has i. record {
        due = λ f lt. i.due f lt ∙ sym (ap (λ (t : Bool). t || is_due log n f) (other_test n (shows (scope_log log)) (λ e. omega (arith, slot_shown (scope_log log) n s has))));
        turn = i.turn;
        carriers = i.carriers;
      }) h

  pub rows_hide : (m : ℕ) → is_up (phase log m) ≡ true → (rows : List Row) → HaveRows log rows → HaveRows (Hide m ∷ log) rows
  rows_hide m up rows h =
      kept (Hide m ∷ log) rows (held_before (scope_log log) (scope.Hide m ∷ scope_log log) (λ n. refl) (hide_alive (scope_log log) m up))
      (λ n s r has i. record { due = i.due; turn = i.turn; carriers = i.carriers }) h

  pub rows_near : (m l : ℕ) (rows : List Row) → HaveRows log rows → HaveRows (Near m l ∷ log) rows
  rows_near m l rows h = kept (Near m l ∷ log) rows (λ n s e. e) (λ n s r has i. record { due = i.due; turn = i.turn; carriers = i.carriers }) h

  -- ---- drained bits are absorbed

  absorbed_other : (m bits n s : ℕ) (r : Row) → m ≢ n → IsRow log n r → IsRow (Absorb m bits ∷ log) n r
  absorbed_other m bits n s r other i = record {
    due = λ f lt. i.due f lt ∙ sym (ap (λ (t : Bool). (t && has_bit bits f) || is_due log n f) (other_test m n other));
    turn = i.turn;
    carriers = i.carriers;
  }

  absorbed_here : (m bits : ℕ) (old new : Row) → IsRow log m old → IsAbsorbed bits old new → IsRow (Absorb m bits ∷ log) m new
  absorbed_here m bits old new i step = record {
    due = λ f lt.
        let t : eqb m m ≡ true = grind (arith, nat_tests) in
        step.due f lt ∙ ap (λ (b : Bool). has_bit bits f || b) (i.due f lt) ∙ sym (ap (λ (t : Bool). (t && has_bit bits f) || is_due log m f) t);
    turn = step.turn ∙ i.turn;
    carriers = λ f lt. step.carriers f lt ∙ i.carriers f lt;
  }

  -- no row is of the period
  pub rows_absorb_none : (m bits : ℕ) (rows : List Row) → slot log m ≡ None → HaveRows log rows → HaveRows (Absorb m bits ∷ log) rows
  rows_absorb_none m bits rows none h =
      kept (Absorb m bits ∷ log) rows (λ n s e. e)
      (λ n s r has i. absorbed_other m bits n s r (λ same. let e : None ≡ Some s = sym none ∙ ap (slot log) same ∙ has in absurd (cc)) i) h

  pub rows_absorb : (m bits s : ℕ) (row : Row) (rows : List Row) → slot log m ≡ Some s → IsAbsorbed bits (row_at rows s) row → HaveRows log rows → HaveRows (Absorb m bits ∷ log) (set rows s row)
  rows_absorb m bits t row rows holds step h = record {
    slots = length-set rows t row ∙ h.slots;
    each = λ n s has. elim (cases_eq s t) [
      | inl same ↦
          let here : slot log n ≡ Some t = has ∙ ap Some same in
          let of : m ≡ n = apart kinds log legal m n t holds here in
          let below = slot_below (scope_log log) m t (held_given (phase log m) (given (scope_log log) m) t holds) in
          subst (λ (q : ℕ). IsRow (Absorb m bits ∷ log) n (row_at (set rows t row) q)) (sym same)
          (subst (IsRow (Absorb m bits ∷ log) n) (sym (row_same rows t row (omega (arith, below, h.slots))))
          (subst (λ (q : ℕ). IsRow (Absorb m bits ∷ log) q row) of (absorbed_here m bits (row_at rows t) row (h.each m t holds) step)))
      | inr other ↦
          subst (IsRow (Absorb m bits ∷ log) n) (sym (row_other rows t s row other))
          (absorbed_other m bits n s (row_at rows s) (λ same. let e : Some s ≡ Some t = sym has ∙ ap (slot log) (sym same) ∙ holds in other (cc)) (h.each n s has))
    ];
  }

  -- ---- a packet is sent

  pub sent_before : (cs : List Choice) → IsAllowed kinds (Sent cs) log → (n s : ℕ) → slot (Sent cs ∷ log) n ≡ Some s → slot log n ≡ Some s
  sent_before cs allowed =
      let can = can_be_written cs (scope_log log) (writing kinds log cs allowed.0) allowed.1 in
      held_before (scope_log log) (wrote cs (scope_log log)) (wrote_given cs (scope_log log)) (wrote_alive cs (scope_log log) can)

  pub rows_sent : (cs : List Choice) → IsAllowed kinds (Sent cs) log → (seq : ℕ) → seq ≡ length (packets log) + 1 → (rows : List Row) → HaveNoted log seq cs rows → HaveRows (Sent cs ∷ log) rows
  rows_sent cs allowed seq next rows h = record {
    slots = h.0;
    each = λ n s has.
        let i = h.1 n s (sent_before cs allowed n s has) in
        record {
          due = i.due;
          turn = i.turn ∙ ap (λ (k : ℕ). cond (names n cs) k (last_turn log n)) next;
          carriers = λ f lt. i.carriers f lt ∙ ap (λ (k : ℕ). cond (carries n f cs) k (last_carrier log n f)) next;
        };
  }

  -- ---- a packet is judged

  pub judged_before : (v : Verdict) → verdicts log < length (packets log) → (n s : ℕ) → slot (Judged v ∷ log) n ≡ Some s → slot log n ≡ Some s
  judged_before v lt =
      held_before (scope_log log) (settled_by v (oldest (unjudged log)) (scope_log log)) (settled_given v (oldest (unjudged log)) (scope_log log))
      (judge_packet log v (unjudged log) refl lt (sound kinds log legal)).alive

  pub rows_received : verdicts log < length (packets log) → (rows : List Row) → HaveRows log rows → HaveRows (Judged Received ∷ log) rows
  rows_received lt rows h = kept (Judged Received ∷ log) rows (judged_before Received lt) (λ n s r has i. record { due = i.due; turn = i.turn; carriers = i.carriers }) h

  named_next : (n f seq : ℕ) → seq ≡ verdicts log + 1 → (t : Bool) → eqb (last_carrier log n f) seq ≡ t → (names n (oldest (unjudged log)) && t) ≡ t
  named_next n f seq next false e = and_right (names n (oldest (unjudged log))) false refl
  named_next n f seq next true e =
      let is : last_carrier log n f ≡ verdicts log + 1 = let s : last_carrier log n f ≡ seq = grind (arith, nat_tests) in s ∙ next in
      ap (λ (b : Bool). b && true) (next_names log n f is)

  pub rows_lost : verdicts log < length (packets log) → (seq : ℕ) → seq ≡ verdicts log + 1 → (rows : List Row) → HaveLost log seq (oldest (unjudged log)) rows → HaveRows (Judged Lost ∷ log) rows
  rows_lost lt seq next rows h = record {
    slots = h.0;
    each = λ n s has.
        let i = h.1 n s (judged_before Lost lt n s has) in
        record {
          due = λ f below.
              i.due f below ∙ ap (λ (b : Bool). b || is_due log n f) (named_next n f seq next (eqb (last_carrier log n f) seq) refl)
              ∙ ap (λ (k : ℕ). eqb (last_carrier log n f) k || is_due log n f) next ∙ ap (λ (b : Bool). b || is_due log n f) (sym (alone_next log n f));
          turn = i.turn;
          carriers = i.carriers;
        };
  }

  -- ---- a grant

  waits : (p : Phase) → is_waiting p ≡ true → p ≡ Waiting
  waits Waiting h = refl
  waits p h = absurd (cc)

  waiting_none : (n : ℕ) → is_waiting (phase log n) ≡ true → (o : Option ℕ) → given (scope_log log) n ≡ o → o ≡ None
  waiting_none n w None e = refl
  waiting_none n w (Some s) e = let f : true ≡ false = sym w ∙ given_not_waiting (scope_log log) n s e in absurd (cc)

  granted_same : (n s : ℕ) (r : Row) → slot log n ≡ Some s → IsRow log n r → IsRow (Grant ∷ log) n r
  granted_same n s r has i = record {
    due = i.due;
    turn = i.turn ∙ sym (ap (λ (o : Option ℕ). cond (is_some o) (last_turn log n) (length (packets log))) has);
    carriers = i.carriers;
  }

  keeps_slot : (m s : ℕ) → slot log m ≡ Some s → slot (Grant ∷ log) m ≡ Some s
  keeps_slot m s has =
      let not_found : is_found (scope_log log) m ≡ false = and_left _ _ (given_not_waiting (scope_log log) m s (held_given (phase log m) (given (scope_log log) m) s has)) in
      ap (λ p. kept_slot p (given (scope_log (Grant ∷ log)) m)) (unfound_phase (scope_log log) m not_found) ∙ ap (kept_slot (phase log m)) (unfound_given (scope_log log) m not_found) ∙ has

  pub had_slot : (n s : ℕ) → is_found (scope_log log) n ≡ false → slot (Grant ∷ log) n ≡ Some s → slot log n ≡ Some s
  had_slot n s e h =
      ap (λ p. kept_slot p (given (scope_log log) n)) (sym (unfound_phase (scope_log log) n e))
      ∙ ap (kept_slot (scope.phase (scope.Grant ∷ scope_log log) n)) (sym (unfound_given (scope_log log) n e)) ∙ h

  -- the row of a period that waited is made anew, and each other stays
  pub rows_granted : (turn : ℕ) → turn ≡ length (packets log) → (old rows : List Row) → length rows ≡ length old
      → ((n s : ℕ) → is_found (scope_log log) n ≡ true → slot (Grant ∷ log) n ≡ Some s → IsFresh turn (row_at rows s))
      → ((n s : ℕ) → is_found (scope_log log) n ≡ false → slot (Grant ∷ log) n ≡ Some s → row_at rows s ≡ row_at old s) → HaveRows log old → HaveRows (Grant ∷ log) rows
  rows_granted turn at old rows long anew same h = record {
    slots = long ∙ h.slots;
    each = λ n s has. elim (cases_Bool (is_found (scope_log log) n)) [
      | inl found ↦
          let parts = and_parts (is_waiting (phase log n)) (ltb n (shows (scope_log log))) found in
          let none : given (scope_log log) n ≡ None = waiting_none n parts.0 (given (scope_log log) n) refl in
          let wait : phase log n ≡ Waiting = waits (phase log n) parts.0 in
          let no_slot : slot log n ≡ None = ap (kept_slot (phase log n)) none ∙ ap (λ p. kept_slot p None) wait in
          let fresh : IsFresh turn (row_at rows s) = anew n s found has in
          let shown : n < shows (scope_log log) = grind (arith, nat_tests, parts.1) in
          record {
            due = λ f lt. fresh.due f lt ∙ sym (new_owes kinds log legal n f shown (ap is_new wait));
            turn = fresh.turn ∙ at ∙ sym (ap (λ (o : Option ℕ). cond (is_some o) (last_turn log n) (length (packets log))) no_slot);
            carriers = λ f lt. fresh.carriers f lt ∙ sym (never_carried kinds log legal n f none);
          }
      | inr not_found ↦
          let was = had_slot n s not_found has in
          subst (IsRow (Grant ∷ log) n) (sym (same n s not_found has)) (granted_same n s (row_at old s) was (h.each n s was))
    ];
  }

pub rows_none : (rows : List Row) → length rows ≡ 256 → HaveRows [] rows
rows_none rows h = record { slots = h; each = λ n s has. absurd (cc) }
