-- Whether a period waits for a slot, and a grant where none does.
use Rattle.std.proofs.Common.{◌≡◌, ℕ, ◌<◌, ◌≤◌, false, true, ◌&&◌, List, ◌∷◌, ◌∙◌, length, Some, None, Option, refl, sym, ap, inl, inr, arith, ltb}
use Rattle.std.proofs.lemmas.Bool.{cases_lt, and_right}
use Rattle.ghost_model.specs.Phases.{is_waiting, is_gone}
use Rattle.ghost_model.specs.Scope.{ScopeEvent, Grant, shows, phase}
use Rattle.ghost_model.proofs.Granted.{is_found, not_below, unfound_given, unfound_phase}
use Rattle.ghost_scope.specs.declared.period.Period.{Period}
use Rattle.ghost_scope.specs.Table.{Table, number_at, entry_of, phase_or_gone, IsOrdered}
use Rattle.ghost_scope.specs.Sound.{IsSound}
use Rattle.ghost_scope.specs.Shown.{NoneWaits}
use Rattle.ghost_scope.specs.StandsFor.{StandsFor}
use Rattle.ghost_scope.proofs.Calls.{entry_where, phase_at}
use Rattle.ghost_scope.proofs.Told.{phase_shown}

module _ (es : List Period) (hs : List (Option ℕ)) (first shown : ℕ) (work : List ℕ) (sound : IsSound es hs first shown) where
  table : Table
  table = record { shown = shown; entries = es; work = work }

  ordered : IsOrdered (record { shown = shown; entries = es; work = work })
  ordered = record { rising = sound.rising; below = sound.below; alive = sound.alive; ranges = sound.ranges }

  -- all entries hold slots
  pub none_waits : length es ≤ first → NoneWaits (record { shown = shown; entries = es; work = work })
  none_waits le n lt = ap is_waiting (phase_shown (record { shown = shown; entries = es; work = work }) n lt) ∙ go (entry_of es n) refl
    where
      go : (o : Option Period) → entry_of es n ≡ o → is_waiting (phase_or_gone o) ≡ false
      go None e = refl
      go (Some x) e = let w = entry_where es n x e in ap (λ (y : Period). is_waiting y.phase) (sym w.is) ∙ sound.slotted w.at (omega (arith, w.in_range, le))

  -- the first that waits
  pub one_waits : NoneWaits (record { shown = shown; entries = es; work = work }) → first < length es → ⊥
  one_waits none lt =
      let e : true ≡ false = sym (ap is_waiting (phase_at (record { shown = shown; entries = es; work = work }) ordered (number_at es first) first (record { in_range = lt; has_number = refl })) ∙ sound.waiting first (omega arith) lt) ∙ none (number_at es first) (sound.below first lt) in
      cc

-- a grant changes nothing
module _ (p : Table) (log : List ScopeEvent) (stands : StandsFor p log) (none : NoneWaits p) where
  pub unfound : (n : ℕ) → is_found log n ≡ false
  unfound n = elim (cases_lt n p.shown) [
    | inl lt ↦ ap (λ b. b && ltb n (shows log)) (ap is_waiting (sym (stands.phases n)) ∙ none n lt)
    | inr le ↦ and_right (is_waiting (phase log n)) (ltb n (shows log)) (not_below n (shows log) (omega (arith, stands.shown, le)))
  ]

  pub stands_ungranted : StandsFor p (Grant ∷ log)
  stands_ungranted = record {
    shown = stands.shown;
    phases = λ n. stands.phases n ∙ sym (unfound_phase log n (unfound n));
    slots = λ n alive. stands.slots n (ap is_gone (sym (unfound_phase log n (unfound n))) ∙ alive) ∙ sym (unfound_given log n (unfound n));
    traits = stands.traits;
    legal = stands.legal;
  }
