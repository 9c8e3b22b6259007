-- What is known of the entry of a period that holds a slot.
use Rattle.std.proofs.Common.{◌≡◌, ℕ, ◌<◌, Bool, true, false, cond, ◌∙◌, List, length, Some, None, Option, sym, ap, arith}
use Rattle.std.specs.Prelude.{IfSome}
use Rattle.std.specs.Option.{option_map, option_copied}
use denote.Bor.{Bor}
use Rattle.ghost_model.specs.Phases.{is_waiting, is_gone}
use Rattle.ghost_model.specs.Scope.{phase, traits}
use Rattle.ghost_scope.specs.declared.period.Period.{Period}
use Rattle.ghost_scope.specs.Table.{Table, number_at, entry_of, phase_of, slot_of, slot_in, phase_or_gone, IsOrdered, IsInRange, IsSeat}
use Rattle.ghost_scope.specs.Sound.{holder_at, IsSound}
use Rattle.ghost_scope.specs.StandsFor.{Answers, traits_in}
use Rattle.ghost_scope.proofs.Calls.{entry_where, slot_held, held_slot}
use Rattle.ghost_scope.proofs.Told.{phase_shown, found_alive, found_in_range, traits_told}

-- the entry of the period that holds the slot
pub seat_is : (es : List Period) (hs : List (Option ℕ)) (first shown : ℕ) → IsSound es hs first shown → (work : List ℕ) (slot at : ℕ) → slot < 256 → at < length es → holder_at hs slot ≡ Some (number_at es at) → IsSeat (record { shown = shown; entries = es; work = work }) slot at
seat_is es hs first shown sound work slot at below in_range holds = record {
  in_range = in_range;
  holds = held_slot es hs first shown sound (number_at es at) slot below holds;
  alone = λ n h. let e : Some n ≡ Some (number_at es at) = sym (slot_held es hs first shown sound n slot h) ∙ holds in cc;
}

-- an entry that was found by the number of the period that holds the slot
pub record IsEntry (p : Table) (n at : ℕ) (e : Period) : Type 0 where
  pub found : entry_of p.entries n ≡ Some e
  pub number : e.n ≡ n
  pub slot : e.slot ≡ at
  pub shown : n < p.shown

slot_kept : (waits : Bool) (a b : ℕ) → cond waits None (Some a) ≡ Some b → a ≡ b
slot_kept true a b h = absurd (cc)
slot_kept false a b h = cc

module _ (p : Table) (ordered : IsOrdered p) (n slot : ℕ) (holds : slot_of p n ≡ Some slot) where
  is_entry : (e : Period) → entry_of p.entries n ≡ Some e → IsEntry p n slot e
  is_entry e h =
      let k = entry_where p.entries n e h in
      record {
        found = h;
        number = ap (λ (x : Period). x.n) (sym k.is) ∙ k.number;
        slot = slot_kept (is_waiting e.phase) e.slot slot (sym (ap slot_in h) ∙ holds);
        shown = omega (arith, ordered.below k.at k.in_range, k.number);
      }

  entry_held : (o : Option Period) → o ≡ entry_of p.entries n → option_map (λ (e : Period). e.n) o ≡ Some n
  entry_held None h = absurd (let x : None ≡ Some slot = ap slot_in h ∙ holds in cc)
  entry_held (Some e) h = ap Some (is_entry e (sym h)).number

  module _ (r : Option (Bor Period)) (is : option_copied r ≡ entry_of p.entries n) where
    pub number_held : option_map (λ (e : Period). e.n) (option_copied r) ≡ Some n
    number_held = entry_held (option_copied r) is

    pub each_held : (P : Bor Period → Type 0) → ((x : Bor Period) → IsEntry p n slot x.now → P x) → IfSome r P
    each_held P all = go r is
      where
        go : (q : Option (Bor Period)) → option_copied q ≡ entry_of p.entries n → IfSome q P
        go None h = tt
        go (Some x) h = all x (is_entry x.now (sym h))

-- what it says
module _ (p : Table) (ordered : IsOrdered p) (n slot : ℕ) (e : Period) (is : IsEntry p n slot e) where
  pub phase_held : e.phase ≡ phase_of p e.n
  phase_held = sym (ap phase_or_gone is.found) ∙ sym (phase_shown p n is.shown) ∙ ap (phase_of p) (sym is.number)

  pub phase_told_held : Answers p (λ log. phase log e.n) e.phase
  phase_told_held log stands = phase_held ∙ stands.phases e.n

  pub traits_told_held : Answers p (λ log. traits log e.n) (traits_in e)
  traits_told_held log stands = traits_told p ordered n log stands is.shown e is.found ∙ ap (traits log) (sym is.number)

  pub alive_held : is_gone e.phase ≡ false
  alive_held = found_alive p ordered n e is.found

  pub range_held : IsInRange e
  range_held = found_in_range p ordered n e is.found
