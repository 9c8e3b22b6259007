-- Connections that keep each datagram go on keeping it.
use Rattle.std.proofs.Common.{◌≡◌, ◌∙◌, ℕ, ◌<◌, Bool, true, List, length, get_or, set, map, sym, ap, subst, arith, inl, inr, length-set, get_or-set_same, get_or-set_other}
use Rattle.std.proofs.lemmas.List.{length-map, get_or-map}
use Rattle.std.proofs.lemmas.Bool.{cases_eq}
use Rattle.match_laws.specs.client_seat.Stands.{SeatState, without_first}
use Rattle.match_engine.specs.Stands.{KeepAll}

abbrev keeps : SeatState → Bool
keeps s = s.pair.keeps_all

pub keep-set : (seats : List SeatState) (n : ℕ) (old new : SeatState) → n < length seats → old ≡ get_or seats n old → new.pair.keeps_all ≡ old.pair.keeps_all → KeepAll seats → KeepAll (set seats n new)
keep-set seats n old new lt is same all i d il = elim (cases_eq i n) [
  | inl e ↦ subst (λ (k : ℕ). keeps (get_or (set seats n new) k d) ≡ true) (sym e) (ap keeps (get_or-set_same seats n new d lt) ∙ same ∙ ap keeps is ∙ all n old lt)
  | inr apart ↦ ap keeps (get_or-set_other seats n i new d apart) ∙ all i d (omega (arith, il, length-set seats n new))
]

pub keep-ticked : (seats : List SeatState) → KeepAll seats → KeepAll (map without_first seats)
keep-ticked seats all i d il =
    let lt : i < length seats = omega (arith, il, length-map seats without_first) in
    ap keeps (get_or-map without_first seats i d d lt) ∙ all i d lt
