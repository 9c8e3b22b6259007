-- The least client that takes a flag, player by player.
use Rattle.std.proofs.Common.{◌≡◌, ℕ, ◌<◌, ◌≤◌, ◌+◌, List, [], ◌∷◌, length, get_or, drop, Option, Some, None, Bool, true, false, cond, filter, refl, sym, ap, ◌∙◌}
use Rattle.std.proofs.lemmas.List.{drop_more, drop_all}
use Rattle.world_rules.specs.declared.object.Object.{Object}
use Rattle.tn_types.specs.declared.moves.MoveBits.{MoveBits}
use Rattle.std.specs.Option.{option_or}
use Rattle.world_rules.specs.Near.{is_standing}
use Rattle.world_rules.specs.Flags.{taker, taking}

pub taker_passes : (os : List Object) (moves : List (Option MoveBits)) (o : Object) (i : ℕ) (x : Object) → i < length os → taking moves o (get_or os i x) ≡ None → taker (drop i os) moves o ≡ taker (drop (i + 1) os) moves o
taker_passes os moves o i x lt e = rw (drop_more os i x lt, e) refl

pub taker_stops : (os : List Object) (moves : List (Option MoveBits)) (o : Object) (i : ℕ) (x : Object) (c : ℕ) → i < length os → taking moves o (get_or os i x) ≡ Some c → taker (drop i os) moves o ≡ Some c
taker_stops os moves o i x c lt e = rw (drop_more os i x lt, e) refl

pub taker_none : (os : List Object) (moves : List (Option MoveBits)) (o : Object) (i : ℕ) → length os ≤ i → taker (drop i os) moves o ≡ None
taker_none os moves o i le = rw (drop_all i os le) refl

-- who takes the flag is sought among the standing ones
taking_down : (moves : List (Option MoveBits)) (o p : Object) → is_standing p ≡ false → taking moves o p ≡ None
taking_down moves o p e = rw e refl

standing_step : (v : Bool) (moves : List (Option MoveBits)) (o p : Object) (os : List Object) → is_standing p ≡ v → taker (filter is_standing os) moves o ≡ taker os moves o → taker (cond v (p ∷ filter is_standing os) (filter is_standing os)) moves o ≡ taker (p ∷ os) moves o
standing_step true moves o p os e h = ap (option_or (taking moves o p)) h
standing_step false moves o p os e h = h ∙ sym (ap (λ t. option_or t (taker os moves o)) (taking_down moves o p e))

taker_filter : (os : List Object) (moves : List (Option MoveBits)) (o : Object) → taker (filter is_standing os) moves o ≡ taker os moves o
taker_filter [] moves o = refl
taker_filter (p ∷ os) moves o = standing_step (is_standing p) moves o p os refl (taker_filter os moves o)

pub taker_standing : (os standing : List Object) (moves : List (Option MoveBits)) (o : Object) → standing ≡ filter is_standing os → taker standing moves o ≡ taker os moves o
taker_standing os standing moves o e = ap (λ ps. taker ps moves o) e ∙ taker_filter os moves o
