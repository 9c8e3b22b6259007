-- How many moves ticks took from a client, with one tick more.
use Rattle.std.proofs.Common.{◌≡◌, ℕ, zero, suc, ◌+◌, ◌<◌, cond, List, [], ◌∷◌, length, take, Option, Some, None, sym, ap, ◌∙◌, arith}
use Rattle.std.specs.Prelude.{IfSome, is_some, slice_get}
use Rattle.std.specs.List.{cons_option}
use Rattle.tn_types.specs.declared.moves.MoveBits.{MoveBits}
use Rattle.race_history.specs.Moves.{move_taken, moves_taken}

in-front : (o : Option MoveBits) (moves : List MoveBits) → length (cons_option o moves) ≡ length moves + cond (is_some o) 1 0
in-front None moves = omega arith
in-front (Some m) moves = omega arith

pub taken_more : (c : ℕ) (ticks : List (List (Option MoveBits))) (i : ℕ) (m : Option MoveBits) → i < length ticks
    → IfSome (slice_get ticks i) (λ row. m ≡ move_taken c row)
    → length (moves_taken c (take (suc i) ticks)) ≡ length (moves_taken c (take i ticks)) + cond (is_some m) 1 0
taken_more c [] i m lt is = absurd (omega arith)
taken_more c (row ∷ ticks) zero m lt is = in-front (move_taken c row) [] ∙ ap (λ o. 0 + cond (is_some o) 1 0) (sym is)
taken_more c (row ∷ ticks) (suc i) m lt is =
    let rest = taken_more c ticks i m (omega arith) is in
    let more = in-front (move_taken c row) (moves_taken c (take (suc i) ticks)) in
    let less = in-front (move_taken c row) (moves_taken c (take i ticks)) in
    omega (arith, rest, more, less)
