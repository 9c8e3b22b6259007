use Rattle.std.proofs.Common.{◌≡◌, ℕ, ◌+◌, ◌<◌, ◌∙◌, suc, Bool, true, false, length, take, ap, sym, arith, cond}
use Rattle.std.specs.Prelude.{is_some}
use Rattle.race_history.specs.Moves.{moves_taken}
use Rattle.race_text.proofs.Counted.{taken_more}
use Rattle.race_text.proofs.taken.taken_from.Goals as goal
use Rattle.race_text.proofs.taken.taken_from.Goals.{then-is_some, else-is_some}

pub loop-tick-preserved : goal.loop-tick-preserved
loop-tick-preserved c =
    let ticks = c.args.ticks.now in
    let tick = c.loop-tick.tick in
    let lt : tick < length ticks = omega arith in
    let one : tick + 1 ≡ suc tick = omega arith in
    let more : length (moves_taken c.args.client (take (tick + 1) ticks)) ≡ length (moves_taken c.args.client (take tick ticks)) + cond (is_some c.taken.result) 1 0 =
    ap (λ k. length (moves_taken c.args.client (take k ticks))) one ∙ taken_more c.args.client ticks tick c.taken.result lt c.taken.ensures in
    let count_of : Bool → ℕ = λ b. cond b 1 0 in
    let tells : (b : Bool) → c.is_some.result ≡ b → count_of (is_some c.taken.result) ≡ count_of b = λ b e. ap count_of (sym c.is_some.ensures ∙ e) in
    elim c.if-is_some.branch [
      | then-is_some w ↦ record { count = omega (arith, more, tells true w.if-is_some.true); few = omega arith }
      | else-is_some w ↦ record { count = omega (arith, more, tells false w.if-is_some.false); few = omega arith }
    ]
