use Rattle.std.proofs.Common.{◌≡◌, ◌<◌, ◌+◌, ℕ, zero, suc, List, [], ◌∷◌, length, get_or, arith}
use Rattle.dirty_lanes.specs.declared.view.PackView.{PackView}
use Rattle.dirty_lanes.specs.Named.{IsNumbered}
use Rattle.race_ending.proofs.ending.are_numbered.Goals as goal

numbered : (first : ℕ) (seats : List PackView) → ((k : ℕ) (d : PackView) → k < length seats → (get_or seats k d).client ≡ first + k) → IsNumbered first seats
numbered first [] each = tt
numbered first (seat ∷ seats) each =
    let here : seat.client ≡ first + 0 = each zero seat (omega arith) in
    let later : (k : ℕ) (d : PackView) → k < length seats → (get_or seats k d).client ≡ first + 1 + k = λ k d below.
    (let next : (get_or seats k d).client ≡ first + suc k = each (suc k) d (omega (arith, below)) in omega (arith, next)) in
    (omega (arith, here), numbered (first + 1) seats later)

pub returns : goal.returns
returns g c = λ yes. numbered 0 c.args.seats.now (λ k d below.
    (let is : (get_or c.args.seats.now k d).client ≡ k = c.loop-i.invariant k d (let past = c.loop-i-test.false in omega (arith, below, past)) in omega (arith, is)))
