use Rattle.std.proofs.Common.{◌+◌, ◌^◌, ◌≤◌, lit≤, arith, refl}
use Rattle.bit_stream.proofs.Numbers.{number-join}
use Rattle.std.proofs.Math.Nat.{pow-le-pow_right}
use Rattle.bit_stream.proofs.Writing.{shifted, join_below}
use Rattle.bit_stream.proofs.accumulator.joined.Goals as goal

pub returns-clause-bits : goal.returns-clause-bits
returns-clause-bits c =
    let s = shifted c.args.value c.args.width c.args.count c.requires.fits c.requires.few in
    rw (c.from.ensures, s) (number-join c.args.count c.args.width (c.args.count + c.args.width) c.args.pending c.args.value _ refl refl c.requires.below)

pub returns-clause-below : goal.returns-clause-below
returns-clause-below c =
    let s = shifted c.args.value c.args.width c.args.count c.requires.fits c.requires.few in
    rw (c.from.ensures, s) (join_below c.args.count c.args.width c.args.pending c.args.value c.requires.below c.requires.fits)

pub overflow_add-result : goal.overflow_add-result
overflow_add-result c =
    let s = shifted c.args.value c.args.width c.args.count c.requires.fits c.requires.few in
    let b = join_below c.args.count c.args.width c.args.pending c.args.value c.requires.below c.requires.fits in
    let few : c.args.count + c.args.width ≤ 63 = omega arith in
    let p : 2 ^ (c.args.count + c.args.width) ≤ 2 ^ 63 = pow-le-pow_right (lit≤ tt) few in
    rw (c.from.ensures, s) (omega arith)
