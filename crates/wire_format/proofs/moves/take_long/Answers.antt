use Rattle.std.proofs.Common.{◌≡◌, ◌+◌, ◌-◌, ◌*◌, length, Ok, refl, ap, subst, arith}
use Rattle.bit_stream.specs.Reading.{Unread, number_at}
use Rattle.wire_format.proofs.MoveFormat.{joined, taken_bits}
use Rattle.wire_format.proofs.moves.take_long.Goals as goal

pub returns-in_default-take_narrow-clause-none : goal.returns-in_default-take_narrow-clause-none
returns-in_default-take_narrow-clause-none c = λ none.
    let low = taken_bits 32 c.in-Some.low c.copy-own.result c.take_narrow.new.reader c.in-Some.ensures.some in
    let same = ap (λ (s : Unread). length s.rest) c.copy-own.ensures in
    omega (arith, low, same, c.in_default-take_narrow.ensures.none refl, c.requires.long)

pub returns-clause-some : goal.returns-clause-some
returns-clause-some c =
    let n = c.in-Some.low + 4294967296 * c.in-Some-take_narrow.high in
    subst (λ (s : Unread). number_at c.args.width s ≡ Ok (n, c.take_narrow-2.new.reader)) c.copy-own.ensures
    (joined 32 (c.args.width - 32) c.args.width c.in-Some.low c.in-Some-take_narrow.high n c.copy-own.result c.take_narrow.new.reader c.take_narrow-2.new.reader
    (omega (arith, c.requires.long)) refl c.in-Some.ensures.some c.in-Some-take_narrow.ensures.some)
