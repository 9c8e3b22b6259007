use Rattle.std.proofs.Common.{◌≡◌, ◌/◌, ◌%◌, arith, append_assoc}
use Rattle.bit_stream.specs.Bits.{low_bytes}
use Rattle.wire_format.proofs.parts.push_four.Goals as goal

pub returns : goal.returns
unfolding low_bytes
returns g c =
    let last : c.args.word / 256 / 256 / 256 % 256 ≡ c.args.word / 256 / 256 / 256 = omega arith in
    rw (c.push-4.ensures, c.push-3.ensures, c.push-2.ensures, c.push.ensures, last) (simp append_assoc)
