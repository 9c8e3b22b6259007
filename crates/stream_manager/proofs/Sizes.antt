-- What fits a datagram of the least size.
use Rattle.std.proofs.Common.{ℕ, ◌+◌, ◌*◌, ◌≤◌, arith}
use Rattle.std.proofs.Math.Nat.{mul-le-mul_left}
use Rattle.wire_format.specs.declared.wire.Wire.{Wire}
use Rattle.wire_format.specs.Moves.{move_width}
use Rattle.stream_manager.specs.Limits.{least_size}

pub least-128 : (wire : Wire) (size : ℕ) → least_size wire ≤ size → 128 ≤ size
least-128 wire size least = omega (arith, least)

-- as many moves as may travel, behind the fixed part of a client's packet
pub moves-fit : (wire : Wire) (size count : ℕ) → least_size wire ≤ size → count ≤ 32 → 121 + move_width wire * count ≤ 8 * size
moves-fit wire size count least few =
    let most : move_width wire * count ≤ move_width wire * 32 = mul-le-mul_left (move_width wire) few in
    omega (arith, most, least)
