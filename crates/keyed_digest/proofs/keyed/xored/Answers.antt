use Rattle.std.proofs.Common.{◌≡◌, ℕ, ◌<◌, List, ◌++◌, length, arith, take, drop, map, slice_index_or, ap}
use Rattle.std.specs.Prelude.{bit_xor}
use Rattle.std.proofs.lemmas.Grind.{common_steps, get_or_default_zero}
use Rattle.std.proofs.lemmas.List.Edits.{map_over_more}
use Rattle.keyed_digest.proofs.keyed.xored.Goals as goal

-- a list of which a first part was changed place by place is as long as it was
length-changed : (f : ℕ → ℕ) (i : ℕ) (xs : List ℕ) → length (map f (take i xs) ++ drop i xs) ≡ length xs
length-changed f i xs = grind (arith, common_steps)

pub bytes-preserved : goal.bytes-preserved
bytes-preserved c =
    let f = bit_xor c.args.byte in
    let xs = c.args.block.now in
    let whole : length xs ≡ 64 = c.told-block in
    let long : c.bytes.i < length xs = omega arith in
    let same : length c.bytes.mixed ≡ length (map f (take c.bytes.i xs) ++ drop c.bytes.i xs) = ap (λ (l : List ℕ). length l) c.bytes.invariant in
    let kept = length-changed f c.bytes.i xs in
    let within : c.bytes.i < length c.bytes.mixed = omega arith in
    let x = slice_index_or c.bytes.mixed c.bytes.i 0 in
    let read = get_or_default_zero c.bytes.mixed c.bytes.i x within in
    map_over_more f xs c.bytes.mixed c.bytes.i x long c.bytes.invariant (cc read)
