-- What the reads of a source took together.
use Rattle.std.proofs.Common.{ℕ, ◌+◌, ◌≤◌, List, ◌++◌, length, take, Option, Ok, refl, arith, length-append, length-take}
use Rattle.tn_outside.specs.Streams.{ReadTakes}
use Rattle.tn_outside.specs.Totals.{GaveFront}
use Rattle.tn_outside.proofs.Totals.{gave_more}
use Rattle.script_input.specs.Reading.{GaveAtMost}

-- a piece more was taken
pub took_more : (old mid new : Option (List ℕ)) (k n : ℕ) (bytes buf : List ℕ) → GaveFront old mid bytes → ReadTakes mid new (Ok k) buf → length bytes + k ≤ n → GaveAtMost n old new
took_more old mid new k n bytes buf g r few =
    (length (bytes ++ take k buf), omega (arith, length-append bytes (take k buf), length-take k buf, few), (bytes ++ take k buf, refl, gave_more old mid new k bytes buf g r))
