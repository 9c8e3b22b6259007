use Rattle.std.proofs.Common.{ℕ, arith, slice_index, ap, ◌∙◌}
use Rattle.std.proofs.lemmas.Nat.{and_mask}
use Rattle.hex.specs.Hex.{lower_digits}
use Rattle.hex.proofs.Pairs.{encode_step, encode_done}
use Rattle.match_report.proofs.draft.write_pairs.Goals as goal

pub each-preserved : goal.each-preserved
each-preserved c =
    let byte : ℕ = slice_index c.args.bytes.now c.each.i in
    encode_step lower_digits c.args.bytes.now c.each.pairs c.each.i _ _ (omega arith) (omega arith)
    c.digit.ensures (c.digit-in-each.ensures ∙ ap (λ (k : ℕ). slice_index lower_digits k) (and_mask byte 4)) c.each.invariant

pub returns : goal.returns
returns c = encode_done _ _ _ c.each.i (omega arith) (omega arith) c.each.invariant
