use Rattle.std.proofs.Common.{◌≡◌, ◌≤◌, length, refl, arith}
use Rattle.messages.specs.Pieces.{pieces_by}
use Rattle.messages.proofs.Costs.{pieces-bounded}
use Rattle.messages.proofs.outbox.Outbox.post.Goals as goal

pub overflow_cast-result-then-needed-free : goal.overflow_cast-result-then-needed-free
overflow_cast-result-then-needed-free c =
    let count : c.piece_count-needed.result ≡ length (pieces_by c.args.kind c.args.bytes.now) = c.piece_count-needed.ensures c.args.bytes.now refl in
    let short : length c.args.bytes.now ≤ 65535 = omega (arith, c.most_of-most.ensures.few) in
    omega (arith, count, pieces-bounded c.args.kind c.args.bytes.now short)

pub overflow_cast-result-then-needed-free-2 : goal.overflow_cast-result-then-needed-free-2
overflow_cast-result-then-needed-free-2 c =
    let count : c.piece_count-needed.result ≡ length (pieces_by c.args.kind c.args.bytes.now) = c.piece_count-needed.ensures c.args.bytes.now refl in
    let short : length c.args.bytes.now ≤ 65535 = omega (arith, c.most_of-most.ensures.few) in
    omega (arith, count, pieces-bounded c.args.kind c.args.bytes.now short)
