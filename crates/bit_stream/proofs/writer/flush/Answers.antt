use Rattle.std.proofs.Common.{◌^◌, ◌%◌, arith}
use Rattle.bit_stream.proofs.Writing.{flushed_word, word_below, word_fits}
use Rattle.bit_stream.proofs.writer.flush.Goals as goal

pub returns-clause-bits : goal.returns-clause-bits
returns-clause-bits c =
    rw (c.in-Ok.ensures.ok, c.to_le_bytes.ensures) (flushed_word c.args.whole.now.items c.args.pending c.args.count (omega arith))

pub returns-clause-below : goal.returns-clause-below
returns-clause-below c = word_below c.args.pending c.args.count (omega arith) c.requires.below

pub returns-clause-bytes : goal.returns-clause-bytes
returns-clause-bytes c =
    λ fits. rw (c.in-Ok.ensures.ok, c.to_le_bytes.ensures) (word_fits c.args.whole.now.items (c.args.pending % 2 ^ 32) fits)
