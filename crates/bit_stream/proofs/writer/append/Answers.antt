use Rattle.std.proofs.Common.{◌-◌, ◌++◌, List, Bool, ap, arith}
use Rattle.bit_stream.specs.Bits.{bits_of}
use Rattle.bit_stream.proofs.Writing.{word_of_both_below, word_in_one, word_in_one_below, left_word, left_below}
use Rattle.bit_stream.proofs.writer.append.Goals as goal

pub overflow_add-word : goal.overflow_add-word
overflow_add-word c =
    let d = 64 - c.args.count in
    let b = word_of_both_below c.args.count d 64 c.args.pending c.args.value (omega arith) c.requires.below in
    omega arith

pub returns-then-count-width-lt-LONG_BITS-clause-bits : goal.returns-then-count-width-lt-LONG_BITS-clause-bits
returns-then-count-width-lt-LONG_BITS-clause-bits c =
    ap (λ (t : List Bool). bits_of c.args.whole.now.items ++ t) (word_in_one c.args.count c.args.width c.args.pending c.args.value c.requires.below c.requires.fits (omega arith))

pub returns-then-count-width-lt-LONG_BITS-clause-below : goal.returns-then-count-width-lt-LONG_BITS-clause-below
returns-then-count-width-lt-LONG_BITS-clause-below c =
    word_in_one_below c.args.count c.args.width c.args.pending c.args.value c.requires.below c.requires.fits (omega arith)

pub returns-clause-bits : goal.returns-clause-bits
returns-clause-bits c =
    rw (c.in-Ok.ensures.ok, c.to_le_bytes.ensures) (left_word c.args.whole.now.items c.args.pending c.args.count c.args.value c.args.width c.requires.below (omega arith) (omega arith))

pub returns-clause-below : goal.returns-clause-below
returns-clause-below c = left_below c.args.count c.args.width c.args.value (omega arith) (omega arith) c.requires.fits
