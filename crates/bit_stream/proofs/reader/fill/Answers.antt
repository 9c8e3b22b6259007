use Rattle.bit_stream.proofs.Reading.{filled_word}
use Rattle.bit_stream.proofs.reader.fill.Goals as goal

pub returns-in-Some-clause-bits : goal.returns-in-Some-clause-bits
returns-in-Some-clause-bits c =
    let f = c.in-Some in
    filled_word c.args.pending c.args.count c.joined-more.result c.word_of.result c.args.rest.now f.word.now f.others.now f.ensures.cases.0 f.ensures.cases.1 c.word_of.ensures c.joined-more.ensures.bits
