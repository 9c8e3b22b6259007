use Rattle.datagram_tags.proofs.Tags.{verifies}
use Rattle.datagram_tags.proofs.keyed_end.KeyedEnd.verify.Goals as goal

pub returns-then-is_err-clause-verifies : goal.returns-then-is_err-clause-verifies
returns-then-is_err-clause-verifies c = verifies c.args.self.now c.args.number c.args.datagram.now c.look-answer.result c.look-answer.ensures.answer

pub returns-else-is_err-clause-verifies : goal.returns-else-is_err-clause-verifies
returns-else-is_err-clause-verifies c = verifies c.args.self.now c.args.number c.args.datagram.now c.look-answer.result c.look-answer.ensures.answer
