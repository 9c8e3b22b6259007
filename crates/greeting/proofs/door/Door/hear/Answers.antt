use Rattle.greeting.proofs.Standing.{heard}
use Rattle.greeting.proofs.door.Door.hear.Goals as goal

pub returns-clause-log : goal.returns-clause-log
returns-clause-log c =
    heard c.args.self.now c.judge.new.self c.args.from c.args.bytes.now c.judge.new.reply c.judge.result c.judge.ensures.answer
    c.judge.ensures.reply c.judge.ensures.asks
