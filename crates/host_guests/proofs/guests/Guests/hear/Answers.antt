use Rattle.host_guests.proofs.Standing.{hears_stands}
use Rattle.host_guests.proofs.guests.Guests.hear.Goals as goal

pub returns-clause-log : goal.returns-clause-log
returns-clause-log c =
    hears_stands c.args.self.now c.judge.new.self c.args.from c.args.datagram.now c.judge.new.reply c.judge.result c.judge.ensures
