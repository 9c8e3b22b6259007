use Rattle.race_course.proofs.Following.{started}
use Rattle.race_course.proofs.making.Making.new.Goals as goal

pub returns : goal.returns
returns c =
    started c.in_ok-world.world c.args.head.now.seed c.args.head.now.setup c.add.new.self c.in_ok-clients.clients.items c.args.head.now.clients
    c.in_ok-world.ensures (c.in_ok-add.ensures.first c.new-history.ensures) c.in_ok-clients.ensures.clients c.in_ok-clients.ensures.count
