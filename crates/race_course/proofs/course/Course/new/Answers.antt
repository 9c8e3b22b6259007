use Rattle.std.proofs.Common.{sym, subst, reverse}
use Rattle.race_course.specs.Course.{MakingState, IsMadeOf, world_of}
use Rattle.race_course.proofs.Following.{whole}
use Rattle.race_course.proofs.course.Course.new.Goals as goal

pub returns : goal.returns
returns c =
    let made : MakingState = record { world = c.made.inside.world; values = c.made.inside.history; clients = c.made.inside.clients.items } in
    whole made c.args.script.now c.args.moves.now c.requires.moves
    (subst (λ (m : MakingState). IsMadeOf m (world_of c.args.script.now) c.args.moves.now c.args.script.now.head.clients (reverse c.args.script.now.body)) (sym c.made.view_is) c.in_ok-made.ensures)
