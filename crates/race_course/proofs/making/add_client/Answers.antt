use Rattle.std.proofs.Common.{List, sym, subst}
use Rattle.race_course.specs.Course.{ClientState, AreNew}
use Rattle.race_course.proofs.Following.{new_more}
use Rattle.race_course.proofs.making.add_client.Goals as goal

pub returns-clause-clients : goal.returns-clause-clients
returns-clause-clients c =
    let old = subst (λ (all : List ClientState). AreNew all) (sym c.reserve.ensures.items) c.requires in
    subst (λ (all : List ClientState). AreNew all) (sym c.push_reserved.ensures.items) (new_more c.reserve.new.self.items c.in_ok-client.client old c.in_ok-client.ensures)
