use Rattle.std.proofs.Common.{◌∙◌, List, sym, subst}
use Rattle.match_script.specs.declared.types.BodyLine.{BodyLine}
use Rattle.pair_core.specs.stream_manager.Limits.{Terms}
use Rattle.kept_pair.specs.Kept.{terms_in}
use Rattle.own_lists.specs.Past.{client_terms}
use Rattle.plain_race.specs.Done.{AreStepsOf}
use Rattle.plain_race.proofs.Calls.{stopped_at}
use Rattle.plain_race.proofs.Whole.{may_take}
use Rattle.plain_race.proofs.client.do_lines_and_messages.Goals as goal

pub take_all-requires-clause-may : goal.take_all-requires-clause-may
take_all-requires-clause-may c =
    let done = subst (λ (l : List BodyLine). AreStepsOf (terms_in c.args.pair.now) c.args.client l c.do_lines.new.pair.steps) c.as_slice.ensures (c.in_ok-do_lines.ensures.done (search)) in
    may_take c.args.script.now c.requires.ranges c.args.client c.do_lines.new.pair c.args.given.now c.requires.client (c.in_ok-do_lines.ensures.terms ∙ c.requires.terms) c.requires.given
    (subst (λ (t : Terms). AreStepsOf t c.args.client c.args.script.now.body c.do_lines.new.pair.steps) (sym c.in_ok-do_lines.ensures.terms) done)

pub returns-then-not-branch-2-clause-ended : goal.returns-then-not-branch-2-clause-ended
returns-then-not-branch-2-clause-ended c =
    let done = subst (λ (l : List BodyLine). AreStepsOf (terms_in c.args.pair.now) c.args.client l c.do_lines.new.pair.steps) c.as_slice.ensures (c.in_ok-do_lines.ensures.done (search)) in
    stopped_at (client_terms c.args.script.now.head c.args.client) c.args.client c.args.script.now.body c.args.given.now c.do_lines.new.pair c.take_all.new.pair c.take_all.new.objects
    (subst (λ (t : Terms). AreStepsOf t c.args.client c.args.script.now.body c.do_lines.new.pair.steps) c.requires.terms done)
    (c.in_ok-take_all.ensures.stopped (search))
