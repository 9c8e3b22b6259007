use Rattle.std.proofs.Common.{◌<◌, length, Some, arith, rules, ap, ◌∙◌}
use Rattle.std.specs.Int.{w64}
use Rattle.std.specs.Int.RustNames.{FitsSigned}
use Rattle.std.proofs.lemmas.Int.{to_z-of_z}
use Rattle.timeline.specs.Keeping.{Kept, value_in}
use Rattle.timeline.proofs.FrameFacts.{some_ahead, is_reached, is_still_ahead}
use Rattle.timeline.proofs.frames.Frames.value.Goals as goal

pub between-requires-clause-reached : goal.between-requires-clause-reached
between-requires-clause-reached c =
    let less : c.ahead-n.result < length c.self.inside.frames.items = omega (arith, c.self.inside.frames.ok.0) in
    is_reached c.args.at c.self.inside.frames.items c.ahead-n.result c.index-before.result.now c.ahead-n.ensures.value less c.index-before.ensures

pub between-requires-clause-ahead : goal.between-requires-clause-ahead
between-requires-clause-ahead c =
    let some : 0 < c.ahead-n.result = omega arith in
    is_still_ahead c.args.at c.self.inside.frames.items c.ahead-n.result c.index-after.result.now c.ahead-n.ensures.value some c.index-after.ensures

pub returns : goal.returns
returns c =
    let less : c.ahead-n.result < length c.self.inside.frames.items = omega (arith, c.self.inside.frames.ok.0) in
    let some : 0 < c.ahead-n.result = omega arith in
    let fits : FitsSigned w64 c.between.result = search rules in
    ap Some (to_z-of_z w64 c.between.result fits ∙ c.between.ensures)
    ∙ some_ahead c.args.how c.args.at c.self.inside.frames.items c.ahead-n.result c.index-before.result.now c.index-after.result.now c.ahead-n.ensures.value some less
    c.index-before.ensures c.index-after.ensures
    ∙ ap (λ (k : Kept). value_in c.args.how c.args.at k.frames) c.self.view_is
