use Rattle.std.proofs.Common.{◌∙◌, rules}
use Rattle.std.specs.Int.{w32, w64}
use Rattle.std.specs.Int.RustNames.{FitsSigned}
use Rattle.std.proofs.lemmas.Int.{to_z-of_z}
use Rattle.timeline.proofs.Circles.{turns, stays, one_fails}
use Rattle.timeline.proofs.between.turned.Goals as goal

pub returns-then-ends : goal.returns-then-ends
returns-then-ends c =
    let f : FitsSigned w64 c.on_circle.result = search rules in
    let least : FitsSigned w32 c.args.least = c.ranges.least in
    let most : FitsSigned w32 c.args.most = c.ranges.most in
    let from : FitsSigned w32 c.args.from = c.ranges.from in
    let to : FitsSigned w32 c.args.to = c.ranges.to in
    to_z-of_z w64 c.on_circle.result f ∙ (simp to_z-of_z at c.on_circle.ensures)
    ∙ turns c.args.least c.args.most c.args.from c.args.to c.args.part c.args.whole c.is_inside-starts.result c.is_inside-ends.result
    (simp to_z-of_z at c.is_inside-starts.ensures.value) (simp to_z-of_z at c.is_inside-ends.ensures.value) c.if-starts.true c.if-ends.true

pub returns : goal.returns
returns c =
    let least : FitsSigned w32 c.args.least = c.ranges.least in
    let most : FitsSigned w32 c.args.most = c.ranges.most in
    let from : FitsSigned w32 c.args.from = c.ranges.from in
    let to : FitsSigned w32 c.args.to = c.ranges.to in
    let wide : FitsSigned w64 c.args.from = search rules in
    simp to_z-of_z
    (stays c.args.least c.args.most c.args.from c.args.to c.args.part c.args.whole c.is_inside-starts.result c.is_inside-ends.result
    (simp to_z-of_z at c.is_inside-starts.ensures.value) (simp to_z-of_z at c.is_inside-ends.ensures.value) (one_fails c.is_inside-starts.result c.is_inside-ends.result c.else-starts.either))
