use Rattle.std.proofs.Common.{◌∙◌, rules}
use Rattle.std.specs.Int.{w32, w64}
use Rattle.std.specs.Int.RustNames.{FitsSigned}
use Rattle.std.proofs.lemmas.Int.{to_z-of_z}
use Rattle.timeline.proofs.Circles.{goes_up, goes_down}
use Rattle.timeline.proofs.between.on_circle.Goals as goal

pub returns-then-up-size : goal.returns-then-up-size
returns-then-up-size c =
    let f : FitsSigned w64 c.raised.result = search rules in
    let least : FitsSigned w32 c.args.least = c.ranges.least in
    let most : FitsSigned w32 c.args.most = c.ranges.most in
    let from : FitsSigned w32 c.args.from = c.ranges.from in
    let to : FitsSigned w32 c.args.to = c.ranges.to in
    to_z-of_z w64 c.raised.result f
    ∙ goes_up c.args.least c.args.most c.args.from c.args.to c.args.part c.args.whole c.size-size.result c.way_up-up.result c.gap-at.result c.raised.result
    (simp to_z-of_z at c.size-size.ensures.value) (simp to_z-of_z at c.way_up-up.ensures.value) (simp to_z-of_z at c.gap-at.ensures.value) c.if-up-size.true
    (simp (to_z-of_z, c.share.ensures.value) at c.raised.ensures)

pub returns : goal.returns
returns c =
    let f : FitsSigned w64 c.raised-2.result = search rules in
    let least : FitsSigned w32 c.args.least = c.ranges.least in
    let most : FitsSigned w32 c.args.most = c.ranges.most in
    let from : FitsSigned w32 c.args.from = c.ranges.from in
    let to : FitsSigned w32 c.args.to = c.ranges.to in
    to_z-of_z w64 c.raised-2.result f
    ∙ goes_down c.args.least c.args.most c.args.from c.args.to c.args.part c.args.whole c.size-size.result c.way_up-up.result c.gap-at.result c.raised-2.result
    (simp to_z-of_z at c.size-size.ensures.value) (simp to_z-of_z at c.way_up-up.ensures.value) (simp to_z-of_z at c.gap-at.ensures.value) c.if-up-size.false
    (simp (to_z-of_z, c.share-back.ensures.value) at c.raised-2.ensures)
