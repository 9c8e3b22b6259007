use Rattle.std.proofs.Common.{◌∙◌, rules}
use Rattle.std.specs.Int.{w32, w64}
use Rattle.std.specs.Int.RustNames.{FitsSigned}
use Rattle.std.proofs.lemmas.Int.{to_z-of_z}
use Rattle.timeline.proofs.Circles.{by_turning}
use Rattle.timeline.proofs.between.part_way.Goals as goal

pub returns-in-Turning : goal.returns-in-Turning
returns-in-Turning c =
    let f : FitsSigned w64 c.turned.result = search rules in
    let from : FitsSigned w32 c.args.from = c.ranges.from in
    let to : FitsSigned w32 c.args.to = c.ranges.to in
    let least : FitsSigned w32 c.in-Turning.least = search rules in
    let most : FitsSigned w32 c.in-Turning.most = search rules in
    to_z-of_z w64 c.turned.result f ∙ (simp to_z-of_z at c.turned.ensures)
    ∙ by_turning c.args.how c.in-Turning.least c.in-Turning.most c.args.from c.args.to c.args.part c.args.whole c.in-Turning.is
