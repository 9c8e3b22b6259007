use Rattle.std.specs.Prelude.{ℤ, [], ◌∷◌}
use Rattle.std.specs.Int.{w32}
use Rattle.std.specs.Int.RustNames.{FitsSigned}
use Rattle.std.proofs.Common.{subst}
use Rattle.std.proofs.lemmas.Int.{to_z-of_z}
use Rattle.timeline.specs.Telling.{Came}
use Rattle.timeline.specs.Standing.{Hears}
use Rattle.tribes_ends.proofs.drawing.tell_value.Goals as goal

pub returns-clause-told : goal.returns-clause-told
returns-clause-told c =
    let old = c.args.timeline.now in
    let fits : FitsSigned w32 c.args.value = c.ranges.value in
    subst (λ (v : ℤ). Hears old (record { slot = c.args.slot; packet = c.args.packet; what = Came c.args.field v } ∷ []) c.came_checked.new.self) (to_z-of_z w32 c.args.value fits)
    c.came_checked.ensures.log
