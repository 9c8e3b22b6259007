use Rattle.std.proofs.Common.{◌∙◌, rules, sym, ap, subst}
use Rattle.std.specs.Prelude.{ℤ, ◌+ℤ◌, ◌-ℤ◌}
use Rattle.std.specs.Int.{w32, w64}
use Rattle.std.specs.Int.RustNames.{FitsSigned}
use Rattle.std.proofs.lemmas.Int.{to_z-of_z}
use Rattle.fading_offset.specs.Parts.{kept}
use Rattle.fading_offset.specs.Fading.{Shown, StandsFor}
use Rattle.fading_offset.proofs.fading.Fading.corrected.Goals as goal

pub returns-clause-log : goal.returns-clause-log
returns-clause-log c log h =
    let seen : FitsSigned w64 c.seen-next.result = search rules in
    let left : FitsSigned w64 c.kept-left.result = search rules in
    let offset : FitsSigned w64 c.self.inside.offset = search rules in
    let was : FitsSigned w32 c.args.was = c.ranges.was in
    let now : FitsSigned w32 c.args.is = c.ranges.is in
    let stands : StandsFor (record { most = c.self.inside.most; offset = c.self.inside.offset }) log = subst (λ (f : Shown). StandsFor f log) (sym c.self.view_is) h in
    record {
      offset_is =
          to_z-of_z w64 c.kept-left.result left ∙ (simp to_z-of_z at c.kept-left.ensures.value)
          ∙ ap (kept c.self.inside.most) (simp to_z-of_z at c.seen-next.ensures)
          ∙ ap (λ (v : ℤ). kept c.self.inside.most (v +ℤ c.args.was -ℤ c.args.is)) stands.offset_is;
    }
