use Rattle.std.proofs.Common.{◌≡◌, ℕ, ◌+◌, ◌*◌, ◌/◌, ◌%◌, ◌^◌, ◌≤◌, ◌∙◌, ap, arith, ℤ, FitsSigned, w64, to_z, of_z}
use Rattle.std.specs.Prelude.{◌≤ℤ◌}
use Rattle.std.proofs.Math.Nat.{pow-le-pow_right}
use Rattle.std.proofs.lemmas.Int.{to_z-of_z}
use Rattle.quantised_fields.specs.declared.field.FieldSpec.{FieldSpec}
use Rattle.quantised_fields.specs.Levels.{level_of}
use Rattle.quantised_fields.proofs.Specs.{sound}
use Rattle.level_scales.specs.declared.scale.Scale.{Scale}
use Rattle.level_scales.specs.Scales.{IsScaleOf}
use Rattle.level_scales.proofs.Rounded.{level_below}
use Rattle.level_scales.proofs.Wrapped.{level_is}
use Rattle.level_scales.proofs.scale.Scale.level.Goals as goal

tells : (s : FieldSpec) (scale : Scale) (x : ℤ) (word : ℕ) → FitsSigned w64 x → word ≡ of_z w64 (to_z w64 (of_z w64 x)) → IsScaleOf s scale → s.lo ≤ℤ x → x ≤ℤ s.hi
    → (word * scale.step % 18446744073709551616 + scale.base) % 18446744073709551616 / 1099511627776 ≡ level_of s x
tells s scale x word fits e is least most =
    ap (λ v. (v * scale.step % 18446744073709551616 + scale.base) % 18446744073709551616 / 1099511627776) (e ∙ ap (of_z w64) (to_z-of_z w64 x fits))
    ∙ level_is s scale x fits is least most

pub returns-clause-value : goal.returns-clause-value
returns-clause-value c = λ s is least most. tells s c.args.self.now c.args.value c.cast_unsigned.result c.ranges.value c.cast_unsigned.ensures is least most

pub returns-clause-fits : goal.returns-clause-fits
returns-clause-fits c =
    let s = c.requires.0 in
    let level = tells s c.args.self.now c.args.value c.cast_unsigned.result c.ranges.value c.cast_unsigned.ensures c.requires.1 c.requires.2 c.requires.3 in
    rw (level, c.requires.1.bits) (level_below s c.args.value c.requires.1.sound c.requires.2 c.requires.3)

pub overflow_cast-result-2 : goal.overflow_cast-result-2
overflow_cast-result-2 c =
    let s = c.requires.0 in
    let level = tells s c.args.self.now c.args.value c.cast_unsigned.result c.ranges.value c.cast_unsigned.ensures c.requires.1 c.requires.2 c.requires.3 in
    let few : 2 ^ s.bits ≤ 2 ^ 24 = pow-le-pow_right (omega arith) {i = s.bits} {j = 24} (sound s c.requires.1.sound).few in
    omega (arith, level, few, level_below s c.args.value c.requires.1.sound c.requires.2 c.requires.3)
