use Rattle.std.proofs.Common.{◌≡◌, ◌≢◌, ◌∙◌, ◌<◌, ◌*◌, ◌%◌, ◌^◌, ◌==◌, ℕ, Bool, sym, ap, subst, arith, inl, inr, bit_or, if◌then◌else◌}
use Rattle.std.proofs.lemmas.Bool.{cases_eq, eq-eqb, ne_eqb}
use Rattle.std.proofs.Math.Pow.{pow-lt}
use Rattle.dirty_lanes.specs.Words.{Words, mask_at}
use Rattle.match_engine.proofs.lanes.raise_one.Goals as goal

bit_word : (field : ℕ) → field < 16 → 1 * 2 ^ field % 4294967296 ≡ 2 ^ field
bit_word field lt = let below : field < 32 = omega arith in let small : 2 ^ field < 2 ^ 32 = pow-lt below in omega (arith, small)

-- of one object the masks gain the bits, and of others none does
each_mask : (old new : Words) (object bits d o : ℕ) → mask_at new d object ≡ bit_or (mask_at old d object) bits → (o ≢ object → mask_at new d o ≡ mask_at old d o)
    → mask_at new d o ≡ (if object == o then bit_or (mask_at old d o) bits else mask_at old d o)
each_mask old new object bits d o here elsewhere = elim (cases_eq object o) [
  | inl same ↦ subst (λ (x : ℕ). mask_at new d x ≡ bit_or (mask_at old d x) bits) same here
      ∙ sym (ap (λ (b : Bool). if b then bit_or (mask_at old d o) bits else mask_at old d o) (eq-eqb object o same))
  | inr other ↦ elsewhere (λ e. other (sym e))
      ∙ sym (ap (λ (b : Bool). if b then bit_or (mask_at old d o) bits else mask_at old d o) (ne_eqb object o other))
]

pub returns-clause-masks : goal.returns-clause-masks
returns-clause-masks c d o lt =
    let w = c.args.write.now in
    let old = c.args.lanes.now in
    each_mask old _ w.object (2 ^ w.field) d o
    (c.raise_for_all.ensures.raised d lt ∙ ap (bit_or (mask_at old d w.object)) (bit_word w.field c.requires.field))
    (c.raise_for_all.ensures.masks d o lt)
