use Rattle.std.proofs.Common.{◌≡◌, inl, inr, true, false, not, ap, sym, ◌∙◌, bit_and}
use Rattle.std.proofs.lemmas.Bool.Decides.{eqb_tells}
use Rattle.world_scope.proofs.WholeWords.{apart_bits}
use Rattle.world_scope.proofs.gather.has_special.Goals as goal

differ : true ≡ false → ⊥
differ e = absurd (cc)

pub returns : goal.returns
returns c = λ e k l bit.
    elim (eqb_tells (bit_and c.args.word c.args.places.now.special) 0) [
      | inl w ↦ apart_bits c.args.word c.args.places.now.special k w.1 bit
      | inr w ↦ absurd (differ (sym (ap not w.0) ∙ e))
    ]
