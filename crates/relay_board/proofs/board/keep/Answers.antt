use Rattle.std.proofs.Common.{◌∙◌, inl, inr, None, sym, arith}
use Rattle.std.proofs.lemmas.Bool.{cases_lt}
use Rattle.std.proofs.Math.ListN.{get_or-eq_default}
use Rattle.relay_board.proofs.board.keep.Goals as goal

pub returns : goal.returns
returns c slot = elim (cases_lt slot 256) [
  | inl lt ↦ c.loop-slot.invariant slot (omega (arith, lt, c.loop-slot-test.false))
  | inr le ↦ get_or-eq_default c.loop-slot.slots None (omega (arith, le, c.loop-slot.auto.slots, c.requires)) ∙ sym (c.none_beyond.ensures slot le)
]
