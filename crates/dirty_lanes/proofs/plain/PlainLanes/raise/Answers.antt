use Rattle.std.proofs.Common.{ap}
use Rattle.std.specs.Prelude.{bit_or}
use Rattle.dirty_lanes.proofs.Calls.{raises}
use Rattle.dirty_lanes.proofs.plain.PlainLanes.raise.Goals as goal

pub invariant_of-self : goal.invariant_of-self
invariant_of-self c =
    (raises _ _ _ _ _ _ _ _ c.self.view_is c.self.invariant c.requires.client c.requires.object c.requires.bits c.mask_word.ensures c.index_mut.ensures.value (ap (bit_or c.index_mut.result.now) c.from.ensures)).laid_out

pub returns : goal.returns
returns c =
    let all = raises _ _ _ _ _ _ _ _ c.self.view_is c.self.invariant c.requires.client c.requires.object c.requires.bits c.mask_word.ensures c.index_mut.ensures.value (ap (bit_or c.index_mut.result.now) c.from.ensures) in
    record { words = all.words; mask = all.mask; masks = all.masks; fields = all.fields; sizes = all.sizes; log = all.log }
