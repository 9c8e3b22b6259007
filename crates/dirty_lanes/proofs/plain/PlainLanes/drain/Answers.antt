use Rattle.dirty_lanes.proofs.Calls.{drains}
use Rattle.dirty_lanes.proofs.plain.PlainLanes.drain.Goals as goal

pub invariant_of-self : goal.invariant_of-self
invariant_of-self c = (drains _ _ _ _ _ c.self.view_is c.self.invariant c.requires.client c.requires.object c.mask_word.ensures).laid_out

pub returns : goal.returns
returns c =
    let all = drains _ _ _ _ _ c.self.view_is c.self.invariant c.requires.client c.requires.object c.mask_word.ensures in
    let told = c.raised-bits.ensures in
    record { answer = told.answer; narrow = told.narrow; words = all.words; mask = all.mask; masks = all.masks; fields = all.fields; sizes = all.sizes; log_answer = told.log_answer; log = all.log }
