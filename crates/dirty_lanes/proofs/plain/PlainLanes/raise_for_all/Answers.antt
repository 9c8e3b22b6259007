use Rattle.dirty_lanes.proofs.Calls.{raises_all}
use Rattle.dirty_lanes.proofs.plain.PlainLanes.raise_for_all.Goals as goal

pub invariant_of-self : goal.invariant_of-self
invariant_of-self c =
    let e = c.raise_in.ensures in
    (raises_all _ _ _ _ _ _ _ _ _ c.self.view_is c.self.invariant c.requires.object c.requires.bits c.mask_word.ensures c.from.ensures c.deref_mut.ensures.value c.self.inside.words.ok.0
    (record { long = e.long; raised = e.raised; before = e.before; behind = e.behind })).laid_out

pub returns : goal.returns
returns c =
    let e = c.raise_in.ensures in
    let all = raises_all _ _ _ _ _ _ _ _ _ c.self.view_is c.self.invariant c.requires.object c.requires.bits c.mask_word.ensures c.from.ensures c.deref_mut.ensures.value c.self.inside.words.ok.0
    (record { long = e.long; raised = e.raised; before = e.before; behind = e.behind }) in
    record { raised = all.raised; masks = all.masks; fields = all.fields; sizes = all.sizes; log = all.log }
