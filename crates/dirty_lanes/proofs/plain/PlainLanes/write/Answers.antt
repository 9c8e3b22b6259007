use Rattle.std.proofs.Common.{◌≡◌, arith}
use Rattle.dirty_lanes.specs.Words.{version_at}
use Rattle.dirty_lanes.proofs.Calls.{field_read, version_is, writes}
use Rattle.dirty_lanes.proofs.plain.PlainLanes.write.Goals as goal

pub overflow_add-version_in : goal.overflow_add-version_in
overflow_add-version_in c =
    let read = field_read _ _ _ _ _ _ c.self.view_is c.self.invariant c.requires.object c.requires.field c.field_word.ensures c.index_mut-word.ensures.value in
    let version : c.version_in.result ≡ version_at c.args.self.now c.args.object c.args.field = version_is _ _ _ _ _ read c.version_in.ensures in
    omega (arith, version, c.requires.not_worn)

pub invariant_of-self : goal.invariant_of-self
invariant_of-self c =
    (writes _ _ _ _ _ _ _ _ _ c.self.view_is c.self.invariant c.requires.object c.requires.field c.ranges.value.fits c.field_word.ensures c.index_mut-word.ensures.value c.version_in.ensures c.packed.ensures).laid_out

pub returns : goal.returns
returns c =
    let all = writes _ _ _ _ _ _ _ _ _ c.self.view_is c.self.invariant c.requires.object c.requires.field c.ranges.value.fits c.field_word.ensures c.index_mut-word.ensures.value c.version_in.ensures c.packed.ensures in
    record { words = all.words; version = all.version; value = all.value; fields = all.fields; masks = all.masks; sizes = all.sizes; log = all.log }
