use Rattle.dirty_lanes.proofs.Calls.{field_read, version_is, value_is}
use Rattle.dirty_lanes.proofs.ends.FinalWords.field.Goals as goal

pub returns : goal.returns
returns c =
    let read = field_read _ _ _ _ _ _ c.self.view_is c.self.invariant c.requires.object c.requires.field c.field_word.ensures c.index-word.ensures in
    record { version = version_is _ _ _ _ _ read c.version_in.ensures; value = value_is _ _ _ _ _ read c.value_in.ensures }
