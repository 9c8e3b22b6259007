use Rattle.std.proofs.Common.{◌≡◌, refl, ◌∙◌}
use Rattle.dirty_lanes.specs.Words.{version_at, value_at}
use Rattle.dirty_lanes.proofs.Calls.{field_read, version_is, value_is}
use Rattle.dirty_lanes.proofs.Logs.{stands-read}
use Rattle.dirty_lanes.proofs.plain.PlainLanes.read.Goals as goal

pub returns : goal.returns
returns c =
    let w = c.args.self.now in
    let o = c.args.object in
    let f = c.args.field in
    let read = field_read _ _ _ _ _ _ c.self.view_is c.self.invariant c.requires.object c.requires.field c.field_word.ensures c.index-word.ensures in
    let version : c.version_in.result ≡ version_at w o f = version_is _ _ _ _ _ read c.version_in.ensures in
    let value : c.value_in.result ≡ value_at w o f = value_is _ _ _ _ _ read c.value_in.ensures in
    record {
      version = version;
      value = value;
      words = refl;
      log_version = λ log stands. version ∙ stands.versions o f c.requires.object c.requires.field;
      log_value = λ log stands. value ∙ stands.values o f c.requires.object c.requires.field;
      log = λ log stands. stands-read w log c.args.client o f stands;
    }
