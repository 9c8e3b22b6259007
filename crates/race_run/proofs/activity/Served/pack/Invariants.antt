use Rattle.std.proofs.Common.{◌≡◌, ◌≤◌, ◌+◌, take}
use Rattle.std.specs.Prelude.{count_by, None}
use Rattle.race_run.specs.Asking.{is_pack_of}
use Rattle.race_run.proofs.activity.Served.pack.Given as goal

abbrev pub invariant-lines : goal.invariant-lines
invariant-lines g l = record {
  each : l.stopped ≡ None → l.packs ≡ l.initial.packs + count_by (is_pack_of l.self.client) (take l.i l.self.script.now.body);
  most : l.packs ≤ l.initial.packs + count_by (is_pack_of l.self.client) (take l.i l.self.script.now.body);
}
