use Rattle.std.proofs.Common.{take}
use Rattle.stream_manager.specs.ConnCalls.{Becomes, Keeps}
use Rattle.conn_packing.specs.Packs.{absorbing}
use Rattle.conn_packing.proofs.packing.absorb_all.Given as goal

abbrev pub invariant-drains : goal.invariant-drains
invariant-drains l = record {
  stands : Becomes l.initial.conn (absorbing (take l.drain-index l.drains)) l.conn;
  keeps : Keeps l.initial.conn l.conn;
}
