use Rattle.std.proofs.Common.{◌≡◌, ◌≤◌, ◌+◌, ◌*◌, take}
use Rattle.std.specs.Prelude.{vec_len, vec_capacity}
use Rattle.conn_packing.specs.Reads.{asked_by_all}
use Rattle.conn_packing.specs.Asking.{AreAsked}
use Rattle.conn_packing.proofs.asking.ask_all.Given as goal

abbrev pub invariant-items : goal.invariant-items
invariant-items g l = record {
  told : AreAsked g.V.Values.ranges g.V.Values.asks l.initial.values l.values (asked_by_all (take l.choice-index l.choices)) l.fn.listed.items l.list.items;
  few : vec_len l.list ≤ vec_len l.fn.listed + 16 * l.choice-index;
  room : vec_capacity l.list ≡ vec_capacity l.fn.listed;
}
