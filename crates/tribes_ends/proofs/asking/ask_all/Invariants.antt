use Rattle.std.proofs.Common.{◌≡◌, ◌≤◌, ◌*◌, take, map}
use Rattle.conn_packing.specs.Reads.{asked_by_all}
use Rattle.tribes_ends.specs.Lists.{ask_of}
use Rattle.tribes_ends.proofs.asking.ask_all.Given as goal

abbrev pub invariant-items : goal.invariant-items
invariant-items l = record {
  told : take l.count l.asks ≡ map ask_of (asked_by_all (take l.choice-index l.choices));
  few : l.count ≤ 16 * l.choice-index;
}
