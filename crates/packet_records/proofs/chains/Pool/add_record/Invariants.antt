use Rattle.std.proofs.Common.{◌≡◌}
use Rattle.packet_records.proofs.SoundFacts.{IsAdding}
use Rattle.packet_records.proofs.chains.Pool.add_record.Given as goal

abbrev pub invariant-items : goal.invariant-items
invariant-items l = record {
  packets : l.self-inside.packets ≡ l.initial.self-inside.packets;
  start : l.self-inside.start ≡ l.initial.self-inside.start;
  count : l.self-inside.count ≡ l.initial.self-inside.count;
  adding : IsAdding l.initial.self-inside.nodes.items l.self-inside.nodes.items l.initial.self-inside.start l.initial.self-inside.count l.seq l.choice-index l.at l.self-inside.newest l.choices;
}
