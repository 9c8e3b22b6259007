use Rattle.std.proofs.Common.{◌≡◌, take, map}
use Rattle.std.specs.List.{filter_map}
use Rattle.alone_server.specs.own_items.Items.{write_of}
use Rattle.relay_spectator.specs.Watches.{write_at}
use Rattle.relay_spectator.proofs.watch.Watch.writes.Given as goal

abbrev pub invariant-loop-change : goal.invariant-loop-change
invariant-loop-change l = map write_of l.writes.items ≡ filter_map (write_at l.self.periods) (take l.change-index l.changed)
