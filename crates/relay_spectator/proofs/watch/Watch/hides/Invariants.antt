use Rattle.std.proofs.Common.{◌≡◌, take}
use Rattle.std.specs.List.{filter_map}
use Rattle.relay_spectator.specs.Watches.{period_at}
use Rattle.relay_spectator.proofs.watch.Watch.hides.Given as goal

abbrev pub invariant-loop-slot : goal.invariant-loop-slot
invariant-loop-slot l = l.hides.items ≡ filter_map (period_at l.self.periods) (take l.slot-index l.killed)
