use Rattle.std.proofs.Common.{take}
use Rattle.relay_spectator.specs.Spectators.{payloads_of}
use Rattle.relay_spectator.specs.Feeding.{Posts}
use Rattle.relay_spectator.proofs.spectator.Spectator.post_all.Given as goal

abbrev pub invariant-loop-event : goal.invariant-loop-event
invariant-loop-event l = Posts l.fn.self (payloads_of (take l.event-index l.events)) l.self
