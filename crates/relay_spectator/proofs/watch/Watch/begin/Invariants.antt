use Rattle.std.proofs.Common.{◌≡◌, ◌+◌, ◌≤◌, map}
use Rattle.ghost_client.specs.State.{copy_in}
use Rattle.alone_server.specs.own_items.Items.{show_of}
use Rattle.relay_model.specs.Watching.{Watched}
use Rattle.relay_spectator.specs.Watches.{IsWatch}
use Rattle.relay_model.specs.Beginning.{begun_up_to, shown_up_to}
use Rattle.relay_spectator.proofs.watch.Watch.begin.Given as goal

abbrev pub invariant-loop-slot : goal.invariant-loop-slot
invariant-loop-slot l = record {
  few : l.self.shows ≤ l.fn.self.shows + l.slot;
  watched : (w : Watched) → IsWatch l.fn.self w → IsWatch l.self (begun_up_to (copy_in l.copies.slots) w l.slot);
  shown : (w : Watched) → IsWatch l.fn.self w → map show_of l.shows.items ≡ shown_up_to l.copies.kinds (copy_in l.copies.slots) w l.slot;
}
