use Rattle.std.proofs.Common.{◌≡◌, ◌<◌, ◌≤◌, ℕ, length, get_or}
use Rattle.relay_spectator.specs.declared.spectator.Spectator.{Spectator}
use Rattle.relay_spectator.specs.Spectators.{Takes}
use Rattle.relay_node.proofs.node.take_all.Given as goal

abbrev pub invariant-loop-i : goal.invariant-loop-i
invariant-loop-i l = record {
  count : length l.spectators.items ≡ length l.fn.spectators.items;
  told : (s : ℕ) (d : Spectator) → s < l.i
      → Takes (get_or l.fn.spectators.items s d) l.board.killed l.board.changed l.events (get_or l.spectators.items s d);
  same : (s : ℕ) (d : Spectator) → l.i ≤ s → get_or l.spectators.items s d ≡ get_or l.fn.spectators.items s d;
}
