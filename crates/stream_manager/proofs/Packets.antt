-- What a client shows is what the packets show that it took.
use Rattle.std.proofs.Common.{◌≡◌, ℕ, List, [], ◌∷◌, ◌++◌, max, Option, refl, ap}
use Rattle.std.specs.Prelude.{reverse}
use Rattle.wire_format.specs.declared.blocks.BlockItem.{BlockItem}
use Rattle.notify_window.specs.Log.{horizon_of}
use Rattle.event_manager.specs.Receiving.{items_onto, delivered_of}
use Rattle.ghost_client.specs.StandsFor.{taken}
use Rattle.stream_manager.specs.End.{window_log, came_of}
use Rattle.stream_manager.specs.Client.{ClientEvent, Posted, Sampled, Packed, Pinged, Took, client_end, seen_down, blocks_in, ghosts_in, blocks_came, ghosts_came, control_after, control_at}
use Rattle.stream_manager.specs.Packets.{packets_at, took, horizon_seen, blocks_seen, events_seen, ghosts_seen, ShowsAlike}

horizon-alike : (log : List ClientEvent) → horizon_seen (packets_at log) ≡ horizon_of (window_log (client_end log))
horizon-alike [] = refl
horizon-alike (Posted class payload ∷ log) = horizon-alike log
horizon-alike (Sampled m ∷ log) = horizon-alike log
horizon-alike (Packed p ∷ log) = horizon-alike log
horizon-alike (Pinged head ∷ log) = horizon-alike log
horizon-alike (Took p ∷ log) = ap (λ (n : ℕ). max n (seen_down p).head.seq) (horizon-alike log)

blocks-alike : (log : List ClientEvent) → blocks_seen (packets_at log) ≡ blocks_came log
blocks-alike [] = refl
blocks-alike (Posted class payload ∷ log) = blocks-alike log
blocks-alike (Sampled m ∷ log) = blocks-alike log
blocks-alike (Packed p ∷ log) = blocks-alike log
blocks-alike (Pinged head ∷ log) = blocks-alike log
blocks-alike (Took p ∷ log) = ap (λ (l : List BlockItem). reverse (blocks_in p) ++ l) (blocks-alike log)

events-alike : (log : List ClientEvent) → events_seen (packets_at log) ≡ came_of (client_end log)
events-alike [] = refl
events-alike (Posted class payload ∷ log) = events-alike log
events-alike (Sampled m ∷ log) = events-alike log
events-alike (Packed p ∷ log) = events-alike log
events-alike (Pinged head ∷ log) = events-alike log
events-alike (Took p ∷ log) = ap (items_onto (seen_down p).events) (events-alike log)

ghosts-alike : (log : List ClientEvent) → ghosts_seen (packets_at log) ≡ ghosts_came log
ghosts-alike [] = refl
ghosts-alike (Posted class payload ∷ log) = ghosts-alike log
ghosts-alike (Sampled m ∷ log) = ghosts-alike log
ghosts-alike (Packed p ∷ log) = ghosts-alike log
ghosts-alike (Pinged head ∷ log) = ghosts-alike log
ghosts-alike (Took p ∷ log) = ap (taken (ghosts_in p)) (ghosts-alike log)

control-alike : (log : List ClientEvent) → control_at (took (packets_at log)) ≡ control_at log
control-alike [] = refl
control-alike (Posted class payload ∷ log) = control-alike log
control-alike (Sampled m ∷ log) = control-alike log
control-alike (Packed p ∷ log) = control-alike log
control-alike (Pinged head ∷ log) = control-alike log
control-alike (Took p ∷ log) = ap (λ (slot : Option ℕ). control_after p slot) (control-alike log)

pub shows-alike : (log : List ClientEvent) → ShowsAlike log
shows-alike log = record {
  horizon = horizon-alike log;
  blocks = blocks-alike log;
  events = events-alike log;
  ghosts = ghosts-alike log;
  delivered = ap delivered_of (events-alike log);
  control = control-alike log;
}
