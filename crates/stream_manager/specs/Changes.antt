-- What the packet that a client took last did to its slots, in the packet's order: creates, updates with the fields that they
-- carry, and kills. A ping did nothing.
use Rattle.std.specs.Prelude.{List, [], ◌∷◌}
use Rattle.wire_format.specs.declared.ghosts.GhostItem.{GhostItem}
use Rattle.stream_manager.specs.Client.{ClientEvent, Posted, Sampled, Packed, Pinged, Took, ghosts_in}

abbrev pub changes_at : List ClientEvent → List GhostItem
changes_at [] = []
changes_at (Posted class payload ∷ log) = changes_at log
changes_at (Sampled m ∷ log) = changes_at log
changes_at (Packed p ∷ log) = changes_at log
changes_at (Pinged head ∷ log) = changes_at log
changes_at (Took p ∷ log) = ghosts_in p
