-- The copies of a relay may be shown on where each packet that it took makes such a change of them.
use Rattle.std.proofs.Common.{List, [], ◌∷◌}
use Rattle.quantised_fields.specs.declared.kind.Kind.{Kind}
use Rattle.relay_model.specs.Watching.{WatchEvent, Took, Scans, Own, packets_in}
use Rattle.relay_model.specs.Laws.{AreCopies, AreChanges}

pub copies_by_changes : (kinds : List Kind) (events : List WatchEvent) → AreChanges kinds (packets_in events) → AreCopies kinds events
copies_by_changes kinds [] h = tt
copies_by_changes kinds (Took p ∷ events) h = (h.0, copies_by_changes kinds events h.1)
copies_by_changes kinds (Scans ∷ events) h = copies_by_changes kinds events h
copies_by_changes kinds (Own line ∷ events) h = copies_by_changes kinds events h
