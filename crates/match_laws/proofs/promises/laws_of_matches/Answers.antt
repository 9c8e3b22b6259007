use Rattle.match_laws.proofs.promises.laws_of_matches.Goals as goal

pub returns : goal.returns
returns c = record {
  isolation = c.isolation.ensures;
  non_interference = c.non_interference.ensures;
  copies_show_values = c.copies_show_values.ensures;
  settled_is_newest = c.settled_is_newest.ensures;
  changes_recover = c.changes_recover.ensures;
  events_in_order = c.events_in_order.ensures;
  moves_in_order = c.moves_in_order.ensures;
  loose_events_in_order = c.loose_events_in_order.ensures;
  little_is_refused = c.little_is_refused.ensures;
  applied_are_accepted = c.applied_in_order.ensures.accepted;
  applied_in_order = c.applied_in_order.ensures.sampled;
  printed_in_order = c.printed_in_order.ensures;
}
