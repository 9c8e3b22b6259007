use Rattle.std.proofs.Common.{◌≡◌, ◌≤◌, ◌+◌, ℕ, List}
use Rattle.net_rules.specs.Turns.{Event, heard}
use Rattle.net_rules.specs.Places.{IsPlace, IsDueAt, Listens}
use Rattle.net_rules.specs.Runs.{Begun}
use Rattle.net_join.specs.Playing.{Joins}
use Rattle.net_join.specs.Stages.{HeardMore}
use Rattle.net_join.proofs.listening.listen.Given as goal

abbrev pub invariant-calls : goal.invariant-calls
invariant-calls g l = record {
  done : (o : Begun) (behind t : ℕ) (past : List Event)
      → IsPlace o.ahead o.clock (g.L.Link.ahead l.fn.link) (g.C.Clock.ahead l.fn.clock) behind → IsDueAt o.clock l.start l.due t
      → Joins l.fn.joiner past
      → Listens o.ahead o.clock t behind l._call
      × IsPlace o.ahead o.clock (g.L.Link.ahead l.link) (g.C.Clock.ahead l.clock) (behind + l._call)
      × Joins l.joiner (heard o.ahead behind l._call past);
  more : HeardMore l.fn.joiner l.joiner;
  nonce : l.joiner.nonce ≡ l.fn.joiner.nonce;
  unsent : g.L.Link.sent l.link ≡ g.L.Link.sent l.fn.link;
  link_spared : g.L.Link.faults l.link ≡ g.L.Link.faults l.fn.link;
  clock_spared : g.C.Clock.faults l.clock ≡ g.C.Clock.faults l.fn.clock;
}
