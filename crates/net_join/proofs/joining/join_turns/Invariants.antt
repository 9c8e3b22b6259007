use Rattle.std.proofs.Common.{◌≡◌, ◌≤◌, ℕ, List, length}
use Rattle.tn_outside.specs.Links.{answer_at}
use Rattle.net_rules.specs.Turns.{Event, turned, total, AreTurns, events}
use Rattle.net_rules.specs.Places.{IsPlace}
use Rattle.net_rules.specs.Runs.{Begun}
use Rattle.net_join.specs.Stages.{IsAt}
use Rattle.net_join.proofs.joining.join_turns.Given as goal

abbrev pub invariant-turns : goal.invariant-turns
invariant-turns g l = record {
  done : (o : Begun) → l.start ≡ answer_at o.clock 0
      → IsPlace o.ahead o.clock (g.L.Link.ahead l.fn.link) (g.C.Clock.ahead l.fn.clock) 0
      → g.L.Link.sent l.fn.link ≡ o.sent
      → (counts : List ℕ) × (length counts ≡ l.t) × AreTurns o.ahead o.clock counts
      × IsPlace o.ahead o.clock (g.L.Link.ahead l.link) (g.C.Clock.ahead l.clock) (total counts)
      × IsAt o.sent l.joiner (g.L.Link.sent l.link) (events o.ahead counts);
  went : (past : List Event) × (turned past ≡ l.t) × IsAt (g.L.Link.sent l.fn.link) l.joiner (g.L.Link.sent l.link) past;
  nonce : l.joiner.nonce ≡ l.fn.joiner.nonce;
  link_spared : g.L.Link.faults l.link ≡ g.L.Link.faults l.fn.link;
  clock_spared : g.C.Clock.faults l.clock ≡ g.C.Clock.faults l.fn.clock;
}
