use Rattle.std.proofs.Common.{◌+◌, ◌∷◌, [], ◌∙◌, ℕ, length, ap, sym, subst, length-append}
use Rattle.race_run.specs.Asking.{AreNumbered}
use Rattle.race_run.proofs.Numbering.{numbered_more}
use Rattle.race_run.proofs.connecting.connect_all.Goals as goal

pub loop-preserved : goal.loop-preserved
loop-preserved g c =
    let before = c.loop.made.pairs.items in
    let client = c.in-Some.seat.client in
    let grown = c.in_ok-connect_next.ensures.pairs in
    let own = ap (λ seat. seat.client) c.in-Some.ensures.seat ∙ c.loop.invariant.next in
    record {
      next = c.in-Some.ensures.next ∙ ap (λ (n : ℕ). n + 1) c.loop.invariant.next;
      clients = c.in-Some.ensures.clients ∙ c.loop.invariant.clients;
      pairs = ap length grown ∙ length-append before (client ∷ []) ∙ ap (λ (n : ℕ). n + 1) c.loop.invariant.pairs;
      numbered = subst AreNumbered (sym grown) (numbered_more before client (own ∙ sym c.loop.invariant.pairs) c.loop.invariant.numbered);
      ports = c.in_ok-connect_next.ensures.ports ∙ ap (λ (n : ℕ). n + 1) c.loop.invariant.ports;
      fresh = c.in_ok-connect_next.ensures.fresh;
    }
