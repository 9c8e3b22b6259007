use Rattle.std.proofs.Common.{◌∙◌, ◌+◌, ℕ, List, length, ap, sym, subst, arith, length-append, ◌∷◌, []}
use Rattle.dirty_lanes.specs.declared.view.PackView.{PackView}
use Rattle.dirty_lanes.specs.Named.{IsNumbered}
use Rattle.plain_race.proofs.Calls.{numbered_more}
use Rattle.plain_race.proofs.words.take_seats.Goals as goal

pub loop-client-preserved : goal.loop-client-preserved
loop-client-preserved g c =
    let pushed = c.in_ok-add.ensures in
    let many = c.loop-client.invariant.many in
    let next = c.loop-client.invariant.next in
    let number = ap (λ (p : PackView). p.client) c.in-Some.ensures.seat in
    record {
      next = c.in-Some.ensures.next ∙ ap (λ (n : ℕ). n + 1) next;
      clients = c.in-Some.ensures.clients ∙ c.loop-client.invariant.clients;
      many = let long = ap (λ (l : List PackView). length l) pushed ∙ length-append c.loop-client.packs.items (c.in-Some.seat ∷ []) in omega (arith, long, many);
      numbered = subst (IsNumbered 0) (sym pushed) (numbered_more 0 c.loop-client.packs.items c.in-Some.seat c.loop-client.invariant.numbered (omega (arith, number, next, many)));
    }
