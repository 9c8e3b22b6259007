use Rattle.std.proofs.Common.{◌∙◌, ◌+◌, suc, sym, arith, true≢false}
use Rattle.net_rules.specs.Turns.{heard}
use Rattle.net_rules.proofs.Listening.{goes_on, turn_over, turn_full, place_on, place_over}
use Rattle.net_join.proofs.Rounds.{heard_on, heard_then}
use Rattle.net_join.proofs.listening.listen.Goals as goal

pub returns-then-branch-clause-done : goal.returns-then-branch-clause-done
returns-then-branch-clause-done g c o behind t past place due joins =
    let n = c.calls._call in
    let i = c.calls.invariant.done o behind t past place due joins in
    let e = c.in_ok-receive.ensures in
    let d = e.done o (behind + n) (heard o.ahead behind n past) i.1 i.2 in
    let is = (e.due o (behind + n) t i.1 due).0 c.if-branch.true in
    (suc n, turn_over o.ahead o.clock t behind n i.0 (omega arith) is, place_over o.ahead o.clock t behind n (g.L.Link.ahead c.receive.new.link) (g.C.Clock.ahead c.receive.new.clock) d.0, d.1)

pub returns-then-branch-clause-more : goal.returns-then-branch-clause-more
returns-then-branch-clause-more g c = heard_then c.args.joiner.now c.calls.joiner c.receive.new.joiner c.calls.invariant.more c.in_ok-receive.ensures.more

pub calls-preserved : goal.calls-preserved
calls-preserved g c =
    let n = c.calls._call in
    let e = c.in_ok-receive.ensures in
    let v = c.calls.invariant in record {
      done = λ o behind t past place due joins.
          let i = v.done o behind t past place due joins in
          let d = e.done o (behind + n) (heard o.ahead behind n past) i.1 i.2 in (
            goes_on o.ahead o.clock t behind n i.0 (omega arith) (λ is. true≢false (sym ((e.due o (behind + n) t i.1 due).1 is) ∙ c.if-branch.false)),
            place_on o.ahead o.clock t behind n (g.L.Link.ahead c.receive.new.link) (g.C.Clock.ahead c.receive.new.clock) d.0,
            heard_on o behind n c.receive.new.joiner past d.1,
          );
      more = heard_then c.args.joiner.now c.calls.joiner c.receive.new.joiner v.more e.more;
      nonce = e.nonce ∙ v.nonce;
      unsent = e.unsent ∙ v.unsent;
      link_spared = e.cause.link.spared (λ h. absurd cc) ∙ v.link_spared;
      clock_spared = e.cause.clock.spared (λ h. absurd cc) ∙ v.clock_spared;
    }

pub returns-clause-done : goal.returns-clause-done
returns-clause-done g c o behind t past place due joins =
    let n = c.calls._call in
    let i = c.calls.invariant.done o behind t past place due joins in
    (n, turn_full o.ahead o.clock t behind n i.0 (omega arith), i.1, i.2)
