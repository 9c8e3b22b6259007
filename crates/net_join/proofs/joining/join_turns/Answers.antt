use Rattle.std.proofs.Common.{◌≡◌, ◌∙◌, ◌+◌, suc, ◌∷◌, length, arith}
use Rattle.std.proofs.lemmas.Result.{err_from_is_err_and}
use Rattle.net_rules.specs.Turns.{turned}
use Rattle.net_join.proofs.Rounds.{stopped}
use Rattle.net_join.proofs.joining.join_turns.Goals as goal

pub turns-preserved : goal.turns-preserved
turns-preserved g c =
    let i = c.turns.invariant in let e = c.in_ok-turn.ensures in record {
      done = λ o begun place same.
          let d = i.done o begun place same in
          let r = e.done o d.0 begun d.1 d.2 d.3 d.4 in
          (r.0 ∷ d.0, (let len : suc (length d.0) ≡ c.turns.t + 1 = omega (arith, d.1) in len), r.1, r.2, r.3);
      went =
          let w = i.went in
          let r = e.went (g.L.Link.sent c.args.link.now) w.0 w.2 in
          (r.0, (let n : turned r.0 ≡ c.turns.t + 1 = omega (arith, r.2, w.1) in n), r.1);
      nonce = e.nonce ∙ i.nonce;
      link_spared = e.cause.link.spared (λ h. absurd cc) ∙ i.link_spared;
      clock_spared = e.cause.clock.spared (λ h. absurd cc) ∙ i.clock_spared;
    }

pub returns-in_err-turn-clause-front : goal.returns-in_err-turn-clause-front
returns-in_err-turn-clause-front g c =
    let p = err_from_is_err_and c.from_residual.result c.from_residual.ensures.1 in
    let i = c.turns.invariant in
    rw (p.1) (λ o begun place same.
    let d = i.done o begun place same in
    stopped o c.turns.joiner c.args.turns c.args.joiner.now.nonce (g.L.Link.sent c.turns.link) (g.L.Link.sent c.turn.new.link) d.0 d.2 (omega (arith, d.1)) d.4 i.nonce c.in_err-turn.ensures.unsent)
