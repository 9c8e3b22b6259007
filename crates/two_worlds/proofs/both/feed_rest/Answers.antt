use Rattle.std.proofs.Common.{◌≡◌, ◌∙◌, Ok, Err, Bool, false, List, Option, ℕ, sym, ap, subst, arith}
use Rattle.std.specs.Prelude.{Result}
use Rattle.std.proofs.lemmas.Result.{err_from_is_err_and}
use Rattle.tn_outside.specs.Causes.{HandsOn}
use Rattle.tn_outside.specs.Totals.{Adds}
use Rattle.tn_outside.specs.declared.failed.RunFault.{RunFault}
use Rattle.tn_outside.specs.declared.failed.RunFault.TheVariants.{WriteFault}
use Rattle.two_worlds.specs.Text.{alone_text}
use Rattle.two_worlds.proofs.WholeText.{all_written, front_written, handed_on}
use Rattle.two_worlds.proofs.both.feed_rest.Goals as goal

of_false : (b : Bool) → b ≡ false → ◌≡◌ {A = Result Bool RunFault} (Ok b) (Ok false)
of_false b e = ap (λ (x : Bool). Ok x) e

pub returns-in_err-feed_next : goal.returns-in_err-feed_next
returns-in_err-feed_next g c =
    let p = err_from_is_err_and c.from_residual.result c.from_residual.ensures.1 in
    let first = g.K.Sink.written c.args.sink.now in
    rw (p.1) (record {
      lines = tt;
      front = front_written c.items.source c.args.source.now.script c.args.source.now.client c.items.invariant.fed.source c.items.invariant.script c.items.invariant.client first (g.K.Sink.written c.feed_next.new.sink) (c.in_err-feed_next.ensures.front first c.items.invariant.written);
      cause = subst (λ (n : ℕ). HandsOn n (g.K.Sink.faults c.feed_next.new.sink) (◌≡◌ {A = Result (Unit {0}) RunFault} (Err p.0) (Err WriteFault))) c.items.invariant.spared
          (handed_on (g.K.Sink.faults c.items.sink) (g.K.Sink.faults c.feed_next.new.sink) c.in_err-feed_next.field-0.0 p.0 (sym p.2) c.in_err-feed_next.ensures.cause);
    })

pub returns : goal.returns
returns g c =
    let first = g.K.Sink.written c.args.sink.now in
    let end = c.in_ok-feed_next.ensures.end (of_false c.in_ok-feed_next.field-0 c.if-branch.false) in
    record {
      lines = subst (λ (w : Option (List ℕ)). Adds first w (alone_text c.args.source.now.script c.args.source.now.client)) (sym end.1)
          (all_written c.items.source c.args.source.now.script c.args.source.now.client c.items.invariant.fed.source c.items.invariant.script c.items.invariant.client first (g.K.Sink.written c.items.sink) end.0 c.items.invariant.written);
      front = tt;
      cause = record {
        later = omega (arith, c.items.invariant.spared, c.in_ok-feed_next.ensures.cause.later);
        failed = λ e. absurd (cc);
        spared = λ e. c.in_ok-feed_next.ensures.cause.spared (λ h. absurd (cc)) ∙ c.items.invariant.spared;
      };
    }
