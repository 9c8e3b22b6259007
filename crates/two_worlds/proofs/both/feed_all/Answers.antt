use Rattle.std.proofs.Common.{◌≡◌, List, ℕ, refl, subst, arith}
use Rattle.std.specs.Prelude.{OnOk, OnErr}
use Rattle.tn_outside.specs.Totals.{Adds, AddsFront}
use Rattle.tn_outside.proofs.Totals.{adds_nothing}
use Rattle.two_worlds.specs.Text.{alone_text}
use Rattle.two_worlds.proofs.both.feed_all.Goals as goal

pub returns-in_default : goal.returns-in_default
returns-in_default g c = record {
  lines = tt;
  front = (0, omega arith, adds_nothing (g.K.Sink.written c.args.sink.now));
  cause = record { later = omega arith; failed = λ e. absurd (cc); spared = λ e. refl };
}

pub returns-in_default-new : goal.returns-in_default-new
returns-in_default-new g c = record {
  lines = tt;
  front = (0, omega arith, adds_nothing (g.K.Sink.written c.args.sink.now));
  cause = record { later = omega arith; failed = λ e. absurd (cc); spared = λ e. refl };
}

pub returns-in_default-new-2 : goal.returns-in_default-new-2
returns-in_default-new-2 g c = record {
  lines = tt;
  front = (0, omega arith, adds_nothing (g.K.Sink.written c.args.sink.now));
  cause = record { later = omega arith; failed = λ e. absurd (cc); spared = λ e. refl };
}

pub returns : goal.returns
returns g c =
    let w = g.K.Sink.written c.args.sink.now in
    let x = g.K.Sink.written c.feed_rest.new.sink in
    let s = c.in-Ok-new-2.source in
    let same : alone_text s.script s.client ≡ alone_text c.args.script.now c.args.client =
    (λ j. alone_text (c.in-Ok-new-2.ensures.script j) (c.in-Ok-new-2.ensures.client j)) in
    record {
      lines = subst (λ (text : List ℕ). OnOk c.feed_rest.result (Adds w x text)) same c.feed_rest.ensures.lines;
      front = subst (λ (text : List ℕ). OnErr c.feed_rest.result (AddsFront w x text)) same c.feed_rest.ensures.front;
      cause = c.feed_rest.ensures.cause;
    }
