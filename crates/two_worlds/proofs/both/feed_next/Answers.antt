use Rattle.std.proofs.Common.{◌≡◌, ◌∙◌, Ok, Bool, true, false, refl, sym, ap, arith}
use Rattle.std.specs.Prelude.{Result}
use Rattle.std.proofs.lemmas.Result.{err_from_is_err_and}
use Rattle.tn_types.specs.declared.choices.NoMemory.{NoMemory}
use Rattle.alone_server.specs.own_items.Items.{item_of}
use Rattle.two_worlds.proofs.Feeds.{may_feed, moves, breaks, breaks_here}
use Rattle.two_worlds.proofs.WholeText.{handed_on}
use Rattle.two_worlds.proofs.both.feed_next.Goals as goal

of_bool : (b d : Bool) → b ≡ d → ◌≡◌ {A = Result Bool NoMemory} (Ok b) (Ok d)
of_bool b d e = ap (λ (x : Bool). Ok x) e

pub returns-in-Ok-false : goal.returns-in-Ok-false
returns-in-Ok-false g c = record {
  end = λ e. (c.next.ensures.end (c.in-Ok-false.is ∙ of_bool c.in-Ok-false.field-0 false c.in-Ok-false.field-0-test), refl);
  fed = λ e. absurd (cc);
  front = tt;
  cause = record { later = omega arith; failed = λ e. absurd (cc); spared = λ e. refl };
}

pub returns-in-Err : goal.returns-in-Err
returns-in-Err g c = record {
  end = λ e. absurd (cc);
  fed = λ e. absurd (cc);
  front = breaks_here c.args.source.now (g.K.Sink.written c.args.sink.now);
  cause = record { later = omega arith; failed = λ e. absurd (cc); spared = λ e. refl };
}

pub feed-requires : goal.feed-requires
feed-requires g c =
    let ok = c.in-Ok-true.is ∙ of_bool c.in-Ok-true.field-0 true c.in-Ok-true.field-0-test in
    may_feed c.args.source.now c.next.new.self c.args.server.now (item_of c.next.new.item) c.requires c.in-Ok-true.ensures.stands c.next.ensures.script c.next.ensures.client (c.next.ensures.item ok)

pub returns-in_err-feed : goal.returns-in_err-feed
returns-in_err-feed g c =
    let p = err_from_is_err_and c.from_residual.result c.from_residual.ensures.1 in
    let ok = c.in-Ok-true.is ∙ of_bool c.in-Ok-true.field-0 true c.in-Ok-true.field-0-test in
    rw (p.1) (record {
      end = λ e. absurd (cc);
      fed = λ e. absurd (cc);
      front = breaks c.args.source.now c.next.new.self c.args.server.now (item_of c.next.new.item) c.requires c.in-Ok-true.ensures.stands c.next.ensures.script c.next.ensures.client (c.next.ensures.item ok) (g.K.Sink.written c.args.sink.now) (g.K.Sink.written c.feed.new.sink) c.in_err-feed.ensures.front;
      cause = handed_on (g.K.Sink.faults c.args.sink.now) (g.K.Sink.faults c.feed.new.sink) c.in_err-feed.field-0.0 p.0 (sym p.2) c.in_err-feed.ensures.cause;
    })

pub returns : goal.returns
returns g c =
    let ok = c.in-Ok-true.is ∙ of_bool c.in-Ok-true.field-0 true c.in-Ok-true.field-0-test in
    record {
      end = λ e. absurd (cc);
      fed = λ e. moves c.args.source.now c.next.new.self c.args.server.now (item_of c.next.new.item) c.requires c.in-Ok-true.ensures.stands c.next.ensures.script c.next.ensures.client (c.next.ensures.item ok) c.feed.new.self c.in_ok-feed.ensures.stands (c.next.ensures.place ok) (g.K.Sink.written c.args.sink.now) (g.K.Sink.written c.feed.new.sink) c.in_ok-feed.ensures.lines;
      front = tt;
      cause = record {
        later = c.in_ok-feed.ensures.cause.later;
        failed = λ e. absurd (cc);
        spared = λ e. c.in_ok-feed.ensures.cause.spared (λ h. absurd (cc));
      };
    }
