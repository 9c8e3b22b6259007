use Rattle.std.proofs.Common.{◌≡◌, ◌∙◌, drop, None, ap, arith}
use Rattle.std.proofs.lemmas.Result.{err_from_is_err_and}
use Rattle.tn_outside.specs.Totals.{Adds, AddsFront}
use Rattle.demo_format.specs.Records.{front_length, records_of, is_ending}
use Rattle.demo_view.proofs.Below.stream_manager.Ends.{map_ok, map_err}
use Rattle.demo_replay.specs.Replaying.{word_for}
use Rattle.demo_replay.specs.Walking.{DemoState, IsNext}
use Rattle.demo_replay.specs.Writing.{TellsShown}
use Rattle.demo_replay.proofs.Walking.{when-none, next-begins, next-taken, next-viewer}
use Rattle.demo_replay.proofs.Written.{record-more, record-front, end-told, end-front}
use Rattle.demo_replay.proofs.replaying.tell_all.Goals as goal

pub records-preserved : goal.records-preserved
records-preserved g c =
    let head = c.args.head.now in
    let body = c.args.body.now in
    let d : DemoState = record { head = head; records = records_of body } in
    let is : IsNext body c.records.start c.in-Some.next.now = c.in-Some.ensures.some in
    let inv = c.records.invariant in
    let e = c.in_ok-tell_next.ensures in
    record {
      few = omega (arith, inv.few);
      begins = next-begins body c.records.k c.records.start inv.begins c.in-Some.next.now is;
      viewer = next-viewer d c.records.k c.records.viewer c.tell_next.new.viewer c.in-Some.next.now inv.viewer e.stands e.terms e.quiet
          (next-taken body c.records.k c.records.start inv.begins c.in-Some.next.now is);
      written = record-more head body c.records.k c.records.viewer inv.viewer (g.K.Sink.written c.args.sink.now) (g.K.Sink.written c.records.sink) (g.K.Sink.written c.tell_next.new.sink) inv.written
          c.records.start inv.begins c.in-Some.next.now is e.written;
      spared = e.cause.spared (λ h. absurd cc) ∙ inv.spared;
    }

pub returns-in_err-tell_next-clause-front : goal.returns-in_err-tell_next-clause-front
returns-in_err-tell_next-clause-front g c =
    let p = err_from_is_err_and c.from_residual.result c.from_residual.ensures.1 in
    let head = c.args.head.now in
    let body = c.args.body.now in
    let is : IsNext body c.records.start c.in-Some.next.now = c.in-Some.ensures.some in
    let inv = c.records.invariant in
    rw (p.1) (record-front head body c.records.k c.records.viewer inv.viewer (g.K.Sink.written c.args.sink.now) (g.K.Sink.written c.records.sink) (g.K.Sink.written c.tell_next.new.sink) inv.written
    c.records.start inv.begins c.in-Some.next.now is c.in_err-tell_next.ensures.front)

pub returns-clause-text : goal.returns-clause-text
returns-clause-text g c =
    let body = c.args.body.now in
    let inv = c.records.invariant in
    let word = c.word_for.result.now in
    let old = g.K.Sink.written c.records.sink in
    let new = g.K.Sink.written c.tell_end.new.sink in
    let none : front_length (drop c.records.start body) ≡ None = when-none c.next_record.result c.in_default-next_record.is c.next_record.ensures.none in
    let says : word ≡ word_for (is_ending (drop c.records.start body)) = c.word_for.ensures ∙ ap word_for (c.ends_here.ensures ∙ ap is_ending c.split_at.ensures.back) in
    map_ok c.tell_end.result (λ (tells : TellsShown Adds c.records.viewer word old new).
    end-told c.args.head.now body c.records.k c.records.viewer inv.viewer (g.K.Sink.written c.args.sink.now) old new inv.written c.records.start inv.begins none word says tells) c.tell_end.ensures.written

pub returns-clause-front : goal.returns-clause-front
returns-clause-front g c =
    let body = c.args.body.now in
    let inv = c.records.invariant in
    let word = c.word_for.result.now in
    let old = g.K.Sink.written c.records.sink in
    let new = g.K.Sink.written c.tell_end.new.sink in
    let none : front_length (drop c.records.start body) ≡ None = when-none c.next_record.result c.in_default-next_record.is c.next_record.ensures.none in
    let says : word ≡ word_for (is_ending (drop c.records.start body)) = c.word_for.ensures ∙ ap word_for (c.ends_here.ensures ∙ ap is_ending c.split_at.ensures.back) in
    map_err c.tell_end.result (λ (tells : TellsShown AddsFront c.records.viewer word old new).
    end-front c.args.head.now body c.records.k c.records.viewer inv.viewer (g.K.Sink.written c.args.sink.now) old new inv.written c.records.start inv.begins none word says tells) c.tell_end.ensures.front
