use Rattle.std.proofs.Common.{◌≡◌, ◌+◌, ◌∙◌, List, length, drop, None, sym, ap, subst, arith}
use Rattle.demo_format.specs.Records.{front_length, records_of}
use Rattle.demo_replay.specs.demo_view.Viewing.{ViewTerms}
use Rattle.demo_replay.specs.demo_view.quantised_fields.declared.kind.Kind.{Kind}
use Rattle.demo_replay.specs.Walking.{DemoState, Begins, IsNext, IsViewerAfter}
use Rattle.demo_replay.proofs.Walking.{when-none, first-viewer, first-begins, next-begins, next-taken, next-viewer, at-end}
use Rattle.demo_seek.specs.Loaded.{AreKeys}
use Rattle.demo_seek.proofs.Keys.{no-key}
use Rattle.demo_seek.proofs.seeking.keys_of.Goals as goal

pub records-init : goal.records-init
records-init g c =
    let d : DemoState = record { head = c.args.head.now; records = records_of c.args.bytes.now } in
    let viewer : IsViewerAfter d 0 c.in_ok-viewer.viewer = first-viewer d c.in_ok-viewer.viewer c.in_ok-viewer.ensures.stands
    (c.in_ok-viewer.ensures.terms
    ∙ ap (λ (kinds : List Kind). let t : ViewTerms = record { client = c.args.head.now.client; version = c.args.head.now.version; kinds = kinds } in t) c.match_kinds.ensures)
    c.in_ok-viewer.ensures.empty in
    let none : AreKeys c.args.head.now c.args.bytes.now 0 c.new-keys.result.items = subst (AreKeys c.args.head.now c.args.bytes.now 0) (sym c.new-keys.ensures.items) (no-key c.args.head.now c.args.bytes.now) in
    record {
      few = omega arith;
      steps = omega arith;
      begins = first-begins c.args.bytes.now;
      viewer = viewer;
      keys = c.in_ok-key_where_due.ensures c.args.head.now c.args.bytes.now none viewer (first-begins c.args.bytes.now);
    }

pub records-preserved : goal.records-preserved
records-preserved g c =
    let d : DemoState = record { head = c.args.head.now; records = records_of c.args.bytes.now } in
    let is : IsNext c.args.bytes.now c.records.start c.in-Some.next.now = c.in-Some.ensures.some in
    let begins : Begins c.args.bytes.now (c.records.count + 1) (c.records.start + (2 + length c.in-Some.next.now)) = next-begins c.args.bytes.now c.records.count c.records.start c.records.invariant.begins c.in-Some.next.now is in
    let viewer : IsViewerAfter d (c.records.count + 1) c.pass_over.new.viewer = next-viewer d c.records.count c.records.viewer c.pass_over.new.viewer c.in-Some.next.now c.records.invariant.viewer c.pass_over.ensures.stands c.pass_over.ensures.terms c.pass_over.ensures.quiet
    (next-taken c.args.bytes.now c.records.count c.records.start c.records.invariant.begins c.in-Some.next.now is) in
    record {
      few = omega (arith, c.records.invariant.few);
      steps = omega (arith, c.records.invariant.steps, c.pass_over.ensures.steps);
      begins = begins;
      viewer = viewer;
      keys = c.in_ok-key_where_due-2.ensures c.args.head.now c.args.bytes.now c.records.invariant.keys viewer begins;
    }

pub returns-in_err-key_where_due-2-clause-steps : goal.returns-in_err-key_where_due-2-clause-steps
returns-in_err-key_where_due-2-clause-steps g c =
    let is : IsNext c.args.bytes.now c.records.start c.in-Some.next.now = c.in-Some.ensures.some in
    let begins : Begins c.args.bytes.now (c.records.count + 1) (c.records.start + (2 + length c.in-Some.next.now)) = next-begins c.args.bytes.now c.records.count c.records.start c.records.invariant.begins c.in-Some.next.now is in
    omega (arith, begins.few, c.records.invariant.steps, c.pass_over.ensures.steps)

pub returns-clause-steps : goal.returns-clause-steps
returns-clause-steps g c = omega (arith, c.records.invariant.begins.few, c.records.invariant.steps)

pub returns-clause-kept : goal.returns-clause-kept
returns-clause-kept g c =
    let none : front_length (drop c.records.start c.args.bytes.now) ≡ None = when-none c.next_record.result c.in_default.is c.next_record.ensures.none in
    record { count = at-end c.args.bytes.now c.records.count c.records.start c.records.invariant.begins none; keys = c.records.invariant.keys }
