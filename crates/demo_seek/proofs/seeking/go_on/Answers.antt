use Rattle.std.proofs.Common.{◌≡◌, ◌+◌, ℕ, length, drop, None, subst, arith}
use Rattle.demo_format.specs.Records.{front_length, records_of}
use Rattle.demo_replay.specs.Walking.{DemoState, Begins, IsNext, IsViewerAfter}
use Rattle.demo_replay.proofs.Walking.{when-none, next-begins, next-taken, next-viewer, at-end}
use Rattle.demo_seek.proofs.seeking.go_on.Goals as goal

pub returns-in_default-clause-viewer : goal.returns-in_default-clause-viewer
returns-in_default-clause-viewer g c head n begins few is =
    let none : front_length (drop c.going.at c.args.bytes.now) ≡ None = when-none c.next_record.result c.in_default.is c.next_record.ensures.none in
    let there = c.going.invariant.walked head n begins few is in
    let ended : n + c.going.i ≡ length (records_of c.args.bytes.now) = at-end c.args.bytes.now (n + c.going.i) c.going.at there.0 none in
    absurd (omega (arith, ended, few, c.going-test.true))

pub going-preserved : goal.going-preserved
going-preserved g c =
    let is : IsNext c.args.bytes.now c.going.at c.in-Some.next.now = c.in-Some.ensures.some in
    record {
      within = is.fits;
      quiet = c.pass_over.ensures.quiet;
      steps = omega (arith, c.pass_over.ensures.steps, c.going.invariant.steps);
      walked = λ head n begins few was.
          let there = c.going.invariant.walked head n begins few was in
          let sum : n + c.going.i + 1 ≡ n + (c.going.i + 1) = omega arith in
          let d : DemoState = record { head = head; records = records_of c.args.bytes.now } in (
            subst (λ (m : ℕ). Begins c.args.bytes.now m (c.going.at + (2 + length c.in-Some.next.now))) sum (next-begins c.args.bytes.now (n + c.going.i) c.going.at there.0 c.in-Some.next.now is),
            subst (λ (m : ℕ). IsViewerAfter d m c.pass_over.new.viewer) sum
                (next-viewer d (n + c.going.i) c.going.viewer c.pass_over.new.viewer c.in-Some.next.now there.1 c.pass_over.ensures.stands c.pass_over.ensures.terms c.pass_over.ensures.quiet
                (next-taken c.args.bytes.now (n + c.going.i) c.going.at there.0 c.in-Some.next.now is)),
          );
    }
