use Rattle.std.proofs.Common.{◌≡◌, ℕ, drop, None, subst, arith}
use Rattle.demo_format.specs.Records.{front_length, records_of}
use Rattle.demo_replay.specs.Walking.{DemoState, IsNext, IsViewerAfter}
use Rattle.demo_replay.proofs.Walking.{when-none, first-begins, next-begins, next-taken, next-viewer, at-end, after-all}
use Rattle.demo_replay.proofs.replaying.pass_first.Goals as goal

pub going-init : goal.going-init
going-init c = record { begins = first-begins c.args.body.now; quiet = c.requires; walked = λ head is. is }

pub returns-in_default : goal.returns-in_default
returns-in_default c head is =
    let d : DemoState = record { head = head; records = records_of c.args.body.now } in
    let none : front_length (drop c.going.at c.args.body.now) ≡ None = when-none c.next_record.result c.in_default.is c.next_record.ensures.none in
    after-all d c.going.i c.args.count c.going.viewer (c.going.invariant.walked head is) (at-end c.args.body.now c.going.i c.going.at c.going.invariant.begins none) (omega arith)

pub going-preserved : goal.going-preserved
going-preserved c =
    let is : IsNext c.args.body.now c.going.at c.in-Some.next.now = c.in-Some.ensures.some in
    record {
      begins = next-begins c.args.body.now c.going.i c.going.at c.going.invariant.begins c.in-Some.next.now is;
      quiet = c.pass_by.ensures.quiet;
      walked = λ head was.
          next-viewer (record { head = head; records = records_of c.args.body.now }) c.going.i c.going.viewer c.pass_by.new.viewer c.in-Some.next.now (c.going.invariant.walked head was)
          c.pass_by.ensures.stands c.pass_by.ensures.terms c.pass_by.ensures.quiet (next-taken c.args.body.now c.going.i c.going.at c.going.invariant.begins c.in-Some.next.now is);
    }

pub returns : goal.returns
returns c head is =
    let all : c.going.i ≡ c.args.count = omega arith in
    subst (λ (n : ℕ). IsViewerAfter (record { head = head; records = records_of c.args.body.now }) n c.going.viewer) all (c.going.invariant.walked head is)
