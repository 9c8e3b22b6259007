use Rattle.std.proofs.Common.{◌≡◌, ◌<◌, ◌+◌, ◌^◌, ◌++◌, length, OnErr, Result, Ok, Err, sym, ap, ◌∙◌, refl, arith, List}
use Rattle.std.specs.Int.{trailing_zeros, w64}
use Rattle.std.specs.List.{cons_option}
use Rattle.world_scope.specs.declared.viewer.Seen.{Seen}
use Rattle.world_scope.specs.Views.{look}
use Rattle.world_scope.specs.Candidates.{may_see, to_come}
use Rattle.world_scope.proofs.Rests.{whole, lowest, rest_next}
use Rattle.world_scope.proofs.Walking.{there, alive_there, count_next, count_end, later_fewer, come_next, come_end, added_on, front_most}
use Rattle.world_scope.proofs.gather.gather_bits.Goals as goal

any_err : {A E P : Type 0} → (r : Result A E) → P → OnErr r P
any_err (Ok a) p = tt
any_err (Err e) p = p

pub look_at-requires-clause-there : goal.look_at-requires-clause-there
look_at-requires-clause-there g c =
    let some : 0 < c.loop-rest.rest = omega (arith, c.loop-rest-test.true) in
    let small : c.loop-rest.rest < 2 ^ 64 = c.loop-rest.invariant.fits in
    there c.args.bits c.args.part.now.from c.loop-rest.rest c.loop-rest.next (may_see (look c.args.walk.now.viewer.now)) c.args.walk.now.world.now.objects some small c.loop-rest.invariant.left c.requires.part.marked

pub look_at-requires-clause-alive : goal.look_at-requires-clause-alive
look_at-requires-clause-alive g c =
    let some : 0 < c.loop-rest.rest = omega (arith, c.loop-rest-test.true) in
    alive_there c.args.bits c.args.part.now.from c.loop-rest.rest c.loop-rest.next (look c.args.walk.now.viewer.now) c.args.walk.now.world.now some c.loop-rest.invariant.fits c.loop-rest.invariant.left c.requires.part.marked

pub returns-in_err-out-clause-room : goal.returns-in_err-out-clause-room
returns-in_err-out-clause-room g c =
    let v = look c.args.walk.now.viewer.now in
    let os = c.args.walk.now.world.now.objects in
    let some : 0 < c.loop-rest.rest = omega (arith, c.loop-rest-test.true) in
    let small : c.loop-rest.rest < 2 ^ 64 = c.loop-rest.invariant.fits in
    let come = come_next c.args.bits c.args.part.now.from c.loop-rest.rest c.loop-rest.next v os c.look_at.result some small c.loop-rest.invariant.left c.requires.part.marked c.requires.part.owned c.look_at.ensures.seen in
    let whole_is : c.loop-rest.out.items ++ cons_option c.look_at.result (to_come v os (c.args.part.now.from + trailing_zeros w64 c.loop-rest.rest + 1)) ≡ c.args.list.items ++ to_come v os c.args.part.now.from = ap (λ (ys : List Seen). c.loop-rest.out.items ++ ys) (sym come) ∙ c.loop-rest.invariant.so_far in
    let most = front_most c.loop-rest.out.items (to_come v os (c.args.part.now.from + trailing_zeros w64 c.loop-rest.rest + 1)) c.look_at.result in
    any_err c.from_residual.result (omega (arith, c.in_err-out.ensures.room, c.loop-rest.invariant.room, most, ap (λ (ys : List Seen). length ys) whole_is))

pub returns-in_err-out-clause-steps : goal.returns-in_err-out-clause-steps
returns-in_err-out-clause-steps g c =
    let p = may_see (look c.args.walk.now.viewer.now) in
    let os = c.args.walk.now.world.now.objects in
    let some : 0 < c.loop-rest.rest = omega (arith, c.loop-rest-test.true) in
    let small : c.loop-rest.rest < 2 ^ 64 = c.loop-rest.invariant.fits in
    let s = trailing_zeros w64 c.loop-rest.rest in
    let low = lowest c.args.bits c.args.part.now.from c.loop-rest.rest c.loop-rest.next some small c.loop-rest.invariant.left in
    let more = count_next c.args.bits c.args.part.now.from c.loop-rest.rest c.loop-rest.next p os some small c.loop-rest.invariant.left c.requires.part.marked in
    let later = later_fewer p os (c.args.part.now.from + s + 1) (c.args.part.now.from + 64) (omega (arith, low.within)) in
    omega (arith, more, later, c.look_at.ensures.steps, c.loop-rest.invariant.steps)

pub loop-rest-init : goal.loop-rest-init
loop-rest-init g c = record {
  fits = c.ranges.bits.fits;
  left = whole c.args.bits c.args.part.now.from;
  so_far = refl;
  room = omega arith;
  steps = refl;
}

pub loop-rest-preserved : goal.loop-rest-preserved
loop-rest-preserved g c =
    let v = look c.args.walk.now.viewer.now in
    let os = c.args.walk.now.world.now.objects in
    let some : 0 < c.loop-rest.rest = omega (arith, c.loop-rest-test.true) in
    let small : c.loop-rest.rest < 2 ^ 64 = c.loop-rest.invariant.fits in
    let later = to_come v os (c.args.part.now.from + trailing_zeros w64 c.loop-rest.rest + 1) in
    let come = come_next c.args.bits c.args.part.now.from c.loop-rest.rest c.loop-rest.next v os c.look_at.result some small c.loop-rest.invariant.left c.requires.part.marked c.requires.part.owned c.look_at.ensures.seen in
    let more = count_next c.args.bits c.args.part.now.from c.loop-rest.rest c.loop-rest.next (may_see v) os some small c.loop-rest.invariant.left c.requires.part.marked in
    let whole_is : c.loop-rest.out.items ++ cons_option c.look_at.result later ≡ c.args.list.items ++ to_come v os c.args.part.now.from = ap (λ (ys : List Seen). c.loop-rest.out.items ++ ys) (sym come) ∙ c.loop-rest.invariant.so_far in
    record {
      fits = omega (arith, small, c.without_lowest-rest.ensures.less);
      left = rest_next c.args.bits c.args.part.now.from c.loop-rest.rest c.loop-rest.next c.without_lowest-rest.result some small c.loop-rest.invariant.left c.without_lowest-rest.ensures.bits;
      so_far =
          ap (λ (ys : List Seen). ys ++ later) c.in_ok-out.ensures.ok
          ∙ added_on c.loop-rest.out.items later c.look_at.result
          ∙ whole_is;
      room = omega (arith, c.loop-rest.invariant.room, c.in_ok-out.ensures.kept);
      steps = omega (arith, more, c.look_at.ensures.steps, c.loop-rest.invariant.steps);
    }

pub returns-clause-ok : goal.returns-clause-ok
returns-clause-ok g c =
    let end = come_end c.args.bits c.args.part.now.from c.loop-rest.rest c.loop-rest.next (look c.args.walk.now.viewer.now) c.args.walk.now.world.now.objects (omega (arith, c.loop-rest-test.false)) c.loop-rest.invariant.left c.requires.part.marked c.requires.part.owned in
    ap (λ (ys : List Seen). c.loop-rest.out.items ++ ys) (sym end) ∙ c.loop-rest.invariant.so_far

pub returns-clause-steps : goal.returns-clause-steps
returns-clause-steps g c =
    let end = count_end c.args.bits c.args.part.now.from c.loop-rest.rest c.loop-rest.next (may_see (look c.args.walk.now.viewer.now)) c.args.walk.now.world.now.objects (omega (arith, c.loop-rest-test.false)) c.loop-rest.invariant.left c.requires.part.marked in
    omega (arith, end, c.loop-rest.invariant.steps)
