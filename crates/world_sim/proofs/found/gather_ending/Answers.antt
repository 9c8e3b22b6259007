use Rattle.std.proofs.Common.{◌≡◌, ◌∙◌, ◌<◌, ◌≤◌, ◌+◌, List, length, ℕ, Bool, arith, ap, refl}
use Rattle.world_rules.specs.Discs.{is_hitting}
use Rattle.world_sim.specs.Found.{is_triggered_by, is_flag}
use Rattle.world_sim.proofs.Glancing.{glance_is}
use Rattle.world_sim.proofs.Gathered.{filter_more, marked, marked_more, marked_all, marked_length, ending_now}
use Rattle.world_sim.proofs.Going.{none_marked, over_between, over_matters_not, over_ends_not, filter_passed, marked_passed}
use Rattle.world_sim.proofs.found.gather_ending.Goals as goal

pub find_one-requires-clause-number : goal.find_one-requires-clause-number
find_one-requires-clause-number c =
    let many : length c.loop-i.picked.marks.items ≡ length c.args.search.now.objects.now = ap (λ (bs : List Bool). length bs) c.loop-i.invariant.marks ∙ marked_length c.loop-i.i _ c.args.search.now.objects.now in
    omega (arith, many, c.loop-i-test.true)

pub find_one-requires-clause-glance : goal.find_one-requires-clause-glance
find_one-requires-clause-glance c = glance_is c.args.search.now.objects.now c.args.glances.now c.loop-i.i _ _ c.requires.glances (omega (arith, c.loop-i-test.true))

pub loop-i-preserved : goal.loop-i-preserved
loop-i-preserved c =
    let os = c.args.search.now.objects.now in
    let standing = c.args.search.now.standing.now in
    let i = c.loop-i.i in
    let l : i < length os = omega (arith, c.loop-i-test.true) in
    let to = c.next-i-in-loop-i.result in
    let most : to ≤ length os = omega (arith, c.next-i-in-loop-i.ensures.most) in
    let over = over_between c.args.going.now os (i + 1) to (omega (arith, most, c.requires.most)) c.requires.going c.next-i-in-loop-i.ensures.none in
    let order = c.next-i-in-loop-i.ensures.order in
    record {
      most = most;
      flags = filter_passed is_flag _ os (i + 1) to order most over (λ o e. (over_matters_not os standing o e).flag) (filter_more is_flag c.loop-i.picked.flags.items c.find_one.new.picked.flags.items os i _ _ c.loop-i.invariant.flags l refl c.in_ok-find_one.ensures.flags);
      hitting = filter_passed (is_hitting os) _ os (i + 1) to order most over (λ o e. (over_matters_not os standing o e).hit) (filter_more (is_hitting os) c.loop-i.picked.hitting.items c.find_one.new.picked.hitting.items os i _ _ c.loop-i.invariant.hitting l refl c.in_ok-find_one.ensures.hitting);
      triggered = filter_passed (is_triggered_by standing) _ os (i + 1) to order most over (λ o e. (over_matters_not os standing o e).trigger) (filter_more (is_triggered_by standing) c.loop-i.picked.triggered.items c.find_one.new.picked.triggered.items os i _ _ c.loop-i.invariant.triggered l refl c.in_ok-find_one.ensures.triggered);
      marks = marked_passed (ending_now os standing) _ os (i + 1) to order most over (over_ends_not os standing) (marked_more _ i (ending_now os standing) os _ c.loop-i.picked.marks.items c.find_one.new.picked.marks.items c.loop-i.invariant.marks l refl c.in_ok-find_one.ensures.marks);
    }

pub loop-i-init : goal.loop-i-init
loop-i-init c =
    let os = c.args.search.now.objects.now in
    let standing = c.args.search.now.standing.now in
    let to = c.next-i.result in
    let most : to ≤ length os = omega (arith, c.next-i.ensures.most) in
    let over = over_between c.args.going.now os 0 to (omega (arith, most, c.requires.most)) c.requires.going c.next-i.ensures.none in
    let order = c.next-i.ensures.order in
    let unmarked : c.resize.new.self.items ≡ marked 0 (ending_now os standing) os = none_marked (length os) _ c.clear-4.new.self.items c.resize.new.self.items c.clear-4.ensures.items c.clear-4.ensures.len c.in_ok-resize.ensures.items in
    record {
      most = most;
      flags = filter_passed is_flag c.clear.new.self.items os 0 to order most over (λ o e. (over_matters_not os standing o e).flag) c.clear.ensures.items;
      hitting = filter_passed (is_hitting os) c.clear-2.new.self.items os 0 to order most over (λ o e. (over_matters_not os standing o e).hit) c.clear-2.ensures.items;
      triggered = filter_passed (is_triggered_by standing) c.clear-3.new.self.items os 0 to order most over (λ o e. (over_matters_not os standing o e).trigger) c.clear-3.ensures.items;
      marks = marked_passed (ending_now os standing) c.resize.new.self.items os 0 to order most over (over_ends_not os standing) unmarked;
    }

pub returns-clause-marks : goal.returns-clause-marks
returns-clause-marks c =
    let end : c.loop-i.i ≡ length c.args.search.now.objects.now = omega (arith, c.loop-i-test.false, c.loop-i.invariant.most) in
    c.loop-i.invariant.marks ∙ ap (λ (n : ℕ). marked n (ending_now c.args.search.now.objects.now c.args.search.now.standing.now) c.args.search.now.objects.now) end ∙ marked_all (ending_now c.args.search.now.objects.now c.args.search.now.standing.now) c.args.search.now.objects.now
