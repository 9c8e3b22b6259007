use Rattle.std.proofs.Common.{◌+◌, ◌++◌, sym, ap, ◌∙◌, arith, List, take, append_assoc}
use Rattle.world_scope.specs.declared.viewer.Seen.{Seen}
use Rattle.world_scope.specs.Views.{look}
use Rattle.world_scope.specs.Rings.{entries}
use Rattle.world_scope.specs.Candidates.{may_see, to_come}
use Rattle.world_scope.proofs.WholeWords.{IsWhole, levels_few, all_pass, whole_seen, come_all, count_same, room_all, count_whole, if_ok, on_err}
use Rattle.world_scope.proofs.gather.gather_word.Goals as goal

pub add_all-requires-clause-few : goal.add_all-requires-clause-few
add_all-requires-clause-few g c =
    let yes = c.if-is_whole.true in
    levels_few c.args.walk.now.viewer.now c.args.part.now.places c.is_whole.new.levels (c.is_whole.ensures.player yes) (c.is_whole.ensures.levels yes)

pub add_all-requires-clause-there : goal.add_all-requires-clause-there
add_all-requires-clause-there g c =
    let some = c.is_whole.ensures.some c.if-is_whole.true in
    omega (arith, some, c.front_count-count.ensures.count some)

pub returns-then-is_whole-clause-ok : goal.returns-then-is_whole-clause-ok
returns-then-is_whole-clause-ok g c =
    let v = look c.args.walk.now.viewer.now in
    let os = c.args.walk.now.world.now.objects in
    let from = c.args.part.now.from in
    let old = c.args.list.items in
    let levels = c.is_whole.new.levels in
    let yes = c.if-is_whole.true in
    let whole : IsWhole c.args.walk.now.viewer.now c.args.part.now.places c.args.bits from c.front_count-count.result levels os = record {
      few = c.front_count-count.ensures.few;
      full = c.is_whole.ensures.word yes;
      ready = c.requires.part.ready;
      has = c.requires.part.placed;
      plain = c.is_whole.ensures.plain yes;
      owned = c.requires.part.owned;
      bits = c.requires.part.marked;
      near = c.is_whole.ensures.levels yes;
    } in
    let come = come_all v os from c.front_count-count.result levels c.is_whole.array_long (c.front_count-count.ensures.count (c.is_whole.ensures.some c.if-is_whole.true)) (whole_seen c.args.walk.now.viewer.now c.args.part.now.places c.args.bits from c.front_count-count.result levels os whole) in
    if_ok c.add_all.result c.add_all.ensures.ok (λ longer e. ap (λ (ys : List Seen). ys ++ to_come v os (from + 64)) e ∙ append_assoc old (entries from (take c.front_count-count.result levels)) (to_come v os (from + 64)) ∙ ap (λ (ys : List Seen). old ++ ys) (sym come))

pub returns-then-is_whole-clause-room : goal.returns-then-is_whole-clause-room
returns-then-is_whole-clause-room g c =
    let v = look c.args.walk.now.viewer.now in
    let os = c.args.walk.now.world.now.objects in
    let from = c.args.part.now.from in
    let levels = c.is_whole.new.levels in
    let yes = c.if-is_whole.true in
    let whole : IsWhole c.args.walk.now.viewer.now c.args.part.now.places c.args.bits from c.front_count-count.result levels os = record {
      few = c.front_count-count.ensures.few;
      full = c.is_whole.ensures.word yes;
      ready = c.requires.part.ready;
      has = c.requires.part.placed;
      plain = c.is_whole.ensures.plain yes;
      owned = c.requires.part.owned;
      bits = c.requires.part.marked;
      near = c.is_whole.ensures.levels yes;
    } in
    let come = come_all v os from c.front_count-count.result levels c.is_whole.array_long (c.front_count-count.ensures.count (c.is_whole.ensures.some c.if-is_whole.true)) (whole_seen c.args.walk.now.viewer.now c.args.part.now.places c.args.bits from c.front_count-count.result levels os whole) in
    on_err c.add_all.result c.add_all.ensures.room (λ l. room_all c.args.list.items levels from c.front_count-count.result (to_come v os from) (to_come v os (from + 64)) (omega (arith, c.is_whole.array_long, (c.front_count-count.ensures.count (c.is_whole.ensures.some c.if-is_whole.true)))) come l)

pub returns-then-is_whole-clause-steps : goal.returns-then-is_whole-clause-steps
returns-then-is_whole-clause-steps g c =
    let p = may_see (look c.args.walk.now.viewer.now) in
    let os = c.args.walk.now.world.now.objects in
    let count = count_whole p os c.args.part.now.from c.front_count-count.result (all_pass c.args.bits c.args.part.now.from c.front_count-count.result p os c.requires.part.marked (omega (arith, (c.front_count-count.ensures.count (c.is_whole.ensures.some c.if-is_whole.true)))) (c.is_whole.ensures.word c.if-is_whole.true)) in
    let same = count_same p os c.args.part.now.from c.front_count-count.result (c.front_count-count.ensures.count (c.is_whole.ensures.some c.if-is_whole.true)) in
    omega (arith, count, same, c.add_all.ensures.steps)
