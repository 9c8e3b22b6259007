use Rattle.std.proofs.Common.{◌≡◌, ◌<◌, ◌+◌, ◌∙◌, arith, get_or, length, length-set}
use Rattle.std.proofs.lemmas.List.{drop-set-lt}
use Rattle.client_scope.specs.declared.period.ShownPeriod.{ShownPeriod}
use Rattle.client_scope.specs.Changes.{hidden, moved}
use Rattle.client_scope.specs.Marks.{marked, aged}
use Rattle.client_scope.proofs.Lists.{one_more, few_more, same_there, same_behind, changed_more}
use Rattle.client_scope.proofs.walks.age.Goals as goal

pub bounds-marks-shown : goal.bounds-marks-shown
bounds-marks-shown c =
    let l = c.loop-i.invariant in
    let xs = c.args.shown.now in
    let i = c.loop-i.i in
    let none : ShownPeriod = record { n = 0; object = 0; level = 0 } in
    let within : i < length xs = omega (arith, c.loop-i-test.true, l.long) in
    let same : get_or c.loop-i.shown i none ≡ get_or xs i none = same_there c.loop-i.shown xs i none l.rest in
    let there : (get_or xs i none).object < 1024 = c.requires.there i none within in
    rw same (omega (arith, there, c.requires.marks))

pub loop-i-preserved : goal.loop-i-preserved
loop-i-preserved c =
    let l = c.loop-i.invariant in
    let e = c.age_one.ensures in
    let level = marked c.args.marks.now in
    let xs = c.args.shown.now in
    let i = c.loop-i.i in
    let none : ShownPeriod = record { n = 0; object = 0; level = 0 } in
    let p = get_or xs i none in
    let within : i < length xs = omega (arith, c.loop-i-test.true, l.long) in
    let inside : i < length c.loop-i.shown = omega (arith, within, l.long) in
    let next : i < i + 1 = omega arith in
    let same : get_or c.loop-i.shown i none ≡ p = same_there c.loop-i.shown xs i none l.rest in
    record {
      long = length-set c.loop-i.shown _ _ ∙ l.long;
      aged = changed_more (aged level) c.loop-i.shown xs i none c.age_one.new.p inside within l.aged (rw same at e.aged);
      rest = drop-set-lt (i + 1) c.loop-i.shown i c.age_one.new.p next ∙ same_behind c.loop-i.shown xs i l.rest;
      hides = one_more (hidden level) xs i none c.loop-i.hides.items c.age_one.new.hides.items within l.hides (rw same at e.hides);
      nears = one_more (moved level) xs i none c.loop-i.nears.items c.age_one.new.nears.items within l.nears (rw same at e.nears);
      hides_few = few_more (hidden level) c.loop-i.hides.items c.age_one.new.hides.items p i l.hides_few (rw same at e.hides);
      nears_few = few_more (moved level) c.loop-i.nears.items c.age_one.new.nears.items p i l.nears_few (rw same at e.nears);
      hides_room = e.hides_same ∙ l.hides_room;
      nears_room = e.nears_same ∙ l.nears_room;
    }
