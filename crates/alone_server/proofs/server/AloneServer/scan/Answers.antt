use Rattle.std.proofs.Common.{◌≡◌, ◌∙◌, [], List, Some, length, map, sym, subst, arith}
use Rattle.std.proofs.lemmas.List.{length-map}
use Rattle.own_items.specs.client_seat.Stands.{StandsFor as SeatStandsFor}
use Rattle.own_lists.specs.declared.showing.Showing.{Showing}
use Rattle.match_report.specs.declared.told.Told.TheVariants as told_as
use Rattle.own_lists.specs.Own.{OwnShow as Told}
use Rattle.own_lists.specs.Conditions.{MeetEach}
use Rattle.own_lists.specs.Course.{scan_steps, with_steps}
use Rattle.own_lists.specs.Kept.{kept, with_course, after_scan}
use Rattle.alone_server.specs.declared.periods.OwnPeriod.{OwnPeriod}
use Rattle.own_items.specs.Items.{show_of}
use Rattle.alone_server.specs.Periods.{Holds}
use Rattle.alone_server.specs.Stands.{table_of}
use Rattle.alone_server.proofs.Holding.{holds_changed}
use Rattle.alone_server.proofs.Feeding.{all_short, how_of, hidden_shown, shows_few, scanned}
use Rattle.alone_server.proofs.server.AloneServer.scan.Goals as goal

pub show_all-requires-clause-few : goal.show_all-requires-clause-few
show_all-requires-clause-few c =
    let me = c.args.self.now in
    let r = c.requires in
    let few = shows_few me.client me.seat (table_of me) r.terms r.items r.serves c.args.hides.now c.args.nears.now (map show_of c.args.shows.now) r.follows in
    omega (arith, few, length-map c.args.shows.now show_of)

pub show_all-requires-clause-values : goal.show_all-requires-clause-values
show_all-requires-clause-values c = all_short c.requires.terms c.requires.serves.kinds c.args.shows.now c.requires.follows.values

pub scan-requires : goal.scan-requires
scan-requires c =
    let r = c.requires in
    let hows : map (λ (s : Told). s.how) (map show_of c.args.shows.now) ≡ c.deref.result.now = how_of c.args.shows.now ∙ sym (c.deref.ensures.value ∙ c.in-Ok-showings.ensures) in
    record {
      terms = r.terms;
      course = (kept r.terms r.items).course;
      stands = r.serves.course;
      meet = subst (λ (ss : List Showing). MeetEach r.terms (scan_steps c.args.hides.now c.args.nears.now ss) (kept r.terms r.items).course.steps) hows r.follows.steps;
    }

pub returns-clause-goes : goal.returns-clause-goes
returns-clause-goes c = λ t items s may.
    let me = c.args.self.now in
    let hides = c.args.hides.now in
    let nears = c.args.nears.now in
    let shows : List Told = map show_of c.args.shows.now in
    let k = kept t items in
    let hows : map (λ (y : Told). y.how) shows ≡ c.deref.result.now = how_of c.args.shows.now ∙ sym (c.deref.ensures.value ∙ c.in-Ok-showings.ensures) in
    let course = subst (λ (ss : List Showing). SeatStandsFor c.scan.new.self t (with_steps (scan_steps hides nears ss) k.course)) (sym hows) (c.scan.ensures.stands t k.course s.course) in
    let hid = holds_changed (table_of me) k s.periods hides nears (hidden_shown me.client me.seat (table_of me) t items s hides nears shows may) in
    let kept_hid = subst (λ (ps : List OwnPeriod). Holds (record { shows = me.shows; periods = ps }) (with_course (with_steps (scan_steps hides nears []) k.course) k)) (sym c.hide_all.ensures) hid in
    let held = c.in-Ok.ensures.holds (with_course (with_steps (scan_steps hides nears []) k.course) k) kept_hid in
    scanned me.client me.seat (table_of me) t items s hides nears shows may c.scan.new.self _ c.scan.ensures.keeping course
    (subst (λ n. Holds (record { shows = n; periods = c.show_all.new.periods.items }) (after_scan hides nears shows k)) (sym c.in-Ok.ensures.count) held)

pub returns-clause-told : goal.returns-clause-told
returns-clause-told c = λ t items s named.
    λ j. Some (told_as.Scan (sym s.client j) (length c.args.hides.now) (length c.args.nears.now) (sym (length-map c.args.shows.now show_of) j))
