use Rattle.std.proofs.Common.{◌≤◌, ◌+◌, ◌≡◌, ◌++◌, arith, ap, sym, ◌∙◌, refl, length, take, drop}
use Rattle.std.specs.List.{filter_map, filter}
use Rattle.client_scope.specs.Scans.{is_new}
use Rattle.client_scope.specs.Changes.{hidden, moved}
use Rattle.client_scope.specs.Marks.{marked, goes_on, begun}
use Rattle.client_scope.specs.StandsFor.{Table}
use Rattle.client_scope.proofs.Lists.{written_back}
use Rattle.client_scope.proofs.Apart.{rising_apart}
use Rattle.client_scope.proofs.Standing.{one_more_scan, still_there}
use Rattle.client_scope.proofs.scope.Scope.scanned.Goals as goal

pub returns-clause-stands : goal.returns-clause-stands
returns-clause-stands c =
    let t = c.args.self.now in
    let shown : c.reserve-4.new.self.items ≡ t.shown = c.reserve-4.ensures.items ∙ ap (λ (u : Table). u.shown) c.self.view_is in
    let marks : c.deref-2.result.now ≡ t.marks = c.deref-2.ensures.value ∙ ap (λ (u : Table). u.marks) c.self.view_is in
    let first : c.self.inside.count ≡ t.count = ap (λ (u : Table). u.count) c.self.view_is in
    let f = c.self.inside.fresh in
    let now = c.mark_all.new.marks in
    let wrote : take f.len (now ++ drop (length now) f.items) ≡ now = written_back now f.items f.len 1024 f.ok.0 c.self.invariant.1 c.mark_all.ensures.room in
    let fresh : c.deref.result.now ≡ c.mark_all.new.marks = c.deref.ensures.value ∙ wrote in
    let hides : c.go_on.new.hides.items ≡ filter_map (hidden (marked c.deref.result.now)) c.reserve-4.new.self.items = c.go_on.ensures.hides in
    let nears : c.go_on.new.nears.items ≡ filter_map (moved (marked c.deref.result.now)) c.reserve-4.new.self.items = c.go_on.ensures.nears in
    let kept : c.go_on.new.shown.items ≡ filter_map (goes_on (marked c.deref.result.now)) c.reserve-4.new.self.items = c.go_on.ensures.shown in
    let shows : c.begin-self-inside.new.shows.items ≡ filter (is_new (marked c.deref-2.result.now)) c.args.seen.now = c.begin-self-inside.ensures.shows in
    let all : c.begin-self-inside.new.kept.items ≡ c.go_on.new.shown.items ++ begun c.self.inside.count (filter (is_new (marked c.deref-2.result.now)) c.args.seen.now) = c.begin-self-inside.ensures.kept in
    let count : c.begin-self-inside.result ≡ c.self.inside.count + length (filter (is_new (marked c.deref-2.result.now)) c.args.seen.now) = c.begin-self-inside.ensures.count in
    one_more_scan t _ c.args.seen.now now (rising_apart c.args.seen.now c.requires.rising) c.mark_all.ensures.marks record {
      hides = rw (sym shown, sym fresh) hides;
      nears = rw (sym shown, sym fresh) nears;
      shows = rw (sym marks) shows;
      shown = all ∙ rw (kept, shown, fresh, marks, first) refl;
      count = rw (sym marks, sym first) count;
      marks = rw c.swap.ensures.x_after wrote;
    }

pub invariant_of-self-2 : goal.invariant_of-self-2
invariant_of-self-2 c =
    let f = c.self.inside.fresh in
    let now = c.mark_all.new.marks in
    let wrote : take f.len (now ++ drop (length now) f.items) ≡ now = written_back now f.items f.len 1024 f.ok.0 c.self.invariant.1 c.mark_all.ensures.room in
    let kept : c.go_on.new.shown.items ≡ filter_map (goes_on (marked c.deref.result.now)) c.self.inside.shown.items = c.go_on.ensures.shown ∙ ap (filter_map (goes_on (marked c.deref.result.now))) c.reserve-4.ensures.items in
    let all : c.begin-self-inside.new.kept.items ≡ filter_map (goes_on (marked c.deref.result.now)) c.self.inside.shown.items ++ begun c.self.inside.count (filter (is_new (marked c.deref-2.result.now)) c.args.seen.now) = c.begin-self-inside.ensures.kept ∙ rw kept refl in (
      rw c.swap.ensures.x_after (ap length wrote ∙ c.mark_all.ensures.room),
      rw c.swap.ensures.y_after c.self.invariant.0,
      still_there 1024 c.self.inside.count (marked c.deref.result.now) (is_new (marked c.deref-2.result.now)) c.self.inside.shown.items c.begin-self-inside.new.kept.items c.args.seen.now c.self.invariant.2 c.requires.there all,
    )

pub returns-clause-count : goal.returns-clause-count
returns-clause-count c =
    let first : c.self.inside.count ≡ c.args.self.now.count = ap (λ (u : Table). u.count) c.self.view_is in
    let few : c.begin-self-inside.result ≤ c.self.inside.count + length c.args.seen.now = c.begin-self-inside.ensures.few in
    omega (arith, first, few)
