use Rattle.std.proofs.Common.{◌≡◌, ◌∙◌, ap, not, arith, length, get_or, sym, length-append}
use Rattle.std.specs.Prelude.{is_some}
use Rattle.world_scope.specs.declared.viewer.Seen.{Seen}
use Rattle.client_scope.specs.Scans.{is_new}
use Rattle.client_scope.specs.Marks.{marked}
use Rattle.client_scope.proofs.Lists.{passed, passed_over, kept_more}
use Rattle.client_scope.proofs.walks.begin.Goals.{then-is_none, else-is_none}
use Rattle.client_scope.proofs.walks.begin.Goals as goal

pub loop-s-preserved : goal.loop-s-preserved
loop-s-preserved c =
    let l = c.loop-s.invariant in
    let p = is_new (marked c.args.marks.now) in
    let i = c.loop-s.s-index in
    let none : Seen = record { object = 0; level = 0 } in
    let seen = get_or c.args.seen.now i none in
    let level : marked c.args.marks.now seen.object ≡ c.marked.result = sym c.marked.ensures in
    elim c.if-is_none.branch [
      | then-is_none w ↦
          let s = w.push_reserved.ensures.items in
          let k = w.push_reserved-then-is_none.ensures.items in
          let few = ap length s ∙ length-append c.loop-s.shows.items _ in
          let long = ap length k ∙ length-append c.loop-s.kept.items _ in
          rw (w.shows-is, w.kept-is, w.n-is) record {
            shows = passed p c.args.seen.now i none c.loop-s.shows.items w.push_reserved.new.self.items c.loop-s-test.true l.shows (ap (λ o. not (is_some o)) level ∙ ap not c.is_none.ensures ∙ ap (λ b. not (not b)) w.if-is_none.true) s;
            kept = kept_more c.args.kept.now.items c.loop-s.kept.items w.push_reserved-then-is_none.new.self.items c.args.count c.loop-s.n c.loop-s.shows.items w.push_reserved.new.self.items seen l.kept l.next s k;
            few = omega (arith, few, l.few);
            next = omega (arith, few, l.next);
            long = omega (arith, few, long, l.long);
            shows_room = w.push_reserved.ensures.capacity ∙ l.shows_room;
            kept_room = w.push_reserved-then-is_none.ensures.capacity ∙ l.kept_room;
          }
      | else-is_none w ↦
          rw (w.shows-is, w.kept-is, w.n-is) record {
            shows = passed_over p c.args.seen.now i none c.loop-s.shows.items c.loop-s-test.true l.shows (ap (λ o. not (is_some o)) level ∙ ap not c.is_none.ensures ∙ ap (λ b. not (not b)) w.if-is_none.false);
            kept = l.kept;
            few = omega (arith, l.few);
            next = l.next;
            long = l.long;
            shows_room = l.shows_room;
            kept_room = l.kept_room;
          }
    ]
