use Rattle.std.proofs.Common.{◌≡◌, ◌∙◌, List, ◌∷◌, Ok, Err, Some, ap, subst, sym, arith, take}
use Rattle.std.proofs.lemmas.List.{length-reverse, length-take}
use Rattle.std.specs.Prelude.{slice_get, OnOk, Result}
use Rattle.own_items.specs.Source.{SourceState, StandsFor, Stands, first_lines, made}
use Rattle.own_items.specs.declared.items.OwnItem.{OwnItem}
use Rattle.own_items.specs.Items.{item_of}
use Rattle.match_script.specs.declared.types.BodyLine.{BodyLine}
use Rattle.own_lists.specs.Past.{after, taken_from}
use Rattle.own_lists.proofs.Counting.{counted_few}
use Rattle.own_items.proofs.Stepping.{stepped, added, makes_one, makes_none}
use Rattle.own_items.proofs.source.OwnSource.step.Goals as goal
use Rattle.own_items.proofs.source.OwnSource.step.Goals.{in-Some, in-None}

on_ok : {T E : Type 0} (r : Result T E) (A : Type 0) → A → OnOk r A
on_ok (Ok x) A a = a
on_ok (Err e) A a = tt

pub returns-clause-stands : goal.returns-clause-stands
returns-clause-stands c =
    let v : SourceState = record { script = c.self.inside.script.now; client = c.self.inside.client; game = c.self.inside.game; place = c.self.inside.place } in
    let h : Stands v = subst Stands (sym c.self.view_is) c.requires.stands in
    let there = subst (λ (x : SourceState). slice_get x.script.body x.place ≡ Some c.args.line.now) (sym c.self.view_is) c.requires.next in
    on_ok c.match-branch-3.result _ (stepped v c.args.line.now h there c.feed.new.self c.in_ok-feed.ensures.script c.in_ok-feed.ensures.stands)

pub returns-clause-item : goal.returns-clause-item
returns-clause-item c = elim c.match-branch-3.branch [
  | in-Some w ↦
      λ e.
      let v : SourceState = record { script = c.self.inside.script.now; client = c.self.inside.client; game = c.self.inside.game; place = c.self.inside.place } in
      let h : Stands v = subst Stands (sym c.self.view_is) c.requires.stands in
      let there = subst (λ (x : SourceState). slice_get x.script.body x.place ≡ Some c.args.line.now) (sym c.self.view_is) c.requires.next in
      let same = c.in_ok-feed.ensures.script in
      let does = c.in_ok-feed.ensures.stands in
      let took : (past : List BodyLine) → StandsFor v past → c.taken-taken.result ≡ taken_from v.script.head (after v.script.head past) v.client = subst (λ (x : SourceState). (past : List BodyLine) → StandsFor x past → c.taken-taken.result ≡ taken_from x.script.head (after x.script.head past) x.client) (sym c.self.view_is) c.taken-taken.ensures in
      let add = added v c.args.line.now h there c.feed.new.self same does c.in_ok-next.field-0 c.taken-taken.result took c.in_ok-next.ensures in
      let one = makes_one v c.args.line.now h there c.feed.new.self same does c.in_ok-next.field-0 _ w.in-Some.is add in
      one ∙ ap (λ (i : OwnItem). item_of i ∷ made v) (sym w.item-is) ∙ ap (λ (x : SourceState). item_of c.match-branch-3.item ∷ made x) c.self.view_is
  | in-None w ↦ λ e. absurd (cc)
]

pub returns-clause-no_item : goal.returns-clause-no_item
returns-clause-no_item c = elim c.match-branch-3.branch [
  | in-Some w ↦ λ e. absurd (cc)
  | in-None w ↦
      λ e.
      let v : SourceState = record { script = c.self.inside.script.now; client = c.self.inside.client; game = c.self.inside.game; place = c.self.inside.place } in
      let h : Stands v = subst Stands (sym c.self.view_is) c.requires.stands in
      let there = subst (λ (x : SourceState). slice_get x.script.body x.place ≡ Some c.args.line.now) (sym c.self.view_is) c.requires.next in
      let same = c.in_ok-feed.ensures.script in
      let does = c.in_ok-feed.ensures.stands in
      let took : (past : List BodyLine) → StandsFor v past → c.taken-taken.result ≡ taken_from v.script.head (after v.script.head past) v.client = subst (λ (x : SourceState). (past : List BodyLine) → StandsFor x past → c.taken-taken.result ≡ taken_from x.script.head (after x.script.head past) x.client) (sym c.self.view_is) c.taken-taken.ensures in
      let add = added v c.args.line.now h there c.feed.new.self same does c.in_ok-next.field-0 c.taken-taken.result took c.in_ok-next.ensures in
      let none = makes_none v c.args.line.now h there c.feed.new.self same does c.in_ok-next.field-0 w.in-None.is add in
      none ∙ ap (λ (x : SourceState). made x) c.self.view_is
]

-- a match that is fed with a script's own lines has never too many
pub feed-requires-clause-few : goal.feed-requires-clause-few
feed-requires-clause-few c =
    let v : SourceState = record { script = c.self.inside.script.now; client = c.self.inside.client; game = c.self.inside.game; place = c.self.inside.place } in
    let h : Stands v = subst Stands (sym c.self.view_is) c.requires.stands in
    let few = counted_few (first_lines v.script v.place) in
    let turned = length-reverse (take v.place v.script.body) in
    omega (arith, h.game.game.counted, few, turned, length-take v.place v.script.body, h.ranges.few)
