use Rattle.std.proofs.Common.{◌≡◌, ◌∙◌, ◌∷◌, Some, None, sym, ap, subst, arith}
use Rattle.std.specs.Prelude.{Result, Ok, Err, OnOk}
use Rattle.std.specs.Option.{option_copied}
use Rattle.match_script.specs.declared.types.Script.{Script}
use Rattle.relay_report.specs.match_engine.Match.{last_told}
use Rattle.relay_report.specs.match_engine.match_laws.Report.{told_after}
use Rattle.own_lists.specs.pair_core.stream_manager.Stands.{ClientState}
use Rattle.own_lists.proofs.Counting.{counted_few}
use Rattle.relay_report.specs.Met.{match_past}
use Rattle.relay_node.specs.Node.{NodeState, Stands, events_taken}
use Rattle.relay_node.proofs.Places.{few_lines}
use Rattle.relay_node.proofs.Playing.{lent_kinds, lent_seen, quiet, may_all, taken}
use Rattle.relay_node.proofs.node.Node.play.Goals as goal

map-ok : {T E P Q : Type 0} (r : Result T E) → (P → Q) → OnOk r P → OnOk r Q
map-ok (Ok x) f p = f p
map-ok (Err e) f p = tt

pub feed-requires-clause-few : goal.feed-requires-clause-few
feed-requires-clause-few c =
    let r = c.requires in
    let n : NodeState = record { relay = c.self.inside.relay; game = c.self.inside.game; board = c.self.inside.board; spectators = c.self.inside.spectators.items } in
    let before : Stands n r.past = subst (λ (x : NodeState). Stands x r.past) (sym c.self.view_is) r.stands in
    let counted = before.game.game.counted in
    let few = counted_few (match_past r.past) in
    let lines = few_lines r.past in
    let lt = r.few in
    omega (arith, counted, few, lines, lt)

pub returns-in_default-events_taken-clause-plays : goal.returns-in_default-events_taken-clause-plays
returns-in_default-events_taken-clause-plays c past stands few =
    let line = c.args.line.now in
    let n : NodeState = record { relay = c.self.inside.relay; game = c.self.inside.game; board = c.self.inside.board; spectators = c.self.inside.spectators.items } in
    let before : Stands n past = subst (λ (x : NodeState). Stands x past) (sym c.self.view_is) stands in
    let game = c.feed.new.self in
    let same : game.script ≡ n.game.script = c.in_ok-feed.ensures.script in
    let done = c.in_ok-feed.ensures.stands (match_past past) before.game in
    let last = c.told.ensures.last (line ∷ match_past past) done ∙ ap (λ (s : Script). last_told s.head (line ∷ match_past past)) same in
    let some = ap option_copied c.in-Some.is in
    let told : c.in-Some.told.now ≡ told_after n.game.script.head (match_past past) line = cc in
    let none : events_taken n.relay line (told_after n.game.script.head (match_past past) line) ≡ None =
    ap (events_taken n.relay line) (sym told) ∙ sym c.events_taken.ensures ∙ ap option_copied c.in_default-events_taken.is in
    quiet n past before few line game done same none

pub take_all-requires : goal.take_all-requires
take_all-requires c =
    let past = c.requires.past in
    let few = c.requires.few in
    let line = c.args.line.now in
    let n : NodeState = record { relay = c.self.inside.relay; game = c.self.inside.game; board = c.self.inside.board; spectators = c.self.inside.spectators.items } in
    let before : Stands n past = subst (λ (x : NodeState). Stands x past) (sym c.self.view_is) c.requires.stands in
    let game = c.feed.new.self in
    let same : game.script ≡ n.game.script = c.in_ok-feed.ensures.script in
    let done = c.in_ok-feed.ensures.stands (match_past past) before.game in
    let last = c.told.ensures.last (line ∷ match_past past) done ∙ ap (λ (s : Script). last_told s.head (line ∷ match_past past)) same in
    let some = ap option_copied c.in-Some.is in
    let told : c.in-Some.told.now ≡ told_after n.game.script.head (match_past past) line = cc in
    let news = c.in-Some-events_taken.events.now in
    let e : events_taken n.relay line (told_after n.game.script.head (match_past past) line) ≡ Some news =
    ap (events_taken n.relay line) (sym told) ∙ sym c.events_taken.ensures ∙ ap option_copied c.in-Some-events_taken.is in
    let copies = c.copies-copies.result.now in
    let of : copies ≡ c.pair.result.now.client.copies = c.copies-copies.ensures ∙ ap (λ (x : ClientState). x.copies) c.client.ensures in
    may_all n past before few line game done same news e c.follow.new.self copies
    (lent_kinds n past before few line game done same c.pair.result.now c.pair.ensures copies of)
    (lent_seen n past before few line game done same c.pair.result.now c.pair.ensures copies of c.none_beyond.ensures)
    c.in_ok-follow.ensures.killed c.in_ok-follow.ensures.changed

pub returns-clause-plays : goal.returns-clause-plays
returns-clause-plays c = map-ok c.take_all.result (λ takes past stands few.
    let line = c.args.line.now in
    let n : NodeState = record { relay = c.self.inside.relay; game = c.self.inside.game; board = c.self.inside.board; spectators = c.self.inside.spectators.items } in
    let before : Stands n past = subst (λ (x : NodeState). Stands x past) (sym c.self.view_is) stands in
    let game = c.feed.new.self in
    let same : game.script ≡ n.game.script = c.in_ok-feed.ensures.script in
    let done = c.in_ok-feed.ensures.stands (match_past past) before.game in
    let last = c.told.ensures.last (line ∷ match_past past) done ∙ ap (λ (s : Script). last_told s.head (line ∷ match_past past)) same in
    let some = ap option_copied c.in-Some.is in
    let told : c.in-Some.told.now ≡ told_after n.game.script.head (match_past past) line = cc in
    let news = c.in-Some-events_taken.events.now in
    let e : events_taken n.relay line (told_after n.game.script.head (match_past past) line) ≡ Some news =
    ap (events_taken n.relay line) (sym told) ∙ sym c.events_taken.ensures ∙ ap option_copied c.in-Some-events_taken.is in
    let copies = c.copies-copies.result.now in
    let of : copies ≡ c.pair.result.now.client.copies = c.copies-copies.ensures ∙ ap (λ (x : ClientState). x.copies) c.client.ensures in
    taken n past before few line game done same news e c.follow.new.self copies
    (lent_kinds n past before few line game done same c.pair.result.now c.pair.ensures copies of)
    (lent_seen n past before few line game done same c.pair.result.now c.pair.ensures copies of c.none_beyond.ensures)
    c.in_ok-follow.ensures.killed c.in_ok-follow.ensures.changed c.take_all.new.spectators.items c.take_all.ensures.count c.in_ok-follow.ensures.slots takes)
    c.take_all.ensures.takes
