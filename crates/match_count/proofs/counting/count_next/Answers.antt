use Rattle.std.proofs.Common.{◌≡◌, ◌∙◌, ◌<◌, length, Ok, ap, inl, inr}
use Rattle.std.specs.Option.{option_copied}
use Rattle.std.proofs.lemmas.Bool.{cases_lt}
use Rattle.match_engine.specs.Match.{IsPlayed}
use Rattle.match_engine.proofs.Continued.{few_done}
use Rattle.match_count.proofs.Counted.{lines_before, told_at, last_is, counted_more}
use Rattle.match_count.proofs.counting.count_next.Goals as goal

pub unreachable-requires : goal.unreachable-requires
unreachable-requires c =
    let m = c.args.game.now in
    let n = c.next.new.self in
    let done = c.in_ok-next.was ∙ ap Ok c.if-not-branch.false in
    let lt : m.place < length m.script.body = elim (cases_lt m.place (length m.script.body)) [
      | inl lt ↦ lt
      | inr past ↦ absurd (let none = c.next.ensures.end.1 past in cc)
    ] in
    let played : IsPlayed n = c.in_ok-next.ensures.played c.requires.played in
    let told = c.told.ensures.last (lines_before n.script n.place) played ∙ last_is m.script n m.place lt c.next.ensures.script (c.next.ensures.place done) in
    let nothing = ap option_copied c.in_default.is in
    cc

pub returns-clause-counted : goal.returns-clause-counted
returns-clause-counted c e =
    let m = c.args.game.now in
    let n = c.next.new.self in
    let done = c.in_ok-next.was ∙ ap Ok c.if-not-branch.false in
    let lt : m.place < length m.script.body = elim (cases_lt m.place (length m.script.body)) [
      | inl lt ↦ lt
      | inr past ↦ absurd (let none = c.next.ensures.end.1 past in cc)
    ] in
    let played : IsPlayed n = c.in_ok-next.ensures.played c.requires.played in
    let told = c.told.ensures.last (lines_before n.script n.place) played ∙ last_is m.script n m.place lt c.next.ensures.script (c.next.ensures.place done) in
    let some = ap option_copied c.in-Some.is in
    let same : c.in-Some.told.now ≡ told_at m.script m.place = cc in
    counted_more m.script m.place c.args.counts.now c.add.new.counts c.in-Some.told.now lt same c.requires.counted c.add.ensures.counts
    (c.add.ensures.bounds m.place c.requires.counted.bounds)

pub next-requires-clause-few : goal.next-requires-clause-few
next-requires-clause-few c = few_done c.args.game.now c.requires.played c.requires.ranges
