use Rattle.std.proofs.Common.{◌≡◌, ◌∙◌, ◌<◌, ℕ, List, length, get_or, take, reverse, ap, sym, subst, arith}
use Rattle.std.proofs.lemmas.List.Elements.{All-get_or}
use Rattle.match_script.specs.Ranges.{LineFits}
use Rattle.match_script.specs.declared.types.BodyLine.{BodyLine}
use Rattle.race_course.specs.Course.{IsMadeOf, world_of}
use Rattle.race_course.proofs.Following.{ticks_there, past_long, line_more}
use Rattle.race_course.proofs.course.followed.Goals as goal

pub follow-requires : goal.follow-requires
follow-requires c =
    let body : List BodyLine = c.args.script.now.body in
    let i : ℕ = c.loop-line.line-index in
    let same = c.as_slice-line-items.ensures in
    let lt : i < length body = let e = ap (λ (lines : List BodyLine). length lines) same in let l = c.loop-line-test.true in omega (arith, e, l) in
    let is : c.line-item.result ≡ get_or body i c.line-item.result = c.line-item.is ∙ ap (λ (lines : List BodyLine). get_or lines i c.line-item.result) same in
    record {
      first = world_of c.args.script.now;
      clients = c.args.script.now.head.clients;
      past = reverse (take i body);
      made = c.loop-line.invariant;
      fits = subst (λ (line : BodyLine). LineFits c.args.script.now.head.clients line) (sym is) (All-get_or (λ (line : BodyLine). LineFits c.args.script.now.head.clients line) body i c.line-item.result lt c.requires.ranges.lines);
      few = let e = past_long body i lt in let f = c.requires.ranges.few in omega (arith, e, f, lt);
      there = let t = ticks_there body i c.line-item.result lt is in let e = c.requires.moves.each_tick in omega (arith, t, e);
    }

pub loop-line-preserved : goal.loop-line-preserved
loop-line-preserved c =
    let body : List BodyLine = c.args.script.now.body in
    let i : ℕ = c.loop-line.line-index in
    let same = c.as_slice-line-items.ensures in
    let lt : i < length body = let e = ap (λ (lines : List BodyLine). length lines) same in let l = c.loop-line-test.true in omega (arith, e, l) in
    let is : c.line-item.result ≡ get_or body i c.line-item.result = c.line-item.is ∙ ap (λ (lines : List BodyLine). get_or lines i c.line-item.result) same in
    subst (λ (past : List BodyLine). IsMadeOf c.follow.new.self (world_of c.args.script.now) c.args.moves.now c.args.script.now.head.clients past) (sym (line_more body i c.line-item.result lt is))
    (c.in_ok-follow.ensures (world_of c.args.script.now) c.args.script.now.head.clients (reverse (take i body)) c.loop-line.invariant)
