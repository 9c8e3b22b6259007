use Rattle.std.proofs.Common.{◌≡◌, ◌∙◌, ◌<◌, ◌≤◌, ℕ, Bool, true, false, List, length, map, get_or, take, reverse, ap, refl, sym, subst, arith}
use Rattle.std.specs.Prelude.{Result, Ok, Err, IfOk}
use Rattle.std.proofs.lemmas.List.{take_all}
use Rattle.std.proofs.lemmas.List.Elements.{All-get_or}
use Rattle.match_script.specs.Ranges.{LineFits}
use Rattle.match_script.specs.declared.types.BodyLine.{BodyLine}
use Rattle.match_script.specs.declared.types.Script.{Script}
use Rattle.race_course.specs.Messages.{Ticks, ticks_in}
use Rattle.race_course.specs.Course.{world_of}
use Rattle.race_messages.specs.declared.message.Message.{Message}
use Rattle.race_course.proofs.Following.{past_long, line_more}
use Rattle.race_history.specs.Moves.{MovesFit}
use Rattle.race_sim.specs.declared.lines.Simulated.{Simulated}
use Rattle.race_sim.specs.Ports.{waiting_for}
use Rattle.race_sim.specs.Simulating.{SimulationState, HasDone, AreRests}
use Rattle.race_sim.proofs.Doing.{rests, all_fit, brought_then, none_done}
use Rattle.race_sim.proofs.lines.simulate.Goals as goal

not_before : (before now : Bool) → (before ≡ true → now ≡ true) → now ≡ false → before ≡ false
not_before false now still no_error = refl
not_before true now still no_error = let e : now ≡ true = still refl in absurd (cc)

if_both : {A E : Type 0} (P Q R : A → Type 0) (r : Result A E) → ((a : A) → P a → Q a → R a) → IfOk r P → IfOk r Q → IfOk r R
if_both P Q R (Ok a) f p q = f a p q
if_both P Q R (Err e) f p q = tt

at_end : (script : Script) (i : ℕ) (s : SimulationState) → length script.body ≤ i → HasDone (world_of script) (reverse (take i script.body)) s → HasDone (world_of script) (reverse script.body) s
at_end script i s all h = subst (λ (lines : List BodyLine). HasDone (world_of script) (reverse lines) s) (take_all i script.body all) h

pub gated-failed-requires-clause-may : goal.gated-failed-requires-clause-may
gated-failed-requires-clause-may g c = λ going.
    let body : List BodyLine = c.args.script.now.body in
    let i : ℕ = c.loop-i.i in
    let same = c.as_slice-line-items.ensures in
    let lt : i < length body = (let e = ap (λ (lines : List BodyLine). length lines) same in let l = c.loop-i-test.true in omega (arith, e, l)) in
    let is : c.line-item.result ≡ get_or body i c.line-item.result = c.line-item.is ∙ ap (λ (lines : List BodyLine). get_or lines i c.line-item.result) same in
    record {
      first = world_of c.args.script.now;
      past = reverse (take i body);
      done = c.loop-i.invariant.done going;
      fits = subst (λ (n : ℕ). LineFits n c.line-item.result) (sym c.loop-i.invariant.long)
          (subst (λ (line : BodyLine). LineFits c.args.script.now.head.clients line) (sym is)
          (All-get_or (λ (line : BodyLine). LineFits c.args.script.now.head.clients line) body i c.line-item.result lt c.requires.ranges.lines));
      few = let e = past_long body i lt in let f = c.requires.ranges.few in omega (arith, e, f, lt);
      brought = c.loop-i.invariant.brought going;
    }

pub loop-i-preserved : goal.loop-i-preserved
loop-i-preserved g c = record {
  long = c.gated-failed.ensures.ports ∙ c.loop-i.invariant.long;
  done = λ no_error.
      let body : List BodyLine = c.args.script.now.body in
      let i : ℕ = c.loop-i.i in
      let same = c.as_slice-line-items.ensures in
      let lt : i < length body = (let e = ap (λ (lines : List BodyLine). length lines) same in let l = c.loop-i-test.true in omega (arith, e, l)) in
      let is : c.line-item.result ≡ get_or body i c.line-item.result = c.line-item.is ∙ ap (λ (lines : List BodyLine). get_or lines i c.line-item.result) same in
      subst (λ (past : List BodyLine). HasDone (world_of c.args.script.now) past c.gated-failed.new.sim) (sym (line_more body i c.line-item.result lt is))
      (c.gated-failed.ensures.does no_error (world_of c.args.script.now) (reverse (take i body))
      (c.loop-i.invariant.done (not_before c.loop-i.failed c.gated-failed.result c.gated-failed.ensures.still no_error)));
  brought = λ no_error.
      brought_then c.line-item.result c.args.lanes.now.clients c.loop-i.sim c.gated-failed.new.sim
      (c.loop-i.invariant.brought (not_before c.loop-i.failed c.gated-failed.result c.gated-failed.ensures.still no_error)) (c.gated-failed.ensures.lanes no_error);
}

pub begin-requires-clause-first : goal.begin-requires-clause-first
begin-requires-clause-first g c =
    let head = c.args.script.now.head in
    (head.seed, (head.setup, none_done (world_of c.args.script.now) c.args.sim c.requires.begun))

pub returns-clause-moves : goal.returns-clause-moves
returns-clause-moves g c =
    let script : Script = c.args.script.now in
    let sim : SimulationState = c.loop-i.sim in
    let all : length script.body ≤ c.loop-i.i = (let e = ap (λ (lines : List BodyLine). length lines) c.as_slice-line-items.ensures in let l = c.loop-i-test.false in omega (arith, e, l)) in
    let done = at_end script c.loop-i.i sim all (c.loop-i.invariant.done c.if-failed.false) in
    if_both (λ (s : Simulated g.row.N.Denot). s.moves ≡ sim.moves) (λ (s : Simulated g.row.N.Denot). s.moves ≡ sim.moves)
    (λ (s : Simulated g.row.N.Denot). MovesFit (ticks_in script.body) script.head.clients s.moves) c.finish.result
    (λ s same _. subst (λ (ticks : Ticks). MovesFit (ticks_in script.body) script.head.clients ticks) (sym same) (all_fit sim script done c.loop-i.invariant.long))
    c.finish.ensures.moves c.finish.ensures.moves

pub returns-clause-waiting : goal.returns-clause-waiting
returns-clause-waiting g c =
    let script : Script = c.args.script.now in
    let sim : SimulationState = c.loop-i.sim in
    let all : length script.body ≤ c.loop-i.i = (let e = ap (λ (lines : List BodyLine). length lines) c.as_slice-line-items.ensures in let l = c.loop-i-test.false in omega (arith, e, l)) in
    let done = at_end script c.loop-i.i sim all (c.loop-i.invariant.done c.if-failed.false) in
    if_both (λ (s : Simulated g.row.N.Denot). s.moves ≡ sim.moves) (λ (s : Simulated g.row.N.Denot). s.waiting.items ≡ map waiting_for sim.ports)
    (λ (s : Simulated g.row.N.Denot). AreRests script s.moves s.waiting.items) c.finish.result
    (λ s same left. subst (λ (ticks : Ticks). AreRests script ticks s.waiting.items) (sym same)
    (subst (λ (waiting : List (List Message)). AreRests script sim.moves waiting) (sym left) (rests sim script done c.loop-i.invariant.long)))
    c.finish.ensures.moves c.finish.ensures.waiting
