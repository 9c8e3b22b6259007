use Rattle.std.proofs.Common.{◌≡◌, ◌∙◌, ◌+◌, ◌≤◌, Ok, Bool, true, false, List, Option, ℕ, reverse, take, length, sym, ap, subst}
use Rattle.std.specs.Prelude.{Result}
use Rattle.std.specs.List.{AllByRecursion}
use Rattle.std.proofs.lemmas.List.{take_all}
use Rattle.std.proofs.lemmas.Result.{err_from_is_err_and}
use Rattle.tn_outside.specs.Totals.{Adds, AddsFront}
use Rattle.match_script.specs.declared.types.BodyLine.{BodyLine}
use Rattle.match_script.specs.declared.types.Script.{Script}
use Rattle.tn_outside.specs.declared.failed.RunFault.{RunFault}
use Rattle.demo_format.specs.Records.{IsRecord}
use Rattle.demo_record.specs.Recording.{records_text, taken_lines}
use Rattle.demo_record.proofs.More.{so_far, records-more, records-front, records-all, short-more}
use Rattle.demo_record.proofs.recording.write_records.Goals as goal

of_ok : (b d : Bool) → b ≡ d → ◌≡◌ {A = Result Bool RunFault} (Ok b) (Ok d)
of_ok b d e = ap (λ (x : Bool). Ok x) e

-- what was recorded of another name of the script
moved : (s t : Script) (client at : ℕ) (first new : Option (List ℕ)) → s ≡ t → Adds first new (so_far s client at) → Adds first new (so_far t client at)
moved s t client at first new same h = subst (λ (x : Script). Adds first new (so_far x client at)) same h

short_moved : (s t : Script) (client at : ℕ) → s ≡ t → AllByRecursion IsRecord (taken_lines s.head client (reverse (take at s.body))) → AllByRecursion IsRecord (taken_lines t.head client (reverse (take at t.body)))
short_moved s t client at same h = subst (λ (x : Script). AllByRecursion IsRecord (taken_lines x.head client (reverse (take at x.body)))) same h

pub lines-preserved : goal.lines-preserved
lines-preserved g c =
    let s : Script = c.lines.game.script in
    let same : s ≡ c.args.script.now = c.lines.invariant.script in
    let first = g.K.Sink.written c.args.sink.now in
    let old = g.K.Sink.written c.lines.sink in
    let new = g.K.Sink.written c.step.new.sink in
    let client = c.args.client in
    let at = c.lines.game.place in
    let ok = of_ok _ true c.if-branch.true in
    let place : c.step.new.game.place ≡ at + 1 = c.in_ok-step.ensures.place ok in
    let before = moved c.args.script.now s client at first old (sym same) c.lines.invariant.written in
    let short = short_moved c.args.script.now s client at (sym same) c.lines.invariant.short in
    record {
      played = c.in_ok-step.ensures.played ok;
      script = c.in_ok-step.ensures.script ∙ same;
      written = rw place (moved s c.args.script.now client (at + 1) first new same (records-more s client at (c.in_ok-step.ensures.more ok) first old new before (c.in_ok-step.ensures.written ok)));
      short = rw place (short_moved s c.args.script.now client (at + 1) same (short-more s client at (c.in_ok-step.ensures.more ok) short (c.in_ok-step.ensures.short ok)));
      spared = c.in_ok-step.ensures.cause.spared (λ e. absurd cc) ∙ c.lines.invariant.spared;
    }

pub returns-in_err-step-clause-front : goal.returns-in_err-step-clause-front
returns-in_err-step-clause-front g c =
    let p = err_from_is_err_and c.from_residual.result c.from_residual.ensures.1 in
    let s : Script = c.lines.game.script in
    let same : s ≡ c.args.script.now = c.lines.invariant.script in
    let first = g.K.Sink.written c.args.sink.now in
    let old = g.K.Sink.written c.lines.sink in
    let new = g.K.Sink.written c.step.new.sink in
    let client = c.args.client in
    let at = c.lines.game.place in
    let before = moved c.args.script.now s client at first old (sym same) c.lines.invariant.written in
    rw (p.1) (subst (λ (x : Script). AddsFront first new (records_text x client)) same (records-front s client at c.in_err-step.ensures.there first old new before c.in_err-step.ensures.front))

pub returns-clause-written : goal.returns-clause-written
returns-clause-written g c =
    let s : Script = c.lines.game.script in
    let same : s ≡ c.args.script.now = c.lines.invariant.script in
    let first = g.K.Sink.written c.args.sink.now in
    let old = g.K.Sink.written c.lines.sink in
    let end = c.in_ok-step.ensures.end (of_ok _ false c.if-branch.false) in
    let before = moved c.args.script.now s c.args.client c.lines.game.place first old (sym same) c.lines.invariant.written in
    let all : Adds first old (records_text c.args.script.now c.args.client) =
    subst (λ (x : Script). Adds first old (records_text x c.args.client)) same (records-all s c.args.client c.lines.game.place first old end.0 before) in
    subst (λ (w : Option (List ℕ)). Adds first w (records_text c.args.script.now c.args.client)) (sym end.2) all

pub returns-clause-short : goal.returns-clause-short
returns-clause-short g c =
    let same : c.lines.game.script ≡ c.args.script.now = c.lines.invariant.script in
    let end = c.in_ok-step.ensures.end (of_ok _ false c.if-branch.false) in
    let past : length c.args.script.now.body ≤ c.lines.game.place = subst (λ (x : Script). length x.body ≤ c.lines.game.place) same end.0 in
    subst (λ (b : List BodyLine). AllByRecursion IsRecord (taken_lines c.args.script.now.head c.args.client (reverse b))) (take_all c.lines.game.place c.args.script.now.body past) c.lines.invariant.short
