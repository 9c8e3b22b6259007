use Rattle.std.proofs.Common.{◌≡◌, ◌∙◌, ◌∷◌, sym, ap, subst}
use Rattle.std.specs.Option.{option_copied}
use Rattle.match_script.specs.declared.types.Script.{Script}
use Rattle.match_engine.specs.Match.{last_told}
use Rattle.match_engine.specs.match_laws.Report.{told_after}
use Rattle.predict_laws.specs.predict_lines.declared.changes.EndChange.{EndChange}
use Rattle.predict_laws.specs.predict_lines.Changes.{IsChange, change_of}
use Rattle.predict_laws.specs.predict_lines.Lines.{end_of}
use Rattle.predict_laws.proofs.Below.predict_lines.EndLines.{line_changes}
use Rattle.predict_match.proofs.running.change_by.Goals as goal

pub returns-clause-change : goal.returns-clause-change
returns-clause-change c past stands =
    let m = c.args.game.now in
    let line = c.args.line.now in
    let head = m.script.head in
    let done = c.in_ok-feed.ensures.stands past stands in
    let last = c.told.ensures.last (line ∷ past) done ∙ ap (λ (s : Script). last_told s.head (line ∷ past)) c.feed.ensures.script in
    let some = ap option_copied c.in-Some.is in
    let told : c.in-Some.told.now ≡ told_after head past line = cc in
    subst (λ (x : EndChange). IsChange x (end_of head past c.args.client) (end_of head (line ∷ past) c.args.client))
    (sym (c.change_of.ensures ∙ ap (change_of c.args.client line) told)) (line_changes head past c.args.client line)
