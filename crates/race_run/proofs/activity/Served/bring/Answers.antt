use Rattle.std.proofs.Common.{◌≡◌, ◌<◌, length, List, [], ◌∷◌, ◌++◌, None, get_or, subst, ap, ◌∙◌}
use Rattle.match_script.specs.declared.types.BodyLine.{BodyLine}
use Rattle.race_run.specs.Asking.{net_lines}
use Rattle.race_run.proofs.Lines.{all_more, first_more, few_more}
use Rattle.race_run.proofs.activity.Served.bring.Goals as goal

pub lines-preserved : goal.lines-preserved
lines-preserved g c =
    let e = c.net_turn-stopped.ensures in
    let same = c.as_slice-line-items.ensures in
    let lt = subst (λ (lines : List BodyLine). c.lines.i < length lines) same c.lines-test.true in
    let is : c.line-item.result ≡ get_or c.args.self.now.script.now.body c.lines.i c.line-item.result =
    c.line-item.is ∙ ap (λ (lines : List BodyLine). get_or lines c.lines.i c.line-item.result) same in
    let given : c.net_turn-stopped.result ≡ None
    → c.net_turn-stopped.new.done ≡ c.lines.done ++ net_lines c.args.self.now.client (get_or c.args.self.now.script.now.body c.lines.i c.line-item.result ∷ []) =
    λ none. e.given none ∙ ap (λ (line : BodyLine). c.lines.done ++ net_lines c.args.self.now.client (line ∷ [])) is in
    let inv = c.lines.invariant in
    record {
      all = all_more c.args.self.now.client c.args.self.now.script.now.body c.lines.i c.line-item.result lt c.lines.stopped c.net_turn-stopped.result c.lines.done c.net_turn-stopped.new.done given e.refused e.still inv.all;
      first = first_more c.args.self.now.client c.args.self.now.script.now.body c.lines.i c.line-item.result lt c.lines.stopped c.net_turn-stopped.result c.lines.done c.net_turn-stopped.new.done given e.refused e.still inv.all inv.first;
      few = few_more c.args.self.now.client c.args.self.now.script.now.body c.lines.i c.line-item.result lt c.lines.stopped c.net_turn-stopped.result c.lines.done c.net_turn-stopped.new.done given e.refused e.still inv.few;
    }
