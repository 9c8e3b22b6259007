use Rattle.std.proofs.Common.{◌≡◌, subst, sym, rules, arith}
use Rattle.match_script.specs.Ranges.{HasRanges}
use Rattle.match_script.specs.declared.types.Script.{Script}
use Rattle.script_maker.specs.Made.{script_drawn, made}
use Rattle.script_maker.proofs.Ranges.{made_has_ranges}
use Rattle.script_maker.proofs.making.make.Goals as goal

pub returns-clause-ranges : goal.returns-clause-ranges
unfolding script_drawn
returns-clause-ranges c few =
    let script : Script = record { head = c.in_ok-head.head; body = c.in_ok-body.body } in
    let same : script ≡ made c.args.seed c.args.clients c.args.steps = search rules in
    subst HasRanges (sym same) (made_has_ranges c.args.seed c.args.clients c.args.steps (omega arith) c.requires.clients_least c.requires.clients few)
