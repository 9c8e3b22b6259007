use Rattle.std.proofs.Common.{◌∙◌, sym, length, arith}
use Rattle.std.proofs.lemmas.List.{take_all, drop_all}
use Rattle.match_script.proofs.Cutting.{line_ends, no_lines}
use Rattle.match_script.proofs.cut.cut_line.Goals as goal

pub returns-in-None-clause-lines : goal.returns-in-None-clause-lines
returns-in-None-clause-lines c =
    let n = length c.args.bytes.now in
    rw (c.split_at-in-None.ensures.front, c.split_at-in-None.ensures.back, take_all n c.args.bytes.now (omega arith), drop_all n c.args.bytes.now (omega arith), no_lines)
    (line_ends c.args.bytes.now (sym c.place_of.ensures ∙ c.in-None.is) c.requires)
