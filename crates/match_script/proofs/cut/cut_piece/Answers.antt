use Rattle.std.proofs.Common.{sym, ◌∙◌}
use Rattle.match_script.proofs.Pieces.{whole_piece}
use Rattle.match_script.proofs.cut.cut_piece.Goals as goal

pub returns-in-None : goal.returns-in-None
returns-in-None c =
    rw (c.split_at-in-None.ensures.front, c.split_at-in-None.ensures.back) (whole_piece c.args.text.now (sym c.end_of_word.ensures ∙ c.in-None.is))
