use Rattle.match_script.proofs.Pieces.{first_of_lines, after_shorter, cut_first, cut_is_first, words_say}
use Rattle.match_script.specs.Shape.{first_line}
use Rattle.match_script.proofs.reader.next_line.Goals as goal

pub returns-in-Some-clause-lines : goal.returns-in-Some-clause-lines
returns-in-Some-clause-lines c = rw c.in-Some.ensures.after (first_of_lines c.args.text.now c.requires)

pub returns-in-Some-clause-shorter : goal.returns-in-Some-clause-shorter
returns-in-Some-clause-shorter c = rw c.in-Some.ensures.after (after_shorter c.args.text.now c.requires)

pub returns-in-Some-clause-value : goal.returns-in-Some-clause-value
returns-in-Some-clause-value c =
    rw (← words_say c.args.clients c.args.k c.in-Some.words (first_line c.args.text.now) c.in-Some.ensures.clean c.in-Some.ensures.words)
    c.words_at.ensures.value

pub returns-in-None-clause-lines : goal.returns-in-None-clause-lines
returns-in-None-clause-lines c = cut_first c.args.text.now c.cut_line.result.0.now c.cut_line.result.1.now c.requires c.cut_line.ensures.lines

pub returns-in-None-clause-value : goal.returns-in-None-clause-value
returns-in-None-clause-value c =
    rw (← cut_is_first c.args.text.now c.cut_line.result.0.now c.cut_line.result.1.now c.requires c.cut_line.ensures.lines) c.line_at.ensures.value
