use Rattle.std.proofs.Common.{rules}
use Rattle.match_script.proofs.Pieces.{words_say}
use Rattle.match_script.proofs.reader.line_at.Goals as goal

pub returns-clause-value : goal.returns-clause-value
returns-clause-value c = rw (← words_say c.args.clients c.args.k c.parted.result c.args.line.now (search rules) c.parted.ensures) c.words_at.ensures.value
