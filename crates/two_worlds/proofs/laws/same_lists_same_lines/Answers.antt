use Rattle.two_worlds.proofs.Texts.{same_lines}
use Rattle.two_worlds.proofs.laws.same_lists_same_lines.Goals as goal

pub returns : goal.returns
returns c = same_lines
