use Rattle.relay_node.proofs.Order.{as_in_the_text}
use Rattle.relay_node.proofs.laws.lines_stand_as_in_the_text.Goals as goal

pub returns : goal.returns
returns c = as_in_the_text
