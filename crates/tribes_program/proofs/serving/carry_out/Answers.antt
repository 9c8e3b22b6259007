use Rattle.std.proofs.Common.{map, string_bytes, subst}
use Rattle.std.specs.Prelude.{Result, Ok}
use Rattle.commands.specs.Rule.{Says}
use Rattle.commands.proofs.Rule.{rule}
use Rattle.tribes_program.proofs.serving.carry_out.Goals as goal

pub returns-in-Ok-clause-words : goal.returns-in-Ok-clause-words
returns-in-Ok-clause-words g c = rule (map string_bytes c.args.words.now.items)

pub returns-in-Err-clause-words : goal.returns-in-Err-clause-words
returns-in-Err-clause-words g c = rule (map string_bytes c.args.words.now.items)
