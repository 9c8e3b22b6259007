use Rattle.std.proofs.Common.{map, string_bytes}
use Rattle.commands.proofs.Rule.{rule, fits}
use Rattle.commands.proofs.grammar.command_of.Goals as goal

pub returns-clause-rule : goal.returns-clause-rule
returns-clause-rule c = rw (c.named_by.ensures, c.as_slice.ensures.value) (rule (map string_bytes c.args.words.now.items))

pub returns-clause-fits : goal.returns-clause-fits
returns-clause-fits c = fits (map string_bytes c.args.words.now.items) c.named_by.result (returns-clause-rule c)
