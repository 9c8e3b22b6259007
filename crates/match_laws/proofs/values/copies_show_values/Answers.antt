use Rattle.match_laws.proofs.ValuesShown.{copies_had}
use Rattle.match_laws.proofs.values.copies_show_values.Goals as goal

pub returns : goal.returns
returns c = copies_had c.own_lists_hold.ensures c.copies_show_reads.ensures.reads
