use Rattle.match_laws.proofs.ValuesShown.{settled_newest}
use Rattle.match_laws.proofs.values.settled_is_newest.Goals as goal

pub returns : goal.returns
returns c = settled_newest c.own_lists_hold.ensures c.copies_show_reads.ensures.newest
