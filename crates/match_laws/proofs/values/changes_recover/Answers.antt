use Rattle.match_laws.proofs.ValuesShown.{changes_recover}
use Rattle.match_laws.proofs.values.changes_recover.Goals as goal

pub returns : goal.returns
returns c = changes_recover c.own_lists_hold.ensures c.copies_show_reads.ensures.newest
