use Rattle.race_laws.proofs.Settling.{settled_shows_newest}
use Rattle.race_laws.proofs.laws.settled_shows_newest.Goals as goal

pub returns : goal.returns
returns c = settled_shows_newest c.copies_show_reads.ensures.newest
