use Rattle.relay_report.proofs.Packs.{packs_are}
use Rattle.relay_report.proofs.laws.packs_are_of_what_was_met.Goals as goal

pub returns : goal.returns
returns c = packs_are
