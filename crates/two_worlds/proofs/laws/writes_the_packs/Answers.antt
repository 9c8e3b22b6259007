use Rattle.two_worlds.proofs.Texts.{writes_the_packs}
use Rattle.two_worlds.proofs.laws.writes_the_packs.Goals as goal

pub returns : goal.returns
returns c = writes_the_packs
