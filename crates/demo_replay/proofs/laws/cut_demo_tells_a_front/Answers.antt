use Rattle.demo_replay.proofs.Cutting.{cuts-keep}
use Rattle.demo_replay.proofs.laws.cut_demo_tells_a_front.Goals as goal

pub returns : goal.returns
returns c = cuts-keep
