use Rattle.std.proofs.Common.{◌<◌, ◌/◌}
use Rattle.work_list.proofs.ToCome.{AreEmpty}
use Rattle.work_list.proofs.work_walk.filled.Given as goal

abbrev pub invariant-words : goal.invariant-words
invariant-words l = record {
  from : l.base / 64 < l.at;
  empty : AreEmpty l.words (l.base / 64) l.at;
}
