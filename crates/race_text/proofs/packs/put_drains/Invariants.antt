use Rattle.std.proofs.Common.{◌≡◌, ◌++◌, take}
use Rattle.std.specs.List.{flat_map}
use Rattle.race_text.specs.Journal.{drain_word}
use Rattle.race_text.proofs.packs.put_drains.Given as goal

abbrev pub invariant-loop-drain : goal.invariant-loop-drain
invariant-loop-drain l = record {
  added : l.text.added ≡ l.fn.text.added ++ flat_map drain_word (take l.drain-index l.drains);
  before : l.text.before ≡ l.fn.text.before;
}
