use Rattle.std.proofs.Common.{◌≡◌, ◌++◌, take}
use Rattle.std.specs.List.{flat_map}
use Rattle.race_text.specs.Journal.{read_word}
use Rattle.race_text.proofs.packs.put_reads.Given as goal

abbrev pub invariant-loop-read : goal.invariant-loop-read
invariant-loop-read l = record {
  added : l.text.added ≡ l.fn.text.added ++ flat_map read_word (take l.read-index l.reads);
  before : l.text.before ≡ l.fn.text.before;
}
