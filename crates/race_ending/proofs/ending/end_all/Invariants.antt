use Rattle.std.proofs.Common.{◌≡◌, ◌≤◌, ℕ, [], length, get_or}
use Rattle.race_ending.specs.Ended.{AreEnded}
use Rattle.race_ending.proofs.ending.end_all.Given as goal

abbrev pub invariant-pairs : goal.invariant-pairs
invariant-pairs g l = record {
  clients : length l.clients ≡ length l.yielded;
  ended : AreEnded g.N.LaneName.objects l.initial.waiting.items l.stopped l.clients;
  seats : length l.seats.items ≡ length l.yielded;
  waiting : length l.waiting.items ≡ length l.initial.waiting.items;
  later : (k : ℕ) → length l.yielded ≤ k → get_or l.waiting.items k [] ≡ get_or l.initial.waiting.items k [];
}
