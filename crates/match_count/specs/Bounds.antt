-- The counts of the first lines of a script, and how large they are.
use Rattle.std.specs.Prelude.{◌≡◌, ℕ, ◌*◌, ◌^◌, ◌≤◌, reverse, take}
use Rattle.match_script.specs.declared.types.Script.{Script}
use Rattle.match_count.specs.declared.counts.Counts.{Counts}
use Rattle.match_count.specs.Counting.{tellings_so_far, counts_of}

-- each of so many lines added less than 2 ^ 32 to each
pub record AreAfter (lines : ℕ) (n : Counts) : Type 0 where
  pub data_packets : n.data_packets ≤ lines * 2 ^ 32
  pub pings : n.pings ≤ lines * 2 ^ 32
  pub down : n.down ≤ lines * 2 ^ 32
  pub old_packets : n.old_packets ≤ lines * 2 ^ 32
  pub events : n.events ≤ lines * 2 ^ 32
  pub moves : n.moves ≤ lines * 2 ^ 32
  pub bytes : n.bytes ≤ lines * 2 ^ 32

-- the counts of the first lines
pub record AreCounts (s : Script) (lines : ℕ) (n : Counts) : Type 0 where
  pub counts : n ≡ counts_of (tellings_so_far s.head (reverse (take lines s.body)))
  pub bounds : AreAfter lines n
