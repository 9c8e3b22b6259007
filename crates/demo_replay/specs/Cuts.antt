-- A cut of a demo: some of its bytes from the front, the whole head among them.
use Rattle.std.specs.Prelude.{◌≡◌, ◌≤◌, ◌++◌, ℕ, List, take, length}
use Rattle.std.specs.List.{flat_map}
use Rattle.tn_types.specs.Prefix.{IsPrefixOf}
use Rattle.world_rules.specs.Kinds.{match_kinds}
use Rattle.demo_format.specs.declared.head.TheConstants.{HEAD_BYTES}
use Rattle.demo_format.specs.Head.{read_head}
use Rattle.demo_format.specs.Records.{records_of, body_of}
use Rattle.demo_replay.specs.Replaying.{replayed_line, takes_told, packets_behind, packets_at, last_word, shown_behind, replay_text}

-- its head is the whole one's, its lines but the last are the first of the whole one's, and its last line tells what the whole
-- one shows behind as many records
pub record IsCutOf (front bytes : List ℕ) : Type 0 where
  pub head : read_head front ≡ read_head bytes
  pub takes : IsPrefixOf (takes_told front) (takes_told bytes)
  pub last : packets_behind front ≡ packets_at bytes (length (records_of (body_of front)))
  pub lines : IsPrefixOf (flat_map replayed_line (takes_told front)) (flat_map replayed_line (takes_told bytes))
  pub text : replay_text front ≡ flat_map replayed_line (takes_told front)
      ++ shown_behind (last_word front) match_kinds (packets_at bytes (length (records_of (body_of front))))

abbrev pub CutsKeepAFront : List ℕ → Type 0
CutsKeepAFront bytes = (n : ℕ) → HEAD_BYTES ≤ n → IsCutOf (take n bytes) bytes
