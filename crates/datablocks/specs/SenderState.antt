-- What a sender of blocks shows: the blocks, and how far each is on its way.
use Rattle.std.specs.Prelude.{◌≡◌, ℕ, ◌+◌, ◌<◌, ◌≤◌, Bool, true, ◌&&◌, nat_lt, List, length}
use Rattle.tn_types.specs.Least.{least, those_below}
use Rattle.tn_types.specs.declared.limits.TheConstants.{MAX_BLOCKS_AHEAD, MAX_BLOCKS}
use Rattle.notify_window.specs.declared.progress.Progress.{Progress}
use Rattle.datablocks.specs.ProgressWords.{is_due_at, is_open, TellsDone}

pub record SenderState : Type 0 where
  pub blocks : List (List ℕ)
  pub progress : List Progress

-- the first block that is not done
abbrev pub first_open : SenderState → ℕ
first_open s = least (is_open s.progress) (length s.blocks)

abbrev pub is_due_now : SenderState → ℕ → Bool
is_due_now s b = nat_lt b (first_open s + MAX_BLOCKS_AHEAD) && is_due_at s.progress b

-- what is to be sent, in order
abbrev pub due_now : SenderState → List ℕ
due_now s = those_below (is_due_now s) (length s.blocks)

pub record IsDueBlock (s : SenderState) (b : ℕ) : Type 0 where
  pub there : b < length s.blocks
  pub due : is_due_now s b ≡ true

-- What a sender keeps beside them: the first block that is not done, and a word that tells which are. Blocks behind
-- the window, and places of no block, were never sent.
pub record IsKept (blocks : List (List ℕ)) (progress : List Progress) (lowest received : ℕ) : Type 0 where
  pub few : length blocks ≤ MAX_BLOCKS
  pub places : length progress ≡ MAX_BLOCKS
  pub within : lowest ≤ length blocks
  pub first : lowest ≡ least (is_open progress) (length blocks)
  pub near : (b : ℕ) → lowest + MAX_BLOCKS_AHEAD ≤ b → is_due_at progress b ≡ true
  pub past : (b : ℕ) → length blocks ≤ b → is_due_at progress b ≡ true
  pub told : TellsDone received progress
