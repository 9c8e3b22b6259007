-- The blocks that a client holds: of each number the bytes that came with it, which are the same whenever it comes. A
-- log has the blocks that were taken, the newest first.
use Rattle.std.specs.Prelude.{◌≡◌, ℕ, ◌<◌, ◌==◌, Bool, false, not, List, [], ◌∷◌, length, if◌then◌else◌, Option, Some, None, Ok, Err}
use Rattle.std.specs.List.{slice_index_or, slice_set}
use Rattle.std.specs.Int.{bit_at}
use Rattle.std.specs.Str.{bytes_eq}
use Rattle.wire_format.specs.declared.blocks.BlockItem.{BlockItem}
use Rattle.tn_types.specs.declared.limits.TheConstants.{MAX_BLOCKS}
use Rattle.tn_types.specs.Checks.{Checked, then_check}
use Rattle.datablocks.specs.declared.receiver.BlockFault.{BlockFault}
use Rattle.datablocks.specs.declared.receiver.BlockFault.TheVariants.{BlockDiffers}

-- the held bytes of block b, by its place
abbrev pub held_at : List (Option (List ℕ)) → ℕ → Option (List ℕ)
held_at blocks b = slice_index_or blocks b None

-- the bytes of block b among those taken
abbrev pub held_of : ℕ → List BlockItem → Option (List ℕ)
held_of b [] = None
held_of b (item ∷ log) = if item.number == b then Some item.bytes else held_of b log

pub record StandsFor (blocks : List (Option (List ℕ))) (log : List BlockItem) : Type 0 where
  pub places : length blocks ≡ MAX_BLOCKS
  pub held : (b : ℕ) → b < MAX_BLOCKS → held_at blocks b ≡ held_of b log

-- other bytes are held
abbrev pub bytes_differ : Option (List ℕ) → List ℕ → Bool
bytes_differ None bytes = false
bytes_differ (Some held) bytes = not (bytes_eq held bytes)

abbrev pub take_answer : List (Option (List ℕ)) → BlockItem → Checked BlockFault
take_answer blocks item = if bytes_differ (held_at blocks item.number) item.bytes then Err (BlockDiffers item.number) else Ok tt

abbrev pub after_take : List (Option (List ℕ)) → BlockItem → List (Option (List ℕ))
after_take blocks item = slice_set blocks item.number (Some item.bytes)

abbrev pub after_all : List (Option (List ℕ)) → List BlockItem → List (Option (List ℕ))
after_all blocks [] = blocks
after_all blocks (item ∷ items) = after_all (after_take blocks item) items

-- whether other bytes than the item's are held, once an earlier item was taken
abbrev pub differs_then : Bool → BlockItem → BlockItem → Bool
differs_then before earlier item = if earlier.number == item.number then not (bytes_eq earlier.bytes item.bytes) else before

-- what taking these in order answers
abbrev pub check_answer : List (Option (List ℕ)) → List BlockItem → Checked BlockFault
check_answer blocks [] = Ok tt
check_answer blocks (item ∷ items) = then_check (take_answer blocks item) (check_answer (after_take blocks item) items)

abbrev pub held_bit : Option (List ℕ) → ℕ
held_bit None = 0
held_bit (Some bytes) = 1

-- bit b of the word tells whether block b is held
abbrev pub TellsHeld : ℕ → (ℕ → Option (List ℕ)) → Type 0
TellsHeld word held = (b : ℕ) → b < MAX_BLOCKS → bit_at word b ≡ held_bit (held b)

-- what a receiver keeps: a place for each block, and a word that tells which are held
pub record IsHolding (blocks : List (Option (List ℕ))) (held : ℕ) : Type 0 where
  pub places : length blocks ≡ MAX_BLOCKS
  pub told : TellsHeld held (held_at blocks)
