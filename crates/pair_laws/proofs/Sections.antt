-- The sections of a data packet lie in their ranges, so that each packet has a spelling.
use Rattle.std.proofs.Common.{◌≡◌, ℕ, zero, suc, ◌-◌, ◌*◌, ◌<◌, ◌≤◌, Bool, true, false, List, [], ◌∷◌, ◌++◌, if◌then◌else◌, length, map, take, refl, ap, arith, length-take}
use Rattle.std.specs.List.{AllByRecursion, slice_index_or}
use Rattle.wire_format.specs.declared.blocks.BlockItem.{BlockItem}
use Rattle.wire_format.specs.Blocks.{block_size, IsBlock}
use Rattle.wire_format.specs.Reading.{AreListed}
use Rattle.tn_types.specs.Least.{those_below}
use Rattle.conn_packing.specs.stream_manager.datablocks.Sending.{due_of, is_due}
use Rattle.conn_packing.specs.stream_manager.End.{fates}
use Rattle.conn_packing.specs.stream_manager.Limits.{Terms, IsBlockBytes, AreTerms}
use Rattle.conn_packing.specs.stream_manager.Server.{ServerEvent, server_end, block_log, block_item, blocks_at}
use Rattle.conn_packing.proofs.Below.stream_manager.Fitting.{fitting-all, fitting-short}
use Rattle.conn_packing.proofs.Lists.{all-append, all-take}

-- ---- blocks

bytes-at : (blocks : List (List ℕ)) (b : ℕ) → b < length blocks → AllByRecursion IsBlockBytes blocks → IsBlockBytes (slice_index_or blocks b [])
bytes-at [] b l h = absurd (omega arith)
bytes-at (x ∷ blocks) zero l h = h.0
bytes-at (x ∷ blocks) (suc b) l h = bytes-at blocks b (omega arith) h.1

block-fits : (blocks : List (List ℕ)) (b : ℕ) → b < length blocks → length blocks ≤ 64 → AllByRecursion IsBlockBytes blocks → IsBlock (block_item blocks b)
block-fits blocks b l few h = let bytes = bytes-at blocks b l h in record { number = omega arith; length = bytes.few; bytes = bytes.bytes }

map-push : (f : ℕ → BlockItem) (ns : List ℕ) (n : ℕ) → map f (ns ++ n ∷ []) ≡ map f ns ++ f n ∷ []
map-push f [] n = refl
map-push f (m ∷ ns) n = ap (λ (l : List BlockItem). f m ∷ l) (map-push f ns n)

-- what holds of each block of the script holds of those in a packet
below-all : (P : BlockItem → Type 0) (blocks : List (List ℕ)) (f : ℕ → Bool) (n : ℕ) → n ≤ length blocks → ((b : ℕ) → b < length blocks → P (block_item blocks b)) → AllByRecursion P (map (block_item blocks) (those_below f n))
below-all P blocks f zero l each = tt
below-all P blocks f (suc n) l each = go (f n) (below-all P blocks f n (omega arith) each)
  where
    go : (b : Bool) → AllByRecursion P (map (block_item blocks) (those_below f n)) → AllByRecursion P (map (block_item blocks) (if b then those_below f n ++ n ∷ [] else those_below f n))
    go false rest = rest
    go true rest = rw (map-push (block_item blocks) (those_below f n) n) (all-append P (map (block_item blocks) (those_below f n)) (block_item blocks n ∷ []) rest (each n (omega arith), tt))

pub blocks-all : (P : BlockItem → Type 0) (t : Terms) (log : List ServerEvent) → ((b : ℕ) → b < length t.blocks → P (block_item t.blocks b)) → AllByRecursion P (blocks_at t log)
blocks-all P t log each =
    let due : List BlockItem = map (block_item t.blocks) (due_of (fates (server_end log)) (block_log log) (length t.blocks)) in
    fitting-all P block_size (4 * t.config.size - 136) (take 15 due)
    (all-take P 15 due (below-all P t.blocks (is_due (fates (server_end log)) (block_log log) (length t.blocks)) (length t.blocks) (omega arith) each))

pub blocks-fit : (t : Terms) (log : List ServerEvent) → AreTerms t → AreListed 15 IsBlock (blocks_at t log)
blocks-fit t log limits =
    let due : List BlockItem = map (block_item t.blocks) (due_of (fates (server_end log)) (block_log log) (length t.blocks)) in
    record {
      few = omega (arith, fitting-short block_size (4 * t.config.size - 136) (take 15 due), length-take 15 due);
      each = blocks-all IsBlock t log (λ b l. block-fits t.blocks b l limits.few limits.blocks);
    }
