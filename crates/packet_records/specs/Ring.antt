-- The ring of places in which the kept nodes lie, and the chains of slots in it. Kept nodes are counted from the oldest
-- on, which lies at the place `start`: the one behind `i` others lies `i` places on, round the end of the ring. A node leads
-- to the next older one of its slot by the place of that; where no older one is kept, any place stands there.
use Rattle.std.specs.Prelude.{ℕ, zero, suc, ◌+◌, ◌-◌, ◌<◌, ◌≤◌, ◌≡◌, ◌≢◌, ◌==◌, List, [], ◌∷◌, length, map, Option, Some, None, slice_index_or, if◌then◌else◌, nat_lt}
use Rattle.tn_types.specs.declared.limits.TheConstants.{MAX_SLOTS}
use Rattle.tn_types.specs.declared.choices.Op.TheVariants.{Kill}
use Rattle.packet_records.specs.declared.entries.Entry.{Entry}
use Rattle.packet_records.specs.declared.pool.Node.{Node}
use Rattle.packet_records.specs.declared.pool.TheConstants.{NODES}
use Rattle.packet_records.specs.Links.{Kept}

abbrev pub no_node : Node
no_node = record { seq = 0; mask = 0; older = 0; slot = 0; op = Kill }

abbrev pub node_of : Entry → ℕ → Node
node_of e older = record { seq = e.seq; mask = e.mask; older = older; slot = e.slot; op = e.op }

abbrev pub entry_in : Node → Entry
entry_in n = record { seq = n.seq; slot = n.slot; mask = n.mask; op = n.op }

-- the place so many on
abbrev pub place_of : ℕ → ℕ → ℕ
place_of start i = if nat_lt (start + i) NODES then start + i else start + i - NODES

-- how many places on it lies
abbrev pub offset_of : ℕ → ℕ → ℕ
offset_of start place = if nat_lt place start then place + NODES - start else place - start

-- the kept node behind so many others, and its entry
abbrev pub node_from : List Node → ℕ → ℕ → Node
node_from nodes start i = slice_index_or nodes (place_of start i) no_node

abbrev pub from_start : List Node → ℕ → ℕ → Entry
from_start nodes start i = entry_in (node_from nodes start i)

-- of the first nodes, so many, this one is the newest that names the slot
pub record IsNewest (lies : ℕ → Entry) (below slot i : ℕ) : Type 0 where
  pub before : i < below
  pub names : (lies i).slot ≡ slot
  pub alone : (k : ℕ) → i < k → k < below → (lies k).slot ≢ slot

-- it is this one, or none names the slot
abbrev pub IsFound : (ℕ → Entry) → ℕ → ℕ → Option ℕ → Type 0
IsFound lies below slot None = (k : ℕ) → k < below → (lies k).slot ≢ slot
IsFound lies below slot (Some i) = IsNewest lies below slot i

-- the place is that of the newest of them that names the slot
abbrev pub Leads : (ℕ → Entry) → ℕ → ℕ → ℕ → ℕ → Type 0
Leads lies start below slot place = (i : ℕ) → IsNewest lies below slot i → place ≡ place_of start i

-- each of the first nodes leads to the next older one of its slot
abbrev pub AreLinked : List Node → ℕ → ℕ → Type 0
AreLinked nodes start count =
    (i : ℕ) → i < count → Leads (from_start nodes start) start i (node_from nodes start i).slot (node_from nodes start i).older

-- so do the places of the slots' newest nodes
pub record IsRing (nodes : List Node) (start count : ℕ) (newest : List ℕ) : Type 0 where
  pub long : length nodes ≡ NODES
  pub slots : length newest ≡ MAX_SLOTS
  pub inside : start < NODES
  pub heads : (slot : ℕ) → slot < MAX_SLOTS → Leads (from_start nodes start) start count slot (slice_index_or newest slot 0)
  pub older : AreLinked nodes start count

-- those of the first nodes that name the slot, the newest first
abbrev pub kept_back : (ℕ → Entry) → ℕ → ℕ → List Kept
kept_back lies slot zero = []
kept_back lies slot (suc n) =
    if (lies n).slot == slot then record { key = n; entry = lies n } ∷ kept_back lies slot n else kept_back lies slot n

abbrev pub entries_back : (ℕ → Entry) → ℕ → ℕ → List Entry
entries_back lies slot n = map (λ n. n.entry) (kept_back lies slot n)

-- a walk along the slot's chain goes on here
pub record IsChain (nodes : List Node) (start below slot at : ℕ) : Type 0 where
  pub long : length nodes ≡ NODES
  pub inside : start < NODES
  pub few : below ≤ NODES
  pub leads : Leads (from_start nodes start) start below slot at
  pub older : AreLinked nodes start below
