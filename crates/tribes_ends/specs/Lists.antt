-- What a link lists for its caller, in numbers: moves that came and moves that are pending, verdicts, what a packet did to slots, copies,
-- and the values that a plan asks for. Each is what the end has, by what happened at it.
use Rattle.std.specs.Prelude.{◌≡◌, refl, ℕ, ℤ, ◌-◌, ◌^◌, ◌<◌, ◌≤◌, List, [], ◌∷◌, length, map, take, slice_get, Option, Some, None, IsSome}
use Rattle.tn_types.specs.declared.choices.Verdict.{Verdict}
use Rattle.tn_types.specs.declared.choices.Verdict.TheVariants as verdict
use Rattle.tn_types.specs.declared.moves.MoveBits.{MoveBits}
use Rattle.tn_types.specs.declared.limits.TheConstants.{MAX_PACKET_GHOSTS, MAX_PACKET_MOVES, MAX_SLOTS}
use Rattle.wire_format.specs.declared.ghosts.GhostItem.{GhostItem}
use Rattle.wire_format.specs.declared.ghosts.GhostItem.TheVariants.{Kill, Create, Update}
use Rattle.ghost_client.specs.declared.copy.GhostCopy.{GhostCopy}
use Rattle.ghost_client.specs.State.{field_value}
use Rattle.stream_manager.specs.Server.{server_end, choices_at}
use Rattle.move_manager.specs.Sending.{pending_of}
use Rattle.stream_manager.specs.Client.{ClientEvent, client_end, sample_log}
use Rattle.stream_manager.specs.Changes.{changes_at}
use Rattle.stream_manager.specs.Verdicts.{last_verdicts}
use Rattle.stream_manager.specs.ConnCalls as server_calls
use Rattle.stream_manager.specs.ClientCalls as client_calls
use Rattle.stream_manager.specs.Stands.{ConnState, ClientState, ClientStandsFor, terms_of}
use Rattle.conn_packing.specs.Reads.{asked_by_all}
use Rattle.tribes_ends.specs.Refusals.{block_at, block_held, copy_held}
use Rattle.tribes_ends.specs.declared.asking.Ask.{Ask}
use Rattle.tribes_ends.specs.declared.rows.Change.{Change}
use Rattle.tribes_ends.specs.declared.rows.Copied.{Copied}
use Rattle.tribes_ends.specs.declared.rows.Judged.{Judged}
use Rattle.tribes_ends.specs.declared.link.Side.{Side}
use Rattle.tribes_ends.specs.declared.link.Side.TheVariants.{Server, Client}

-- ---- in numbers

abbrev pub number_of : MoveBits → ℕ
number_of m = m.bits

abbrev pub received_of : Verdict → ℕ
received_of verdict.Received = 1
received_of verdict.Lost = 0

abbrev pub judged_of : ℕ × Verdict → Judged
judged_of v = record { number = v.0; received = received_of v.1 }

-- a create carries all fields of its kind, and an update those of its mask
abbrev pub change_of : GhostItem → Change
change_of (Kill slot) = record { slot = slot; what = 0; fields = 0 }
change_of (Create slot kind block levels) = record { slot = slot; what = 1; fields = 2 ^ length levels - 1 }
change_of (Update slot kind mask levels) = record { slot = slot; what = 2; fields = mask }

abbrev pub ask_of : ℕ × ℕ → Ask
ask_of a = record { n = a.0; field = a.1 }

-- ---- what the last datagram brought

abbrev pub ListsMoves : Side → List ℕ → Type 0
ListsMoves (Server c) moves = moves ≡ map number_of (take MAX_PACKET_MOVES c.taken)
ListsMoves (Client c) moves = ⊥

abbrev pub ListsVerdicts : Side → List Judged → Type 0
ListsVerdicts (Server c) judged = server_calls.Answers c (λ log. map judged_of (last_verdicts (server_end log))) judged
ListsVerdicts (Client c) judged = client_calls.Answers c (λ log. map judged_of (last_verdicts (client_end log))) judged

abbrev pub ListsChanges : Side → List Change → Type 0
ListsChanges (Server c) changes = ⊥
ListsChanges (Client c) changes = client_calls.Answers c (λ log. map change_of (take MAX_PACKET_GHOSTS (changes_at log))) changes

-- ---- what the end has

-- the moves that the server has not told as accepted, the oldest first
abbrev pub pending_at : List ClientEvent → List MoveBits
pending_at log = (pending_of (sample_log log)).1

abbrev pub ListsPending : Side → List ℕ → Type 0
ListsPending (Server c) moves = ⊥
ListsPending (Client c) moves = client_calls.Answers c (λ log. map number_of (pending_at log)) moves

abbrev pub HasBlock : Side → ℕ → List ℕ → Type 0
HasBlock (Server c) number bytes = block_at c number ≡ Some bytes
HasBlock (Client c) number bytes = client_calls.Answers c (block_held number) (Some bytes)

-- of this kind and block, with a value for each field
pub record ShowsCopy (c : ClientState) (slot : ℕ) (copied : Copied) (place : List ℤ) : Type 0 where
  pub copy : GhostCopy
  pub held : client_calls.Answers c (copy_held slot) (Some copy)
  pub kind : copied.kind ≡ copy.kind
  pub block : copied.block ≡ copy.block
  pub fields : copied.fields ≡ length copy.levels
  pub values : (field : ℕ) → field < copied.fields → slice_get place field ≡ field_value c.copies.kinds field copy

abbrev pub HasCopy : Side → ℕ → Copied → List ℤ → Type 0
HasCopy (Server c) slot copied values = ⊥
HasCopy (Client c) slot copied values = ShowsCopy c slot copied values

-- the slots from one on to another one, which isn't among them, are empty
abbrev pub AreEmpty : ClientState → ℕ → ℕ → Type 0
AreEmpty c from end = (log : List ClientEvent) → ClientStandsFor c log → (slot : ℕ) → from ≤ slot → slot < end → copy_held slot log ≡ None

pub record IsLeastFull (c : ClientState) (from slot : ℕ) : Type 0 where
  pub from_on : from ≤ slot
  pub full : (log : List ClientEvent) → ClientStandsFor c log → IsSome (copy_held slot log)
  pub least : AreEmpty c from slot

-- the least slot from this one on that holds a copy; none where none of the 256 does
abbrev pub IsNextAtClient : ClientState → ℕ → Option ℕ → Type 0
IsNextAtClient c from None = AreEmpty c from MAX_SLOTS
IsNextAtClient c from (Some slot) = IsLeastFull c from slot

abbrev pub IsNextCopy : Side → ℕ → Option ℕ → Type 0
IsNextCopy (Server c) from found = ⊥
IsNextCopy (Client c) from found = IsNextAtClient c from found

-- the fields that the ghosts of the next data packet carry, item by item and by rising field
abbrev pub AsksAtServer : ConnState → List Ask → Type 0
AsksAtServer c asks = server_calls.Answers c (λ log. map ask_of (asked_by_all (choices_at (terms_of c) log))) asks

-- ---- examples

lost : judged_of (3, verdict.Lost) ≡ record { number = 3; received = 0 }
lost = refl

two_fields : change_of (Create 7 1 0 (20 ∷ 30 ∷ [])) ≡ record { slot = 7; what = 1; fields = 3 }
two_fields = refl
