-- The tie between a match and the lines that were done, the newest first.
use Rattle.std.specs.Prelude.{◌≡◌, Bool, true, false, ℕ, ◌<◌, ◌^◌, ◌-◌, List, length, slice_index_or}
use Rattle.std.specs.List.{All}
use Rattle.tn_types.specs.Histories as histories
use Rattle.tn_types.specs.declared.limits.TheConstants.{MAX_OBJECTS, MAX_CLIENTS}
use Rattle.match_script.specs.declared.types.BodyLine.{BodyLine}
use Rattle.match_script.specs.declared.types.BodyLine.TheVariants as script
use Rattle.match_script.specs.declared.types.Head.{Head}
use Rattle.stream_manager.specs.Limits.{Terms}
use Rattle.world_sim.specs.Worlds.{Worlds}
use Rattle.world_scope.specs.declared.viewer.Seen.{Seen}
use Rattle.client_scope.specs.declared.period.ShownPeriod.{ShownPeriod}
use Rattle.client_scope.specs.Scans.{shown}
use Rattle.client_scope.specs.StandsFor.{Table, StandsFor as ScopeStandsFor}
use Rattle.dirty_lanes.specs.Words.{Words, mask_at}
use Rattle.match_laws.specs.own_lists.Counted.{counted_in}
use Rattle.match_laws.specs.own_lists.Kept.{Kept}
use Rattle.match_laws.specs.own_lists.Past.{client_terms, kept_by, after}
use Rattle.match_laws.specs.own_lists.Agreement.{AreLines}
use Rattle.match_laws.specs.client_seat.Stands.{SeatState, StandsFor as SeatStandsFor}
use Rattle.match_engine.specs.declared.game.Keeps.{Keeps}
use Rattle.match_engine.specs.declared.game.Keeps.TheVariants as keeping

pub record GameState : Type 0 where
  pub head : Head
  pub seats : List SeatState
  pub scopes : List Table
  pub world : Worlds
  pub lanes : Words
  pub done : ℕ

-- the client's mask of a shown period's object tells what was written of the period and not drained
abbrev pub IsMarked : Words → ℕ → Kept → ShownPeriod → Type 0
IsMarked lanes c k p = mask_at lanes c p.object ≡ k.written p.n

-- what a match keeps of a client, after these scans and what its own list leaves
pub record ClientHolds (seat : SeatState) (scope : Table) (lanes : Words) (c : ℕ) (t : Terms) (scans : List (List Seen)) (k : Kept) : Type 0 where
  pub course : SeatStandsFor seat t k.course
  pub periods : ScopeStandsFor scope scans
  pub marks : All (IsMarked lanes c k) (shown scans)

pub record StandsFor (m : GameState) (past : List BodyLine) : Type 0 where
  pub lines : AreLines m.head past
  pub seat_count : length m.seats ≡ m.head.clients
  pub scope_count : length m.scopes ≡ m.head.clients
  pub same_world : m.world ≡ (after m.head past).world
  pub counted : m.done ≡ counted_in past
  pub objects : m.lanes.objects ≡ MAX_OBJECTS
  pub clients : m.lanes.clients ≡ MAX_CLIENTS
  pub client : (c : ℕ) (d : SeatState) (e : Table) → c < m.head.clients
      → ClientHolds (slice_index_or m.seats c d) (slice_index_or m.scopes c e) m.lanes c (client_terms m.head c)
      ((after m.head past).scans c) (kept_by m.head (after m.head past) c)

-- for every list of lines that the old match stood for, the new one stands for it with the line
abbrev pub Does : GameState → BodyLine → GameState → Type 0
Does old line new = histories.Does StandsFor old line new

-- for every such list the result is what f says of it
abbrev pub Answers : {R : Type 0} → GameState → (List BodyLine → R) → R → Type 0
Answers {R} old f result = histories.Answers StandsFor old f result

-- a line that is done on its client's connection alone
abbrev pub IsDirect : BodyLine → Type 0
IsDirect script.Tick = ⊥
IsDirect (script.Scan c) = ⊥
IsDirect (script.Pack c) = ⊥
IsDirect (script.Show c) = ⊥
IsDirect script.World = ⊥
IsDirect line = Unit {0}

-- a line that brings a client what its server sent
abbrev pub IsDown : BodyLine → Type 0
IsDown (script.Down c k) = Unit {0}
IsDown line = ⊥

abbrev pub keeps_all : Keeps → Bool
keeps_all keeping.All = true
keeps_all keeping.Newest = false

-- each connection keeps every datagram that its server sent
abbrev pub KeepAll : List SeatState → Type 0
KeepAll seats = All (λ s. s.pair.keeps_all ≡ true) seats

-- each seat's count of taken moves may grow
abbrev pub AreFew : List SeatState → Type 0
AreFew seats = All (λ s. s.taken < 2 ^ 32 - 1) seats
