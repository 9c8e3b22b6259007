-- What a line for a client needs of a match, and what it leaves of the lanes.
use Rattle.std.specs.Prelude.{◌≡◌, ◌≢◌, ℕ, ◌<◌, ◌^◌, ◌==◌, Bool, List, [], ◌∷◌, map, bit_or, if◌then◌else◌}
use Rattle.std.specs.List.{AllByRecursion}
use Rattle.tn_types.specs.declared.limits.TheConstants.{MAX_OBJECTS, MAX_CLIENTS}
use Rattle.tn_types.specs.declared.choices.Drain.{Drain}
use Rattle.match_script.specs.declared.types.BodyLine.{BodyLine}
use Rattle.match_script.specs.declared.types.Head.{Head}
use Rattle.world_sim.specs.declared.rows.Write.{Write}
use Rattle.world_sim.specs.Worlds.{Worlds}
use Rattle.world_scope.specs.declared.viewer.Seen.{Seen}
use Rattle.client_scope.specs.declared.period.ShownPeriod.{ShownPeriod}
use Rattle.client_scope.specs.StandsFor.{Table}
use Rattle.dirty_lanes.specs.Words.{Words, mask_at}
use Rattle.match_laws.specs.own_lists.Past.{client_terms, kept_by, after}
use Rattle.match_laws.specs.own_lists.Agreement.{AreLines}
use Rattle.match_laws.specs.client_seat.Stands.{SeatState}
use Rattle.match_engine.specs.Stands.{ClientHolds}

-- what a match keeps of a client, and the world, stand for these lines
pub record Serves (seat : SeatState) (scope : Table) (w : Worlds) (lanes : Words) (c : ℕ) (head : Head) (past : List BodyLine) : Type 0 where
  pub lines : AreLines head past
  pub below : c < head.clients
  pub same_world : w ≡ (after head past).world
  pub objects : lanes.objects ≡ MAX_OBJECTS
  pub clients : lanes.clients ≡ MAX_CLIENTS
  pub holds : ClientHolds seat scope lanes c (client_terms head c) ((after head past).scans c) (kept_by head (after head past) c)

-- the masks of all other clients are as they were
pub record OthersStay (c : ℕ) (old new : Words) : Type 0 where
  pub objects : new.objects ≡ old.objects
  pub clients : new.clients ≡ old.clients
  pub masks : (d o : ℕ) → d < MAX_CLIENTS → d ≢ c → mask_at new d o ≡ mask_at old d o

-- each of these periods with the mask of its object
abbrev pub marked : Words → ℕ → List ShownPeriod → List Drain
marked lanes c periods = map (λ p. record { n = p.n; bits = mask_at lanes c p.object }) periods

abbrev pub is_of : ℕ → Seen → Bool
is_of o s = s.object == o

-- a mask with the fields of the object that were written
abbrev pub raised_by : List Write → ℕ → ℕ → ℕ
raised_by [] o mask = mask
raised_by (w ∷ writes) o mask = raised_by writes o (if w.object == o then bit_or mask (2 ^ w.field) else mask)

-- no two of these periods are of one object
abbrev pub AreApart : List ShownPeriod → Type 0
AreApart [] = Unit {0}
AreApart (p ∷ periods) = AllByRecursion (λ q. q.object ≢ p.object) periods × AreApart periods
