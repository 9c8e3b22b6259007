-- What the types of the lanes keep: to which table they belong, and what their fields stand for; and the words at the
-- end.
use Rattle.std.specs.Prelude.{ℕ, ◌+◌, ◌-◌, ◌*◌, ◌≡◌, ◌<◌, ◌≤◌, true, List, [], ◌∷◌, length, replicate, slice_index}
use Rattle.atomic_table.specs.Seated.{TableId}
use Rattle.atomic_table.specs.Table.{Me}
use Rattle.atomic_table.specs.declared.shared.Seat.{Seat}
use Rattle.tn_types.specs.declared.limits.TheConstants.{MAX_CLIENTS, MAX_OBJECTS}
use Rattle.dirty_lanes.specs.declared.limits.TheConstants.{MAX_LANE_FIELDS}
use Rattle.dirty_lanes.specs.declared.words.TheConstants.{WORDS}
use Rattle.dirty_lanes.specs.declared.view.SimStep.{SimStep}
use Rattle.dirty_lanes.specs.declared.view.PackView.{PackView}
use Rattle.dirty_lanes.specs.declared.view.SimView.{SimView}
use Rattle.dirty_lanes.specs.declared.view.View.{View}
use Rattle.dirty_lanes.specs.declared.view.View.TheVariants.{Sim, Packer}
use Rattle.dirty_lanes.specs.declared.rule.LaneSize.{LaneSize}
use Rattle.dirty_lanes.specs.Words.{Words, version_at, value_at, mask_at}
use Rattle.dirty_lanes.specs.Views.{newest, newest_value, raises_of, drains_of, VersionsRise}
use Rattle.dirty_lanes.specs.Rule.{sim_of, pack_of, covered, ReadsStand, DrainsTake}

abbrev pub no_table : TableId
no_table = record { words = 0; slots = 0; views_name = 0; atom = 0; block = 0; offset = 0; slot_names = [] }

-- what a seat knows
abbrev pub Known : Type 0
Known = Me (Unit {0}) View

-- nothing happened, and all seats are made
abbrev pub no_steps : SimView
no_steps = record { left = 0; joined = []; steps = [] }

-- lanes of the table and the number of objects that a name has
pub record IsLanes (table : TableId) (named_objects : ℕ) (mine : TableId) (key : LaneSize) (objects clients : ℕ) : Type 0 where
  pub named : mine ≡ table
  pub size : objects ≡ named_objects
  pub long : key.objects ≡ objects
  pub wide : key.clients ≡ clients
  pub words : table.words ≡ WORDS * objects + 1
  pub slots : table.slots ≡ 0
  pub some_objects : 1 ≤ objects
  pub few_objects : objects ≤ MAX_OBJECTS
  pub some : 1 ≤ clients
  pub few : clients ≤ MAX_CLIENTS

-- the simulation's seat, with the version of each field
pub record IsSim (table : TableId) (named_objects : ℕ) (mine : TableId) (me : Known) (versions : List ℕ) : Type 0 where
  pub named : mine ≡ table
  pub sits : me ≡ (Sim (sim_of me.0), [])
  pub long : length versions ≡ MAX_LANE_FIELDS * named_objects
  pub counts : (object field : ℕ) → field < MAX_LANE_FIELDS → MAX_LANE_FIELDS * object + field < length versions
      → slice_index versions (MAX_LANE_FIELDS * object + field) ≡ newest (sim_of me.0).steps object field

-- the seat of the packer of a client
pub record IsPacker (table : TableId) (mine : TableId) (me : Known) (client : ℕ) : Type 0 where
  pub named : mine ≡ table
  pub sits : me ≡ (Packer (pack_of me.0), [])
  pub client_is : (pack_of me.0).client ≡ client
  pub few : client < MAX_CLIENTS
  pub rises : VersionsRise (pack_of me.0).steps

-- seats that no one was given: the clients from top - 1 down, which know nothing
abbrev pub IsRow : TableId → ℕ → List (Seat (Unit {0}) View) → Type 0
IsRow table top [] = Unit {0}
IsRow table top (s ∷ ss) = (s.table_id ≡ table) × (s.me ≡ (Packer (record { client = top - 1; steps = [] }), [])) × IsRow table (top - 1) ss

-- what fresh lanes show
pub record FreshView : Type 0 where
  pub table : TableId
  pub objects : ℕ
  pub clients : ℕ

-- the parts of fresh lanes
pub record FreshParts : Type 0 where
  pub table : TableId
  pub key : LaneSize
  pub sim : Seat (Unit {0}) View
  pub packs : List (Seat (Unit {0}) View)
  pub versions : List ℕ
  pub objects : ℕ
  pub clients : ℕ

pub record IsFresh (f : FreshParts) : Type 0 where
  pub long : f.key.objects ≡ f.objects
  pub wide : f.key.clients ≡ f.clients
  pub words : f.table.words ≡ WORDS * f.objects + 1
  pub slots : f.table.slots ≡ 0
  pub some_objects : 1 ≤ f.objects
  pub few_objects : f.objects ≤ MAX_OBJECTS
  pub some : 1 ≤ f.clients
  pub few : f.clients ≤ MAX_CLIENTS
  pub named : f.sim.table_id ≡ f.table
  pub sits : f.sim.me ≡ (Sim no_steps, [])
  pub row : IsRow f.table f.clients f.packs
  pub count : length f.packs ≡ f.clients
  pub versions_are : f.versions ≡ replicate (MAX_LANE_FIELDS * f.objects) 0

-- the seats that are left, where `next` seats of `clients` were given
pub record AreLeft (table : TableId) (clients next : ℕ) (packs : List (Seat (Unit {0}) View)) : Type 0 where
  pub row : IsRow table clients packs
  pub count : length packs + next ≡ clients
  pub few : clients ≤ MAX_CLIENTS

-- the clients are k, k + 1 and so on
abbrev pub IsNumbered : ℕ → List PackView → Type 0
IsNumbered k [] = Unit {0}
IsNumbered k (p ∷ ps) = (p.client ≡ k) × IsNumbered (k + 1) ps

-- what holds of one packer at the end
pub record IsHeard (sim : List SimStep) (f : Words) (p : PackView) : Type 0 where
  pub stand : ReadsStand sim p.steps
  pub takes : (object : ℕ) → object < f.objects
      → DrainsTake (mask_at f p.client object) (drains_of p.steps object) (raises_of sim p.client object)
  pub covers : (object field : ℕ) → field < MAX_LANE_FIELDS → object < f.objects
      → covered sim p.steps p.client (mask_at f p.client object) object field ≡ true

abbrev pub AreHeard : List SimStep → Words → List PackView → Type 0
AreHeard sim f [] = Unit {0}
AreHeard sim f (p ∷ ps) = IsHeard sim f p × AreHeard sim f ps

-- the words at the end: each field has the version and the value of its last write, each read of each packer stands in the
-- simulation's list, each drain took what was raised since the one before, and each field of each packer was read newest,
-- or its bit is set, or it is owed, or it is pending
pub record IsFinal (sim : List SimStep) (packs : List PackView) (f : Words) : Type 0 where
  pub versions : (object field : ℕ) → field < MAX_LANE_FIELDS → object < f.objects → version_at f object field ≡ newest sim object field
  pub values : (object field : ℕ) → field < MAX_LANE_FIELDS → object < f.objects → value_at f object field ≡ newest_value sim object field
  pub heard : AreHeard sim f packs
