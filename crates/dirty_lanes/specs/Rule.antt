-- The lane rule: what holds of all words and all views between any two steps, and what each kind of step does to the
-- view of the seat that makes it. A step sees its word and what it stores or finds there, and names its object, field
-- and client by the place of the word.
use Rattle.std.specs.Prelude.{ℕ, ◌+◌, ◌-◌, ◌*◌, ◌/◌, ◌%◌, ◌^◌, ◌≡◌, ◌<◌, ◌≤◌, Bool, true, ◌||◌, ◌==◌, List, [], ◌∷◌, length, Some, slice_get, slice_index, take, drop, refl}
use mathlib.Core.Option.{some}
use lib.ListN.{get_elem?}
use Rattle.atomic_table.specs.Table.{State}
use Rattle.tn_types.specs.BitWords.{has_bit}
use Rattle.tn_types.specs.declared.limits.TheConstants.{MAX_CLIENTS}
use Rattle.dirty_lanes.specs.declared.limits.TheConstants.{MAX_LANE_FIELDS}
use Rattle.dirty_lanes.specs.declared.words.TheConstants.{WORDS, VERSION}
use Rattle.dirty_lanes.specs.declared.view.SimStep.{SimStep}
use Rattle.dirty_lanes.specs.declared.view.PackStep.{PackStep}
use Rattle.dirty_lanes.specs.declared.view.PackStep.TheVariants.{Drain, Read}
use Rattle.dirty_lanes.specs.declared.view.PackView.{PackView}
use Rattle.dirty_lanes.specs.declared.view.SimView.{SimView}
use Rattle.dirty_lanes.specs.declared.view.View.{View}
use Rattle.dirty_lanes.specs.declared.view.View.TheVariants.{Spent, Sim, Packer}
use Rattle.dirty_lanes.specs.Words.{field_word, mask_word, packed}
use Rattle.dirty_lanes.specs.Log.{or_of}
use Rattle.dirty_lanes.specs.Views.{newest, newest_value, values, pending, raises_of, last_read, owes, drains_of, a_write, a_raise, a_drain, a_read, sim_with, pack_with}

-- the version last read is the newest, or the bit is set, or the field is owed, or it is pending
abbrev pub covered : List SimStep → List PackStep → ℕ → ℕ → ℕ → ℕ → Bool
covered sim pack client mask object field =
    (last_read pack object field == newest sim object field) || has_bit mask field || owes pack object field
    || pending sim client object field

-- each read stands in the simulation's list at its version
abbrev pub ReadsStand : List SimStep → List PackStep → Type 0
ReadsStand sim [] = Unit {0}
ReadsStand sim (Drain d ∷ l) = ReadsStand sim l
ReadsStand sim (Read r ∷ l) = (slice_get (values sim r.object r.field) r.version ≡ Some r.value) × ReadsStand sim l

-- Each drain took the or of what was raised since the drain before it, and the word has the or of what was raised since
-- the last: the raises, the newest first, are cut into one part for each drain and one for the word.
abbrev pub DrainsTake : ℕ → List ℕ → List ℕ → Type 0
DrainsTake mask [] raises = mask ≡ or_of raises
DrainsTake mask (d ∷ ds) raises = (k : ℕ) × (mask ≡ or_of (take k raises)) × DrainsTake d ds (drop k raises)

-- what the rule says of one client, whose steps these are
pub record Follows (objects : ℕ) (sim : List SimStep) (words : List ℕ) (client : ℕ) (pack : List PackStep) : Type 0 where
  pub stand : ReadsStand sim pack
  pub below : (object field : ℕ) → last_read pack object field ≤ newest sim object field
  pub takes : (object : ℕ) → object < objects
      → DrainsTake (slice_index words (mask_word client object)) (drains_of pack object) (raises_of sim client object)
  pub covers : (object field : ℕ) → field < MAX_LANE_FIELDS → object < objects
      → covered sim pack client (slice_index words (mask_word client object)) object field ≡ true

-- the packers that were joined into the simulation's seat
abbrev pub Joined : ℕ → (ℕ → List PackStep) → (ℕ → ℕ) → ℕ → List PackView → Type 0
Joined seat logs owner left [] = Unit {0}
Joined seat logs owner left (p ∷ ps) =
    (owner p.client ≡ seat) × (p.steps ≡ logs p.client) × (left ≤ p.client) × Joined seat logs owner left ps

-- what the rule says of the view of seat i, where the simulation sits on `seat` and knows `now`
abbrev pub Fits : ℕ → SimView → (ℕ → List PackStep) → (ℕ → ℕ) → ℕ → View → Type 0
Fits seat now logs owner i Spent = Unit {0}
Fits seat now logs owner i (Sim v) = (i ≡ seat) × (v ≡ now)
Fits seat now logs owner i (Packer p) = (owner p.client ≡ i) × (p.steps ≡ logs p.client) × (now.left ≤ p.client)

-- the rule: one seat is the simulation's; `logs` are the steps of each client, and `owner` is the seat that knows them
pub record RuleHolds (objects : ℕ) (s : State (Unit {0}) View) : Type 0 where
  pub wide : length s.words ≡ WORDS * objects + 1
  pub seat : ℕ
  pub now : SimView
  pub logs : ℕ → List PackStep
  pub owner : ℕ → ℕ
  pub sits : get_elem? s.views seat ≡ some (Sim now)
  pub each : (i : ℕ) (v : View) → get_elem? s.views i ≡ some v → Fits seat now logs owner i v
  pub joined : Joined seat logs owner now.left now.joined
  pub unborn : (client : ℕ) → client < now.left → logs client ≡ []
  pub small : (object field : ℕ) → newest_value now.steps object field < VERSION
  pub fields : (object field : ℕ) → field < MAX_LANE_FIELDS → object < objects
      → slice_index s.words (field_word object field) ≡ packed (newest now.steps object field) (newest_value now.steps object field)
  pub masks : (client object : ℕ) → client < MAX_CLIENTS → object < objects → slice_index s.words (mask_word client object) < 2 ^ MAX_LANE_FIELDS
  pub follows : (client : ℕ) → client < MAX_CLIENTS → Follows objects now.steps s.words client (logs client)

-- the object of a word, and its place among the object's words
abbrev pub object_of : ℕ → ℕ
object_of word = (word - 1) / WORDS

abbrev pub place_of : ℕ → ℕ
place_of word = (word - 1) % WORDS

-- the view after a store of n, an or with n, a swap that found n, and a load that found n
abbrev pub with_write : ℕ → ℕ → View → View
with_write word n Spent = Spent
with_write word n (Packer p) = Packer p
with_write word n (Sim v) = Sim (sim_with v (a_write (object_of word) (place_of word) (n % VERSION)))

abbrev pub with_raise : ℕ → ℕ → View → View
with_raise word n Spent = Spent
with_raise word n (Packer p) = Packer p
with_raise word n (Sim v) = Sim (sim_with v (a_raise (place_of word - MAX_LANE_FIELDS) (object_of word) n))

abbrev pub with_drain : ℕ → ℕ → View → View
with_drain word n Spent = Spent
with_drain word n (Sim v) = Sim v
with_drain word n (Packer p) = Packer (pack_with p (a_drain (object_of word) n))

abbrev pub with_read : ℕ → ℕ → View → View
with_read word n Spent = Spent
with_read word n (Sim v) = Sim v
with_read word n (Packer p) = Packer (pack_with p (a_read (object_of word) (place_of word) (n / VERSION) (n % VERSION)))

-- a load finds no older version than was read before, and version 0 has value 0
abbrev pub NotBelow : ℕ → ℕ → View → Type 0
NotBelow word n Spent = Unit {0}
NotBelow word n (Sim v) = Unit {0}
NotBelow word n (Packer p) = last_read p.steps (object_of word) (place_of word) ≤ n / VERSION

abbrev pub IsOpened : ℕ → Type 0
IsOpened n = n / VERSION ≡ 0 → n % VERSION ≡ 0

-- the seat of one more client: what the simulation keeps, and what the packer begins with
abbrev pub one_less : View → View
one_less Spent = Spent
one_less (Packer p) = Packer p
one_less (Sim v) = Sim (record v { left = v.left - 1 })

abbrev pub new_packer : View → View
new_packer Spent = Spent
new_packer (Packer p) = Spent
new_packer (Sim v) = Packer (record { client = v.left - 1; steps = [] })

-- the simulation's view after a packer's seat was joined
abbrev pub with_packer : View → View → View
with_packer (Sim v) (Packer p) = Sim (record v { joined = p ∷ v.joined })
with_packer v w = v

-- the view of a seat of each kind
abbrev pub sim_of : View → SimView
sim_of (Sim v) = v
sim_of (Packer p) = record { left = 0; joined = []; steps = [] }
sim_of Spent = record { left = 0; joined = []; steps = [] }

abbrev pub pack_of : View → PackView
pack_of (Packer p) = p
pack_of (Sim v) = record { client = 0; steps = [] }
pack_of Spent = record { client = 0; steps = [] }

-- three raises, of which a drain took the older two
two_taken : DrainsTake 4 (3 ∷ []) (4 ∷ 2 ∷ 1 ∷ [])
two_taken = (1, refl, refl)
