-- Where objects stand, as it is kept: two lists of coordinates, and a bit for each object that asks for a look at what it is.
-- The bit may stand where nobody asks for it, but never the other way round.
use Rattle.std.specs.Prelude.{◌≡◌, ℕ, ◌+◌, ◌*◌, ◌<◌, Bool, true, false, List, length, Some, slice_get, slice_index_or}
use Rattle.std.specs.Int.{bit_at}
use Rattle.world_rules.specs.declared.object.Place.{Place}
use Rattle.world_rules.specs.declared.object.Object.{Object}
use Rattle.world_rules.specs.declared.object.State.{State}
use Rattle.world_cells.specs.NumberSet.{bit_of}
use Rattle.world_places.specs.declared.places.PlaceWord.{PlaceWord}
use Rattle.world_rules.specs.declared.object.State.TheVariants.{Mine, Flag, Clock}

-- by number: both coordinates, and words of 64 bits
pub record PlaceLists : Type 0 where
  pub xs : List ℕ
  pub ys : List ℕ
  pub special : List ℕ

-- the place that is kept for an object, and the object's bit
abbrev pub place_in : PlaceLists → ℕ → Place
place_in lists n = record { x = slice_index_or lists.xs n 0; y = slice_index_or lists.ys n 0 }

abbrev pub special_in : PlaceLists → ℕ → ℕ
special_in lists n = bit_of lists.special n

-- what may be hidden, or is always seen
abbrev pub is_special_part : State → Bool
is_special_part (Mine m) = m.armed
is_special_part (Flag f) = true
is_special_part (Clock c) = true
is_special_part _ = false

abbrev pub is_special : Object → Bool
is_special o = is_special_part o.state

-- each object stands at its place, and has its bit if it is special
pub record ArePlaced (lists : PlaceLists) (os : List Object) : Type 0 where
  pub places : (n : ℕ) (o : Object) → slice_get os n ≡ Some o → place_in lists n ≡ o.place
  pub marks : (n : ℕ) (o : Object) → slice_get os n ≡ Some o → is_special o ≡ true → special_in lists n ≡ 1

-- each coordinate has room for 1,024 objects
pub record AreWhole (lists : PlaceLists) : Type 0 where
  pub xs : length lists.xs ≡ 1024
  pub ys : length lists.ys ≡ 1024

-- one object has this place, and all others have theirs; the bits are as they were
pub record IsPut (number x y : ℕ) (old new : PlaceLists) : Type 0 where
  pub here : place_in new number ≡ record { x = x; y = y }
  pub others : (n : ℕ) → (n ≡ number → ⊥) → place_in new n ≡ place_in old n
  pub marks : (n : ℕ) → special_in new n ≡ special_in old n

-- one object has this bit, and all others have theirs; the places are as they were
pub record IsMarked (number : ℕ) (special : Bool) (old new : PlaceLists) : Type 0 where
  pub here : special ≡ true → special_in new number ≡ 1
  pub others : (n : ℕ) → (n ≡ number → ⊥) → special_in new n ≡ special_in old n
  pub places : (n : ℕ) → place_in new n ≡ place_in old n

-- the place that a word of 64 objects has for one of them
abbrev pub place_at : PlaceWord → ℕ → Place
place_at word k = record { x = slice_index_or word.xs.now k 0; y = slice_index_or word.ys.now k 0 }

-- 64 of each coordinate
pub record AreOf64 (word : PlaceWord) : Type 0 where
  pub xs : length word.xs.now ≡ 64
  pub ys : length word.ys.now ≡ 64

-- a word has the places and the bits of the 64 objects from number 64 * w on
pub record IsWordOf (lists : PlaceLists) (w : ℕ) (word : PlaceWord) : Type 0 where
  pub many : AreOf64 word
  pub places : (k : ℕ) → k < 64 → place_at word k ≡ place_in lists (64 * w + k)
  pub special : (k : ℕ) → k < 64 → bit_at word.special k ≡ special_in lists (64 * w + k)
