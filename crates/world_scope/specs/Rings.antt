-- How the objects of a word are seen by their places: the quarters of a reach by how far each goes, and what an object in them is
-- seen as.
use Rattle.std.specs.Prelude.{◌≡◌, ℕ, ◌+◌, ◌-◌, ◌*◌, ◌/◌, ◌<◌, min, true, List, map, Some, nat_lt, slice_get, slice_index_or, if◌then◌else◌}
use Rattle.std.specs.Int.{bit_at}
use Rattle.std.specs.List.{enumerate_from}
use Rattle.world_rules.specs.declared.limits.TheConstants.{MAX_COORDINATE}
use Rattle.world_rules.specs.declared.object.Place.{Place}
use Rattle.world_rules.specs.declared.object.Object.{Object}
use Rattle.world_places.specs.declared.places.PlaceWord.{PlaceWord}
use Rattle.world_places.specs.Places.{AreOf64, is_special, place_at}
use Rattle.world_scope.specs.declared.viewer.Seen.{Seen}
use Rattle.world_scope.specs.declared.viewer.Viewer.{Viewer}
use Rattle.world_scope.specs.declared.whole_words.Rings.{Rings}
use Rattle.world_scope.specs.Sight.{distance}

abbrev pub center : Rings → Place
center r = record { x = r.x; y = r.y }

-- how far so many quarters go, at most as far as the field
abbrev pub end_of : ℕ → ℕ → ℕ
end_of quarters reach = min ((quarters * reach - 1) / 4) MAX_COORDINATE

pub record AreRings (r : Rings) (v : Viewer) : Type 0 where
  pub center : center r ≡ v.place
  pub first : r.first ≡ end_of 1 v.reach
  pub second : r.second ≡ end_of 2 v.reach
  pub third : r.third ≡ end_of 3 v.reach
  pub reach : r.reach ≡ end_of 4 v.reach

abbrev pub is_past : ℕ → ℕ → ℕ
is_past end away = if nat_lt end away then 1 else 0

-- how many of three quarters end before it
abbrev pub rings_out : Rings → ℕ → ℕ
rings_out r away = is_past r.first away + is_past r.second away + is_past r.third away

-- each of 64 objects lies within reach, at its level
abbrev pub AreLevels : List ℕ → Viewer → PlaceWord → Type 0
AreLevels levels v word =
    (k : ℕ) → k < 64 → (distance v.place (place_at word k) < v.reach)
    × (slice_index_or levels k 0 ≡ 4 * distance v.place (place_at word k) / v.reach)

-- objects from this number on, each at its level
abbrev pub entries : ℕ → List ℕ → List Seen
entries from levels = map (λ e. record { object = e.0; level = e.1 }) (enumerate_from from levels)

-- a word has the places of the objects from this number on, and a bit for each that is special
pub record HasPlaces (word : PlaceWord) (from : ℕ) (os : List Object) : Type 0 where
  pub many : AreOf64 word
  pub places : (k : ℕ) (o : Object) → k < 64 → slice_get os (from + k) ≡ Some o → place_at word k ≡ o.place
  pub marks : (k : ℕ) (o : Object) → k < 64 → slice_get os (from + k) ≡ Some o → is_special o ≡ true
      → bit_at word.special k ≡ 1
