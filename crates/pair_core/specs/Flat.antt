-- Datagrams that lie one behind another in one list of bytes, each up to its end.
use Rattle.std.specs.Prelude.{◌≡◌, refl, ℕ, ◌+◌, ◌-◌, ◌≤◌, Bool, List, [], ◌∷◌, ◌++◌, length, take, drop}
use Rattle.std.specs.List.{AllByRecursion}
use Rattle.tn_types.specs.declared.limits.TheConstants.{MAX_DATAGRAM_BYTES, MAX_DATAGRAMS}
use Rattle.conn_packing.specs.declared.made.Made.{Made}
use Rattle.conn_packing.specs.declared.made.Made.TheVariants as made

-- what was sent one way, and whether there is room for one more datagram
pub record Sent : Type 0 where
  pub list : List (List ℕ)
  pub has_room : Bool

-- each has the bytes from where the one before it ends
abbrev pub cut : ℕ → List ℕ → List ℕ → List (List ℕ)
cut start [] bytes = []
cut start (stop ∷ stops) bytes = take (stop - start) (drop start bytes) ∷ cut stop stops bytes

-- ends rise, from start to the number of bytes
abbrev pub Rise : ℕ → List ℕ → ℕ → Type 0
Rise start [] most = start ≡ most
Rise start (stop ∷ stops) most = (start ≤ stop) × Rise stop stops most

abbrev pub IsShort : List ℕ → Type 0
IsShort datagram = length datagram ≤ MAX_DATAGRAM_BYTES

pub record AreFlat (stops bytes : List ℕ) : Type 0 where
  pub rise : Rise 0 stops (length bytes)
  pub few : length stops ≤ MAX_DATAGRAMS
  pub short : AllByRecursion IsShort (cut 0 stops bytes)

-- what a pack made stands behind what was sent before, if it made anything
abbrev pub with_made : {A : Type 0} → Made → A → List A → List A
with_made (made.Ping len) x xs = xs ++ x ∷ []
with_made (made.Body len) x xs = xs ++ x ∷ []
with_made (made.Worn life) x xs = xs

-- and they are one more, if it made anything
abbrev pub count_with : Made → ℕ → ℕ
count_with (made.Ping len) n = n + 1
count_with (made.Body len) n = n + 1
count_with (made.Worn life) n = n

-- two datagrams, of two bytes and of one
two : cut 0 (2 ∷ 3 ∷ []) (7 ∷ 8 ∷ 9 ∷ []) ≡ (7 ∷ 8 ∷ []) ∷ (9 ∷ []) ∷ []
two = refl
