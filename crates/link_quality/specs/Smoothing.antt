-- The smoothed round trip by all that were measured, the newest first, each in milliseconds: the first one is taken as it is, and half of it as what
-- single ones differ by; with each later one the length goes an eighth of the way there, and what they differ by a quarter.
use Rattle.std.specs.Prelude.{ℕ, ◌+◌, ◌-◌, ◌*◌, ◌/◌, ◌≡◌, ◌≤◌, refl, List, [], ◌∷◌, Option, Some, None}
use Rattle.link_quality.specs.declared.smoothing.RoundTrip.{RoundTrip}
use Rattle.link_quality.specs.declared.smoothing.TheConstants.{MAX_ROUND_TRIP}

-- how far two numbers lie apart
abbrev pub gap : ℕ → ℕ → ℕ
gap one other = (one - other) + (other - one)

abbrev pub first_trip : ℕ → RoundTrip
first_trip trip = record { eighths = trip * 8; quarters = trip * 2 }

abbrev pub next_trip : RoundTrip → ℕ → RoundTrip
next_trip s trip = record {
  eighths = s.eighths - s.eighths / 8 + trip;
  quarters = s.quarters - s.quarters / 4 + gap (s.eighths / 8) trip;
}

abbrev pub after_trip : Option RoundTrip → ℕ → RoundTrip
after_trip None trip = first_trip trip
after_trip (Some s) trip = next_trip s trip

abbrev pub smoothed_of : List ℕ → Option RoundTrip
smoothed_of [] = None
smoothed_of (trip ∷ trips) = Some (after_trip (smoothed_of trips) trip)

-- what holds of each
pub record IsSmall (s : RoundTrip) : Type 0 where
  pub eighths_few : s.eighths ≤ 8 * MAX_ROUND_TRIP
  pub quarters_few : s.quarters ≤ 4 * MAX_ROUND_TRIP

-- ---- examples: 100, then 180 and 100 milliseconds

none_measured : smoothed_of [] ≡ None
none_measured = refl

as_it_is : smoothed_of (100 ∷ []) ≡ Some (record { eighths = 800; quarters = 200 })
as_it_is = refl

-- 110 milliseconds, and 57 and a half
once_more : smoothed_of (180 ∷ 100 ∷ []) ≡ Some (record { eighths = 880; quarters = 230 })
once_more = refl

back_again : smoothed_of (100 ∷ 180 ∷ 100 ∷ []) ≡ Some (record { eighths = 870; quarters = 183 })
back_again = refl
