-- What holds of every list that was told.
use Rattle.std.specs.Prelude.{ℕ, ◌+◌, ◌-◌, ◌*◌, ◌≤◌, List, [], ◌∷◌}
use Rattle.pace.specs.declared.rate.PaceTerms.{PaceTerms}
use Rattle.pace.specs.Rates.{AreTerms}
use Rattle.pace.specs.Pacing.{PaceEvent, Came, WasLost, Went, last_of, rate_of, allowed_at}

-- the rate lies between the least and the most
abbrev pub RateStaysBetween : Type 0
RateStaysBetween =
    (terms : PaceTerms) (start : ℕ) (log : List PaceEvent) → AreTerms terms
    → (terms.least ≤ rate_of terms start log) × (rate_of terms start log ≤ terms.most)

abbrev pub bytes_of : List PaceEvent → ℕ
bytes_of [] = 0
bytes_of (Came time ∷ log) = bytes_of log
bytes_of (WasLost time trip ∷ log) = bytes_of log
bytes_of (Went bytes time ∷ log) = bytes + bytes_of log

-- no datagram had more bytes than were allowed, and no time went back
abbrev pub IsKept : PaceTerms → ℕ → List PaceEvent → Type 0
IsKept terms start [] = Unit {0}
IsKept terms start (Came time ∷ log) = (last_of start log ≤ time) × IsKept terms start log
IsKept terms start (WasLost time trip ∷ log) = (last_of start log ≤ time) × IsKept terms start log
IsKept terms start (Went bytes time ∷ log) = (last_of start log ≤ time) × (bytes ≤ allowed_at terms start log time) × IsKept terms start log

-- who keeps to it sends no more than the most rate and what was saved up at the beginning
abbrev pub NoMoreThanTheMost : Type 0
NoMoreThanTheMost =
    (terms : PaceTerms) (start : ℕ) (log : List PaceEvent) → AreTerms terms → IsKept terms start log
    → 1000 * bytes_of log ≤ 1000 * terms.burst + terms.most * (last_of start log - start)
