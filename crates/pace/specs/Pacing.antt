-- What may go, by the list of what was told, the newest first: a packet came, one was lost, or a datagram went. Times are milliseconds.
use Rattle.std.specs.Prelude.{ℕ, ◌-◌, ◌*◌, ◌/◌, Bool, nat_le, nat_lt, if◌then◌else◌, ◌≡◌, ◌≤◌, refl, List, [], ◌∷◌, Ok, Err}
use Rattle.tn_types.specs.Checks.{Checked}
use Rattle.pace.specs.declared.rate.PaceTerms.{PaceTerms}
use Rattle.pace.specs.declared.rate.TheConstants.{THOUSANDTHS}
use Rattle.pace.specs.declared.pace.PaceParts.{PaceParts}
use Rattle.pace.specs.declared.pace.PaceRefusal.{PaceRefusal}
use Rattle.pace.specs.declared.pace.PaceRefusal.TheVariants.{TimeGoesBack}
use Rattle.pace.specs.Rates.{raised, eased, saved_up, AreTerms}

pub data PaceEvent : Type 0 where
  Came : (time : ℕ) → PaceEvent
  WasLost : (time trip : ℕ) → PaceEvent  -- told at this time, when a round trip took so long
  Went : (bytes time : ℕ) → PaceEvent

abbrev pub time_of : PaceEvent → ℕ
time_of (Came time) = time
time_of (WasLost time trip) = time
time_of (Went bytes time) = time

-- the time that was told last
abbrev pub last_of : ℕ → List PaceEvent → ℕ
last_of start [] = start
last_of start (event ∷ log) = time_of event

-- a loss eases the rate where a round trip is over since the last one that did
abbrev pub is_new : ℕ → ℕ → ℕ → Bool
is_new eased_at time trip = nat_le trip (time - eased_at)

-- when it was eased last
abbrev pub eased_of : ℕ → List PaceEvent → ℕ
eased_of start [] = start
eased_of start (Came time ∷ log) = eased_of start log
eased_of start (Went bytes time ∷ log) = eased_of start log
eased_of start (WasLost time trip ∷ log) = if is_new (eased_of start log) time trip then time else eased_of start log

abbrev pub rate_of : PaceTerms → ℕ → List PaceEvent → ℕ
rate_of terms start [] = terms.least
rate_of terms start (Came time ∷ log) = raised terms (rate_of terms start log)
rate_of terms start (Went bytes time ∷ log) = rate_of terms start log
rate_of terms start (WasLost time trip ∷ log) =
    if is_new (eased_of start log) time trip then eased terms (rate_of terms start log) else rate_of terms start log

-- what is saved up when the last thing was told: at the beginning all that may be; a datagram takes its bytes of it
abbrev pub saved_of : PaceTerms → ℕ → List PaceEvent → ℕ
saved_of terms start [] = terms.burst * THOUSANDTHS
saved_of terms start (Came time ∷ log) = saved_up terms (saved_of terms start log) (rate_of terms start log) (time - last_of start log)
saved_of terms start (WasLost time trip ∷ log) = saved_up terms (saved_of terms start log) (rate_of terms start log) (time - last_of start log)
saved_of terms start (Went bytes time ∷ log) =
    saved_up terms (saved_of terms start log) (rate_of terms start log) (time - last_of start log) - bytes * THOUSANDTHS

-- what is saved up at a time
abbrev pub saved_at : PaceTerms → ℕ → List PaceEvent → ℕ → ℕ
saved_at terms start log time = saved_up terms (saved_of terms start log) (rate_of terms start log) (time - last_of start log)

-- how many bytes a datagram may have then
abbrev pub allowed_at : PaceTerms → ℕ → List PaceEvent → ℕ → ℕ
allowed_at terms start log time = saved_at terms start log time / THOUSANDTHS

-- ---- what contracts see

pub record Pacing : Type 0 where
  pub terms : PaceTerms
  pub start : ℕ
  pub rate : ℕ
  pub saved : ℕ
  pub last : ℕ
  pub eased : ℕ

-- a pace of these numbers
abbrev pub pacing_from : PaceParts → Pacing
pacing_from p = record { terms = p.terms; start = p.start; rate = p.rate; saved = p.saved; last = p.last; eased = p.eased }

pub record StandsFor (p : Pacing) (log : List PaceEvent) : Type 0 where
  pub rate_is : p.rate ≡ rate_of p.terms p.start log
  pub saved_is : p.saved ≡ saved_of p.terms p.start log
  pub last_is : p.last ≡ last_of p.start log
  pub eased_is : p.eased ≡ eased_of p.start log

-- what holds of each
pub record IsBetween (p : Pacing) : Type 0 where
  pub terms : AreTerms p.terms
  pub least : p.terms.least ≤ p.rate
  pub most : p.rate ≤ p.terms.most
  pub saved : p.saved ≤ p.terms.burst * THOUSANDTHS

abbrev pub time_check : Pacing → ℕ → Checked PaceRefusal
time_check p time = if nat_lt time p.last then Err TimeGoesBack else Ok tt

-- ---- examples: two packets come, and two are lost within a round trip of 100 milliseconds

abbrev terms : PaceTerms
terms = record { least = 1000; most = 10000; step = 500; burst = 1200 }

abbrev two_lost : List PaceEvent
two_lost = WasLost 1240 100 ∷ WasLost 1200 100 ∷ Came 1100 ∷ Came 1050 ∷ []

one_eases : rate_of terms 1000 two_lost ≡ 1500
one_eases = refl

-- 1,200 bytes were saved up at the beginning, and 50 milliseconds at 1,000 bytes a second are 50 more
after_a_datagram : allowed_at terms 1000 (Went 1000 1000 ∷ []) 1050 ≡ 250
after_a_datagram = refl
