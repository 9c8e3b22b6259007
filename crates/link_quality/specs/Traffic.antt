-- How much went one way in a second, by the list of the datagrams, the newest first.
use Rattle.std.specs.Prelude.{ℕ, zero, suc, ◌+◌, ◌-◌, ◌/◌, min, nat_lt, nat_eq, if◌then◌else◌, ◌≡◌, ◌≤◌, refl, List, [], ◌∷◌, All, Ok, Err}
use Rattle.tn_types.specs.Checks.{Checked}
use Rattle.link_quality.specs.declared.traffic.MeterParts.{MeterParts}
use Rattle.link_quality.specs.declared.traffic.Traffic.{Traffic}
use Rattle.link_quality.specs.declared.traffic.TheConstants.{SECOND}
use Rattle.link_quality.specs.declared.traffic.MeterRefusal.{MeterRefusal}
use Rattle.link_quality.specs.declared.traffic.MeterRefusal.TheVariants.{SecondIsPast}

pub record Datagram : Type 0 where
  pub bytes : ℕ
  pub time : ℕ

-- a count stays where it would pass 4,294,967,295
abbrev pub counted : ℕ → ℕ
counted n = min 4294967295 n

abbrev pub no_traffic : Traffic
no_traffic = record { datagrams = 0; bytes = 0 }

abbrev pub with_datagram : Traffic → ℕ → Traffic
with_datagram t bytes = record { datagrams = counted (t.datagrams + 1); bytes = counted (t.bytes + bytes) }

abbrev pub second_of : Datagram → ℕ
second_of d = d.time / SECOND

abbrev pub traffic_in : ℕ → List Datagram → Traffic
traffic_in second [] = no_traffic
traffic_in second (d ∷ log) = if nat_eq (second_of d) second then with_datagram (traffic_in second log) d.bytes else traffic_in second log

-- in the second before
abbrev pub traffic_before : ℕ → List Datagram → Traffic
traffic_before zero log = no_traffic
traffic_before (suc second) log = traffic_in second log

-- ---- what contracts see

pub record Meter : Type 0 where
  pub second : ℕ
  pub current : Traffic
  pub before : Traffic

-- the meter of these numbers
abbrev pub meter_from : MeterParts → Meter
meter_from p = record { second = p.second; current = p.current; before = p.before }

pub record StandsFor (m : Meter) (log : List Datagram) : Type 0 where
  pub current_is : m.current ≡ traffic_in m.second log
  pub before_is : m.before ≡ traffic_before m.second log
  pub none_later : All (λ d. second_of d ≤ m.second) log

-- what is refused
abbrev pub second_check : Meter → ℕ → Checked MeterRefusal
second_check m second = if nat_lt second m.second then Err SecondIsPast else Ok tt

-- what a meter says of a second that is not past, and of the one before it
abbrev pub current_at : Meter → ℕ → Traffic
current_at m second = if nat_eq second m.second then m.current else no_traffic

abbrev pub before_at : Meter → ℕ → Traffic
before_at m second = if nat_eq second m.second then m.before else if nat_eq (second - m.second) 1 then m.current else no_traffic

-- ---- examples

abbrev three : List Datagram
three = record { bytes = 50; time = 2100 } ∷ record { bytes = 200; time = 1999 } ∷ record { bytes = 100; time = 1000 } ∷ []

two_in_a_second : traffic_before 2 three ≡ record { datagrams = 2; bytes = 300 }
two_in_a_second = refl

none_before_the_first : traffic_before 0 three ≡ no_traffic
none_before_the_first = refl
