-- How packets went, by the list of what was told, the newest first: a packet was sent at a time, or it was judged at a time. Packets are judged in
-- the order in which they were sent, so the third verdict is the third packet's. Times are milliseconds.
use Rattle.std.specs.Prelude.{ℕ, suc, ◌-◌, min, nat_lt, if◌then◌else◌, ◌≡◌, ◌≤◌, refl, List, [], ◌∷◌, ◌++◌, drop, take, length, slice_get, Option, Some, None, Ok, Err}
use Rattle.tn_types.specs.declared.choices.Verdict.{Verdict}
use Rattle.tn_types.specs.declared.choices.Verdict.TheVariants.{Received, Lost}
use Rattle.tn_types.specs.Checks.{Checked}
use Rattle.link_quality.specs.declared.smoothing.RoundTrip.{RoundTrip}
use Rattle.link_quality.specs.declared.smoothing.TheConstants.{MAX_ROUND_TRIP}
use Rattle.link_quality.specs.declared.packets.TheConstants.{WAITING_PACKETS}
use Rattle.link_quality.specs.declared.verdicts.TheConstants.{JUDGED_PACKETS}
use Rattle.link_quality.specs.declared.packets.QualityRefusal.{QualityRefusal}
use Rattle.link_quality.specs.declared.packets.QualityRefusal.TheVariants.{TimeGoesBack, TooMany, NothingWaits}
use Rattle.link_quality.specs.Smoothing.{smoothed_of, after_trip}

pub data PacketEvent : Type 0 where
  Sent : (time : ℕ) → PacketEvent
  Judged : (verdict : Verdict) (time : ℕ) → PacketEvent

-- when each packet was sent, the first one first
abbrev pub sent_of : List PacketEvent → List ℕ
sent_of [] = []
sent_of (Sent time ∷ log) = sent_of log ++ time ∷ []
sent_of (Judged verdict time ∷ log) = sent_of log

-- what was said of them, the newest first
abbrev pub verdicts_of : List PacketEvent → List Verdict
verdicts_of [] = []
verdicts_of (Sent time ∷ log) = verdicts_of log
verdicts_of (Judged verdict time ∷ log) = verdict ∷ verdicts_of log

-- the time that was told last
abbrev pub last_of : List PacketEvent → ℕ
last_of [] = 0
last_of (Sent time ∷ log) = time
last_of (Judged verdict time ∷ log) = time

-- when the packet was sent that is judged next
abbrev pub oldest_sent : List PacketEvent → Option ℕ
oldest_sent log = slice_get (sent_of log) (length (verdicts_of log))

-- from its sending to its verdict
abbrev pub trip_to : ℕ → Option ℕ → List ℕ → List ℕ
trip_to time (Some sent) trips = min MAX_ROUND_TRIP (time - sent) ∷ trips
trip_to time None trips = trips

-- the round trips of the packets that came, the newest first
abbrev pub trips_of : List PacketEvent → List ℕ
trips_of [] = []
trips_of (Sent time ∷ log) = trips_of log
trips_of (Judged Received time ∷ log) = trip_to time (oldest_sent log) (trips_of log)
trips_of (Judged Lost time ∷ log) = trips_of log

abbrev pub lost_in : List Verdict → ℕ
lost_in [] = 0
lost_in (Received ∷ verdicts) = lost_in verdicts
lost_in (Lost ∷ verdicts) = suc (lost_in verdicts)

-- how many were lost of the last 64 that were judged
abbrev pub losses_of : List PacketEvent → ℕ
losses_of log = lost_in (take JUDGED_PACKETS (verdicts_of log))

-- ---- what contracts see

pub record Quality : Type 0 where
  pub waiting : List ℕ
  pub verdicts : List Verdict
  pub smoothed : Option RoundTrip
  pub last : ℕ

pub record StandsFor (q : Quality) (log : List PacketEvent) : Type 0 where
  pub waiting_are : q.waiting ≡ drop (length (verdicts_of log)) (sent_of log)
  pub verdicts_are : q.verdicts ≡ take JUDGED_PACKETS (verdicts_of log)
  pub smoothed_is : q.smoothed ≡ smoothed_of (trips_of log)
  pub last_is : q.last ≡ last_of log
  pub judged_were_sent : length (verdicts_of log) ≤ length (sent_of log)

-- what is refused of a time; of one more packet; of a verdict
abbrev pub time_check : Quality → ℕ → Checked QualityRefusal
time_check q time = if nat_lt time q.last then Err TimeGoesBack else Ok tt

abbrev pub sent_check : Quality → Checked QualityRefusal
sent_check q = if nat_lt (length q.waiting) WAITING_PACKETS then Ok tt else Err TooMany

abbrev pub judged_check : List ℕ → Checked QualityRefusal
judged_check [] = Err NothingWaits
judged_check (sent ∷ waiting) = Ok tt

-- the smoothed round trip once a packet is judged
abbrev pub smoothed_by : Verdict → Option RoundTrip → ℕ → Option RoundTrip
smoothed_by Received smoothed trip = Some (after_trip smoothed (min MAX_ROUND_TRIP trip))
smoothed_by Lost smoothed trip = smoothed

-- ---- examples: two packets are sent; the first one comes, and the second one is lost

abbrev both_sent : List PacketEvent
both_sent = Sent 1050 ∷ Sent 1000 ∷ []

abbrev both_judged : List PacketEvent
both_judged = Judged Lost 1150 ∷ Judged Received 1120 ∷ both_sent

nothing_yet : trips_of both_sent ≡ []
nothing_yet = refl

the_first_one_alone : trips_of both_judged ≡ 120 ∷ []
the_first_one_alone = refl

one_of_two : losses_of both_judged ≡ 1
one_of_two = refl
