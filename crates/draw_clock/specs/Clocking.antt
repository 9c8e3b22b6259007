-- Which moment is drawn, by the list of what was told, the newest first: a packet came at a time, or the clock was read. Times are milliseconds.
-- The clock follows a target: the packet that came last, with what the server sent since then by its pace, less the delay.
use Rattle.std.specs.Prelude.{ℕ, ◌+◌, ◌-◌, ◌*◌, ◌/◌, min, max, nat_lt, nat_le, ◌||◌, if◌then◌else◌, ◌≡◌, refl, ◌≤◌, ◌<◌, List, [], ◌∷◌, Result, Ok, Err}
use Rattle.tn_types.specs.declared.limits.TheConstants.{MAX_LIFE}
use Rattle.tn_types.specs.Checks.{Checked}
use Rattle.draw_clock.specs.declared.pace.TheConstants.{FINE}
use Rattle.draw_clock.specs.declared.clock.TheConstants.{MAX_TIME}
use Rattle.draw_clock.specs.declared.clock.Pace.{Pace}
use Rattle.draw_clock.specs.declared.clock.ClockParts.{ClockParts}
use Rattle.draw_clock.specs.declared.clock.ClockRefusal.{ClockRefusal}
use Rattle.draw_clock.specs.declared.clock.ClockRefusal.TheVariants.{NoTime, TimeGoesBack, NoPacket, NotNewer}
use Rattle.draw_clock.specs.Following.{distance, followed}

pub data ClockEvent : Type 0 where
  Came : (packet time : ℕ) → ClockEvent
  Read : (time : ℕ) → ClockEvent

-- the packet that came last, 0 where none did, and when
abbrev pub newest_of : List ClockEvent → ℕ
newest_of [] = 0
newest_of (Came packet time ∷ log) = packet
newest_of (Read time ∷ log) = newest_of log

abbrev pub came_of : ℕ → List ClockEvent → ℕ
came_of start [] = start
came_of start (Came packet time ∷ log) = time
came_of start (Read time ∷ log) = came_of start log

-- when the clock was read last
abbrev pub read_of : ℕ → List ClockEvent → ℕ
read_of start [] = start
read_of start (Came packet time ∷ log) = read_of start log
read_of start (Read time ∷ log) = time

-- where the clock is to be so long after that packet
abbrev pub target_of : Pace → ℕ → ℕ → ℕ
target_of pace newest since = newest * FINE + distance since pace.period - pace.delay * FINE

-- no further than this: so many packets ahead of the last one that came. It stands at the beginning until more came than the delay has
abbrev pub bound_of : Pace → ℕ → ℕ
bound_of pace newest = if nat_le newest pace.delay then 0 else (newest + pace.ahead) * FINE

-- where it goes from its place if it was read so long ago
abbrev pub gone_to : Pace → ℕ → ℕ → ℕ → ℕ → ℕ
gone_to pace newest since elapsed at =
    min (bound_of pace newest) (followed at (distance elapsed pace.period) (target_of pace newest since) (distance 1000 pace.period))

-- where the clock is, in units of which a packet has 65,536
abbrev pub position_of : Pace → ℕ → List ClockEvent → ℕ
position_of pace start [] = 0
position_of pace start (Came packet time ∷ log) = position_of pace start log
position_of pace start (Read time ∷ log) =
    gone_to pace (newest_of log) (time - came_of start log) (time - read_of start log) (position_of pace start log)

-- ---- what contracts see

pub record Clock : Type 0 where
  pub pace : Pace
  pub start : ℕ
  pub newest : ℕ
  pub came : ℕ
  pub read : ℕ
  pub position : ℕ

-- a clock of these numbers
abbrev pub clock_from : ClockParts → Clock
clock_from p = record { pace = p.pace; start = p.start; newest = p.newest; came = p.came; read = p.read; position = p.position }

pub record StandsFor (c : Clock) (log : List ClockEvent) : Type 0 where
  pub newest_is : c.newest ≡ newest_of log
  pub came_is : c.came ≡ came_of c.start log
  pub read_is : c.read ≡ read_of c.start log
  pub position_is : c.position ≡ position_of c.pace c.start log

-- what holds of every clock
pub record IsBounded (c : Clock) : Type 0 where
  pub period_some : 0 < c.pace.period
  pub delay_few : c.pace.delay ≤ 65535
  pub ahead_few : c.pace.ahead ≤ 65535
  pub newest_few : c.newest ≤ MAX_LIFE
  pub came_few : c.came ≤ MAX_TIME
  pub read_few : c.read ≤ MAX_TIME
  pub bound : c.position ≤ bound_of c.pace c.newest

-- what is refused of a time, and of a packet
abbrev pub time_check : Clock → ℕ → Checked ClockRefusal
time_check c time =
    if nat_lt MAX_TIME time then Err NoTime
    else if nat_lt time c.came || nat_lt time c.read then Err TimeGoesBack
    else Ok tt

abbrev pub packet_check : Clock → ℕ → Checked ClockRefusal
packet_check c packet =
    if nat_lt MAX_LIFE packet then Err NoPacket
    else if nat_lt c.newest packet then Ok tt
    else Err NotNewer

abbrev pub then_ok : {R E : Type 0} → Checked E → R → Result R E
then_ok (Ok u) r = Ok r
then_ok (Err e) r = Err e
