-- What the caller keeps of a connection: whether the other end is there, how much goes each way, and a rate; and the quality behind a handle. What
-- their calls answer.
use Rattle.std.specs.Prelude.{◌≡◌, ℕ, ℤ, pos, negsuc, ◌==◌, nat_lt, if◌then◌else◌, Bool, true, false, List, Option, Some, None, Ok, Err}
use Rattle.link_quality.specs.declared.packets.QualityRefusal.{QualityRefusal}
use Rattle.link_quality.specs.declared.packets.QualityRefusal.TheVariants as quality
use Rattle.link_quality.specs.declared.smoothing.RoundTrip.{RoundTrip}
use Rattle.link_quality.specs.declared.traffic.MeterRefusal.{MeterRefusal}
use Rattle.pace.specs.Pacing.{Pacing, IsBetween}
use Rattle.pace.specs.declared.pace.PaceRefusal.{PaceRefusal}
use Rattle.presence.specs.Presence.{PresenceState, Does, Answers, Said, goodbye, says_next, is_alive_by}
use Rattle.presence.specs.declared.other_end.TheConstants.{GOODBYES}
use Rattle.tn_types.specs.Checks.{Checked}
use Rattle.tn_types.specs.declared.choices.Verdict.{Verdict}
use Rattle.tn_types.specs.declared.choices.Verdict.TheVariants.{Received, Lost}
use Rattle.tribes_link.specs.declared.joining_codes.TheConstants.{NO_PRESENCE, TOO_MANY_WAIT, NOTHING_WAITS, TIME_GOES_BACK_AT_LINK, SECOND_IS_PAST, NO_RATE}
use Rattle.tribes_link.specs.declared.qualities.QualityRow.{QualityRow}

-- ---- presence

abbrev pub presence_code : ℕ → ℤ → ℤ
presence_code said code = if nat_lt GOODBYES said then NO_PRESENCE else code

abbrev pub one_if_some : {T : Type 0} → Option T → ℤ
one_if_some None = pos 0
one_if_some (Some x) = pos 1

-- the goodbye that is to be said next, and that it was said
abbrev pub SaysAt : PresenceState → List ℕ → PresenceState → Type 0
SaysAt old bytes new = (reason : ℕ) × (bytes ≡ goodbye reason) × Answers old says_next (Some reason) × Does old (Said true) new

abbrev pub one_if : Bool → ℤ
one_if true = pos 1
one_if false = pos 0

abbrev pub AliveAt : PresenceState → ℕ → ℤ → Type 0
AliveAt p now code = (alive : Bool) × (code ≡ one_if alive) × Answers p (is_alive_by p.limit now) alive

-- ---- quality

abbrev pub verdict_of : ℕ → Verdict
verdict_of received = if received == 0 then Lost else Received

abbrev pub quality_code : Checked QualityRefusal → ℤ
quality_code (Ok done) = pos 0
quality_code (Err quality.TimeGoesBack) = TIME_GOES_BACK_AT_LINK
quality_code (Err quality.TooMany) = TOO_MANY_WAIT
quality_code (Err quality.NothingWaits) = NOTHING_WAITS

-- the round trip of a row, where one is known
abbrev pub trip_of : QualityRow → Option RoundTrip
trip_of r = if r.known == 0 then None else Some (record { eighths = r.eighths; quarters = r.quarters })

-- ---- meters and rates

abbrev pub meter_code : Checked MeterRefusal → ℤ
meter_code (Ok done) = pos 0
meter_code (Err refusal) = SECOND_IS_PAST

abbrev pub pace_code : Checked PaceRefusal → ℤ
pace_code (Ok done) = pos 0
pace_code (Err refusal) = TIME_GOES_BACK_AT_LINK

-- what is refused, or else whether there is a time at which so many bytes may go
abbrev pub wait_code : Bool → ℤ → ℤ
wait_code true (pos n) = pos 0
wait_code false (pos n) = pos 1
wait_code never (negsuc n) = negsuc n

-- where no rate has these numbers, it says so
pub record RateAnswers (p : Pacing) (code : ℤ) (Holds : Type 0) : Type 0 where
  pub none : (IsBetween p → ⊥) → code ≡ NO_RATE
  pub some : IsBetween p → Holds
