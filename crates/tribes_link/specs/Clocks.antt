-- What the calls of a clock and of an offset answer, which the caller keeps: where no clock or no offset has these numbers, they say so; else
-- the code of what is refused, or 0.
use Rattle.std.specs.Prelude.{◌≡◌, ℕ, ℤ, pos, ◌==◌, nat_lt, if◌then◌else◌, Option, Some, None}
use Rattle.draw_clock.specs.declared.clock.ClockRefusal.{ClockRefusal}
use Rattle.draw_clock.specs.declared.clock.ClockRefusal.TheVariants as refused
use Rattle.draw_clock.specs.declared.clock.Pace.{Pace}
use Rattle.draw_clock.specs.declared.clock.TheConstants.{MAX_TIME}
use Rattle.draw_clock.specs.Clocking.{Clock, IsBounded}
use Rattle.fading_offset.specs.Fading.{Shown}
use Rattle.fading_offset.specs.Fading as fading
use Rattle.tribes_link.specs.declared.clocks.TheConstants.{NO_CLOCK, BAD_PACE, NO_TIME, TIME_GOES_BACK, NOT_NEWER, NO_CLOCK_PACKET}
use Rattle.tribes_link.specs.declared.offsets.TheConstants.{NO_OFFSET}
use Rattle.tribes_link.specs.declared.offsets.OffsetRow.{OffsetRow}

abbrev pub clock_code : ClockRefusal → ℤ
clock_code refused.NoTime = NO_TIME
clock_code refused.TimeGoesBack = TIME_GOES_BACK
clock_code refused.NoPacket = NO_CLOCK_PACKET
clock_code refused.NotNewer = NOT_NEWER

abbrev pub ClockAnswered : ℤ → Option ClockRefusal → Type 0
ClockAnswered code None = code ≡ pos 0
ClockAnswered code (Some refusal) = code ≡ clock_code refusal

pub record ClockAnswers (c : Clock) (code : ℤ) (Holds : Clock → Type 0) : Type 0 where
  pub none : (IsBounded c → ⊥) → code ≡ NO_CLOCK
  pub some : IsBounded c → Holds c

-- a packet takes some time, and the time is not too great
abbrev pub Starts : Pace → ℕ → ℤ → Type 0
Starts pace now code = code ≡ (if pace.period == 0 then BAD_PACE else if nat_lt MAX_TIME now then NO_TIME else pos 0)

-- the offset of these numbers
abbrev pub offset_of : OffsetRow → Shown
offset_of o = record { most = o.most; offset = o.left }

pub record OffsetAnswers (o : Shown) (code : ℤ) : Type 0 where
  pub none : (fading.IsBounded o → ⊥) → code ≡ NO_OFFSET
  pub some : fading.IsBounded o → code ≡ pos 0
