-- How the clock follows its target. In a step of time it would go as far as the packets do in that time. It goes to the target, but by at most a
-- fiftieth of the step more or less than that. If the target is more than a second ahead, the clock jumps there; if it is more than a second
-- behind, the clock stands.
use Rattle.std.specs.Prelude.{ℕ, ◌+◌, ◌-◌, ◌*◌, ◌/◌, min, max, nat_lt, if◌then◌else◌, ◌≡◌, refl}
use Rattle.draw_clock.specs.declared.pace.TheConstants.{FINE, PULL}

-- how far the packets go in so many milliseconds
abbrev pub distance : ℕ → ℕ → ℕ
distance elapsed period = elapsed * FINE / period

abbrev pub followed : ℕ → ℕ → ℕ → ℕ → ℕ
followed at step target second =
    if nat_lt (at + step + second) target then target
    else if nat_lt (target + second) (at + step) then at
    else max (at + step - step / PULL) (min (at + step + step / PULL) target)

-- ---- examples: steps of 1,000, with a second of 20,000

on_time : followed 5000 1000 6000 20000 ≡ 6000
on_time = refl

a_little_behind : followed 5000 1000 6500 20000 ≡ 6020
a_little_behind = refl

a_little_ahead : followed 5000 1000 5500 20000 ≡ 5980
a_little_ahead = refl

far_behind : followed 5000 1000 26001 20000 ≡ 26001
far_behind = refl

far_ahead : followed 50000 1000 30999 20000 ≡ 50000
far_ahead = refl
