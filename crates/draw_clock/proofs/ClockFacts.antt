-- What is told to a clock, and how it follows its target.
use Rattle.std.proofs.Common.{◌≡◌, ℕ, ◌+◌, ◌-◌, ◌*◌, ◌/◌, ◌<◌, ◌≤◌, min, max, Bool, true, false, cond, nat_lt, List, ◌∷◌, Result, Ok, Err, refl, ap, sym, ◌∙◌, arith}
use Rattle.std.proofs.lemmas.Bool.{lt-ltb, le-ltb}
use Rattle.tn_types.specs.Checks.{Checked, then_check}
use Rattle.draw_clock.specs.declared.clock.ClockRefusal.{ClockRefusal}
use Rattle.draw_clock.specs.Following.{distance, followed}
use Rattle.draw_clock.specs.Clocking.{ClockEvent, Came, Read, Clock, StandsFor, newest_of, came_of, read_of, position_of, gone_to, time_check, then_ok}

-- ---- what is told

pub came_more : (c : Clock) (packet now : ℕ) (log : List ClockEvent) → StandsFor c log → StandsFor (record c { newest = packet; came = now }) (Came packet now ∷ log)
came_more c packet now log h = record { newest_is = refl; came_is = refl; read_is = h.read_is; position_is = h.position_is }

pub read_more : (c : Clock) (now : ℕ) (log : List ClockEvent) → StandsFor c log
    → StandsFor (record c { read = now; position = gone_to c.pace c.newest (now - c.came) (now - c.read) c.position }) (Read now ∷ log)
read_more c now log h = record {
  newest_is = h.newest_is;
  came_is = h.came_is;
  read_is = refl;
  position_is =
      ap (λ n. gone_to c.pace n (now - c.came) (now - c.read) c.position) h.newest_is
      ∙ ap (λ k. gone_to c.pace (newest_of log) (now - k) (now - c.read) c.position) h.came_is
      ∙ ap (λ k. gone_to c.pace (newest_of log) (now - came_of c.start log) (now - k) c.position) h.read_is
      ∙ ap (λ p. gone_to c.pace (newest_of log) (now - came_of c.start log) (now - read_of c.start log) p) h.position_is;
}

-- ---- the target

pub far_behind : (at step target second : ℕ) → at + step + second < target → target ≡ followed at step target second
far_behind at step target second h = let t = lt-ltb (at + step + second) target h in rw t refl

pub far_ahead : (at step target second : ℕ) → target ≤ at + step + second → target + second < at + step → at ≡ followed at step target second
far_ahead at step target second far h =
    let s = le-ltb (at + step + second) target far in
    let t = lt-ltb (target + second) (at + step) h in
    rw (s, t) refl

pub near : (at step target second : ℕ) → target ≤ at + step + second → at + step ≤ target + second
    → max (at + step - step / 50) (min (at + step + step / 50) target) ≡ followed at step target second
near at step target second far h =
    let s = le-ltb (at + step + second) target far in
    let t = le-ltb (target + second) (at + step) h in
    rw (s, t) refl

pub held_low : (at step target second : ℕ) → target ≤ at + step + second → at + step ≤ target + second → target < at + step - step / 50
    → at + step - step / 50 ≡ followed at step target second
held_low at step target second far h low =
    let e : at + step - step / 50 ≡ max (at + step - step / 50) (min (at + step + step / 50) target) = omega arith in
    e ∙ near at step target second far h

pub held_high : (at step target second : ℕ) → target ≤ at + step + second → at + step ≤ target + second → at + step + step / 50 < target
    → at + step + step / 50 ≡ followed at step target second
held_high at step target second far h high =
    let e : at + step + step / 50 ≡ max (at + step - step / 50) (min (at + step + step / 50) target) = omega arith in
    e ∙ near at step target second far h

pub reaches : (at step target second : ℕ) → target ≤ at + step + second → at + step ≤ target + second → at + step - step / 50 ≤ target → target ≤ at + step + step / 50
    → target ≡ followed at step target second
reaches at step target second far h low high =
    let e : target ≡ max (at + step - step / 50) (min (at + step + step / 50) target) = omega arith in
    e ∙ near at step target second far h

-- ---- refusals

pub second_check : {E : Type 0} (a b : Checked E) (u : Unit {0}) → a ≡ Ok u → then_check a b ≡ b
second_check a b u e = ap (λ c. then_check c b) e

pub first_refuses : {E : Type 0} (a b : Checked E) (r : E) → a ≡ Err r → then_check a b ≡ Err r
first_refuses a b r e = ap (λ c. then_check c b) e
