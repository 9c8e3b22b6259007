-- The rate stays between its bounds, and so does what goes by it.
use Rattle.std.proofs.Common.{ℕ, ◌+◌, ◌-◌, ◌*◌, ◌≡◌, ◌≤◌, List, [], ◌∷◌, Bool, true, false, ap, arith}
use Rattle.std.specs.Prelude.{if◌then◌else◌}
use Rattle.std.proofs.Math.Nat.{mul-le-mul_left, mul-add, mul_comm}
use Rattle.pace.specs.declared.rate.PaceTerms.{PaceTerms}
use Rattle.pace.specs.Rates.{AreTerms, raised, eased, saved_up}
use Rattle.pace.specs.Pacing.{PaceEvent, Came, WasLost, Went, last_of, eased_of, rate_of, saved_of, saved_at, is_new}
use Rattle.pace.specs.Laws.{IsKept, bytes_of}

abbrev LiesBetween : PaceTerms → ℕ → Type 0
LiesBetween terms rate = (terms.least ≤ rate) × (rate ≤ terms.most)

either_way : (terms : PaceTerms) (test : Bool) (one other : ℕ) → LiesBetween terms one → LiesBetween terms other → LiesBetween terms (if test then one else other)
either_way terms true one other a b = a
either_way terms false one other a b = b

raised_between : (terms : PaceTerms) (rate : ℕ) → AreTerms terms → LiesBetween terms rate → LiesBetween terms (raised terms rate)
raised_between terms rate t (least, most) = let o = t.between in (omega (arith, least, o), omega arith)

eased_between : (terms : PaceTerms) (rate : ℕ) → AreTerms terms → LiesBetween terms rate → LiesBetween terms (eased terms rate)
eased_between terms rate t (least, most) = let o = t.between in (omega arith, omega (arith, most, o))

pub stays_between : (terms : PaceTerms) (start : ℕ) (log : List PaceEvent) → AreTerms terms → LiesBetween terms (rate_of terms start log)
stays_between terms start [] t = (omega arith, t.between)
stays_between terms start (Came time ∷ log) t = raised_between terms (rate_of terms start log) t (stays_between terms start log t)
stays_between terms start (Went bytes time ∷ log) t = stays_between terms start log t
stays_between terms start (WasLost time trip ∷ log) t =
    let before = stays_between terms start log t in
    either_way terms (is_new (eased_of start log) time trip) _ _ (eased_between terms (rate_of terms start log) t before) before

-- ---- what goes

gains : (terms : PaceTerms) (saved rate last time start : ℕ) → rate ≤ terms.most → start ≤ last → last ≤ time
    → saved_up terms saved rate (time - last) + terms.most * (last - start) ≤ saved + terms.most * (time - start)
gains terms saved rate last time start most on later =
    let times = mul-le-mul_left (time - last) most in
    let parts : (time - last) + (last - start) ≡ time - start = omega (arith, on, later) in
    let e = mul-add terms.most (time - last) (last - start) in
    let f = ap (λ n. terms.most * n) parts in
    let turned = mul_comm terms.most (time - last) in
    omega (arith, times, e, f, turned)

record AreWithin (terms : PaceTerms) (start : ℕ) (log : List PaceEvent) : Type 0 where
  pub on : start ≤ last_of start log
  pub few : 1000 * bytes_of log + saved_of terms start log ≤ 1000 * terms.burst + terms.most * (last_of start log - start)

within_then : (terms : PaceTerms) (start time : ℕ) (log : List PaceEvent) → AreTerms terms → last_of start log ≤ time → AreWithin terms start log
    → 1000 * bytes_of log + saved_at terms start log time ≤ 1000 * terms.burst + terms.most * (time - start)
within_then terms start time log t later w =
    let (least, most) = stays_between terms start log t in
    let more = gains terms (saved_of terms start log) (rate_of terms start log) (last_of start log) time start most w.on later in
    let few = w.few in
    omega (arith, more, few)

stays_within : (terms : PaceTerms) (start : ℕ) (log : List PaceEvent) → AreTerms terms → IsKept terms start log → AreWithin terms start log
stays_within terms start [] t k = record { on = omega arith; few = omega arith }
stays_within terms start (Came time ∷ log) t (later, k) =
    let w = stays_within terms start log t k in
    record { on = (let o = w.on in omega (arith, o, later)); few = within_then terms start time log t later w }
stays_within terms start (WasLost time trip ∷ log) t (later, k) =
    let w = stays_within terms start log t k in
    record { on = (let o = w.on in omega (arith, o, later)); few = within_then terms start time log t later w }
stays_within terms start (Went bytes time ∷ log) t (later, allowed, k) =
    let w = stays_within terms start log t k in
    let few = within_then terms start time log t later w in
    record { on = (let o = w.on in omega (arith, o, later)); few = omega (arith, few, allowed) }

pub sends_few : (terms : PaceTerms) (start : ℕ) (log : List PaceEvent) → AreTerms terms → IsKept terms start log
    → 1000 * bytes_of log ≤ 1000 * terms.burst + terms.most * (last_of start log - start)
sends_few terms start log t k = let few = (stays_within terms start log t k).few in omega (arith, few)
