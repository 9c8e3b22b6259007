-- How long it takes until so many bytes are saved up.
use Rattle.std.proofs.Common.{ℕ, ◌+◌, ◌-◌, ◌*◌, ◌/◌, ◌≡◌, ◌≤◌, ◌<◌, List, sym, ◌∙◌, ap, subst, arith}
use Rattle.std.proofs.lemmas.Grind.{div_ceil_times}
use Rattle.std.proofs.Math.Nat.{add-mul, mul-le-mul_right}
use Rattle.pace.specs.declared.rate.PaceTerms.{PaceTerms}
use Rattle.pace.specs.Rates.{saved_up, wait_for}
use Rattle.pace.specs.Pacing.{PaceEvent, Pacing, StandsFor, saved_at}
use Rattle.pace.specs.Waiting.{IsWaitOf}
use Rattle.pace.proofs.PaceFacts.{saved_then}

-- what is saved up a while later, by what is saved up now
later : (terms : PaceTerms) (saved rate elapsed wait : ℕ) → saved_up terms saved rate (elapsed + wait) ≡ saved_up terms (saved_up terms saved rate elapsed) rate wait
later terms saved rate elapsed wait = let e = add-mul elapsed wait rate in omega (arith, e)

enough : (terms : PaceTerms) (saved rate bytes : ℕ) → 0 < rate → bytes ≤ terms.burst → bytes ≤ saved_up terms saved rate (wait_for bytes saved rate) / 1000
enough terms saved rate bytes some few =
    let (gained, close) = div_ceil_times (bytes * 1000 - saved) rate some in
    omega (arith, gained, few)

no_sooner : (terms : PaceTerms) (saved rate bytes sooner : ℕ) → 0 < rate → sooner < wait_for bytes saved rate → saved_up terms saved rate sooner / 1000 < bytes
no_sooner terms saved rate bytes sooner some h =
    let (gained, close) = div_ceil_times (bytes * 1000 - saved) rate some in
    let next : sooner + 1 ≤ wait_for bytes saved rate = omega (arith, h) in
    let times = mul-le-mul_right rate next in
    let e = add-mul sooner 1 rate in
    omega (arith, close, times, e)

-- ---- of a pace

saved_later : (p : Pacing) (now wait : ℕ) (log : List PaceEvent) → StandsFor p log → p.last ≤ now
    → saved_at p.terms p.start log (now + wait) ≡ saved_up p.terms (saved_up p.terms p.saved p.rate (now - p.last)) p.rate wait
saved_later p now wait log h on =
    let since : now + wait - p.last ≡ now - p.last + wait = omega (arith, on) in
    sym (saved_then p (now + wait) log h) ∙ ap (λ n. saved_up p.terms p.saved p.rate n) since ∙ later p.terms p.saved p.rate (now - p.last) wait

pub waits : (p : Pacing) (bytes now : ℕ) → p.last ≤ now → 0 < p.rate → bytes ≤ p.terms.burst
    → IsWaitOf p bytes now (wait_for bytes (saved_up p.terms p.saved p.rate (now - p.last)) p.rate)
waits p bytes now on some few log h =
    let saved = saved_up p.terms p.saved p.rate (now - p.last) in
    record {
      enough = subst (λ s. bytes ≤ s / 1000) (sym (saved_later p now (wait_for bytes saved p.rate) log h on)) (enough p.terms saved p.rate bytes some few);
      no_sooner = λ sooner less. subst (λ s. s / 1000 < bytes) (sym (saved_later p now sooner log h on)) (no_sooner p.terms saved p.rate bytes sooner some less);
    }
