-- What is told of a pace.
use Rattle.std.proofs.Common.{ℕ, ◌-◌, ◌*◌, ◌/◌, ◌≡◌, ◌≤◌, ◌<◌, List, ◌∷◌, nat_le, true, false, refl, sym, ◌∙◌, ap}
use Rattle.std.proofs.lemmas.Bool.{le-leb, lt-leb}
use Rattle.pace.specs.Rates.{raised, eased, saved_up}
use Rattle.pace.specs.Pacing.{PaceEvent, Came, WasLost, Went, Pacing, StandsFor, eased_of, rate_of, saved_of, saved_at, allowed_at, is_new}

-- what is saved up by the next time that is told
pub saved_then : (p : Pacing) (time : ℕ) (log : List PaceEvent) → StandsFor p log
    → saved_up p.terms p.saved p.rate (time - p.last) ≡ saved_at p.terms p.start log time
saved_then p time log h =
    ap (λ s. saved_up p.terms s p.rate (time - p.last)) h.saved_is
    ∙ ap (λ r. saved_up p.terms (saved_of p.terms p.start log) r (time - p.last)) h.rate_is
    ∙ ap (λ l. saved_up p.terms (saved_of p.terms p.start log) (rate_of p.terms p.start log) (time - l)) h.last_is

pub came_more : (p : Pacing) (time : ℕ) (log : List PaceEvent) → StandsFor p log
    → StandsFor (record p { saved = saved_up p.terms p.saved p.rate (time - p.last); rate = raised p.terms p.rate; last = time }) (Came time ∷ log)
came_more p time log h = record { rate_is = ap (raised p.terms) h.rate_is; saved_is = saved_then p time log h; last_is = refl; eased_is = h.eased_is }

pub went_more : (p : Pacing) (bytes time : ℕ) (log : List PaceEvent) → StandsFor p log
    → StandsFor (record p { saved = saved_up p.terms p.saved p.rate (time - p.last) - bytes * 1000; last = time }) (Went bytes time ∷ log)
went_more p bytes time log h = record { rate_is = h.rate_is; saved_is = ap (λ s. s - bytes * 1000) (saved_then p time log h); last_is = refl; eased_is = h.eased_is }

-- ---- a loss

is_first : (p : Pacing) (time trip : ℕ) (log : List PaceEvent) → StandsFor p log → trip ≤ time - p.eased → is_new (eased_of p.start log) time trip ≡ true
is_first p time trip log h new = ap (λ e. nat_le trip (time - e)) (sym h.eased_is) ∙ le-leb trip (time - p.eased) new

is_another : (p : Pacing) (time trip : ℕ) (log : List PaceEvent) → StandsFor p log → time - p.eased < trip → is_new (eased_of p.start log) time trip ≡ false
is_another p time trip log h old = ap (λ e. nat_le trip (time - e)) (sym h.eased_is) ∙ lt-leb trip (time - p.eased) old

pub lost_eases : (p : Pacing) (trip time : ℕ) (log : List PaceEvent) → StandsFor p log → trip ≤ time - p.eased
    → StandsFor (record p { saved = saved_up p.terms p.saved p.rate (time - p.last); rate = eased p.terms p.rate; last = time; eased = time }) (WasLost time trip ∷ log)
lost_eases p trip time log h new =
    let e = is_first p time trip log h new in
    record { rate_is = rw e (ap (eased p.terms) h.rate_is); saved_is = saved_then p time log h; last_is = refl; eased_is = rw e refl }

pub lost_stays : (p : Pacing) (trip time : ℕ) (log : List PaceEvent) → StandsFor p log → time - p.eased < trip
    → StandsFor (record p { saved = saved_up p.terms p.saved p.rate (time - p.last); last = time }) (WasLost time trip ∷ log)
lost_stays p trip time log h old =
    let e = is_another p time trip log h old in
    record { rate_is = rw e h.rate_is; saved_is = saved_then p time log h; last_is = refl; eased_is = rw e h.eased_is }

-- ---- what may go

pub allowed_now : (p : Pacing) (time : ℕ) (log : List PaceEvent) → StandsFor p log
    → saved_up p.terms p.saved p.rate (time - p.last) / 1000 ≡ allowed_at p.terms p.start log time
allowed_now p time log h = ap (λ s. s / 1000) (saved_then p time log h)
