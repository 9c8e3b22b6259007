-- The rate, in bytes a second, and what is saved up by it, in thousandths of a byte.
use Rattle.std.specs.Prelude.{ℕ, ◌+◌, ◌-◌, ◌*◌, ◌/◌, min, max, ◌≡◌, ◌≤◌, ◌<◌, refl}
use Rattle.std.specs.Int.{div_ceil}
use Rattle.pace.specs.declared.rate.PaceTerms.{PaceTerms}
use Rattle.pace.specs.declared.rate.TheConstants.{THOUSANDTHS}

-- after a packet came
abbrev pub raised : PaceTerms → ℕ → ℕ
raised t rate = min t.most (rate + t.step)

-- after a loss: a quarter less
abbrev pub eased : PaceTerms → ℕ → ℕ
eased t rate = max t.least (rate - rate / 4)

-- after so many milliseconds
abbrev pub saved_up : PaceTerms → ℕ → ℕ → ℕ → ℕ
saved_up t saved rate elapsed = min (t.burst * THOUSANDTHS) (saved + elapsed * rate)

-- in how many milliseconds so many bytes are saved up, rounded up
abbrev pub wait_for : ℕ → ℕ → ℕ → ℕ
wait_for bytes saved rate = div_ceil (bytes * THOUSANDTHS - saved) rate

pub record AreTerms (t : PaceTerms) : Type 0 where
  pub some : 0 < t.least
  pub between : t.least ≤ t.most

-- ---- examples

abbrev terms : PaceTerms
terms = record { least = 1000; most = 10000; step = 100; burst = 1200 }

a_step_more : raised terms 2000 ≡ 2100
a_step_more = refl

no_more_than_the_most : raised terms 9950 ≡ 10000
no_more_than_the_most = refl

a_quarter_less : eased terms 2000 ≡ 1500
a_quarter_less = refl

no_less_than_the_least : eased terms 1100 ≡ 1000
no_less_than_the_least = refl

-- 50 milliseconds at 2,000 bytes a second are 100 bytes
a_tenth_of_them : saved_up terms 0 2000 50 ≡ 100000
a_tenth_of_them = refl

full : saved_up terms 1150000 2000 50 ≡ 1200000
full = refl
