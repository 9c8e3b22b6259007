-- Draws. A draw is the next word of the generator, modulo a number. What is made from draws names them in the order in
-- which they are made, as lines of a `do`.
use Rattle.std.specs.Prelude.{ℕ, zero, suc, ◌%◌, List, [], ◌++◌}
use Rattle.rand_pcg.specs.Lcg.{Lcg, started, increment_of}
use Rattle.rand_pcg.specs.Pcg.{multiplier_64, pcg32}

-- what is made by a generator, and the generator behind its last draw
abbrev pub Drawn : Type 0 → Type 0
Drawn A = Lcg → A × Lcg

-- made without a draw
abbrev pub just : {A : Type 0} → A → Drawn A
just x g = (x, g)

-- made behind the draws of the first
infixl 10 ◌>>=◌
abbrev pub ◌>>=◌ : {A B : Type 0} → Drawn A → (A → Drawn B) → Drawn B
(first >>= next) g = next (first g).0 (first g).1

-- the generator of a seed, on one of its streams: two streams of a seed draw apart
unfoldable pub generator : ℕ → ℕ → Lcg
generator seed stream = started 64 multiplier_64 seed (increment_of 64 stream)

-- a number below n
unfoldable pub draw : ℕ → Drawn ℕ
draw n g = ((pcg32 g).0 % n, (pcg32 g).1)

-- what is made for 0, 1 and so on, as many as n, one behind another
unfoldable pub each_below : {A : Type 0} → ℕ → (ℕ → Drawn (List A)) → Drawn (List A)
each_below zero f = just []
each_below (suc n) f = do
  before ← each_below n f
  next ← f n
  just (before ++ next)
