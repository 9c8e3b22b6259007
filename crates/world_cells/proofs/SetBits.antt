-- The numbers of a set, bit by bit.
use Rattle.std.proofs.Common.{◌≡◌, ℕ, zero, suc, ◌-◌, ◌/◌, ◌%◌, ◌^◌, ◌<◌, List, get_or, replicate, refl, ap, ◌∙◌, arith}
use Rattle.std.specs.Int.{bit_at}
use Rattle.std.proofs.lemmas.Nat.Bits.{bit_at_ones}
use Rattle.world_cells.specs.NumberSet.{bit_of}

full_at : (word many j : ℕ) → j < many → get_or (replicate many word) j 0 ≡ word
full_at word zero j l = absurd (omega (arith, l))
full_at word (suc many) zero l = refl
full_at word (suc many) (suc j) l = full_at word many j (omega (arith, l))

pub all_there : (words : List ℕ) → words ≡ replicate 16 (2 ^ 64 - 1) → (n : ℕ) → n < 1024 → bit_of words n ≡ 1
all_there words e n l =
    ap (λ (ws : List ℕ). bit_of ws n) e
    ∙ ap (λ w. bit_at w (n % 64)) (full_at (2 ^ 64 - 1) 16 (n / 64) (omega (arith, l)))
    ∙ bit_at_ones 64 (n % 64) (omega arith)
