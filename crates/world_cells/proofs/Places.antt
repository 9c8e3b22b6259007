-- Where a number stands in a rising list, or would stand.
use Rattle.std.proofs.Common.{◌≡◌, ℕ, zero, suc, ◌+◌, ◌<◌, ◌≤◌, true, false, List, [], ◌∷◌, length, get_or, refl, ap, arith, insert, remove, eqb, inl, inr, nat_lt}
use Rattle.std.proofs.lemmas.Bool.{cases_order}
use Rattle.std.proofs.lemmas.Bool.Decides.{nat_tests, eqb_tells}
use Rattle.world_cells.specs.Rising.{IsRising, IsGap, put_in, without}
use Rattle.std.proofs.lemmas.List.Edits.{length-insert}

pub rising_length : (lo hi : ℕ) (xs : List ℕ) → IsRising lo hi xs → lo ≤ hi → length xs + lo ≤ hi
rising_length lo hi [] r le = omega arith
rising_length lo hi (x ∷ xs) r le = omega (arith, rising_length (suc x) hi xs r.2 (omega (arith, r.1)), r.0)

pub rising_from : (lo hi : ℕ) (xs : List ℕ) → IsRising lo hi xs → (i : ℕ) → i < length xs → lo ≤ get_or xs i 0
rising_from lo hi [] r i lt = absurd (omega arith)
rising_from lo hi (x ∷ xs) r zero lt = r.0
rising_from lo hi (x ∷ xs) r (suc i) lt = omega (arith, rising_from (suc x) hi xs r.2 i (omega arith), r.0)

pub rising_order : (lo hi : ℕ) (xs : List ℕ) → IsRising lo hi xs → (i j : ℕ) → i ≤ j → j < length xs → get_or xs i 0 ≤ get_or xs j 0
rising_order lo hi [] r i j le lt = absurd (omega arith)
rising_order lo hi (x ∷ xs) r zero zero le lt = omega arith
rising_order lo hi (x ∷ xs) r zero (suc j) le lt = omega (arith, rising_from (suc x) hi xs r.2 j (omega arith))
rising_order lo hi (x ∷ xs) r (suc i) zero le lt = absurd (omega arith)
rising_order lo hi (x ∷ xs) r (suc i) (suc j) le lt = rising_order (suc x) hi xs r.2 i j (omega arith) (omega arith)

wider : (lo lo' hi : ℕ) (xs : List ℕ) → lo ≤ lo' → IsRising lo' hi xs → IsRising lo hi xs
wider lo lo' hi [] le r = tt
wider lo lo' hi (x ∷ xs) le r = (omega (arith, r.0), r.1, r.2)

pub IsRising-put : (lo hi : ℕ) (xs : List ℕ) (n : ℕ) → IsRising lo hi xs → lo ≤ n → n < hi → IsRising lo hi (put_in n xs)
IsRising-put lo hi [] n r le lt = (le, lt, tt)
IsRising-put lo hi (x ∷ xs) n r le lt =
    elim (cases_order x n) [
      | inl e ↦
          let t : nat_lt x n ≡ false = grind (arith, nat_tests) in
          let u : eqb x n ≡ true = grind (arith, nat_tests) in
          rw (t, u) r
      | inr w ↦ elim w [
        | inl below ↦
            let t : nat_lt x n ≡ true = grind (arith, nat_tests) in
            rw t (r.0, r.1, IsRising-put (suc x) hi xs n r.2 (omega arith) lt)
        | inr above ↦
            let t : nat_lt x n ≡ false = grind (arith, nat_tests) in
            let u : eqb x n ≡ false = grind (arith, nat_tests) in
            rw (t, u) (le, lt, (omega arith, r.1, r.2))
      ]
    ]

pub IsRising-without : (lo hi : ℕ) (xs : List ℕ) (n : ℕ) → IsRising lo hi xs → IsRising lo hi (without n xs)
IsRising-without lo hi [] n r = tt
IsRising-without lo hi (x ∷ xs) n r =
    elim (eqb_tells x n) [
      | inl w ↦ rw w.0 (wider lo (suc x) hi (without n xs) (omega (arith, r.0)) (IsRising-without (suc x) hi xs n r.2))
      | inr w ↦ rw w.0 (r.0, r.1, IsRising-without (suc x) hi xs n r.2)
    ]

-- past the numbers below n, it is not there
pub without_none : (lo hi : ℕ) (xs : List ℕ) (n : ℕ) → IsRising lo hi xs → n < lo → without n xs ≡ xs
without_none lo hi [] n r lt = refl
without_none lo hi (x ∷ xs) n r lt = grind (arith, nat_tests, without_none (suc x) hi xs n r.2, r.0)

pub put_none : (lo hi : ℕ) (xs : List ℕ) (n : ℕ) → IsRising lo hi xs → n < lo → put_in n xs ≡ n ∷ xs
put_none lo hi [] n r lt = refl
put_none lo hi (x ∷ xs) n r lt = grind (arith, nat_tests, r.0)

pub put_at : (xs : List ℕ) (i n : ℕ) → i ≤ length xs → ((k : ℕ) → k < i → get_or xs k 0 < n) → ((k : ℕ) → i ≤ k → k < length xs → n < get_or xs k 0) → insert xs i n ≡ put_in n xs
put_at [] zero n le below above = refl
put_at [] (suc i) n le below above = absurd (omega arith)
put_at (x ∷ xs) zero n le below above = grind (arith, nat_tests, above 0)
put_at (x ∷ xs) (suc i) n le below above =
    let rest = put_at xs i n (omega arith) (λ k lt. below (suc k) (omega arith)) (λ k ge lt. above (suc k) (omega arith) (omega arith)) in
    grind (arith, nat_tests, below 0, rest)

pub put_there : (lo hi : ℕ) (xs : List ℕ) (i n : ℕ) → IsRising lo hi xs → i < length xs → get_or xs i 0 ≡ n → put_in n xs ≡ xs
put_there lo hi [] i n r lt e = absurd (omega arith)
put_there lo hi (x ∷ xs) zero n r lt e = grind (arith, nat_tests, e)
put_there lo hi (x ∷ xs) (suc i) n r lt e = grind (arith, nat_tests, rising_from (suc x) hi xs r.2 i (omega arith), put_there (suc x) hi xs i n r.2 (omega arith) e, e)

pub taken_at : (lo hi : ℕ) (xs : List ℕ) (i n : ℕ) → IsRising lo hi xs → i < length xs → get_or xs i 0 ≡ n → remove xs i ≡ without n xs
taken_at lo hi [] i n r lt e = absurd (omega arith)
taken_at lo hi (x ∷ xs) zero n r lt e = grind (arith, nat_tests, e, without_none (suc x) hi xs n r.2)
taken_at lo hi (x ∷ xs) (suc i) n r lt e = grind (arith, nat_tests, rising_from (suc x) hi xs r.2 i (omega arith), taken_at (suc x) hi xs i n r.2 (omega arith) e, e)

pub taken_absent : (xs : List ℕ) (i n : ℕ) → i ≤ length xs → ((k : ℕ) → k < i → get_or xs k 0 < n) → ((k : ℕ) → i ≤ k → k < length xs → n < get_or xs k 0) → without n xs ≡ xs
taken_absent [] i n le below above = refl
taken_absent (x ∷ xs) zero n le below above =
    let rest = taken_absent xs zero n (omega arith) (λ k lt. absurd (omega arith)) (λ k ge lt. above (suc k) (omega arith) (omega arith)) in
    grind (arith, nat_tests, above 0, rest)
taken_absent (x ∷ xs) (suc i) n le below above =
    let rest = taken_absent xs i n (omega arith) (λ k lt. below (suc k) (omega arith)) (λ k ge lt. above (suc k) (omega arith) (omega arith)) in
    grind (arith, nat_tests, below 0, rest)

pub insert_whole : (xs : List ℕ) (at n : ℕ) → IsRising 0 1024 xs → n < 1024 → IsGap xs n at → (insert xs at n ≡ put_in n xs) × IsRising 0 1024 (insert xs at n) × (length xs < 1024)
insert_whole xs at n r lt gap =
    let e = put_at xs at n gap.within gap.below gap.above in
    let put = IsRising-put 0 1024 xs n r (omega arith) lt in
    let longer : length (insert xs at n) ≡ length xs + 1 = length-insert xs at n gap.within in
    let short : length (put_in n xs) + 0 ≤ 1024 = rising_length 0 1024 (put_in n xs) put (omega arith) in
    (e, rw e put, omega (arith, longer, short, ap length e))

pub absent_whole : (xs : List ℕ) (at n : ℕ) → IsGap xs n at → without n xs ≡ xs
absent_whole xs at n gap = taken_absent xs at n gap.within gap.below gap.above
