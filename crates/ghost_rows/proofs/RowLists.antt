-- The rows as three lists: how many there are, what stands at a slot, and what a slot's new entries are.
use Rattle.std.proofs.Common.{◌≡◌, ℕ, zero, suc, ◌<◌, List, [], ◌∷◌, ◌∙◌, length, get_or, replicate, set, refl, sym, ap, subst, arith}
use Rattle.std.proofs.lemmas.List.{set-get_or, get_or-set_same, get_or-replicate, length-replicate}
use Rattle.ghost_rows.specs.declared.slot_rows.Standing.{Standing}
use Rattle.ghost_rows.specs.declared.slot_rows.Rows.TheInside.{Inside}
use Rattle.ghost_rows.specs.contracts.slot_rows.Rows.{the_view, the_invariant}
use Rattle.ghost_rows.specs.Kept.{Row, no_row, row_at}
use Rattle.ghost_rows.specs.RowLists.{row_of, rows_of}

pub rows_length : (n : ℕ) (ss : List Standing) (ls : List ℕ) (ks : List (List ℕ)) → length ss ≡ n → length ls ≡ n → length ks ≡ n → length (rows_of ss ls ks) ≡ n
unfolding rows_of
rows_length n [] ls ks a b c = a
rows_length n (s ∷ ss) [] ks a b c = absurd (omega arith)
rows_length n (s ∷ ss) (l ∷ ls) [] a b c = absurd (omega arith)
rows_length zero (s ∷ ss) (l ∷ ls) (k ∷ ks) a b c = absurd (omega arith)
rows_length (suc n) (s ∷ ss) (l ∷ ls) (k ∷ ks) a b c = ap suc (rows_length n ss ls ks (omega arith) (omega arith) (omega arith))

row_there : (n : ℕ) (ss : List Standing) (ls : List ℕ) (ks : List (List ℕ)) → length ss ≡ n → length ls ≡ n → length ks ≡ n
    → (i : ℕ) → i < n → (d : Standing) (e : ℕ) (g : List ℕ) → row_at (rows_of ss ls ks) i ≡ row_of (get_or ss i d) (get_or ls i e) (get_or ks i g)
unfolding rows_of
row_there n [] ls ks a b c i lt d e g = absurd (omega arith)
row_there n (s ∷ ss) [] ks a b c i lt d e g = absurd (omega arith)
row_there n (s ∷ ss) (l ∷ ls) [] a b c i lt d e g = absurd (omega arith)
row_there zero (s ∷ ss) (l ∷ ls) (k ∷ ks) a b c i lt d e g = absurd (omega arith)
row_there (suc n) (s ∷ ss) (l ∷ ls) (k ∷ ks) a b c zero lt d e g = refl
row_there (suc n) (s ∷ ss) (l ∷ ls) (k ∷ ks) a b c (suc i) lt d e g = row_there n ss ls ks (omega arith) (omega arith) (omega arith) i (omega arith) d e g

-- where all entries are alike, so are the rows
pub row_alike : (s : Standing) (l : ℕ) (k : List ℕ) (ss : List Standing) (ls : List ℕ) (ks : List (List ℕ)) → ss ≡ replicate 256 s → ls ≡ replicate 256 l → ks ≡ replicate 256 k → (i : ℕ) → i < 256 → row_at (rows_of ss ls ks) i ≡ row_of s l k
row_alike s l k ss ls ks a b c i lt =
    row_there 256 ss ls ks (ap length a ∙ length-replicate 256 s) (ap length b ∙ length-replicate 256 l) (ap length c ∙ length-replicate 256 k) i lt s l k
    ∙ ap (λ (u : Standing). row_of u (get_or ls i l) (get_or ks i k)) (ap (λ (x : List Standing). get_or x i s) a ∙ get_or-replicate 256 i s s lt)
    ∙ ap (λ (u : ℕ). row_of s u (get_or ks i k)) (ap (λ (x : List ℕ). get_or x i l) b ∙ get_or-replicate 256 i l l lt)
    ∙ ap (λ (u : List ℕ). row_of s l u) (ap (λ (x : List (List ℕ)). get_or x i k) c ∙ get_or-replicate 256 i k k lt)

rows_set : (n : ℕ) (ss : List Standing) (ls : List ℕ) (ks : List (List ℕ)) → length ss ≡ n → length ls ≡ n → length ks ≡ n
    → (i : ℕ) → i < n → (s : Standing) (l : ℕ) (k : List ℕ) → rows_of (set ss i s) (set ls i l) (set ks i k) ≡ set (rows_of ss ls ks) i (row_of s l k)
unfolding rows_of
rows_set n [] ls ks a b c i lt s l k = absurd (omega arith)
rows_set n (_ ∷ ss) [] ks a b c i lt s l k = absurd (omega arith)
rows_set n (_ ∷ ss) (_ ∷ ls) [] a b c i lt s l k = absurd (omega arith)
rows_set zero (_ ∷ ss) (_ ∷ ls) (_ ∷ ks) a b c i lt s l k = absurd (omega arith)
rows_set (suc n) (_ ∷ ss) (_ ∷ ls) (_ ∷ ks) a b c zero lt s l k = refl
rows_set (suc n) (x ∷ ss) (y ∷ ls) (z ∷ ks) a b c (suc i) lt s l k = ap (λ (r : List Row). row_of x y z ∷ r) (rows_set n ss ls ks (omega arith) (omega arith) (omega arith) i (omega arith) s l k)

-- the rows that are kept as these lists
module _ (v : Inside) (rows : List Row) (h : the_invariant v) (is : the_view v ≡ rows) (i : ℕ) (lt : i < 256) where
  -- by what was read, at any defaults
  pub row_is : (s : Standing) (l d : ℕ) (k e : List ℕ) → s ≡ get_or v.standings.items i s → l ≡ get_or v.lasts.items i d → k ≡ get_or v.carriers.items i e → row_at rows i ≡ row_of s l k
  row_is s l d k e x y z =
      let ls = v.lasts.items in let ks = v.carriers.items in
      ap (λ (r : List Row). row_at r i) (sym is) ∙ row_there 256 v.standings.items ls ks h.0 h.1 h.2 i lt s d e
      ∙ ap (λ (u : Standing). row_of u (get_or ls i d) (get_or ks i e)) (sym x) ∙ ap (λ (u : ℕ). row_of s u (get_or ks i e)) (sym y)
      ∙ ap (λ (u : List ℕ). row_of s l u) (sym z)

  pub standing_is : (s : Standing) → s ≡ get_or v.standings.items i s → row_at rows i ≡ row_of s (get_or v.lasts.items i 0) (get_or v.carriers.items i [])
  standing_is s x = row_is s (get_or v.lasts.items i 0) 0 (get_or v.carriers.items i []) [] x refl refl

  pub row_put : (s : Standing) (l : ℕ) (k : List ℕ) (new : List Row) → rows_of (set v.standings.items i s) (set v.lasts.items i l) (set v.carriers.items i k) ≡ new
      → (P : Row → Type 0) → P (row_of s l k) → (new ≡ set rows i (row_at new i)) × P (row_at new i)
  row_put s l k new put P holds =
      let set_is : new ≡ set rows i (row_of s l k) =
      sym put ∙ rows_set 256 v.standings.items v.lasts.items v.carriers.items h.0 h.1 h.2 i lt s l k ∙ ap (λ (r : List Row). set r i (row_of s l k)) is in
      let size : i < length rows = omega (arith, ap length is, rows_length 256 v.standings.items v.lasts.items v.carriers.items h.0 h.1 h.2) in
      let here : row_at new i ≡ row_of s l k = ap (λ (r : List Row). row_at r i) set_is ∙ get_or-set_same rows i (row_of s l k) no_row size in
      (set_is ∙ ap (set rows i) (sym here), subst P (sym here) holds)

  -- what a plan asks is all that is new
  pub standing_put : (s : Standing) (l d : ℕ) (k e : List ℕ) → l ≡ get_or v.lasts.items i d → k ≡ get_or v.carriers.items i e
      → (new : List Row) → rows_of (set v.standings.items i s) v.lasts.items v.carriers.items ≡ new
      → (P : Row → Type 0) → P (row_of s l k) → (new ≡ set rows i (row_at new i)) × P (row_at new i)
  standing_put s l d k e y z new put =
      let ss = set v.standings.items i s in let ls = v.lasts.items in let ks = v.carriers.items in
      row_put s l k new
      (ap (λ (r : List ℕ). rows_of ss r (set ks i k)) (ap (set ls i) y ∙ set-get_or ls i d)
      ∙ ap (λ (r : List (List ℕ)). rows_of ss ls r) (ap (set ks i) z ∙ set-get_or ks i e) ∙ put)
