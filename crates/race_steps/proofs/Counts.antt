-- A walk over a list that counts.
use Rattle.std.proofs.Common.{◌≡◌, ℕ, suc, ◌<◌, ◌+◌, List, ◌≤◌, length, drop, take, get_or, refl, sym, ap, ◌∙◌, arith, ◌⊎◌, inl, inr}
use Rattle.std.specs.Prelude.{Bool, true, false, Option, Some, None, slice_get, is_some, count_by, option_map}
use Rattle.std.specs.List.{filter_map}
use Rattle.std.specs.Option.{option_and_then}
use Rattle.std.proofs.lemmas.List.Sums.{count_by_more_yes, count_by_more_no}
use Rattle.std.proofs.lemmas.Option.{slice_get_read, slice_get_cases}
use Rattle.race_steps.proofs.Walks.{picked}

-- ---- what is picked out

-- n were counted of so many
abbrev pub IsCounted : {X A : Type 0} → (X → Option A) → List X → ℕ → ℕ → Type 0
IsCounted f xs i n = n + length (filter_map f (drop i xs)) ≡ length (filter_map f xs)

pub counted_no : {X A : Type 0} (f : X → Option A) (xs : List X) (i n : ℕ) → IsCounted f xs i n → is_some (option_and_then f (slice_get xs i)) ≡ false → IsCounted f xs (i + 1) n
counted_no {X} {A} f xs i n h e = by (option_and_then f (slice_get xs i)) refl e
  where
    by : (found : Option A) → option_and_then f (slice_get xs i) ≡ found → is_some found ≡ false → IsCounted f xs (i + 1) n
    by None g e = let p : length (filter_map f (drop i xs)) ≡ length (filter_map f (drop (i + 1) xs)) = ap (λ (ys : List A). length ys) (picked f xs i None g) in omega (arith, h, p)
    by (Some x) g e = absurd (let b : true ≡ false = e in cc)

pub counted_yes : {X A : Type 0} (f : X → Option A) (xs : List X) (i n : ℕ) → IsCounted f xs i n → is_some (option_and_then f (slice_get xs i)) ≡ true → IsCounted f xs (i + 1) (n + 1)
counted_yes {X} {A} f xs i n h e = by (option_and_then f (slice_get xs i)) refl e
  where
    by : (found : Option A) → option_and_then f (slice_get xs i) ≡ found → is_some found ≡ true → IsCounted f xs (i + 1) (n + 1)
    by None g e = absurd (let b : false ≡ true = e in cc)
    by (Some x) g e = let p : length (filter_map f (drop i xs)) ≡ suc (length (filter_map f (drop (i + 1) xs))) = ap (λ (ys : List A). length ys) (picked f xs i (Some x) g) in omega (arith, h, p)

-- by the item that was read there
pub item_found : {X A : Type 0} (f : X → Option A) (xs : List X) (i : ℕ) (x : X) (b : Bool) → i < length xs → x ≡ get_or xs i x → is_some (f x) ≡ b → is_some (option_and_then f (slice_get xs i)) ≡ b
item_found {X} {A} f xs i x b l e h = rw (slice_get_read xs (length xs) i x refl l e) h

-- ---- what passes a test

-- so many passed up to a place
abbrev pub IsPassed : {X : Type 0} → (X → Bool) → List X → ℕ → ℕ → Type 0
IsPassed p xs i n = n ≡ count_by p (take i xs)

-- the item of a place, by the test
tested : {X : Type 0} (p : X → Bool) (xs : List X) (i : ℕ) (b : Bool) → option_map p (slice_get xs i) ≡ Some b → (x : X) × (i < length xs) × (p (get_or xs i x) ≡ b)
tested {X} p xs i b e = by (slice_get_cases xs i).1
  where
    by : ((x : X) × (i < length xs) × (slice_get xs i ≡ Some x) × (get_or xs i x ≡ x)) ⊎ ((length xs ≤ i) × (slice_get xs i ≡ None)) → (x : X) × (i < length xs) × (p (get_or xs i x) ≡ b)
    by (inl (x, l, s, g)) = (x, l, let h : Some (p x) ≡ Some b = ap (λ (o : Option X). option_map p o) (sym s) ∙ e in let k : p x ≡ b = cc in ap p g ∙ k)
    by (inr (l, s)) = absurd (let h : None ≡ Some b = ap (λ (o : Option X). option_map p o) (sym s) ∙ e in cc)

pub passed_no : {X : Type 0} (p : X → Bool) (xs : List X) (i n : ℕ) → IsPassed p xs i n → option_map p (slice_get xs i) ≡ Some false → IsPassed p xs (i + 1) n
passed_no p xs i n h e = let t = tested p xs i false e in h ∙ sym (count_by_more_no p xs i t.0 t.1 t.2)

pub passed_yes : {X : Type 0} (p : X → Bool) (xs : List X) (i n : ℕ) → IsPassed p xs i n → option_map p (slice_get xs i) ≡ Some true → IsPassed p xs (i + 1) (n + 1)
passed_yes p xs i n h e = let t = tested p xs i true e in ap (λ (m : ℕ). m + 1) h ∙ sym (count_by_more_yes p xs i t.0 t.1 t.2)
