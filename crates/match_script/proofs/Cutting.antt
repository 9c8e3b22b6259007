-- The first line or word of some bytes, by the place of its separator.
use Rattle.std.proofs.Common.{◌≡◌, ℕ, suc, ◌+◌, ◌<◌, ◌≤◌, Bool, true, false, List, [], ◌∷◌, length, take, drop, nat_eq, refl, ap, cond, not, Some, None, arith, add-one}
use Rattle.std.specs.List.{position, position_or_len}
use Rattle.match_script.specs.Shape.{has_shape}
use Rattle.match_script.specs.Text.{lines_of, words_of, with_first}

abbrev place : ℕ → List ℕ → ℕ
place sep bytes = position_or_len (λ b. nat_eq b sep) bytes

stops_step : (F : List ℕ → List (List ℕ)) (v : Bool) (b : ℕ) (bs : List ℕ) (n : ℕ) → (n < length bs → F bs ≡ take n bs ∷ F (drop (suc n) bs)) → cond (not v) (1 + n) 0 < suc (length bs) → cond v ([] ∷ F bs) (with_first b (F bs)) ≡ take (cond (not v) (1 + n) 0) (b ∷ bs) ∷ F (drop (suc (cond (not v) (1 + n) 0)) (b ∷ bs))
stops_step F true b bs n ih lt = refl
stops_step F false b bs n ih lt = let e : 1 + n ≡ suc n = omega arith in rw (e, ih (omega arith)) refl

ends_step : (F : List ℕ → List (List ℕ)) (v : Bool) (b : ℕ) (bs : List ℕ) (n : ℕ) → (length bs ≤ n → with_first b (F bs) ≡ (b ∷ bs) ∷ []) → suc (length bs) ≤ cond (not v) (1 + n) 0 → cond v ([] ∷ F bs) (with_first b (F bs)) ≡ (b ∷ bs) ∷ []
ends_step F true b bs n ih le = absurd (omega arith)
ends_step F false b bs n ih le = ih (omega arith)

line_stops_at : (bytes : List ℕ) → place 10 bytes < length bytes → lines_of bytes ≡ take (place 10 bytes) bytes ∷ lines_of (drop (suc (place 10 bytes)) bytes)
unfolding lines_of
line_stops_at [] lt = absurd (omega arith)
line_stops_at (b ∷ bs) lt = stops_step lines_of (nat_eq b 10) b bs (place 10 bs) (line_stops_at bs) lt

word_stops_at : (bytes : List ℕ) → place 32 bytes < length bytes → words_of bytes ≡ take (place 32 bytes) bytes ∷ words_of (drop (suc (place 32 bytes)) bytes)
unfolding words_of
word_stops_at [] lt = absurd (omega arith)
word_stops_at (b ∷ bs) lt = stops_step words_of (nat_eq b 32) b bs (place 32 bs) (word_stops_at bs) lt

line_ends_at : (b : ℕ) (bytes : List ℕ) → length bytes ≤ place 10 bytes → with_first b (lines_of bytes) ≡ (b ∷ bytes) ∷ []
unfolding lines_of
line_ends_at a [] le = refl
line_ends_at a (b ∷ bs) le = ap (with_first a) (ends_step lines_of (nat_eq b 10) b bs (place 10 bs) (line_ends_at b bs) le)

word_ends_at : (bytes : List ℕ) → length bytes ≤ place 32 bytes → words_of bytes ≡ bytes ∷ []
unfolding words_of
word_ends_at [] le = refl
word_ends_at (b ∷ bs) le = ends_step words_of (nat_eq b 32) b bs (place 32 bs) (λ h. ap (with_first b) (word_ends_at bs h)) le

placed : (sep : ℕ) (bytes : List ℕ) (i : ℕ) → position (λ b. nat_eq b sep) bytes ≡ Some i → (place sep bytes ≡ i) × (place sep bytes < length bytes)
placed sep bytes i e = (grind arith, grind arith)

not_placed : (sep : ℕ) (bytes : List ℕ) → position (λ b. nat_eq b sep) bytes ≡ None → length bytes ≤ place sep bytes
not_placed sep bytes e = grind arith

pub line_stops : (bytes : List ℕ) (i : ℕ) → position (λ b. nat_eq b 10) bytes ≡ Some i → lines_of bytes ≡ take i bytes ∷ lines_of (drop (i + 1) bytes)
line_stops bytes i e = let p = placed 10 bytes i e in rw (add-one, ← p.0) (line_stops_at bytes p.1)

pub word_stops : (bytes : List ℕ) (i : ℕ) → position (λ b. nat_eq b 32) bytes ≡ Some i → words_of bytes ≡ take i bytes ∷ words_of (drop (i + 1) bytes)
word_stops bytes i e = let p = placed 32 bytes i e in rw (add-one, ← p.0) (word_stops_at bytes p.1)

pub line_ends : (bytes : List ℕ) → position (λ b. nat_eq b 10) bytes ≡ None → 0 < length bytes → lines_of bytes ≡ bytes ∷ []
unfolding lines_of
line_ends [] e lt = absurd (omega arith)
line_ends (b ∷ bs) e lt = ends_step lines_of (nat_eq b 10) b bs (place 10 bs) (line_ends_at b bs) (not_placed 10 (b ∷ bs) e)

pub word_ends : (bytes : List ℕ) → position (λ b. nat_eq b 32) bytes ≡ None → words_of bytes ≡ bytes ∷ []
word_ends bytes e = word_ends_at bytes (not_placed 32 bytes e)

pub position_within : (sep : ℕ) (bytes : List ℕ) (i : ℕ) → position (λ b. nat_eq b sep) bytes ≡ Some i → i < length bytes
position_within sep bytes i e = let p = placed sep bytes i e in omega arith

-- a line has a first word
first_word : (bytes : List ℕ) → (w : List ℕ) × (ws : List (List ℕ)) × (words_of bytes ≡ w ∷ ws)
unfolding words_of
first_word [] = ([], [], refl)
first_word (b ∷ bs) = pick (nat_eq b 32) b (words_of bs) (first_word bs)
  where
    pick : (v : Bool) (b : ℕ) (ps : List (List ℕ)) → (w : List ℕ) × (ws : List (List ℕ)) × (ps ≡ w ∷ ws) → (w : List ℕ) × (ws : List (List ℕ)) × (cond v ([] ∷ ps) (with_first b ps) ≡ w ∷ ws)
    pick true b ps k = ([], ps, refl)
    pick false b ps k = (b ∷ k.0, k.1, ap (with_first b) k.2)

pub seven_words : (a b c d e f : List ℕ) (rest : List ℕ) → has_shape (a ∷ b ∷ c ∷ d ∷ e ∷ f ∷ words_of rest) ≡ false
seven_words a b c d e f rest = let k = first_word rest in rw k.2 refl

pub no_lines : lines_of [] ≡ []
unfolding lines_of
no_lines = refl
