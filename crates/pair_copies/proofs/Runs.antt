-- The reads of a mask's fields, and the levels that an item makes of their values.
use Rattle.std.proofs.Common.{◌≡◌, ◌⊎◌, inl, inr, ℕ, ℤ, zero, suc, ◌+◌, ◌/◌, ◌^◌, ◌<◌, ◌≤◌, Bool, true, false, cond, ◌&&◌, List, [], ◌∷◌, ◌++◌, ◌∙◌, length, Some, Option, refl, sym, ap, subst, arith, eqb}
use Rattle.std.specs.Prelude.{map, filter, slice_get, slice_index_or}
use Rattle.std.specs.Option.{option_map}
use Rattle.std.specs.List.{AllByRecursion}
use Rattle.std.proofs.Math.Nat.{div-div-eq-div-mul, pow-suc}
use Rattle.ghost_model.specs.Words.{upto}
use Rattle.ghost_model.proofs.Steps.{same_test, other_test}
use Rattle.tn_types.specs.BitWords.{has_bit}
use Rattle.tn_types.specs.declared.choices.Read.{Read}
use Rattle.quantised_fields.specs.declared.field.FieldSpec.{FieldSpec}
use Rattle.quantised_fields.specs.Levels.{level_of}
use Rattle.ghost_client.specs.Fields.{place_in}
use Rattle.ghost_masks.specs.Plan.{masked}
use Rattle.ghost_masks.specs.Carried.{levels_for}
use Rattle.conn_packing.specs.Packs.{values_of}
use Rattle.conn_packing.specs.Reads.{fields_in, field_of}
use Rattle.conn_packing.proofs.ReadValues.{front-of, behind-of}
use Rattle.pair_copies.specs.Reads.{newest_in}

-- ---- the fields of a mask, rising

-- m numbers from k on
abbrev pub from : ℕ → ℕ → List ℕ
from k zero = []
from k (suc m) = k ∷ from (suc k) m

-- those of them that the mask has
abbrev pub run : ℕ → ℕ → ℕ → List ℕ
run mask k m = filter (has_bit mask) (from k m)

pub fields-run : (mask : ℕ) → fields_in mask ≡ run mask 0 16
unfolding upto
fields-run mask = refl

pub halved : (mask k : ℕ) → mask / 2 ^ k / 2 ≡ mask / 2 ^ suc k
halved mask k = div-div-eq-div-mul mask (2 ^ k) 2 ∙ ap (λ n. mask / n) (sym (pow-suc 2 k))

pub none-above : (mask k m : ℕ) → ((f : ℕ) → k ≤ f → has_bit mask f ≡ false) → run mask k m ≡ []
none-above mask k zero h = refl
none-above mask k (suc m) h = ap (λ b. cond b (k ∷ run mask (suc k) m) (run mask (suc k) m)) (h k (omega arith)) ∙ none-above mask (suc k) m (λ f le. h f (omega arith))

-- a mask has as many fields of a kind as it has bits
pub run-count : (mask k m : ℕ) (fs : List FieldSpec) → length fs ≤ m → ((f : ℕ) → k + length fs ≤ f → has_bit mask f ≡ false) → length (masked (mask / 2 ^ k) fs) ≡ length (run mask k m)
run-count mask k m [] le above = ap length (sym (none-above mask k m (λ f l. above f (omega arith))))
run-count mask k zero (g ∷ fs) le above = absurd (omega arith)
run-count mask k (suc m) (g ∷ fs) le above =
    go (has_bit mask k) (ap (λ n. length (masked n fs)) (halved mask k) ∙ run-count mask (suc k) m fs (omega arith) (λ f l. above f (omega arith)))
  where
    go : (b : Bool) → length (masked (mask / 2 ^ k / 2) fs) ≡ length (run mask (suc k) m) → length (cond b (g ∷ masked (mask / 2 ^ k / 2) fs) (masked (mask / 2 ^ k / 2) fs)) ≡ length (cond b (k ∷ run mask (suc k) m) (run mask (suc k) m))
    go true later = ap suc later
    go false later = later

-- ---- reads that are of other fields

-- it is the field of period n
abbrev is_it : ℕ → ℕ → ℕ × ℕ → Bool
is_it n f x = eqb x.0 n && eqb x.1 f

pub others-leave : (n f : ℕ) (older : Option ℤ) (rs : List Read) (xs : List (ℕ × ℕ)) → map field_of rs ≡ xs → AllByRecursion (λ x. is_it n f x ≡ false) xs → newest_in rs n f older ≡ older
others-leave n f older [] xs e none = refl
others-leave n f older (r ∷ rs) [] e none = absurd (cc)
others-leave n f older (r ∷ rs) (x ∷ xs) e none =
    let here : field_of r ≡ x = cc in
    let later : map field_of rs ≡ xs = cc in
    ap (λ b. newest_in rs n f (cond b (Some r.value) older)) (ap (is_it n f) here ∙ none.0) ∙ others-leave n f older rs xs later none.1

-- of another period
pub other-period : (m n f : ℕ) → (m ≡ n → ⊥) → (gs : List ℕ) → AllByRecursion (λ x. is_it n f x ≡ false) (map {B = ℕ × ℕ} (λ g. (m, g)) gs)
other-period m n f other [] = tt
other-period m n f other (g ∷ gs) = (ap (λ b. b && eqb g f) (other_test m n other), other-period m n f other gs)

and-false : (b : Bool) → (b && false) ≡ false
and-false true = refl
and-false false = refl

-- of a field that the mask lacks, or that comes before
pub other-field : (p mask f k m : ℕ) → (has_bit mask f ≡ false) ⊎ (f < k) → AllByRecursion (λ x. is_it p f x ≡ false) (map {B = ℕ × ℕ} (λ g. (p, g)) (run mask k m))
other-field p mask f k zero lacks = tt
other-field p mask f k (suc m) lacks = go (has_bit mask k) refl (other-field p mask f (suc k) m (onward lacks))
  where
    onward : (has_bit mask f ≡ false) ⊎ (f < k) → (has_bit mask f ≡ false) ⊎ (f < suc k)
    onward (inl no_bit) = inl no_bit
    onward (inr before) = inr (omega arith)

    differ : (has_bit mask f ≡ false) ⊎ (f < k) → has_bit mask k ≡ true → k ≡ f → ⊥
    differ (inl no_bit) has same = let never : true ≡ false = sym has ∙ ap (has_bit mask) same ∙ no_bit in cc
    differ (inr before) has same = omega (arith, same, before)

    go : (b : Bool) → has_bit mask k ≡ b → AllByRecursion (λ x. is_it p f x ≡ false) (map {B = ℕ × ℕ} (λ g. (p, g)) (run mask (suc k) m))
        → AllByRecursion (λ x. is_it p f x ≡ false) (map {B = ℕ × ℕ} (λ g. (p, g)) (cond b (k ∷ run mask (suc k) m) (run mask (suc k) m)))
    go true has later = (ap (λ b. eqb p p && b) (other_test k f (differ lacks has)) ∙ and-false (eqb p p), later)
    go false has later = later

-- ---- the place of a field's level

-- how many fields of the mask stand from k on before field k + j
abbrev pub place_from : ℕ → ℕ → ℕ → ℕ
place_from mask k zero = 0
place_from mask k (suc j) = cond (has_bit mask k) (suc (place_from mask (suc k) j)) (place_from mask (suc k) j)

pub place-is : (mask k j : ℕ) → place_in mask (k + j) ≡ place_in mask k + place_from mask k j
place-is mask k zero = ap (place_in mask) (let e : k + 0 ≡ k = omega arith in e) ∙ omega arith
place-is mask k (suc j) =
    ap (place_in mask) (let e : k + suc j ≡ suc k + j = omega arith in e) ∙ place-is mask (suc k) j ∙ go (has_bit mask k) (place_in mask k) (place_from mask (suc k) j)
  where
    go : (b : Bool) (a c : ℕ) → (a + cond b 1 0) + c ≡ a + cond b (suc c) c
    go true a c = omega arith
    go false a c = omega arith

-- ---- the level of a field that was read

module _ (n mask : ℕ) (older : Option ℤ) (rest : List ℤ) (spec : FieldSpec) where
  -- the last read of field k + j among these, and the level at its place
  abbrev AreAlike : ℕ → ℕ → List FieldSpec → List Read → ℕ → Type 0
  AreAlike k j fs rs i = option_map (level_of spec) (newest_in rs n (k + j) older) ≡ Some (slice_index_or (levels_for fs (values_of rs ++ rest)) i 0)

  pub level-at : (k j m : ℕ) (fs : List FieldSpec) (rs : List Read) → length fs ≤ m → map field_of rs ≡ map (λ g. (n, g)) (run mask k m) → slice_get fs j ≡ Some spec → has_bit mask (k + j) ≡ true
      → AreAlike k j (masked (mask / 2 ^ k) fs) rs (place_from mask k j)
  level-at k j m [] rs le is at has = absurd (cc)
  level-at k j zero (g ∷ fs) rs le is at has = absurd (omega arith)
  level-at k zero (suc m) (g ∷ fs) rs le is at has = first (has_bit mask k) (subst (λ i. has_bit mask i ≡ true) (let e : k + 0 ≡ k = omega arith in e) has) rs is
    where
      own : g ≡ spec
      own = cc

      first : (b : Bool) → b ≡ true → (rs : List Read) → map field_of rs ≡ map (λ g. (n, g)) (cond b (k ∷ run mask (suc k) m) (run mask (suc k) m)) → AreAlike k 0 (cond b (g ∷ masked (mask / 2 ^ k / 2) fs) (masked (mask / 2 ^ k / 2) fs)) rs 0
      first false e rs is = absurd (cc)
      first true e [] is = absurd (cc)
      first true e (r ∷ rs) is =
          let at_n : r.n ≡ n = ap (λ (l : List (ℕ × ℕ)). (front-of (0, 0) l).0) is in
          let at_k : r.field ≡ k + 0 = ap (λ (l : List (ℕ × ℕ)). (front-of (0, 0) l).1) is ∙ omega arith in
          let later : map field_of rs ≡ map (λ g. (n, g)) (run mask (suc k) m) = ap behind-of is in
          let hit : (eqb r.n n && eqb r.field (k + 0)) ≡ true = ap (λ i. eqb i n && eqb r.field (k + 0)) at_n ∙ ap (λ b. b && eqb r.field (k + 0)) (same_test n) ∙ ap (λ i. eqb i (k + 0)) at_k ∙ same_test (k + 0) in
          let stays : newest_in rs n (k + 0) (Some r.value) ≡ Some r.value = others-leave n (k + 0) (Some r.value) rs (map (λ g. (n, g)) (run mask (suc k) m)) later (other-field n mask (k + 0) (suc k) m (inr (omega arith))) in
          ap (λ b. option_map (level_of spec) (newest_in rs n (k + 0) (cond b (Some r.value) older))) hit ∙ ap (option_map (level_of spec)) stays ∙ ap (λ s. Some (level_of s r.value)) (sym own)
  level-at k (suc j) (suc m) (g ∷ fs) rs le is at has =
      let further : suc k + j ≡ k + suc j = omega arith in
      second
      (λ rs e.
      ap (λ i. option_map (level_of spec) (newest_in rs n i older)) (sym further)
      ∙ level-at (suc k) j m fs rs (omega arith) e at (ap (has_bit mask) further ∙ has)
      ∙ ap (λ i. Some (slice_index_or (levels_for (masked i fs) (values_of rs ++ rest)) (place_from mask (suc k) j) 0)) (sym (halved mask k)))
      (has_bit mask k) rs is
    where
      second : ((rs : List Read) → map field_of rs ≡ map (λ g. (n, g)) (run mask (suc k) m) → AreAlike k (suc j) (masked (mask / 2 ^ k / 2) fs) rs (place_from mask (suc k) j))
          → (b : Bool) (rs : List Read) → map field_of rs ≡ map (λ g. (n, g)) (cond b (k ∷ run mask (suc k) m) (run mask (suc k) m))
          → AreAlike k (suc j) (cond b (g ∷ masked (mask / 2 ^ k / 2) fs) (masked (mask / 2 ^ k / 2) fs)) rs (cond b (suc (place_from mask (suc k) j)) (place_from mask (suc k) j))
      second next false rs is = next rs is
      second next true [] is = absurd (cc)
      second next true (r ∷ rs) is =
          let at_k : r.field ≡ k = ap (λ (l : List (ℕ × ℕ)). (front-of (0, 0) l).1) is in
          let later : map field_of rs ≡ map (λ g. (n, g)) (run mask (suc k) m) = ap behind-of is in
          let other : k ≡ k + suc j → ⊥ = λ same. omega (arith, same) in
          let miss : (eqb r.n n && eqb r.field (k + suc j)) ≡ false = ap (λ i. eqb r.n n && eqb i (k + suc j)) at_k ∙ ap (λ b. eqb r.n n && b) (other_test k (k + suc j) other) ∙ and-false (eqb r.n n) in
          ap (λ b. option_map (level_of spec) (newest_in rs n (k + suc j) (cond b (Some r.value) older))) miss ∙ next rs later

  -- the last read of a field among those of the mask's fields, and the level at its place
  pub level-of-field : (f : ℕ) (fs : List FieldSpec) (rs : List Read) → length fs ≤ 16 → map field_of rs ≡ map (λ g. (n, g)) (fields_in mask) → slice_get fs f ≡ Some spec → has_bit mask f ≡ true
      → option_map (level_of spec) (newest_in rs n f older) ≡ Some (slice_index_or (levels_for (masked mask fs) (values_of rs ++ rest)) (place_in mask f) 0)
  level-of-field f fs rs few is at has =
      let plain : 0 + f ≡ f = omega arith in
      let place : place_from mask 0 f ≡ place_in mask f = omega (arith, place-is mask 0 f, ap (place_in mask) plain) in
      let whole : mask / 2 ^ 0 ≡ mask = omega arith in
      ap (λ i. option_map (level_of spec) (newest_in rs n i older)) (sym plain)
      ∙ level-at 0 f 16 fs rs few (is ∙ ap (λ (l : List ℕ). map {B = ℕ × ℕ} (λ g. (n, g)) l) (fields-run mask)) at (ap (has_bit mask) plain ∙ has)
      ∙ (λ i. Some (slice_index_or (levels_for (masked (whole i) fs) (values_of rs ++ rest)) (place i) 0))
