-- Each word on lists is what it is named for.
use Rattle.std.proofs.Common.{◌≡◌, ℕ, zero, suc, ◌+◌, ◌-◌, ◌<◌, ◌≤◌, inl, inr, Bool, true, false, nat_le, nat_lt, List, [], ◌∷◌, ◌++◌, sum_by, Option, Some, None, refl, ap, sym, ◌∙◌, subst, if◌then◌else◌, arith, append_assoc, append-nil, get_or, Contains}
use Rattle.std.proofs.lemmas.Bool.Decides.{nat_tests}
use Rattle.std.proofs.lemmas.Bool.{cases_eq}
use Rattle.std.proofs.lemmas.List.Sums.{sum_by-cons}
use Rattle.std.proofs.lemmas.List.Elements.{Contains-push, Contains-push_cases, Contains-append_left, Contains-get_or}
use Rattle.std.proofs.lemmas.List.Quantifiers.{all_pairs_push}
use Rattle.std.specs.Option.{option_or}
use Rattle.tn_types.specs.Fitting.{fitting, IsLongestFitting}
use Rattle.tn_types.specs.Least.{least, IsLeast, those_below, AreThoseBelow}
use Rattle.tn_types.specs.Checks.{first_fault, IsFirstFault}

-- ---- the longest front that fits

first_fits : {A : Type 0} (size : A → ℕ) (room : ℕ) (y : A) (ys front : List A) → size y ≤ room → IsLongestFitting size (room - size y) ys front → IsLongestFitting size room (y ∷ ys) (y ∷ front)
first_fits size room y ys front small behind = record {
  prefix = (behind.prefix.0, ap (λ zs. y ∷ zs) behind.prefix.1);
  fits = rw (sum_by-cons size y front) (omega (arith, behind.fits));
  longest = λ x rest whole.
      let tail : front ++ x ∷ rest ≡ ys = cc in
      let more : room - size y < sum_by size front + size x = behind.longest x rest tail in
      rw (sum_by-cons size y front) (omega (arith, more));
}

first_ends : {A : Type 0} (size : A → ℕ) (room : ℕ) (y : A) (ys : List A) → room < size y → IsLongestFitting size room (y ∷ ys) []
first_ends size room y ys large = record {
  prefix = (y ∷ ys, refl);
  fits = let fits : 0 ≤ room = omega arith in fits;
  longest = λ x rest whole.
      let same : x ≡ y = cc in
      let equal : size x ≡ size y = ap size same in
      let passes : room < 0 + size x = omega arith in
      passes;
}

with_first : {A : Type 0} (size : A → ℕ) (room : ℕ) (y : A) (ys : List A) (fits : Bool) → nat_le (size y) room ≡ fits → IsLongestFitting size (room - size y) ys (fitting size (room - size y) ys) → IsLongestFitting size room (y ∷ ys) (if fits then y ∷ fitting size (room - size y) ys else [])
with_first size room y ys true e behind = first_fits size room y ys _ (grind (arith, nat_tests)) behind
with_first size room y ys false e behind = first_ends size room y ys (grind (arith, nat_tests))

pub longest : {A : Type 0} (size : A → ℕ) (room : ℕ) (xs : List A) → IsLongestFitting size room xs (fitting size room xs)
longest size room [] = record { prefix = ([], refl); fits = omega arith; longest = λ x rest whole. cc }
longest size room (y ∷ ys) = with_first size room y ys (nat_le (size y) room) refl (longest size (room - size y) ys)

-- ---- the least that passes

none_here : (f : ℕ → Bool) (n k : ℕ) → f n ≡ false → (k < n → f k ≡ false) → k < suc n → f k ≡ false
none_here f n k here below less = grind arith

step_least : (f : ℕ → Bool) (n : ℕ) → IsLeast f n (least f n) → (found here : Bool) → nat_lt (least f n) n ≡ found → f n ≡ here → IsLeast f (suc n) (if found then least f n else (if here then n else suc n))
step_least f n below true here e h =
    let found : least f n < n = grind (arith, nat_tests) in
    record { bound = omega (arith, found); passes = λ _. below.passes found; first = below.first }
step_least f n below false true e h =
    let none : n ≤ least f n = grind (arith, nat_tests) in
    record { bound = omega arith; passes = λ _. h; first = λ k less. below.first k (omega (arith, none, less)) }
step_least f n below false false e h =
    let none : n ≤ least f n = grind (arith, nat_tests) in
    record {
      bound = omega arith;
      passes = λ less. absurd (omega (arith, less));
      first = λ k less. none_here f n k h (λ lower. below.first k (omega (arith, none, lower))) less;
    }

pub least_one : (f : ℕ → Bool) (n : ℕ) → IsLeast f n (least f n)
least_one f zero = record { bound = omega arith; passes = λ less. absurd (omega (arith, less)); first = λ k less. absurd (omega (arith, less)) }
least_one f (suc n) = step_least f n (least_one f n) (nat_lt (least f n) n) (f n) refl refl

-- ---- those that pass

one_more : (f : ℕ → Bool) (n : ℕ) (xs : List ℕ) (here : Bool) → f n ≡ here → AreThoseBelow f n xs → AreThoseBelow f (suc n) (if here then xs ++ n ∷ [] else xs)
one_more f n xs true e below = record {
  members = λ k. (
    (λ inside. elim (Contains-push_cases xs n k inside) [
      | inl old ↦ (let h = below.members k in (omega (arith, (h.0 old).0), (h.0 old).1))
      | inr same ↦ (omega (arith, same), subst (λ m. f m ≡ true) same e)
    ]),
    (λ passes. elim (cases_eq k n) [
      | inl same ↦ subst (λ m. Contains (xs ++ n ∷ []) m) (sym same) (Contains-push xs n)
      | inr apart ↦ Contains-append_left xs (n ∷ []) k ((below.members k).1 (omega (arith, passes.0, apart), passes.1))
    ]),
  );
  rising = all_pairs_push (λ a b. a < b) xs n below.rising (λ k d less. ((below.members (get_or xs k d)).0 (Contains-get_or xs k d less)).0);
}
one_more f n xs false e below = record {
  members = λ k. (
    (λ inside. (let h = (below.members k).0 inside in (omega (arith, h.0), h.1))),
    (λ passes. elim (cases_eq k n) [
      | inl same ↦ absurd (let no : true ≡ false = sym passes.1 ∙ ap f same ∙ e in cc)
      | inr apart ↦ (below.members k).1 (omega (arith, passes.0, apart), passes.1)
    ]),
  );
  rising = below.rising;
}

pub those_that_pass : (f : ℕ → Bool) (n : ℕ) → AreThoseBelow f n (those_below f n)
those_that_pass f zero = record { members = λ k. ((λ inside. absurd (omega (arith, inside.1))), (λ passes. absurd (omega (arith, passes.0)))); rising = λ i j d before less. absurd (omega (arith, less)) }
those_that_pass f (suc n) = one_more f n (those_below f n) (f n) refl (those_that_pass f n)

-- ---- the first fault

behind_first : {A E : Type 0} (fault : List A → A → Option E) (before : List A) (x : A) (xs : List A) (here found : Option E) → fault before x ≡ here → IsFirstFault fault (before ++ x ∷ []) xs found → IsFirstFault fault before (x ∷ xs) (option_or here found)
behind_first fault before x xs (Some e) found h rest = ([], x, xs, refl, subst (λ zs. fault zs x ≡ Some e) (sym (append-nil before)) h, tt)
behind_first fault before x xs None (Some e) h (front, y, rest, whole, faulty, clean) =
    (x ∷ front, y, rest, ap (λ zs. x ∷ zs) whole, subst (λ zs. fault zs y ≡ Some e) (append_assoc before (x ∷ []) front) faulty, (h, clean))
behind_first fault before x xs None None h clean = (h, clean)

pub first_one : {A E : Type 0} (fault : List A → A → Option E) (before xs : List A) → IsFirstFault fault before xs (first_fault fault before xs)
first_one fault before [] = tt
first_one fault before (x ∷ xs) = behind_first fault before x xs (fault before x) (first_fault fault (before ++ x ∷ []) xs) refl (first_one fault (before ++ x ∷ []) xs)
