-- Which keyframes a moment lies between.
use Rattle.std.proofs.Common.{◌≡◌, ℕ, zero, suc, ◌-◌, ◌<◌, ◌≤◌, List, [], ◌∷◌, length, get_or, Some, None, true, false, refl, ap, sym, ◌∙◌, arith, subst}
use Rattle.std.specs.Prelude.{slice_get, All}
use Rattle.std.proofs.lemmas.Bool.{ltb-true, ltb-false, lt-ltb, le-ltb}
use Rattle.std.proofs.lemmas.List.Sums.{prefix_len_is, prefix_len_passes, prefix_len_stops}
use Rattle.std.proofs.lemmas.Option.{slice_get-get_or, slice_get_past}
use Rattle.timeline.specs.declared.between.Keyframe.{Keyframe}
use Rattle.timeline.specs.declared.between.Interpolation.{Interpolation}
use Rattle.timeline.specs.Lines.{moment_of}
use Rattle.timeline.specs.Between.{between}
use Rattle.timeline.specs.Keeping.{is_ahead, ahead_of, one_before, value_from, value_in}

pub by_count : (how : Interpolation) (at : ℕ) (xs : List Keyframe) (n : ℕ) → n ≡ ahead_of at xs → value_from how at (slice_get xs n) (one_before xs n) ≡ value_in how at xs
by_count how at xs n e = ap (λ k. value_from how at (slice_get xs k) (one_before xs k)) e

at_place : (xs : List Keyframe) (i : ℕ) (x : Keyframe) → i < length xs → x ≡ get_or xs i x → slice_get xs i ≡ Some x
at_place xs i x less is = slice_get-get_or xs i x less ∙ ap Some (sym is)

-- no keyframe
pub none_kept : (how : Interpolation) (at : ℕ) (xs : List Keyframe) → length xs ≡ 0 → None ≡ value_in how at xs
none_kept how at [] e = refl
none_kept how at (x ∷ xs) e = absurd (omega arith)

-- none is ahead
pub none_ahead : (how : Interpolation) (at : ℕ) (xs : List Keyframe) (n : ℕ) (x : Keyframe) → n ≡ ahead_of at xs → n ≡ 0 → 0 < length xs → x ≡ get_or xs 0 x → Some x.value ≡ value_in how at xs
none_ahead how at xs n x e is some at_0 =
    let f : slice_get xs 0 ≡ Some x = at_place xs 0 x some at_0 in
    sym (ap (λ o. value_from how at o None) f) ∙ by_count how at xs 0 (sym is ∙ e)

-- all are
pub all_ahead : (how : Interpolation) (at : ℕ) (xs : List Keyframe) (n : ℕ) (x : Keyframe) → n ≡ ahead_of at xs → n ≡ length xs → 0 < n → x ≡ get_or xs (n - 1) x → Some x.value ≡ value_in how at xs
all_ahead how at xs zero x e all some is = absurd (omega arith)
all_ahead how at xs (suc n) x e all some is =
    let i : n ≡ suc n - 1 = omega arith in
    let f : slice_get xs n ≡ Some x = at_place xs n x (omega arith) (subst (λ k. x ≡ get_or xs k x) (sym i) is) in
    let g : slice_get xs (suc n) ≡ None = slice_get_past xs (suc n) (omega arith) in
    sym (ap (λ o. value_from how at o (slice_get xs n)) g ∙ ap (value_from how at None) f) ∙ by_count how at xs (suc n) e

-- some are
pub some_ahead : (how : Interpolation) (at : ℕ) (xs : List Keyframe) (n : ℕ) (before after : Keyframe) → n ≡ ahead_of at xs → 0 < n → n < length xs
    → before ≡ get_or xs n before → after ≡ get_or xs (n - 1) after → Some (between how before after at) ≡ value_in how at xs
some_ahead how at xs zero before after e some less is_before is_after = absurd (omega arith)
some_ahead how at xs (suc n) before after e some less is_before is_after =
    let i : n ≡ suc n - 1 = omega arith in
    let f : slice_get xs n ≡ Some after = at_place xs n after (omega arith) (subst (λ k. after ≡ get_or xs k after) (sym i) is_after) in
    let g : slice_get xs (suc n) ≡ Some before = at_place xs (suc n) before less is_before in
    sym (ap (λ o. value_from how at o (slice_get xs n)) g ∙ ap (value_from how at (Some before)) f) ∙ by_count how at xs (suc n) e

-- the moment has reached the one, and not the other
pub is_reached : (at : ℕ) (xs : List Keyframe) (n : ℕ) (x : Keyframe) → n ≡ ahead_of at xs → n < length xs → x ≡ get_or xs n x → moment_of x.packet ≤ at
is_reached at xs n x e less is =
    let stops = prefix_len_stops (is_ahead at) xs x (subst (λ k. k < length xs) e less) in
    let here : is_ahead at x ≡ false = ap (is_ahead at) (is ∙ ap (λ k. get_or xs k x) e) ∙ stops in
    ltb-false at (moment_of x.packet) here

pub is_still_ahead : (at : ℕ) (xs : List Keyframe) (n : ℕ) (x : Keyframe) → n ≡ ahead_of at xs → 0 < n → x ≡ get_or xs (n - 1) x → at < moment_of x.packet
is_still_ahead at xs n x e some is =
    let passes = prefix_len_passes (is_ahead at) xs (n - 1) x (omega (arith, e)) in
    let here : is_ahead at x ≡ true = ap (is_ahead at) is ∙ passes in
    ltb-true at (moment_of x.packet) here

pub is_of_life : (xs : List Keyframe) (i : ℕ) (x : Keyframe) → All (λ (k : Keyframe). k.packet ≤ 16777215) xs → i < length xs → x ≡ get_or xs i x → x.packet ≤ 16777215
is_of_life xs i x all less is = subst (λ (k : Keyframe). k.packet ≤ 16777215) (sym is) (all i x less)

-- all before this place are ahead
pub first_reached : (at : ℕ) (xs : List Keyframe) (n : ℕ) (x : Keyframe) → ((k : ℕ) (d : Keyframe) → k < n → at < moment_of (get_or xs k d).packet) → n < length xs → x ≡ get_or xs n x → moment_of x.packet ≤ at
    → n ≡ ahead_of at xs
first_reached at xs n x before less is reached =
    sym (prefix_len_is (is_ahead at) xs n x (omega arith) (λ k lt. lt-ltb at (moment_of (get_or xs k x).packet) (before k x lt)) (λ _. le-ltb at (moment_of (get_or xs n x).packet) (subst (λ (k : Keyframe). moment_of k.packet ≤ at) is reached)))

pub none_reached : (at : ℕ) (xs : List Keyframe) (n : ℕ) → ((k : ℕ) (d : Keyframe) → k < n → at < moment_of (get_or xs k d).packet) → n ≡ length xs → n ≡ ahead_of at xs
none_reached at [] n before all = all
none_reached at (x ∷ xs) n before all =
    sym (prefix_len_is (is_ahead at) (x ∷ xs) n x (omega arith) (λ k lt. lt-ltb at (moment_of (get_or (x ∷ xs) k x).packet) (before k x lt)) (λ less. absurd (omega arith)))
