-- Items that are listed one after another, and the first ones of a list.
use Rattle.std.proofs.Common.{◌≡◌, ◌∙◌, ℕ, ◌+◌, ◌<◌, min, Bool, true, false, leb, List, [], ◌∷◌, ◌++◌, length, take, set, get_or, Some, None, refl, sym, ap, arith}
use Rattle.std.specs.Prelude.{map, slice_get, option_map}
use Rattle.std.proofs.lemmas.List.{take_more, take_more_set, take_all}
use Rattle.std.proofs.lemmas.Bool.{leb-true, leb-false}
use Rattle.std.proofs.lemmas.Option.{slice_get-map, slice_get_within, slice_get-get_or}
use Rattle.std.proofs.Math.Seq.{take-length}
use Rattle.tn_types.specs.declared.choices.Verdict.{Verdict}
use Rattle.tribes_ends.specs.Lists.{judged_of}

pub judged_there : (vs : List (ℕ × Verdict)) (k : ℕ) (v : ℕ × Verdict) → slice_get vs k ≡ Some v → slice_get (map judged_of vs) k ≡ Some (judged_of v)
judged_there vs k v e = slice_get-map judged_of vs k ∙ ap (λ o. option_map judged_of o) e

pub not_past : {A : Type 0} (xs : List A) (k : ℕ) → k < length xs → slice_get xs k ≡ None → ⊥
not_past [] k lt e = absurd (omega arith)
not_past (x ∷ xs) k lt e = let at = slice_get-get_or (x ∷ xs) k x lt in let no : None ≡ Some (get_or (x ∷ xs) k x) = sym e ∙ at in absurd (cc)

-- one item more, put behind those that are there
pub one-more : {A : Type 0} (xs place : List A) (i : ℕ) (x : A) → i < length place → slice_get xs i ≡ Some x → take i place ≡ take i xs → take (i + 1) (set place i x) ≡ take (i + 1) xs
one-more {A} xs place i x room at so =
    let within = slice_get_within xs i x at in
    let same : get_or xs i x ≡ x = let found = slice_get-get_or xs i x within in let both : Some (get_or xs i x) ≡ Some x = sym found ∙ at in cc in
    take_more_set place i x room ∙ ap (λ (l : List A). l ++ x ∷ []) so ∙ ap (λ (y : A). take i xs ++ y ∷ []) (sym same) ∙ sym (take_more xs i x within)

-- as far as there are so many
pub first-ones : {A : Type 0} (xs : List A) (n : ℕ) → take (min (length xs) n) xs ≡ take n xs
first-ones {A} xs n = go (leb (length xs) n) refl
  where
    go : (b : Bool) → leb (length xs) n ≡ b → take (min (length xs) n) xs ≡ take n xs
    go true e =
        let le = leb-true (length xs) n e in
        ap (λ k. take k xs) (let same : min (length xs) n ≡ length xs = omega arith in same) ∙ take-length xs ∙ sym (take_all n xs le)
    go false e =
        let lt = leb-false (length xs) n e in
        ap (λ k. take k xs) (let same : min (length xs) n ≡ n = omega arith in same)
