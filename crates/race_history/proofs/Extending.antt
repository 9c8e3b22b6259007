-- Lists that grow item by item, each by what comes to it.
use Rattle.std.proofs.Common.{◌≡◌, ℕ, zero, suc, ◌<◌, ◌≤◌, ◌+◌, List, [], ◌∷◌, ◌++◌, length, get_or, set, take, length-take-le, refl, ap, sym, ◌∙◌, arith, Option, Some, None}
use Rattle.std.specs.Prelude.{slice_get}
use Rattle.std.specs.Option.{unwrap_or}
use Rattle.std.proofs.lemmas.List.{take_more}
use Rattle.race_history.specs.Growing.{extended, reached}

-- ---- one more place

pub reached_there : {A : Type 0} (begin : A) (xs : List A) (i : ℕ) → i < length xs → reached begin xs i ≡ xs
reached_there begin [] i l = absurd (omega (arith, l))
reached_there begin (x ∷ xs) zero l = refl
reached_there {A} begin (x ∷ xs) (suc i) l = ap (λ (ys : List A). x ∷ ys) (reached_there begin xs i (omega (arith, l)))

pub reached_end : {A : Type 0} (begin : A) (xs : List A) (i : ℕ) → length xs ≤ i → i ≤ length xs → reached begin xs i ≡ xs ++ begin ∷ []
reached_end begin [] i l m = refl
reached_end begin (x ∷ xs) zero l m = absurd (omega (arith, l))
reached_end {A} begin (x ∷ xs) (suc i) l m = ap (λ (ys : List A). x ∷ ys) (reached_end begin xs i (omega (arith, l)) (omega (arith, m)))

-- ---- one more item

pub extended_one : {A B : Type 0} (grow : A → B → A) (begin : A) (told : List A) (now : List B) (b : B) (a : A) → a ≡ get_or (reached begin (extended grow begin told now) (length now)) (length now) a → extended grow begin told (now ++ b ∷ []) ≡ set (reached begin (extended grow begin told now) (length now)) (length now) (grow a b)
extended_one {A} {B} grow begin [] [] b a e = ap (λ (x : A). grow x b ∷ []) (sym e)
extended_one {A} {B} grow begin (t ∷ told) [] b a e = ap (λ (x : A). grow x b ∷ told) (sym e)
extended_one {A} {B} grow begin [] (c ∷ now) b a e = ap (λ (ys : List A). grow begin c ∷ ys) (extended_one grow begin [] now b a e)
extended_one {A} {B} grow begin (t ∷ told) (c ∷ now) b a e = ap (λ (ys : List A). grow t c ∷ ys) (extended_one grow begin told now b a e)

pub length_extended : {A B : Type 0} (grow : A → B → A) (begin : A) (told : List A) (now : List B) → length told ≤ length now → length (extended grow begin told now) ≡ length now
length_extended grow begin [] [] l = refl
length_extended grow begin [] (b ∷ now) l = ap suc (length_extended grow begin [] now (omega arith))
length_extended grow begin (t ∷ told) [] l = absurd (omega (arith, l))
length_extended grow begin (t ∷ told) (b ∷ now) l = ap suc (length_extended grow begin told now (omega (arith, l)))

pub length_least : {A B : Type 0} (grow : A → B → A) (begin : A) (told : List A) (now : List B) → length now ≤ length (extended grow begin told now)
length_least grow begin [] [] = omega arith
length_least grow begin (t ∷ told) [] = omega arith
length_least grow begin [] (b ∷ now) = let h = length_least grow begin [] now in omega (arith, h)
length_least grow begin (t ∷ told) (b ∷ now) = let h = length_least grow begin told now in omega (arith, h)

-- no more places than there were or come
pub length_most : {A B : Type 0} (most : ℕ) (grow : A → B → A) (begin : A) (told : List A) (now : List B) → length told ≤ most → length now ≤ most → length (extended grow begin told now) ≤ most
length_most most grow begin [] [] l m = l
length_most most grow begin (t ∷ told) [] l m = l
length_most zero grow begin [] (b ∷ now) l m = absurd (omega (arith, m))
length_most (suc most) grow begin [] (b ∷ now) l m = let h = length_most most grow begin [] now (omega arith) (omega (arith, m)) in omega (arith, h)
length_most zero grow begin (t ∷ told) (b ∷ now) l m = absurd (omega (arith, m))
length_most (suc most) grow begin (t ∷ told) (b ∷ now) l m = let h = length_most most grow begin told now (omega (arith, l)) (omega (arith, m)) in omega (arith, h)

-- ---- what stands at a place

-- an item with what comes to it, if anything does
abbrev pub with_item : {A B : Type 0} → (A → B → A) → A → Option B → A
with_item grow a None = a
with_item grow a (Some b) = grow a b

pub at_place : {A B : Type 0} (grow : A → B → A) (begin : A) (told : List A) (now : List B) (k : ℕ) → unwrap_or (slice_get (extended grow begin told now) k) begin ≡ with_item grow (unwrap_or (slice_get told k) begin) (slice_get now k)
at_place grow begin told [] k = refl
at_place grow begin [] (b ∷ now) zero = refl
at_place grow begin [] (b ∷ now) (suc k) = at_place grow begin [] now k
at_place grow begin (t ∷ told) (b ∷ now) zero = refl
at_place grow begin (t ∷ told) (b ∷ now) (suc k) = at_place grow begin told now k

-- ---- a walk over what comes

pub extended_next : {A B : Type 0} (grow : A → B → A) (begin : A) (told : List A) (now : List B) (i : ℕ) (at place : List A) (a : A) (b : B) (new : A) (d : B) → at ≡ extended grow begin told (take i now) → i < length now → place ≡ reached begin at i → a ≡ get_or place i a → b ≡ get_or now i d → new ≡ grow a b → set place i new ≡ extended grow begin told (take (i + 1) now)
extended_next {A} {B} grow begin told now i at place a b new d is l p ea eb n =
    let i_is : i ≡ length (take i now) = sym (length-take-le i now (omega arith)) in
    let place_is : place ≡ reached begin (extended grow begin told (take i now)) (length (take i now)) = p ∙ (λ j. reached begin (is j) (i_is j)) in
    let here : a ≡ get_or (reached begin (extended grow begin told (take i now)) (length (take i now))) (length (take i now)) a = ea ∙ (λ j. get_or (place_is j) (i_is j) a) in
    let more : take i now ++ b ∷ [] ≡ take (i + 1) now = ap (λ (x : B). take i now ++ x ∷ []) eb ∙ sym (take_more now i d l) in
    (λ j. set (place_is j) (i_is j) (n j)) ∙ sym (extended_one grow begin told (take i now) b a here) ∙ ap (λ (xs : List B). extended grow begin told xs) more

pub room_next : {A B : Type 0} (grow : A → B → A) (begin : A) (told : List A) (now : List B) (i : ℕ) (at : List A) → at ≡ extended grow begin told (take i now) → i < length now → i ≤ length at
room_next grow begin told now i at is l =
    let i_is : length (take i now) ≡ i = length-take-le i now (omega arith) in
    let h = length_least grow begin told (take i now) in
    let e = ap length is in
    omega (arith, h, e, i_is)
