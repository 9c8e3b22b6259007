-- One object's change, in the cells' lists.
use Rattle.std.proofs.Common.{◌≡◌, ℕ, zero, suc, ◌+◌, ◌<◌, Bool, true, false, List, [], ◌∷◌, ◌++◌, length, refl, sym, ap, ◌∙◌, arith, Some, None, Option, get_or, set, length-set, get_or-set_same, get_or-set_other, inl, inr}
use Rattle.std.proofs.lemmas.Bool.Decides.{nat_tests, eqb_tells}
use Rattle.world_rules.specs.declared.object.Object.{Object}
use Rattle.world_rules.specs.declared.object.State.TheVariants.{Clock}
use Rattle.world_cells.specs.Grid.{numbers}
use Rattle.world_cells.specs.Rising.{put_in, without}
use Rattle.world_cells.specs.Cells.{spot, is_cell, lies_in, left, come}

-- each cell has exactly the numbers of those that lie in it
pub record AreCells (cells : List (List ℕ)) (os : List Object) : Type 0 where
  pub all : length cells ≡ 256
  pub exact : (c : ℕ) → c < 256 → get_or cells c [] ≡ numbers (lies_in c) 0 os

-- all of them are at least k
none_below : (p : Object → Bool) (k : ℕ) (ys : List Object) (n : ℕ) → n < k → without n (numbers p k ys) ≡ numbers p k ys
none_below p k [] n lt = refl
none_below p k (y ∷ ys) n lt = grind (arith, nat_tests, none_below p (suc k) ys n)

least : (p : Object → Bool) (k : ℕ) (ys : List Object) (n : ℕ) → n < k → put_in n (numbers p k ys) ≡ n ∷ numbers p k ys
least p k [] n lt = refl
least p k (y ∷ ys) n lt = grind (arith, nat_tests, least p (suc k) ys n)

same_numbers : (p : Object → Bool) (xs ys : List Object) (x y : Object) (k : ℕ) → p x ≡ p y → numbers p k (xs ++ x ∷ ys) ≡ numbers p k (xs ++ y ∷ ys)
same_numbers p [] ys x y k e = grind (arith, nat_tests)
same_numbers p (z ∷ zs) ys x y k e = grind (arith, nat_tests, same_numbers p zs ys x y (suc k) e)

came : (p : Object → Bool) (xs ys : List Object) (x y : Object) (k n : ℕ) → p x ≡ false → p y ≡ true → n ≡ k + length xs → numbers p k (xs ++ y ∷ ys) ≡ put_in n (numbers p k (xs ++ x ∷ ys))
came p [] ys x y k n a b e = grind (arith, nat_tests, least p (suc k) ys n, e)
came p (z ∷ zs) ys x y k n a b e =
    let rest = came p zs ys x y (suc k) n a b (omega arith) in
    grind (arith, nat_tests, rest, e)

gone : (p : Object → Bool) (xs ys : List Object) (x y : Object) (k n : ℕ) → p x ≡ true → p y ≡ false → n ≡ k + length xs → numbers p k (xs ++ y ∷ ys) ≡ without n (numbers p k (xs ++ x ∷ ys))
gone p [] ys x y k n a b e = grind (arith, nat_tests, none_below p (suc k) ys n, e)
gone p (z ∷ zs) ys x y k n a b e =
    let rest = gone p zs ys x y (suc k) n a b (omega arith) in
    grind (arith, nat_tests, rest, e)

-- it leaves its cell
AreCells-left : (n : ℕ) (q : Option ℕ) (cells : List (List ℕ)) (xs ys : List Object) (x d : Object) → length xs ≡ n → spot x ≡ q → spot d ≡ None → AreCells cells (xs ++ x ∷ ys) → AreCells (left n q cells) (xs ++ d ∷ ys)
AreCells-left n None cells xs ys x d m e f g = record {
  all = g.all;
  exact = λ c lt. g.exact c lt ∙ same_numbers (lies_in c) xs ys x d 0 (ap (is_cell c) (e ∙ sym f));
}
AreCells-left n (Some t) cells xs ys x d m e f g =
    let taken = without n (get_or cells t []) in
    record {
      all = length-set cells t taken ∙ g.all;
      exact = λ c lt.
          elim (eqb_tells t c) [
            | inl w ↦
                let here : get_or (set cells t taken) t [] ≡ taken = get_or-set_same cells t taken [] (omega (arith, g.all, w.1)) in
                let lay : lies_in c x ≡ true = ap (is_cell c) e ∙ w.0 in
                let went = gone (lies_in c) xs ys x d 0 n lay (ap (is_cell c) f) (omega arith) in
                let old : get_or cells t [] ≡ numbers (lies_in c) 0 (xs ++ x ∷ ys) = rw w.1 (g.exact c lt) in
                ap (λ i. get_or (set cells t taken) i []) (sym w.1) ∙ here ∙ ap (without n) old ∙ sym went
            | inr w ↦
                get_or-set_other cells t c taken [] (λ h. w.1 (sym h)) ∙ g.exact c lt
                ∙ same_numbers (lies_in c) xs ys x d 0 (ap (is_cell c) e ∙ w.0 ∙ sym (ap (is_cell c) f))
          ];
    }

-- it stays where it is
pub AreCells-same : (cells : List (List ℕ)) (xs ys : List Object) (x y : Object) → spot x ≡ spot y → AreCells cells (xs ++ x ∷ ys) → AreCells cells (xs ++ y ∷ ys)
AreCells-same cells xs ys x y e g = record {
  all = g.all;
  exact = λ c lt. g.exact c lt ∙ same_numbers (lies_in c) xs ys x y 0 (ap (is_cell c) e);
}

-- it comes into one
AreCells-come : (n : ℕ) (q : Option ℕ) (cells : List (List ℕ)) (xs ys : List Object) (d y : Object) → length xs ≡ n → spot d ≡ None → spot y ≡ q → AreCells cells (xs ++ d ∷ ys) → AreCells (come n q cells) (xs ++ y ∷ ys)
AreCells-come n None cells xs ys d y m f e g = record {
  all = g.all;
  exact = λ c lt. g.exact c lt ∙ same_numbers (lies_in c) xs ys d y 0 (ap (is_cell c) (f ∙ sym e));
}
AreCells-come n (Some t) cells xs ys d y m f e g =
    let put = put_in n (get_or cells t []) in
    record {
      all = length-set cells t put ∙ g.all;
      exact = λ c lt.
          elim (eqb_tells t c) [
            | inl w ↦
                let here : get_or (set cells t put) t [] ≡ put = get_or-set_same cells t put [] (omega (arith, g.all, w.1)) in
                let lies : lies_in c y ≡ true = ap (is_cell c) e ∙ w.0 in
                let more = came (lies_in c) xs ys d y 0 n (ap (is_cell c) f) lies (omega arith) in
                let old : get_or cells t [] ≡ numbers (lies_in c) 0 (xs ++ d ∷ ys) = rw w.1 (g.exact c lt) in
                ap (λ i. get_or (set cells t put) i []) (sym w.1) ∙ here ∙ ap (put_in n) old ∙ sym more
            | inr w ↦
                get_or-set_other cells t c put [] (λ h. w.1 (sym h)) ∙ g.exact c lt
                ∙ same_numbers (lies_in c) xs ys d y 0 (ap (is_cell c) f ∙ sym (ap (is_cell c) e ∙ w.0))
          ];
    }

pub dead : Object
dead = record {
  block = 0;
  team = 0;
  home = record { x = 0; y = 0 };
  alive = false;
  place = record { x = 0; y = 0 };
  state = Clock (record { tick = 0; red = 0; blue = 0 });
}

pub dead_place : spot dead ≡ None
unfolding dead
dead_place = refl

-- it goes from where it lay to where it lies now
pub AreCells-moved : (n : ℕ) (from to : Option ℕ) (cells : List (List ℕ)) (xs ys : List Object) (x y : Object) → length xs ≡ n → spot x ≡ from → spot y ≡ to → AreCells cells (xs ++ x ∷ ys) → AreCells (come n to (left n from cells)) (xs ++ y ∷ ys)
AreCells-moved n from to cells xs ys x y m e f g =
    AreCells-come n to (left n from cells) xs ys dead y m dead_place f (AreCells-left n from cells xs ys x dead m e dead_place g)

one_dead : (p : Object → Bool) (xs : List Object) (d : Object) (k : ℕ) → p d ≡ false → numbers p k (xs ++ d ∷ []) ≡ numbers p k xs
one_dead p [] d k e = rw e refl
one_dead p (x ∷ xs) d k e = rw (one_dead p xs d (suc k) e) refl

-- one more object
pub AreCells-made : (n : ℕ) (from to : Option ℕ) (cells : List (List ℕ)) (xs : List Object) (y : Object) → length xs ≡ n → from ≡ None → spot y ≡ to → AreCells cells xs → AreCells (come n to (left n from cells)) (xs ++ y ∷ [])
AreCells-made n from to cells xs y m e f g =
    let more : AreCells cells (xs ++ dead ∷ []) = record {
      all = g.all;
      exact = λ c lt. g.exact c lt ∙ sym (one_dead (lies_in c) xs dead 0 (ap (is_cell c) dead_place));
    } in
    AreCells-moved n from to cells xs [] dead y m (dead_place ∙ sym e) f more

-- the cells at the start
pub IsEmpty : List (List ℕ) → Type 0
IsEmpty cells = (k : ℕ) → get_or cells k [] ≡ []

pub empty_at : (cells : List (List ℕ)) → IsEmpty cells → (k : ℕ) → get_or cells k [] ≡ []
unfolding IsEmpty
empty_at cells h k = h k

pub IsEmpty-none : IsEmpty []
unfolding IsEmpty
IsEmpty-none k = refl

pub IsEmpty-push : (cells : List (List ℕ)) → IsEmpty cells → IsEmpty (cells ++ [] ∷ [])
unfolding IsEmpty
IsEmpty-push [] h zero = refl
IsEmpty-push [] h (suc k) = refl
IsEmpty-push (c ∷ cells) h zero = h zero
IsEmpty-push (c ∷ cells) h (suc k) = IsEmpty-push cells (λ i. h (suc i)) k
