-- The versions and writes of an object with five fields, each changed in place.
use Rattle.std.proofs.Common.{◌≡◌, ℕ, List, [], ◌∷◌, ◌++◌, length, get_or, set, refl, sym, ap, ◌∙◌, arith, append_assoc}
use Rattle.std.specs.Prelude.{ℤ, pos}
use Rattle.std.proofs.lemmas.List.{append-nil}
use Rattle.world_sim.specs.declared.rows.Write.{Write}
use Rattle.world_sim.specs.Rows.{row_versions, row_writes, field_writes}
use Rattle.world_sim.proofs.RowFields.{after_one}

-- the values after one, two, three and four fields
abbrev one : List ℤ → ℤ → List ℤ
one xs a = set xs 0 a

abbrev two : List ℤ → ℤ → ℤ → List ℤ
two xs a b = set (one xs a) 1 b

abbrev three : List ℤ → ℤ → ℤ → ℤ → List ℤ
three xs a b c = set (two xs a b) 2 c

abbrev four : List ℤ → ℤ → ℤ → ℤ → ℤ → List ℤ
four xs a b c d = set (three xs a b c) 3 d

-- the versions after them
abbrev count_one : List ℤ → List ℕ → ℤ → List ℕ
count_one xs vs a = after_one xs vs 0 a

abbrev count_two : List ℤ → List ℕ → ℤ → ℤ → List ℕ
count_two xs vs a b = after_one (one xs a) (count_one xs vs a) 1 b

abbrev count_three : List ℤ → List ℕ → ℤ → ℤ → ℤ → List ℕ
count_three xs vs a b c = after_one (two xs a b) (count_two xs vs a b) 2 c

abbrev count_four : List ℤ → List ℕ → ℤ → ℤ → ℤ → ℤ → List ℕ
count_four xs vs a b c d = after_one (three xs a b c) (count_three xs vs a b c) 3 d

abbrev field_at : ℕ → ℕ → ℤ → List ℤ → List ℕ → List Write
field_at o f x xs vs = field_writes o f (get_or xs f (pos 0)) x (get_or vs f 0)

told_in_turn : (ws f g h i j : List Write) → ((((ws ++ f) ++ g) ++ h) ++ i) ++ j ≡ ws ++ (f ++ (g ++ (h ++ (i ++ (j ++ [])))))
told_in_turn ws f g h i j =
    append_assoc (((ws ++ f) ++ g) ++ h) i j
    ∙ append_assoc ((ws ++ f) ++ g) h (i ++ j)
    ∙ append_assoc (ws ++ f) g (h ++ (i ++ j))
    ∙ append_assoc ws f (g ++ (h ++ (i ++ j)))
    ∙ ap (λ (zs : List Write). ws ++ (f ++ (g ++ (h ++ (i ++ zs))))) (sym (append-nil j))

-- lists with five elements
record Five (A : Type 0) (xs : List A) : Type 0 where
  first : A
  second : A
  third : A
  fourth : A
  fifth : A
  are : xs ≡ first ∷ second ∷ third ∷ fourth ∷ fifth ∷ []

five_of : (A : Type 0) (xs : List A) → length xs ≡ 5 → Five A xs
five_of A [] e = absurd (omega (arith, e))
five_of A (x ∷ []) e = absurd (omega (arith, e))
five_of A (x ∷ y ∷ []) e = absurd (omega (arith, e))
five_of A (x ∷ y ∷ z ∷ []) e = absurd (omega (arith, e))
five_of A (x ∷ y ∷ z ∷ u ∷ []) e = absurd (omega (arith, e))
five_of A (x ∷ y ∷ z ∷ u ∷ t ∷ []) e = record { first = x; second = y; third = z; fourth = u; fifth = t; are = refl }
five_of A (x ∷ y ∷ z ∷ u ∷ t ∷ s ∷ xs) e = absurd (omega (arith, e))

pub five_are : (xs : List ℤ) (a b c d e : ℤ) → length xs ≡ 5 → set (four xs a b c d) 4 e ≡ a ∷ b ∷ c ∷ d ∷ e ∷ []
five_are xs a b c d e l = let w = five_of ℤ xs l in rw w.are refl

pub five_counted : (xs : List ℤ) (vs : List ℕ) (a b c d e : ℤ) → length xs ≡ 5 → length vs ≡ 5 → after_one (four xs a b c d) (count_four xs vs a b c d) 4 e ≡ row_versions xs (a ∷ b ∷ c ∷ d ∷ e ∷ []) vs
unfolding row_versions
five_counted xs vs a b c d e l m =
    let w = five_of ℤ xs l in
    let v = five_of ℕ vs m in
    rw (w.are, v.are) (told w.first w.second w.third w.fourth w.fifth v.first v.second v.third v.fourth v.fifth)
  where
    told : (x y z u t : ℤ) (f g h i j : ℕ) → (let was : List ℤ = x ∷ y ∷ z ∷ u ∷ t ∷ [] in let counts : List ℕ = f ∷ g ∷ h ∷ i ∷ j ∷ [] in after_one (four was a b c d) (count_four was counts a b c d) 4 e ≡ row_versions was (a ∷ b ∷ c ∷ d ∷ e ∷ []) counts)
    told x y z u t f g h i j = refl

pub five_written : (ws : List Write) (o : ℕ) (xs : List ℤ) (vs : List ℕ) (a b c d e : ℤ) → length xs ≡ 5 → length vs ≡ 5 → ((((ws ++ field_at o 0 a xs vs) ++ field_at o 1 b (one xs a) (count_one xs vs a)) ++ field_at o 2 c (two xs a b) (count_two xs vs a b)) ++ field_at o 3 d (three xs a b c) (count_three xs vs a b c)) ++ field_at o 4 e (four xs a b c d) (count_four xs vs a b c d) ≡ ws ++ row_writes o 0 xs (a ∷ b ∷ c ∷ d ∷ e ∷ []) vs
unfolding row_writes
five_written ws o xs vs a b c d e l m =
    let w = five_of ℤ xs l in
    let v = five_of ℕ vs m in
    rw (w.are, v.are) (told_in_turn ws (field_writes o 0 w.first a v.first) (field_writes o 1 w.second b v.second) (field_writes o 2 w.third c v.third) (field_writes o 3 w.fourth d v.fourth) (field_writes o 4 w.fifth e v.fifth))
