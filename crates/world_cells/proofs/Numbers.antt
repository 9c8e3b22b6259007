-- The numbers of those that pass a test: where they are, and how they come, object by object.
use Rattle.std.proofs.Common.{◌≡◌, ℕ, zero, suc, ◌+◌, ◌<◌, ◌≤◌, Bool, true, false, cond, List, [], ◌∷◌, ◌++◌, length, get_or, drop, refl, arith, add-one, append_assoc, Some}
use Rattle.std.specs.Prelude.{slice_get}
use Rattle.std.specs.List.{AllByRecursion}
use Rattle.std.proofs.lemmas.List.{drop_more, drop_all, append-nil}
use Rattle.world_rules.specs.declared.object.Object.{Object}
use Rattle.world_cells.specs.Grid.{numbers}

-- each of them is a number of the list
there_by : (b : Bool) (k n : ℕ) (ns : List ℕ) (j : ℕ) → ((i : ℕ) → i < length ns → get_or ns i 0 < suc k + n) → j < length (cond b (k ∷ ns) ns) → get_or (cond b (k ∷ ns) ns) j 0 < k + suc n
there_by true k n ns zero h l = omega arith
there_by true k n ns (suc j) h l = omega (arith, h j (omega arith))
there_by false k n ns j h l = omega (arith, h j l)

there : (p : Object → Bool) (k : ℕ) (os : List Object) (j : ℕ) → j < length (numbers p k os) → get_or (numbers p k os) j 0 < k + length os
there p k [] j l = absurd (omega arith)
there p k (o ∷ os) j l = there_by (p o) k (length os) (numbers p (suc k) os) j (λ i h. there p (suc k) os i h) l

pub all_there : (p : Object → Bool) (os : List Object) (ns : List ℕ) → ns ≡ numbers p 0 os → (j : ℕ) → j < length ns → get_or ns j 0 < length os
all_there p os ns e = rw e (λ j l. omega (arith, there p 0 os j l))

-- each that passes is among them
pub record IsAt (ns : List ℕ) (n : ℕ) : Type 0 where
  pub at : ℕ
  pub within : at < length ns
  pub is : get_or ns at 0 ≡ n

at_first : (n : ℕ) (ns : List ℕ) → IsAt (n ∷ ns) n
at_first n ns = record { at = 0; within = omega arith; is = refl }

at_later : (b : Bool) (m n : ℕ) (ns : List ℕ) → IsAt ns n → IsAt (cond b (m ∷ ns) ns) n
at_later true m n ns a = record { at = suc a.at; within = omega (arith, a.within); is = a.is }
at_later false m n ns a = a

found : (p : Object → Bool) (k : ℕ) (os : List Object) (n m : ℕ) (o : Object) → m ≡ k + n → slice_get os n ≡ Some o → p o ≡ true → IsAt (numbers p k os) m
found p k [] n m o i e h = absurd (cc)
found p k (x ∷ os) zero m o i e h =
    let same : x ≡ o = cc in
    let t : p x ≡ true = rw same h in
    let j : m ≡ k = omega arith in
    rw (t, j) (at_first k (numbers p (suc k) os))
found p k (x ∷ os) (suc n) m o i e h = at_later (p x) k m (numbers p (suc k) os) (found p (suc k) os n m o (omega arith) e h)

pub found_in : (p : Object → Bool) (os : List Object) (ns : List ℕ) (n : ℕ) (o : Object) → ns ≡ numbers p 0 os → slice_get os n ≡ Some o → p o ≡ true → IsAt ns n
found_in p os ns n o e at h = rw e (found p 0 os n n o (omega arith) at h)

-- ---- object by object

pub same_numbers_by : (p q : Object → Bool) (k : ℕ) (os : List Object) → AllByRecursion (λ o. p o ≡ q o) os → numbers p k os ≡ numbers q k os
same_numbers_by p q k [] a = refl
same_numbers_by p q k (o ∷ os) a = rw (a.0, same_numbers_by p q (suc k) os a.1) refl

abbrev pub numbers_from : (Object → Bool) → List ℕ → ℕ → List Object → List ℕ
numbers_from p front i os = front ++ numbers p i (drop i os)

pub numbers_more : (p : Object → Bool) (front : List ℕ) (i : ℕ) (os : List Object) (o : Object) (b : Bool) → i < length os → o ≡ get_or os i o → p o ≡ b → numbers_from p front i os ≡ numbers_from p (cond b (front ++ i ∷ []) front) (i + 1) os
numbers_more p front i os o true l e h = rw (drop_more os i o l, ← e, h, add-one, append_assoc) refl
numbers_more p front i os o false l e h = rw (drop_more os i o l, ← e, h, add-one) refl

pub numbers_end : (p : Object → Bool) (front : List ℕ) (i : ℕ) (os : List Object) → length os ≤ i → numbers_from p front i os ≡ front
numbers_end p front i os l = rw (drop_all i os l, append-nil) refl
