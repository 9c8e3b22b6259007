-- The versions and writes of one object, field by field.
use Rattle.std.proofs.Common.{sym, take, set, length-set, zero, ◌-◌, ◌^◌, Bool, true, false, length-append, cond, ◌||◌, nat_lt, ◌≡◌, ℕ, suc, ◌<◌, ◌≤◌, ◌+◌, List, [], ◌∷◌, ◌++◌, length, get_or, drop, refl, ap, ◌∙◌, arith, append_assoc, ◌⊎◌, inl, inr}
use Rattle.std.specs.Prelude.{ℤ, pos, negsuc}
use Rattle.std.specs.List.{AllByRecursion, refill}
use Rattle.std.proofs.lemmas.List.{drop_more, drop_all, append-nil, take_all}
use Rattle.world_sim.specs.declared.rows.Write.{Write}
use Rattle.world_sim.specs.Rows.{values_of, differs, row_versions, row_writes, version_next, field_writes}
use Rattle.world_sim.specs.declared.rows.Row.{Row}
use Rattle.world_rules.specs.declared.object.Object.{Object}
use Rattle.world_sim.specs.RowsNext.{row_next}

step : (a b : ℤ) (v : ℕ) (ps qs : List ℤ) (rs : List ℕ) (xs ys : List ℤ) (zs : List ℕ) → xs ≡ a ∷ ps → ys ≡ b ∷ qs → zs ≡ v ∷ rs → row_versions xs ys zs ≡ version_next a b v ∷ row_versions ps qs rs
unfolding row_versions
step a b v ps qs rs xs ys zs e f g = rw (e, f, g) refl

write_step : (o f : ℕ) (a b : ℤ) (v : ℕ) (ps qs : List ℤ) (rs : List ℕ) (xs ys : List ℤ) (zs : List ℕ) → xs ≡ a ∷ ps → ys ≡ b ∷ qs → zs ≡ v ∷ rs → row_writes o f xs ys zs ≡ field_writes o f a b v ++ row_writes o (suc f) ps qs rs
unfolding row_writes
write_step o f a b v ps qs rs xs ys zs e h g = rw (e, h, g) refl

-- what is read so far, and what is left
abbrev pub versions_from : List ℕ → ℕ → List ℤ → List ℤ → List ℕ → List ℕ
versions_from front i before now versions = front ++ row_versions (drop i before) (drop i now) (drop i versions)

abbrev pub writes_from : List Write → ℕ → ℕ → List ℤ → List ℤ → List ℕ → List Write
writes_from front object i before now versions = front ++ row_writes object i (drop i before) (drop i now) (drop i versions)

pub versions_more : (front : List ℕ) (i : ℕ) (before now : List ℤ) (versions : List ℕ) (a b : ℤ) (v : ℕ) → i < length before → i < length now → i < length versions → versions_from front i before now versions ≡ versions_from (front ++ version_next (get_or before i a) (get_or now i b) (get_or versions i v) ∷ []) (i + 1) before now versions
versions_more front i before now versions a b v l m n =
    rw (step (get_or before i a) (get_or now i b) (get_or versions i v) (drop (i + 1) before) (drop (i + 1) now) (drop (i + 1) versions) (drop i before) (drop i now) (drop i versions) (drop_more before i a l) (drop_more now i b m) (drop_more versions i v n), append_assoc) refl

no_more_versions : (xs : List ℤ) (zs : List ℕ) → row_versions xs [] zs ≡ []
unfolding row_versions
no_more_versions [] zs = refl
no_more_versions (x ∷ xs) zs = refl

no_more_writes : (o f : ℕ) (xs : List ℤ) (zs : List ℕ) → row_writes o f xs [] zs ≡ []
unfolding row_writes
no_more_writes o f [] zs = refl
no_more_writes o f (x ∷ xs) zs = refl

no_before_versions : (ys : List ℤ) (zs : List ℕ) → row_versions [] ys zs ≡ []
unfolding row_versions
no_before_versions ys zs = refl

no_counts : (xs ys : List ℤ) → row_versions xs ys [] ≡ []
unfolding row_versions
no_counts [] ys = refl
no_counts (x ∷ xs) [] = refl
no_counts (x ∷ xs) (y ∷ ys) = refl

no_before_writes : (o f : ℕ) (ys : List ℤ) (zs : List ℕ) → row_writes o f [] ys zs ≡ []
unfolding row_writes
no_before_writes o f ys zs = refl

no_count_writes : (o f : ℕ) (xs ys : List ℤ) → row_writes o f xs ys [] ≡ []
unfolding row_writes
no_count_writes o f [] ys = refl
no_count_writes o f (x ∷ xs) [] = refl
no_count_writes o f (x ∷ xs) (y ∷ ys) = refl

abbrev pub IsEnd : ℕ → List ℤ → List ℤ → List ℕ → Type 0
IsEnd i before now versions = (length before ≤ i) ⊎ ((length now ≤ i) ⊎ (length versions ≤ i))

pub versions_end : (front : List ℕ) (i : ℕ) (before now : List ℤ) (versions : List ℕ) → IsEnd i before now versions → versions_from front i before now versions ≡ front
versions_end front i before now versions (inl h) = rw (drop_all i before h, no_before_versions (drop i now) (drop i versions), append-nil) refl
versions_end front i before now versions (inr (inl h)) = rw (drop_all i now h, no_more_versions (drop i before) (drop i versions), append-nil) refl
versions_end front i before now versions (inr (inr h)) = rw (drop_all i versions h, no_counts (drop i before) (drop i now), append-nil) refl

pub writes_more : (front : List Write) (o i : ℕ) (before now : List ℤ) (versions : List ℕ) (a b : ℤ) (v : ℕ) → i < length before → i < length now → i < length versions → writes_from front o i before now versions ≡ writes_from (front ++ field_writes o i (get_or before i a) (get_or now i b) (get_or versions i v)) o (i + 1) before now versions
writes_more front o i before now versions a b v l m n =
    let e : i + 1 ≡ suc i = omega arith in
    rw (e, append_assoc, ← e) (ap (λ (ws : List Write). front ++ ws) (write_step o i (get_or before i a) (get_or now i b) (get_or versions i v) (drop (i + 1) before) (drop (i + 1) now) (drop (i + 1) versions) (drop i before) (drop i now) (drop i versions) (drop_more before i a l) (drop_more now i b m) (drop_more versions i v n) ∙ rw e refl))

pub writes_end : (front : List Write) (o i : ℕ) (before now : List ℤ) (versions : List ℕ) → IsEnd i before now versions → writes_from front o i before now versions ≡ front
writes_end front o i before now versions (inl h) = rw (drop_all i before h, no_before_writes o i (drop i now) (drop i versions), append-nil) refl
writes_end front o i before now versions (inr (inl h)) = rw (drop_all i now h, no_more_writes o i (drop i before) (drop i versions), append-nil) refl
writes_end front o i before now versions (inr (inr h)) = rw (drop_all i versions h, no_count_writes o i (drop i before) (drop i now), append-nil) refl

-- ---- a row whose values stay

same_not_less : (n : ℕ) → (nat_lt n n || nat_lt n n) ≡ false
same_not_less n = let t : nat_lt n n ≡ false = grind arith in rw t refl

same_differs : (x : ℤ) → differs x x ≡ false
same_differs (pos n) = same_not_less n
same_differs (negsuc n) = same_not_less n

stay : (xs : List ℤ) (vs : List ℕ) → length xs ≡ length vs → row_versions xs xs vs ≡ vs
unfolding row_versions
stay [] [] e = refl
stay [] (v ∷ vs) e = absurd (omega (arith, e))
stay (x ∷ xs) [] e = absurd (omega (arith, e))
stay (x ∷ xs) (v ∷ vs) e =
    ap (λ (b : Bool). cond b (v + 1) v ∷ row_versions xs xs vs) (same_differs x)
    ∙ ap (λ (ws : List ℕ). v ∷ ws) (stay xs vs (omega (arith, e)))

pub row_stays : (r : Row) (o : Object) → values_of o ≡ r.values.items → length r.values.items ≡ length r.versions.items → r ≡ row_next r o
row_stays r o e h = rw (e, stay r.values.items r.versions.items h) refl

few_by : (b : Bool) (ws : List Write) (w : Write) → length (ws ++ cond b (w ∷ []) []) ≤ length ws + 1
few_by true ws w = let l = length-append ws (w ∷ []) in omega (arith, l)
few_by false ws w = rw (append-nil ws) (omega arith)

pub few_more : (ws : List Write) (object field : ℕ) (before now : ℤ) (version : ℕ) → length (ws ++ field_writes object field before now version) ≤ length ws + 1
few_more ws object field before now version = few_by (differs before now) ws (record { object = object; field = field; version = version + 1; value = now })

no_write : (object field : ℕ) (v : ℕ) (x : ℤ) → field_writes object field x x v ≡ []
no_write object field v x = ap (λ (b : Bool). cond b ((record { object = object; field = field; version = v + 1; value = x }) ∷ []) []) (same_differs x)

no_row_writes : (object field : ℕ) (xs : List ℤ) (vs : List ℕ) → row_writes object field xs xs vs ≡ []
unfolding row_writes
no_row_writes object field [] vs = refl
no_row_writes object field (x ∷ xs) [] = refl
no_row_writes object field (x ∷ xs) (v ∷ vs) = rw (no_write object field v x, no_row_writes object (suc field) xs vs) refl

-- an object that stays writes nothing
pub writes_nothing : (ws : List Write) (object : ℕ) (xs ys : List ℤ) (vs : List ℕ) → xs ≡ ys → ws ≡ ws ++ row_writes object 0 xs ys vs
writes_nothing ws object xs ys vs e = rw (sym e, no_row_writes object 0 xs vs, append-nil) refl

pub counts_end : (front : List ℕ) (i : ℕ) (before now : List ℤ) (versions whole : List ℕ) → whole ≡ front ++ row_versions (drop i before) (drop i now) (drop i versions) → IsEnd i before now versions → front ≡ whole
counts_end front i before now versions whole e h = sym (e ∙ versions_end front i before now versions h)

-- ---- versions in place

small_at : (vs : List ℕ) (i : ℕ) → AllByRecursion (λ v. v < 2 ^ 32 - 1) vs → i < length vs → get_or vs i 0 < 2 ^ 32 - 1
small_at [] i a l = absurd (omega arith)
small_at (v ∷ vs) zero a l = a.0
small_at (v ∷ vs) (suc i) a l = small_at vs i a.1 (omega arith)

drop_get : (xs ys : List ℕ) (i : ℕ) → drop i xs ≡ drop i ys → i < length xs → i < length ys → (get_or xs i 0 ≡ get_or ys i 0) × (drop (i + 1) xs ≡ drop (i + 1) ys)
drop_get xs ys i e l m =
    let f : get_or xs i 0 ∷ drop (i + 1) xs ≡ get_or ys i 0 ∷ drop (i + 1) ys = sym (drop_more xs i 0 l) ∙ e ∙ drop_more ys i 0 m in
    (cc, cc)

set_take : (xs : List ℕ) (i x : ℕ) → i < length xs → take (i + 1) (set xs i x) ≡ take i xs ++ x ∷ []
set_take [] i x l = absurd (omega arith)
set_take (y ∷ xs) zero x l = refl
set_take (y ∷ xs) (suc i) x l = let e : suc i + 1 ≡ suc (i + 1) = omega arith in rw e (ap (λ (zs : List ℕ). y ∷ zs) (set_take xs i x (omega arith)))

set_drop : (xs : List ℕ) (i x : ℕ) → i < length xs → drop (i + 1) (set xs i x) ≡ drop (i + 1) xs
set_drop [] i x l = absurd (omega arith)
set_drop (y ∷ xs) zero x l = refl
set_drop (y ∷ xs) (suc i) x l = let e : suc i + 1 ≡ suc (i + 1) = omega arith in rw e (set_drop xs i x (omega arith))

-- what is counted in place, and what is left
pub record AreCounted (i : ℕ) (before now : List ℤ) (versions counts : List ℕ) : Type 0 where
  pub many : length counts ≡ length versions
  pub left : drop i counts ≡ drop i versions
  pub so_far : row_versions before now versions ≡ take i counts ++ row_versions (drop i before) (drop i now) (drop i versions)

pub none_counted : (before now : List ℤ) (versions : List ℕ) → AreCounted 0 before now versions versions
none_counted before now versions = record { many = refl; left = refl; so_far = refl }

pub counted_small : (i : ℕ) (before now : List ℤ) (versions counts : List ℕ) → AreCounted i before now versions counts → i < length versions → AllByRecursion (λ v. v < 2 ^ 32 - 1) versions → get_or counts i 0 < 2 ^ 32 - 1
counted_small i before now versions counts a l small =
    let g = (drop_get counts versions i a.left (omega (arith, a.many, l)) l).0 in
    omega (arith, g, small_at versions i small l)

pub counted_more : (i : ℕ) (before now : List ℤ) (versions counts : List ℕ) (x : ℕ) → AreCounted i before now versions counts → i < length before → i < length now → i < length versions → x ≡ version_next (get_or before i (pos 0)) (get_or now i (pos 0)) (get_or counts i 0) → AreCounted (i + 1) before now versions (set counts i x)
counted_more i before now versions counts x a l m n e =
    let here : i < length counts = omega (arith, a.many, n) in
    let g = drop_get counts versions i a.left here n in
    let f : x ≡ version_next (get_or before i (pos 0)) (get_or now i (pos 0)) (get_or versions i 0) = e ∙ ap (λ (v : ℕ). version_next (get_or before i (pos 0)) (get_or now i (pos 0)) v) g.0 in
    record {
      many = length-set counts i x ∙ a.many;
      left = set_drop counts i x here ∙ g.1;
      so_far =
          a.so_far
          ∙ versions_more (take i counts) i before now versions (pos 0) (pos 0) 0 l m n
          ∙ ap (λ (k : ℕ). (take i counts ++ k ∷ []) ++ row_versions (drop (i + 1) before) (drop (i + 1) now) (drop (i + 1) versions)) (sym f)
          ∙ ap (λ (front : List ℕ). front ++ row_versions (drop (i + 1) before) (drop (i + 1) now) (drop (i + 1) versions)) (sym (set_take counts i x here));
    }

-- a list that was written through a borrow of the same length
pub refilled : (xs ws : List ℕ) → length ws ≡ length xs → refill (length xs) xs ws ≡ ws
refilled xs ws e =
    let none : drop (length ws) xs ≡ [] = drop_all (length ws) xs (omega (arith, e)) in
    rw (none, append-nil) (take_all (length xs) ws (omega (arith, e)))

-- ---- three fields in place

abbrev pub after_one : List ℤ → List ℕ → ℕ → ℤ → List ℕ
after_one xs vs f x = set vs f (version_next (get_or xs f (pos 0)) x (get_or vs f 0))

abbrev pub three_values : List ℤ → ℤ → ℤ → ℤ → List ℤ
three_values xs a b c = set (set (set xs 0 a) 1 b) 2 c

-- the values, versions and writes after one field and the next
pub three_are : (xs : List ℤ) (a b c : ℤ) → length xs ≡ 3 → three_values xs a b c ≡ a ∷ b ∷ c ∷ []
three_are [] a b c e = absurd (omega (arith, e))
three_are (x ∷ []) a b c e = absurd (omega (arith, e))
three_are (x ∷ y ∷ []) a b c e = absurd (omega (arith, e))
three_are (x ∷ y ∷ z ∷ []) a b c e = refl
three_are (x ∷ y ∷ z ∷ u ∷ xs) a b c e = absurd (omega (arith, e))

pub three_counted : (xs : List ℤ) (vs : List ℕ) (a b c : ℤ) → length xs ≡ 3 → length vs ≡ 3 → after_one (set (set xs 0 a) 1 b) (after_one (set xs 0 a) (after_one xs vs 0 a) 1 b) 2 c ≡ row_versions xs (a ∷ b ∷ c ∷ []) vs
unfolding row_versions
three_counted [] vs a b c e f = absurd (omega (arith, e))
three_counted (x ∷ []) vs a b c e f = absurd (omega (arith, e))
three_counted (x ∷ y ∷ []) vs a b c e f = absurd (omega (arith, e))
three_counted (x ∷ y ∷ z ∷ u ∷ xs) vs a b c e f = absurd (omega (arith, e))
three_counted (x ∷ y ∷ z ∷ []) [] a b c e f = absurd (omega (arith, f))
three_counted (x ∷ y ∷ z ∷ []) (v ∷ []) a b c e f = absurd (omega (arith, f))
three_counted (x ∷ y ∷ z ∷ []) (v ∷ w ∷ []) a b c e f = absurd (omega (arith, f))
three_counted (x ∷ y ∷ z ∷ []) (v ∷ w ∷ k ∷ []) a b c e f = refl
three_counted (x ∷ y ∷ z ∷ []) (v ∷ w ∷ k ∷ j ∷ vs) a b c e f = absurd (omega (arith, f))

abbrev field_at : ℕ → ℕ → ℤ → List ℤ → List ℕ → List Write
field_at o f x xs vs = field_writes o f (get_or xs f (pos 0)) x (get_or vs f 0)

told_in_turn : (ws first second third : List Write) → ((ws ++ first) ++ second) ++ third ≡ ws ++ (first ++ (second ++ (third ++ [])))
told_in_turn ws first second third =
    append_assoc (ws ++ first) second third
    ∙ append_assoc ws first (second ++ third)
    ∙ ap (λ (zs : List Write). ws ++ (first ++ (second ++ zs))) (sym (append-nil third))

pub three_written : (ws : List Write) (o : ℕ) (xs : List ℤ) (vs : List ℕ) (a b c : ℤ) → length xs ≡ 3 → length vs ≡ 3 → ((ws ++ field_at o 0 a xs vs) ++ field_at o 1 b (set xs 0 a) (after_one xs vs 0 a)) ++ field_at o 2 c (set (set xs 0 a) 1 b) (after_one (set xs 0 a) (after_one xs vs 0 a) 1 b) ≡ ws ++ row_writes o 0 xs (a ∷ b ∷ c ∷ []) vs
unfolding row_writes
three_written ws o [] vs a b c e f = absurd (omega (arith, e))
three_written ws o (x ∷ []) vs a b c e f = absurd (omega (arith, e))
three_written ws o (x ∷ y ∷ []) vs a b c e f = absurd (omega (arith, e))
three_written ws o (x ∷ y ∷ z ∷ u ∷ xs) vs a b c e f = absurd (omega (arith, e))
three_written ws o (x ∷ y ∷ z ∷ []) [] a b c e f = absurd (omega (arith, f))
three_written ws o (x ∷ y ∷ z ∷ []) (v ∷ []) a b c e f = absurd (omega (arith, f))
three_written ws o (x ∷ y ∷ z ∷ []) (v ∷ w ∷ []) a b c e f = absurd (omega (arith, f))
three_written ws o (x ∷ y ∷ z ∷ []) (v ∷ w ∷ k ∷ []) a b c e f =
    told_in_turn ws (field_writes o 0 x a v) (field_writes o 1 y b w) (field_writes o 2 z c k)
three_written ws o (x ∷ y ∷ z ∷ []) (v ∷ w ∷ k ∷ j ∷ vs) a b c e f = absurd (omega (arith, f))

-- ---- two fields in place, where the third stays

pub two_are : (xs : List ℤ) (a b c : ℤ) → length xs ≡ 3 → get_or xs 2 (pos 0) ≡ c → set (set xs 0 a) 1 b ≡ a ∷ b ∷ c ∷ []
two_are [] a b c e t = absurd (omega (arith, e))
two_are (x ∷ []) a b c e t = absurd (omega (arith, e))
two_are (x ∷ y ∷ []) a b c e t = absurd (omega (arith, e))
two_are (x ∷ y ∷ z ∷ []) a b c e t = ap (λ (k : ℤ). a ∷ b ∷ k ∷ []) t
two_are (x ∷ y ∷ z ∷ u ∷ xs) a b c e t = absurd (omega (arith, e))

pub two_counted : (xs : List ℤ) (vs : List ℕ) (a b c : ℤ) → length xs ≡ 3 → length vs ≡ 3 → get_or xs 2 (pos 0) ≡ c → after_one (set xs 0 a) (after_one xs vs 0 a) 1 b ≡ row_versions xs (a ∷ b ∷ c ∷ []) vs
unfolding row_versions
two_counted [] vs a b c e f t = absurd (omega (arith, e))
two_counted (x ∷ []) vs a b c e f t = absurd (omega (arith, e))
two_counted (x ∷ y ∷ []) vs a b c e f t = absurd (omega (arith, e))
two_counted (x ∷ y ∷ z ∷ u ∷ xs) vs a b c e f t = absurd (omega (arith, e))
two_counted (x ∷ y ∷ z ∷ []) [] a b c e f t = absurd (omega (arith, f))
two_counted (x ∷ y ∷ z ∷ []) (v ∷ []) a b c e f t = absurd (omega (arith, f))
two_counted (x ∷ y ∷ z ∷ []) (v ∷ w ∷ []) a b c e f t = absurd (omega (arith, f))
two_counted (x ∷ y ∷ z ∷ []) (v ∷ w ∷ k ∷ []) a b c e f t = rw (sym t, same_differs z) refl
two_counted (x ∷ y ∷ z ∷ []) (v ∷ w ∷ k ∷ j ∷ vs) a b c e f t = absurd (omega (arith, f))

told_twice : (ws first second : List Write) → (ws ++ first) ++ second ≡ ws ++ (first ++ (second ++ []))
told_twice ws first second = append_assoc ws first second ∙ ap (λ (zs : List Write). ws ++ (first ++ zs)) (sym (append-nil second))

pub two_written : (ws : List Write) (o : ℕ) (xs : List ℤ) (vs : List ℕ) (a b c : ℤ) → length xs ≡ 3 → length vs ≡ 3 → get_or xs 2 (pos 0) ≡ c → (ws ++ field_at o 0 a xs vs) ++ field_at o 1 b (set xs 0 a) (after_one xs vs 0 a) ≡ ws ++ row_writes o 0 xs (a ∷ b ∷ c ∷ []) vs
unfolding row_writes
two_written ws o [] vs a b c e f t = absurd (omega (arith, e))
two_written ws o (x ∷ []) vs a b c e f t = absurd (omega (arith, e))
two_written ws o (x ∷ y ∷ []) vs a b c e f t = absurd (omega (arith, e))
two_written ws o (x ∷ y ∷ z ∷ u ∷ xs) vs a b c e f t = absurd (omega (arith, e))
two_written ws o (x ∷ y ∷ z ∷ []) [] a b c e f t = absurd (omega (arith, f))
two_written ws o (x ∷ y ∷ z ∷ []) (v ∷ []) a b c e f t = absurd (omega (arith, f))
two_written ws o (x ∷ y ∷ z ∷ []) (v ∷ w ∷ []) a b c e f t = absurd (omega (arith, f))
two_written ws o (x ∷ y ∷ z ∷ []) (v ∷ w ∷ k ∷ []) a b c e f t =
    rw (sym t, same_differs z) (told_twice ws (field_writes o 0 x a v) (field_writes o 1 y b w))
two_written ws o (x ∷ y ∷ z ∷ []) (v ∷ w ∷ k ∷ j ∷ vs) a b c e f t = absurd (omega (arith, f))
