-- The discs that are made, object by object.
use Rattle.std.proofs.Common.{◌≡◌, ℕ, ◌<◌, ◌≤◌, ◌+◌, List, [], ◌∷◌, ◌++◌, length, get_or, take, refl, sym, ap, ◌∙◌, arith, Option, Some, None, inl, inr, nat_lt, true, false, length-append}
use Rattle.std.specs.List.{filter_map}
use Rattle.std.proofs.lemmas.List.{take_more, take-append-le, length-take, take_all, append-nil}
use Rattle.std.proofs.lemmas.List.Elements.{filter_map-append}
use Rattle.std.proofs.lemmas.Bool.{cases_lt}
use Rattle.world_sim.specs.Worlds.{added}
use Rattle.world_rules.specs.declared.object.Object.{Object}

none_more : (f : Object → Option Object) (xs : List Object) (i : ℕ) (d : Object) → i < length xs → f (get_or xs i d) ≡ None → filter_map f (take (i + 1) xs) ≡ filter_map f (take i xs)
none_more f xs i d lt e = rw (take_more xs i d lt, filter_map-append, e, append-nil) refl

some_more : (f : Object → Option Object) (xs : List Object) (i : ℕ) (d made : Object) → i < length xs → f (get_or xs i d) ≡ Some made → filter_map f (take (i + 1) xs) ≡ filter_map f (take i xs) ++ made ∷ []
some_more f xs i d made lt e = rw (take_more xs i d lt, filter_map-append, e) refl

room_left : (k : ℕ) (ys : List Object) → length (take k ys) < k → length ys < k
room_left k ys h = let l = length-take k ys in omega (arith, l)

one_more : (k : ℕ) (ys : List Object) (x : Object) → length ys < k → take k (ys ++ x ∷ []) ≡ take k ys ++ x ∷ []
one_more k ys x h = let l = length-append ys (x ∷ []) in rw (take_all k (ys ++ x ∷ []) (omega (arith, l)), take_all k ys (omega arith)) refl

full : (k : ℕ) (ys : List Object) (x : Object) → k ≤ length (take k ys) → take k (ys ++ x ∷ []) ≡ take k ys
full k ys x h = let l = length-take k ys in take-append-le k ys (x ∷ []) (omega (arith, l))

by_made : (f : Object → Option Object) (k : ℕ) (now xs : List Object) (i : ℕ) (o : Object) (made : Option Object) → f (get_or xs i o) ≡ made → i < length xs → now ≡ take k (filter_map f (take i xs)) → added k now made ≡ take k (filter_map f (take (i + 1) xs))
by_made f k now xs i o None e lt h = rw (none_more f xs i o lt e) h
by_made f k now xs i o (Some d) e lt h =
    let ys = filter_map f (take i xs) in
    let n = ap (λ (zs : List Object). length zs) h in
    elim (cases_lt (length now) k) [
      | inl room ↦
          let t : nat_lt (length now) k ≡ true = grind arith in
          rw (t, some_more f xs i o d lt e, one_more k ys d (room_left k ys (omega (arith, n, room))), ← h) refl
      | inr there ↦
          let t : nat_lt (length now) k ≡ false = grind arith in
          rw (t, some_more f xs i o d lt e, full k ys d (omega (arith, n, there))) h
    ]

pub added_at : (f : Object → Option Object) (k : ℕ) (now next xs : List Object) (i : ℕ) (d : Object) (made : Option Object) → next ≡ added k now made → made ≡ f (get_or xs i d) → i < length xs → now ≡ take k (filter_map f (take i xs)) → next ≡ take k (filter_map f (take (i + 1) xs))
added_at f k now next xs i d made e m lt h = e ∙ by_made f k now xs i d made (sym m) lt h

pub made_few : (k : ℕ) (ys now : List Object) → now ≡ take k ys → length now ≤ k
made_few k ys now e = let l = length-take k ys in omega (arith, l, ap (λ (zs : List Object). length zs) e)
