-- What a pack reads is the newest value that the own list has: each field that the packet carries is read, and what was read
-- stays the last read.
use Rattle.std.proofs.Common.{◌≡◌, ℕ, ℤ, ◌==◌, ◌||◌, Bool, true, false, cond, List, [], ◌∷◌, Option, Some, refl, ap, ◌∙◌}
use Rattle.std.specs.Prelude.{pos, map, slice_index_or}
use Rattle.std.specs.List.{list_any}
use Rattle.std.proofs.lemmas.Bool.{and_parts, eqb-true}
use Rattle.pair_copies.specs.Reads.{newest_in}
use Rattle.client_seat.proofs.Below.own_lists.Below.pair_steps.Carriers.{is-it}
use Rattle.client_seat.specs.own_lists.Kept.{read_of}

-- the newest value that the own list has
abbrev pub newest_of : (ℕ → List ℤ) → ℕ → ℕ → ℤ
newest_of values n f = slice_index_or (values n) f (pos 0)

module _ (values : ℕ → List ℤ) (n f : ℕ) where
  it-is : (x : ℕ × ℕ) → is-it n f x ≡ true → newest_of values x.0 x.1 ≡ newest_of values n f
  it-is x e =
      let p = and_parts (x.0 == n) (x.1 == f) e in
      let a : x.0 ≡ n = eqb-true x.0 n p.0 in
      let b : x.1 ≡ f = eqb-true x.1 f p.1 in
      λ j. newest_of values (a j) (b j)

  -- a field whose newest value was read last stays so
  pub newest_stays : (xs : List (ℕ × ℕ))
      → newest_in (map (read_of values) xs) n f (Some (newest_of values n f)) ≡ Some (newest_of values n f)
  newest_stays [] = refl
  newest_stays (x ∷ xs) = ap (newest_in (map (read_of values) xs) n f) (go (is-it n f x) refl) ∙ newest_stays xs
    where
      go : (b : Bool) → is-it n f x ≡ b
          → cond b (Some (newest_of values x.0 x.1)) (Some (newest_of values n f)) ≡ Some (newest_of values n f)
      go true e = ap (λ (v : ℤ). Some v) (it-is x e)
      go false e = refl

  -- it is so with each field that is read
  pub newest_comes : (xs : List (ℕ × ℕ)) (older : Option ℤ) → list_any (is-it n f) xs ≡ true
      → newest_in (map (read_of values) xs) n f older ≡ Some (newest_of values n f)
  newest_comes [] older e = absurd (cc)
  newest_comes (x ∷ xs) older e = go (λ rest. newest_comes xs older rest) (is-it n f x) refl e
    where
      go : (list_any (is-it n f) xs ≡ true → newest_in (map (read_of values) xs) n f older ≡ Some (newest_of values n f)) → (b : Bool)
          → is-it n f x ≡ b → (b || list_any (is-it n f) xs) ≡ true
          → newest_in (map (read_of values) xs) n f (cond b (Some (newest_of values x.0 x.1)) older) ≡ Some (newest_of values n f)
      go later true e rest = ap (λ (v : ℤ). newest_in (map (read_of values) xs) n f (Some v)) (it-is x e) ∙ newest_stays xs
      go later false e rest = later rest
