-- What a loop drains of shown periods that are of different objects.
use Rattle.std.proofs.Common.{◌≡◌, ◌≢◌, ◌∙◌, ◌<◌, ◌+◌, ℕ, zero, suc, List, [], ◌∷◌, ◌++◌, take, drop, length, get_or, sym, ap, subst, arith, inl, inr, refl, append-nil}
use Rattle.std.specs.Prelude.{filter}
use Rattle.std.specs.List.{All}
use Rattle.std.proofs.lemmas.List.{drop_more, map_more}
use Rattle.std.proofs.lemmas.List.Elements.{All-from_recursion, All-head, All-tail, All-more, filter-append}
use Rattle.std.proofs.lemmas.Bool.{cases_eq, eq-eqb, ne_eqb}
use Rattle.tn_types.specs.declared.choices.Drain.{Drain}
use Rattle.client_scope.specs.declared.period.ShownPeriod.{ShownPeriod}
use Rattle.dirty_lanes.specs.Words.{Words, mask_at, after_drain}
use Rattle.match_laws.specs.own_lists.Kept.{has_bits}
use Rattle.match_engine.specs.Serving.{AreApart, marked}
use Rattle.match_engine.proofs.Draining.{objects_stay}

-- the periods behind one are of other objects
apart_behind : (ps : List ShownPeriod) (i : ℕ) (d : ShownPeriod) → i < length ps → AreApart ps → All (λ q. q.object ≢ (get_or ps i d).object) (drop (i + 1) ps)
apart_behind [] i d l apart = absurd (omega (arith, l))
apart_behind (p ∷ ps) zero d l apart = All-from_recursion (λ (q : ShownPeriod). q.object ≢ p.object) ps apart.0
apart_behind (p ∷ ps) (suc i) d l apart =
    let next : suc (i + 1) ≡ suc i + 1 = omega arith in
    subst (λ (n : ℕ). All (λ (q : ShownPeriod). q.object ≢ (get_or ps i d).object) (drop n (p ∷ ps))) next (apart_behind ps i d (omega (arith, l)) apart.1)

-- the masks of a list are as they were, and so the mask of its first is
abbrev AsAt : ℕ → Words → Words → List ShownPeriod → Type 0
AsAt c first now ps = All (λ p. mask_at now c p.object ≡ mask_at first c p.object) ps

module _ (ps : List ShownPeriod) (i : ℕ) (d : ShownPeriod) (l : i < length ps) (c : ℕ) (first : Words) where
  abbrev this : ShownPeriod
  this = get_or ps i d

  pub as_first : (old : Words) → AsAt c first old (drop i ps) → mask_at old c this.object ≡ mask_at first c this.object
  as_first old rest = All-head (λ (p : ShownPeriod). mask_at old c p.object ≡ mask_at first c p.object) this (drop (i + 1) ps)
      (subst (AsAt c first old) (drop_more ps i d l) rest)

  -- one more is cleared
  pub cleared_more : (old new : Words) → new ≡ after_drain old c this.object → mask_at new c this.object ≡ 0
      → All (λ p. mask_at old c p.object ≡ 0) (take i ps) → All (λ p. mask_at new c p.object ≡ 0) (take (i + 1) ps)
  cleared_more old new is none front = All-more (λ (p : ShownPeriod). mask_at new c p.object ≡ 0) ps i d l
      (λ k e within. elim (cases_eq (get_or (take i ps) k e).object this.object) [
        | inl same ↦ ap (λ (x : ℕ). mask_at new c x) same ∙ none
        | inr other ↦ objects_stay c this.object old new is (get_or (take i ps) k e).object other ∙ front k e within
      ]) none

  -- those behind it stay
  pub rest_stays : AreApart ps → (old new : Words) → new ≡ after_drain old c this.object → AsAt c first old (drop i ps) → AsAt c first new (drop (i + 1) ps)
  rest_stays apart old new is rest =
      let behind : AsAt c first old (drop (i + 1) ps) = All-tail (λ (p : ShownPeriod). mask_at old c p.object ≡ mask_at first c p.object) this (drop (i + 1) ps)
      (subst (AsAt c first old) (drop_more ps i d l) rest) in
      λ k e within. objects_stay c this.object old new is (get_or (drop (i + 1) ps) k e).object (apart_behind ps i d l apart k e within) ∙ behind k e within

  abbrev drain : Drain
  drain = record { n = this.n; bits = mask_at first c this.object }

  split : filter has_bits (marked first c (take (i + 1) ps)) ≡ filter has_bits (marked first c (take i ps)) ++ filter has_bits (drain ∷ [])
  split = ap (filter has_bits) (map_more (λ (p : ShownPeriod). record { n = p.n; bits = mask_at first c p.object }) ps i d l)
      ∙ filter-append has_bits (marked first c (take i ps)) (drain ∷ [])

  -- its mask is taken, if it has bits
  pub taken : (out : List Drain) (bits : ℕ) → bits ≡ mask_at first c this.object → bits ≢ 0 → out ≡ filter has_bits (marked first c (take i ps))
      → out ++ record { n = this.n; bits = bits } ∷ [] ≡ filter has_bits (marked first c (take (i + 1) ps))
  taken out bits is some so_far =
      let one : filter has_bits (drain ∷ []) ≡ drain ∷ [] = rw (ne_eqb (mask_at first c this.object) 0 (λ e. some (is ∙ e))) refl in
      ap (λ (z : List Drain × ℕ). z.0 ++ record { n = this.n; bits = z.1 } ∷ []) (λ j. (so_far j, is j))
      ∙ ap (λ (ds : List Drain). filter has_bits (marked first c (take i ps)) ++ ds) (sym one) ∙ sym split

  pub left_out : (out : List Drain) (bits : ℕ) → bits ≡ mask_at first c this.object → bits ≡ 0 → out ≡ filter has_bits (marked first c (take i ps))
      → out ≡ filter has_bits (marked first c (take (i + 1) ps))
  left_out out bits is none so_far =
      let one : filter has_bits (drain ∷ []) ≡ [] = rw (eq-eqb (mask_at first c this.object) 0 (sym is ∙ none)) refl in
      so_far ∙ sym (append-nil (filter has_bits (marked first c (take i ps))))
      ∙ ap (λ (ds : List Drain). filter has_bits (marked first c (take i ps)) ++ ds) (sym one) ∙ sym split
