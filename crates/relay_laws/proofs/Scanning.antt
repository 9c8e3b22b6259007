-- A scan of a spectator, slot by slot: a period begins for each copy that none watches. What stays so where one begins is so at the
-- end.
use Rattle.std.proofs.Common.{◌≡◌, ◌∙◌, ℕ, zero, suc, ◌+◌, Bool, true, false, not, cond, List, [], ◌∷◌, ◌++◌, Option, Some, None, is_some, if◌then◌else◌, refl, sym, ap, subst, arith}
use Rattle.std.specs.Prelude.{count_by, filter_map}
use Rattle.std.specs.List.{cons_option}
use Rattle.std.specs.Option.{option_map}
use Rattle.std.proofs.lemmas.Bool.{and_parts}
use Rattle.std.proofs.lemmas.List.Elements.{filter_map-append}
use Rattle.std.proofs.lemmas.List.Sums.{sum_by_push}
use Rattle.quantised_fields.specs.declared.kind.Kind.{Kind}
use Rattle.ghost_model.specs.Words.{upto}
use Rattle.ghost_client.specs.declared.copy.GhostCopy.{GhostCopy}
use Rattle.pair_steps.specs.Steps.{shows_in}
use Rattle.own_lists.specs.Own.{OwnShow}
use Rattle.own_lists.specs.Kept.{Kept, begins, all_begin}
use Rattle.relay_model.specs.Watching.{WatchEvent, Scans, watched, is_unwatched, begun_below, copy_at}
use Rattle.relay_model.specs.Items.{show_of}
use Rattle.relay_model.specs.Beginning.{shown_in, shown_up_to}

has_some : {A : Type 0} (o : Option A) → is_some o ≡ true → (a : A) × (o ≡ Some a)
has_some None e = absurd cc
has_some (Some a) e = (a, refl)

module _ (kinds : List Kind) (events : List WatchEvent) (k0 : Kept) (All : Kept → Type 0) where
  -- a period of a slot's copy begins, and it stays so
  abbrev pub StaysSo : Type 0
  StaysSo = (slot : ℕ) (copy : GhostCopy) (k : Kept) → (watched (Scans ∷ events)).period slot ≡ Some (shows_in k.course.steps)
      → copy_at events slot ≡ Some copy → All k → All (begins (show_of kinds copy) k)

  abbrev is_new : ℕ → Bool
  is_new slot = is_unwatched (copy_at events) (watched events) slot

  abbrev new_show : ℕ → Option OwnShow
  new_show slot = shown_in kinds (copy_at events) (watched events) slot

  abbrev pub up_to : ℕ → Kept
  up_to m = all_begin (shown_up_to kinds (copy_at events) (watched events) m) k0

  pub record Scanned (m : ℕ) (k : Kept) : Type 0 where
    pub many : shows_in k.course.steps ≡ (watched events).shows + begun_below (copy_at events) (watched events) m
    pub all : All k

  begin_append : (xs ys : List OwnShow) (k : Kept) → all_begin (xs ++ ys) k ≡ all_begin ys (all_begin xs k)
  begin_append [] ys k = refl
  begin_append (x ∷ xs) ys k = begin_append xs ys (begins x k)

  counted : (m : ℕ) (b : Bool) → is_new m ≡ b → count_by is_new (upto (suc m)) ≡ count_by is_new (upto m) + cond b 1 0
  unfolding upto
  counted m b e = sum_by_push (λ x. cond (is_new x) 1 0) (upto m) m ∙ ap (λ (b : Bool). count_by is_new (upto m) + cond b 1 0) e

  abbrev opened : Option OwnShow → Kept → Kept
  opened o k = all_begin (cons_option o []) k

  one_slot : StaysSo → (m : ℕ) (k : Kept) → Scanned m k → (b : Bool) → is_new m ≡ b → Scanned (suc m) (opened (new_show m) k)
  one_slot stays m k h false e =
      let none : new_show m ≡ None = ap (λ (b : Bool). if b then option_map (show_of kinds) (copy_at events m) else None) e in
      subst (λ (o : Option OwnShow). Scanned (suc m) (opened o k)) (sym none) (record { many = omega (arith, h.many, counted m false e); all = h.all })
  one_slot stays m k h true e =
      let there = has_some (copy_at events m) (and_parts (is_some (copy_at events m)) (not (is_some ((watched events).period m))) e).0 in
      let some : new_show m ≡ Some (show_of kinds there.0) =
      ap (λ (b : Bool). if b then option_map (show_of kinds) (copy_at events m) else None) e ∙ ap (option_map (show_of kinds)) there.1 in
      let period : (watched (Scans ∷ events)).period m ≡ Some ((watched events).shows + count_by is_new (upto m)) =
      ap (λ (b : Bool). if b then Some ((watched events).shows + count_by is_new (upto m)) else (watched events).period m) e in
      subst (λ (o : Option OwnShow). Scanned (suc m) (opened o k)) (sym some) (record {
        many = omega (arith, h.many, counted m true e);
        all = stays m there.0 k (period ∙ ap (λ (n : ℕ). Some n) (sym h.many)) there.1 h.all;
      })

  up_to_more : (m : ℕ) → up_to (suc m) ≡ opened (new_show m) (up_to m)
  unfolding upto
  up_to_more m =
      ap (λ l. all_begin l k0) (filter_map-append new_show (upto m) (m ∷ []))
      ∙ begin_append (filter_map new_show (upto m)) (cons_option (new_show m) []) k0

  none_yet : shows_in k0.course.steps ≡ (watched events).shows → All k0 → Scanned zero (up_to zero)
  unfolding upto
  none_yet many all = record { many = omega (arith, many); all = all }

  pub scanned_to : StaysSo → shows_in k0.course.steps ≡ (watched events).shows → All k0 → (m : ℕ) → Scanned m (up_to m)
  scanned_to stays many all zero = none_yet many all
  scanned_to stays many all (suc m) =
      subst (Scanned (suc m)) (sym (up_to_more m)) (one_slot stays m (up_to m) (scanned_to stays many all m) (is_new m) refl)
