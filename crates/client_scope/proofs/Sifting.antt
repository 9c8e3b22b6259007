-- Shown periods that are aged where they stand, and then sifted.
use Rattle.std.proofs.Common.{◌≡◌, ◌<◌, ℕ, List, [], ◌∷◌, map, filter, cond, Option, Some, None, refl}
use Rattle.std.specs.Prelude.{is_some, option_map}
use Rattle.std.specs.List.{All, AllByRecursion, filter_map, cons_option}
use Rattle.std.proofs.lemmas.List.Elements.{All-from_recursion, recursion_from_All}
use Rattle.client_scope.specs.declared.period.ShownPeriod.{ShownPeriod}
use Rattle.client_scope.specs.Changes.{hidden}
use Rattle.client_scope.specs.Marks.{aged, aged_to, stays, goes_on, with_level}

pub sifted : (level : ℕ → Option ℕ) (ps : List ShownPeriod) → filter (stays level) (map (aged level) ps) ≡ filter_map (goes_on level) ps
sifted level [] = refl
sifted level (p ∷ ps) = by (level p.object) refl (sifted level ps)
  where
    by : (o : Option ℕ) → level p.object ≡ o → filter (stays level) (map (aged level) ps) ≡ filter_map (goes_on level) ps
        → filter (stays level) (aged_to p o ∷ map (aged level) ps) ≡ cons_option (option_map (with_level p) o) (filter_map (goes_on level) ps)
    by None e h = rw e h
    by (Some l) e h = rw (e, h) refl

pub none_hidden : (level : ℕ → Option ℕ) (ps : List ShownPeriod) → filter_map (hidden level) ps ≡ [] → map (aged level) ps ≡ filter_map (goes_on level) ps
none_hidden level [] e = refl
none_hidden level (p ∷ ps) e = by (level p.object) e (none_hidden level ps)
  where
    by : (o : Option ℕ) → cons_option (cond (is_some o) None (Some p.n)) (filter_map (hidden level) ps) ≡ [] → (filter_map (hidden level) ps ≡ [] → map (aged level) ps ≡ filter_map (goes_on level) ps)
        → aged_to p o ∷ map (aged level) ps ≡ cons_option (option_map (with_level p) o) (filter_map (goes_on level) ps)
    by None e h = absurd (cc)
    by (Some l) e h = rw (h e) refl

abbrev IsBelow : ℕ → ShownPeriod → Type 0
IsBelow k p = p.object < k

all_aged : (k : ℕ) (level : ℕ → Option ℕ) (ps : List ShownPeriod) → AllByRecursion (IsBelow k) ps → AllByRecursion (IsBelow k) (map (aged level) ps)
all_aged k level [] a = tt
all_aged k level (p ∷ ps) a = (by (level p.object), all_aged k level ps a.1)
  where
    by : (o : Option ℕ) → (aged_to p o).object < k
    by None = a.0
    by (Some l) = a.0

-- the objects stay as they are
pub aged_there : (k : ℕ) (level : ℕ → Option ℕ) (ps qs : List ShownPeriod) → All (λ p. p.object < k) ps → qs ≡ map (aged level) ps → All (λ p. p.object < k) qs
aged_there k level ps qs a e = rw e (All-from_recursion (IsBelow k) _ (all_aged k level ps (recursion_from_All (IsBelow k) ps a)))
