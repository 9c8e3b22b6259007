-- A mine in a plot that nobody watches is not triggered.
use Rattle.std.proofs.Common.{◌≡◌, ℕ, ◌+◌, ◌-◌, ◌*◌, ◌/◌, ◌%◌, ◌<◌, ◌≤◌, ◌⊎◌, inl, inr, Bool, true, false, not, nat_eq, List, length, get_or, set, length-set, get_or-set_same, get_or-set_other, min, max, refl, sym, ap, ◌∙◌, arith, zero, suc, [], ◌∷◌, ◌++◌, take}
use Rattle.std.proofs.lemmas.List.{take_more}
use Rattle.std.specs.List.{list_any, AllByRecursion}
use Rattle.std.proofs.Math.Bool.{and-false}
use Rattle.std.proofs.lemmas.Bool.{leb-true}
use Rattle.std.proofs.lemmas.Bool.Decides.{eqb_tells}
use Rattle.world_rules.specs.declared.object.Object.{Object}
use Rattle.world_rules.specs.declared.object.Place.{Place}
use Rattle.world_rules.specs.Places.{apart, is_within}
use Rattle.world_rules.specs.Near.{is_other_near}
use Rattle.world_rules.specs.Ranges.{PlaceFits, ObjectFits}
use Rattle.world_sim.specs.Searches.{plot_of, AreWatched}
use Rattle.world_sim.proofs.ForGood.{got}
use Rattle.world_sim.proofs.Searches.{all_at, none_any}

abbrev pub first : ℕ → ℕ
first at = min ((at - 300) / 1024) 63

abbrev pub last : ℕ → ℕ
last at = min ((at + 300) / 1024) 63

abbrev plot_at : ℕ → ℕ → ℕ
plot_at row column = row * 64 + column

-- ---- four plots more

stays : (ws : List Bool) (i c : ℕ) → i < length ws → get_or ws c false ≡ true → get_or (set ws i true) c false ≡ true
stays ws i c l h =
    elim (eqb_tells c i) [
      | inl w ↦ ap (λ (j : ℕ). get_or (set ws i true) j false) w.1 ∙ get_or-set_same ws i true false l
      | inr w ↦ get_or-set_other ws i c true false w.1 ∙ h
    ]

here : (ws : List Bool) (i c : ℕ) → i < length ws → c ≡ i → get_or (set ws i true) c false ≡ true
here ws i c l e = ap (λ (j : ℕ). get_or (set ws i true) j false) e ∙ get_or-set_same ws i true false l

abbrev pub four : List Bool → ℕ → ℕ → ℕ → ℕ → List Bool
four ws i j k m = set (set (set (set ws i true) j true) k true) m true

pub four_long : (ws : List Bool) (i j k m : ℕ) → length (four ws i j k m) ≡ length ws
four_long ws i j k m =
    length-set (set (set (set ws i true) j true) k true) m true
    ∙ length-set (set (set ws i true) j true) k true
    ∙ length-set (set ws i true) j true
    ∙ length-set ws i true

abbrev one : List Bool → ℕ → List Bool
one ws i = set ws i true

long_one : (ws : List Bool) (i : ℕ) → length ws ≡ 4096 → length (one ws i) ≡ 4096
long_one ws i e = length-set ws i true ∙ e

pub four_keep : (ws : List Bool) (i j k m c : ℕ) → length ws ≡ 4096 → i < 4096 → j < 4096 → k < 4096 → m < 4096 → get_or ws c false ≡ true → get_or (four ws i j k m) c false ≡ true
four_keep ws i j k m c e a b d f h =
    let e1 = long_one ws i e in
    let e2 = long_one (one ws i) j e1 in
    let e3 = long_one (one (one ws i) j) k e2 in
    stays (one (one (one ws i) j) k) m c (omega (arith, e3, f)) (stays (one (one ws i) j) k c (omega (arith, e2, d)) (stays (one ws i) j c (omega (arith, e1, b)) (stays ws i c (omega (arith, e, a)) h)))

four_have : (ws : List Bool) (i j k m c : ℕ) → length ws ≡ 4096 → i < 4096 → j < 4096 → k < 4096 → m < 4096 → (c ≡ i) ⊎ ((c ≡ j) ⊎ ((c ≡ k) ⊎ (c ≡ m))) → get_or (four ws i j k m) c false ≡ true
four_have ws i j k m c e a b d f (inl h) =
    let e1 = long_one ws i e in
    let e2 = long_one (one ws i) j e1 in
    let e3 = long_one (one (one ws i) j) k e2 in
    stays (one (one (one ws i) j) k) m c (omega (arith, e3, f)) (stays (one (one ws i) j) k c (omega (arith, e2, d)) (stays (one ws i) j c (omega (arith, e1, b)) (here ws i c (omega (arith, e, a)) h)))
four_have ws i j k m c e a b d f (inr (inl h)) =
    let e1 = long_one ws i e in
    let e2 = long_one (one ws i) j e1 in
    let e3 = long_one (one (one ws i) j) k e2 in
    stays (one (one (one ws i) j) k) m c (omega (arith, e3, f)) (stays (one (one ws i) j) k c (omega (arith, e2, d)) (here (one ws i) j c (omega (arith, e1, b)) h))
four_have ws i j k m c e a b d f (inr (inr (inl h))) =
    let e1 = long_one ws i e in
    let e2 = long_one (one ws i) j e1 in
    let e3 = long_one (one (one ws i) j) k e2 in
    stays (one (one (one ws i) j) k) m c (omega (arith, e3, f)) (here (one (one ws i) j) k c (omega (arith, e2, d)) h)
four_have ws i j k m c e a b d f (inr (inr (inr h))) =
    let e1 = long_one ws i e in
    let e2 = long_one (one ws i) j e1 in
    let e3 = long_one (one (one ws i) j) k e2 in
    here (one (one (one ws i) j) k) m c (omega (arith, e3, f)) h

-- ---- who is near lies in one of them

one_of_two : (at x : ℕ) → x ≤ 65535 → apart at x ≤ 300 → (x / 1024 % 64 ≡ first at) ⊎ (x / 1024 % 64 ≡ last at)
one_of_two at x most near =
    elim (eqb_tells (x / 1024 % 64) (first at)) [
      | inl w ↦ inl w.1
      | inr w ↦ inr (omega (arith, near, most, w.1))
    ]

near_parts : (p q : Place) → is_within 300 p q ≡ true → (apart p.x q.x ≤ 300) × (apart p.y q.y ≤ 300)
unfolding is_within
near_parts p q h =
    let l : max (apart p.x q.x) (apart p.y q.y) ≤ 300 = leb-true (max (apart p.x q.x) (apart p.y q.y)) 300 h in
    (omega (arith, l), omega (arith, l))

which_plot : (p q : Place) → (q.y / 1024 % 64 ≡ first p.y) ⊎ (q.y / 1024 % 64 ≡ last p.y) → (q.x / 1024 % 64 ≡ first p.x) ⊎ (q.x / 1024 % 64 ≡ last p.x) → (plot_of q ≡ plot_at (first p.y) (first p.x)) ⊎ ((plot_of q ≡ plot_at (first p.y) (last p.x)) ⊎ ((plot_of q ≡ plot_at (last p.y) (first p.x)) ⊎ (plot_of q ≡ plot_at (last p.y) (last p.x))))
which_plot p q (inl e) (inl f) = inl (omega (arith, e, f))
which_plot p q (inl e) (inr f) = inr (inl (omega (arith, e, f)))
which_plot p q (inr e) (inl f) = inr (inr (inl (omega (arith, e, f))))
which_plot p q (inr e) (inr f) = inr (inr (inr (omega (arith, e, f))))

abbrev pub round_plots : List Bool → Place → List Bool
round_plots ws p = four ws (plot_at (first p.y) (first p.x)) (plot_at (first p.y) (last p.x)) (plot_at (last p.y) (first p.x)) (plot_at (last p.y) (last p.x))

pub round_keep : (ws : List Bool) (p : Place) (c : ℕ) → length ws ≡ 4096 → get_or ws c false ≡ true → get_or (round_plots ws p) c false ≡ true
round_keep ws p c e h = four_keep ws _ _ _ _ c e (omega arith) (omega arith) (omega arith) (omega arith) h

pub round_have : (ws : List Bool) (p q : Place) → length ws ≡ 4096 → PlaceFits q → is_within 300 p q ≡ true → get_or (round_plots ws p) (plot_of q) false ≡ true
round_have ws p q e fits h =
    let near = near_parts p q h in
    four_have ws _ _ _ _ (plot_of q) e (omega arith) (omega arith) (omega arith) (omega arith) (which_plot p q (one_of_two p.y q.y fits.1 near.1) (one_of_two p.x q.x fits.0 near.0))

-- ---- player by player

appended : (xs : List Object) (x : Object) (ws new : List Bool) → AreWatched xs ws → ((c : ℕ) → get_or ws c false ≡ true → get_or new c false ≡ true) → ((q : Place) → PlaceFits q → is_within 300 x.place q ≡ true → get_or new (plot_of q) false ≡ true) → AreWatched (xs ++ x ∷ []) new
appended [] x ws new w kept near zero p q at fits h = let same : x ≡ p = cc in near q fits (rw same h)
appended [] x ws new w kept near (suc k) p q at fits h = absurd (cc)
appended (y ∷ xs) x ws new w kept near zero p q at fits h = kept (plot_of q) (w 0 p q at fits h)
appended (y ∷ xs) x ws new w kept near (suc k) p q at fits h = appended xs x ws new (λ j o r there g i. w (suc j) o r there g i) kept near k p q at fits h

pub more_watched : (standing : List Object) (ws new : List Bool) (i : ℕ) (d : Object) → i < length standing → AreWatched (take i standing) ws → ((c : ℕ) → get_or ws c false ≡ true → get_or new c false ≡ true) → ((q : Place) → PlaceFits q → is_within 300 (get_or standing i d).place q ≡ true → get_or new (plot_of q) false ≡ true) → AreWatched (take (i + 1) standing) new
more_watched standing ws new i d l w kept near = rw (take_more standing i d l) (appended (take i standing) (get_or standing i d) ws new w kept near)

-- ---- so a mine that is not watched has nobody near

miss : (b : Bool) → (b ≡ true → false ≡ true) → b ≡ false
miss true h = absurd (let e = h refl in cc)
miss false h = refl

not_near : (b : Bool) (o t : Object) → is_within 300 t.place o.place ≡ b → b ≡ false → is_other_near 300 o t ≡ false
not_near b o t e f = rw (e ∙ f, and-false (not (nat_eq t.team o.team))) refl

pub nobody_near : (standing : List Object) (ws : List Bool) (o : Object) → AreWatched standing ws → PlaceFits o.place → get_or ws (plot_of o.place) false ≡ false → list_any (is_other_near 300 o) standing ≡ false
nobody_near standing ws o w fits e =
    none_any (is_other_near 300 o) standing (λ n t at. not_near (is_within 300 t.place o.place) o t refl (miss (is_within 300 t.place o.place) (λ h. sym e ∙ w n t o.place at fits h)))

pub place_fits : (os : List Object) (i : ℕ) (o : Object) → AllByRecursion ObjectFits os → i < length os → o ≡ get_or os i o → PlaceFits o.place
place_fits os i o a l e = (all_at ObjectFits os i o a (got os i o l e)).place
