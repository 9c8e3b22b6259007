-- Whoever is near lies in a cell that the square touches, so a search through these cells finds it.
use Rattle.std.proofs.Common.{◌≡◌, ℕ, zero, suc, ◌+◌, ◌-◌, ◌*◌, ◌/◌, ◌%◌, ◌<◌, ◌≤◌, ◌⊎◌, inl, inr, Bool, true, false, not, ◌&&◌, ◌||◌, nat_eq, List, [], ◌∷◌, length, get_or, min, max, refl, sym, ap, ◌∙◌, arith, Some, subst}
use Rattle.std.specs.Prelude.{slice_get}
use Rattle.std.specs.List.{list_any, AllByRecursion}
use Rattle.std.proofs.lemmas.Bool.{and_parts, leb-true}
use Rattle.std.proofs.lemmas.Bool.Decides.{nat_tests, eqb_tells}
use Rattle.world_rules.specs.declared.object.Object.{Object}
use Rattle.world_rules.specs.declared.object.Place.{Place}
use Rattle.world_rules.specs.declared.object.State.{State}
use Rattle.world_rules.specs.declared.object.State.TheVariants.{Player, Disc, Mine, Drone, Flag, Clock}
use Rattle.world_rules.specs.Places.{apart, is_within}
use Rattle.world_rules.specs.Near.{is_target, is_standing_part, is_drone_part, is_other_near, is_target_near}
use Rattle.world_rules.specs.Identity.{lives_on, LivesOn}
use Rattle.world_rules.specs.Ranges.{ObjectFits}
use Rattle.world_cells.specs.Grid.{has_place, numbers}
use Rattle.world_cells.specs.Cells.{lies_in, cell_of}
use Rattle.world_sim.specs.Searches.{IsNoTarget}
use Rattle.world_cells.proofs.Numbers.{found_in}

pub any_at : (p : Object → Bool) (os : List Object) (i : ℕ) (o : Object) → slice_get os i ≡ Some o → p o ≡ true → list_any p os ≡ true
any_at p [] i o e h = absurd (cc)
any_at p (x ∷ os) zero o e h = let same : x ≡ o = cc in let t : p x ≡ true = rw same h in rw t refl
any_at p (x ∷ os) (suc i) o e h = later (p x) (any_at p os i o e h)
  where
    later : (b : Bool) → list_any p os ≡ true → (b || list_any p os) ≡ true
    later true k = refl
    later false k = k

pub none_any : (p : Object → Bool) (os : List Object) → ((n : ℕ) (t : Object) → slice_get os n ≡ Some t → p t ≡ false) → list_any p os ≡ false
none_any p [] h = refl
none_any p (x ∷ os) h = rw (h 0 x refl, none_any p os (λ n t at. h (suc n) t at)) refl

pub all_at : (P : Object → Type 0) (os : List Object) (n : ℕ) (t : Object) → AllByRecursion P os → slice_get os n ≡ Some t → P t
all_at P [] n t a e = absurd (cc)
all_at P (x ∷ os) zero t a e = let same : x ≡ t = cc in subst P same a.0
all_at P (x ∷ os) (suc n) t a e = all_at P os n t a.1 e

-- ---- one cell

pub none_in : (os : List Object) (o : Object) (ns : List ℕ) (cell : ℕ) → ns ≡ numbers (lies_in cell) 0 os → ((k : ℕ) → k < length ns → IsNoTarget os o (get_or ns k 0)) → (n : ℕ) (t : Object) → slice_get os n ≡ Some t → lies_in cell t ≡ true → is_target_near 200 o t ≡ false
none_in os o ns cell e none n t at lies =
    let a = found_in (lies_in cell) os ns n t e at lies in
    none a.at a.within t (rw (sym a.is) at at)

pub more_none : (os : List Object) (o : Object) (ns : List ℕ) (i : ℕ) (t : Object) → ((k : ℕ) → k < i → IsNoTarget os o (get_or ns k 0)) → slice_get os (get_or ns i 0) ≡ Some t → is_target_near 200 o t ≡ false → (k : ℕ) → k < i + 1 → IsNoTarget os o (get_or ns k 0)
more_none os o ns i t before at h k l =
    elim (eqb_tells k i) [
      | inl w ↦ λ x here.
          let same : t ≡ x = (let f : Some t ≡ Some x = sym at ∙ ap (λ j. slice_get os (get_or ns j 0)) (sym w.1) ∙ here in cc) in
          ap (is_target_near 200 o) (sym same) ∙ h
      | inr w ↦ before k (omega (arith, w.1))
    ]

-- ---- a target lies in one of the cells

target_by : (alive : Bool) (s : State) → (lives_on s ≡ true → alive ≡ true) → (is_standing_part s || (alive && is_drone_part s)) ≡ true → (alive ≡ true) × (has_place s ≡ true)
target_by true (Player p) h e = (refl, refl)
target_by true (Disc d) h e = (refl, refl)
target_by true (Mine m) h e = (refl, refl)
target_by true (Drone d) h e = (refl, refl)
target_by true (Flag f) h e = (refl, refl)
target_by true (Clock c) h e = absurd (cc)
target_by false (Player p) h e = (h refl, refl)
target_by false (Disc d) h e = absurd (cc)
target_by false (Mine m) h e = absurd (cc)
target_by false (Drone d) h e = absurd (cc)
target_by false (Flag f) h e = absurd (cc)
target_by false (Clock c) h e = absurd (cc)

lies_by : (c : ℕ) (t : Object) → t.alive ≡ true → has_place t.state ≡ true → cell_of t.place ≡ c → lies_in c t ≡ true
lies_by c t alive placed e =
    let same : nat_eq (cell_of t.place) c ≡ true = grind (arith, nat_tests, e) in
    rw (alive, placed) same

one_of_two : (at x : ℕ) → x ≤ 65535 → apart x at ≤ 200 → (x / 4096 % 16 ≡ min ((at - 200) / 4096) 15) ⊎ (x / 4096 % 16 ≡ min ((at + 200) / 4096) 15)
one_of_two at x most near =
    elim (eqb_tells (x / 4096 % 16) (min ((at - 200) / 4096) 15)) [
      | inl w ↦ inl w.1
      | inr w ↦ inr (omega (arith, near, most, w.1))
    ]

abbrev pub corner : ℕ → ℕ → ℕ
corner row column = row * 16 + column

abbrev pub low : ℕ → ℕ
low at = min ((at - 200) / 4096) 15

abbrev pub high : ℕ → ℕ
high at = min ((at + 200) / 4096) 15

abbrev pub InRow : Object → ℕ → Object → Type 0
InRow o row t = (lies_in (corner row (low o.place.x)) t ≡ true) ⊎ (lies_in (corner row (high o.place.x)) t ≡ true)

in_row : (o t : Object) (row : ℕ) → t.alive ≡ true → has_place t.state ≡ true → t.place.y / 4096 % 16 ≡ row → (t.place.x / 4096 % 16 ≡ low o.place.x) ⊎ (t.place.x / 4096 % 16 ≡ high o.place.x) → InRow o row t
in_row o t row alive placed e (inl f) = inl (lies_by (corner row (low o.place.x)) t alive placed (omega (arith, e, f)))
in_row o t row alive placed e (inr f) = inr (lies_by (corner row (high o.place.x)) t alive placed (omega (arith, e, f)))

in_rows : (o t : Object) → t.alive ≡ true → has_place t.state ≡ true → (t.place.y / 4096 % 16 ≡ low o.place.y) ⊎ (t.place.y / 4096 % 16 ≡ high o.place.y) → (t.place.x / 4096 % 16 ≡ low o.place.x) ⊎ (t.place.x / 4096 % 16 ≡ high o.place.x) → InRow o (low o.place.y) t ⊎ InRow o (high o.place.y) t
in_rows o t alive placed (inl e) x = inl (in_row o t (low o.place.y) alive placed e x)
in_rows o t alive placed (inr e) x = inr (in_row o t (high o.place.y) alive placed e x)

near_parts : (p q : Place) → is_within 200 p q ≡ true → (apart p.x q.x ≤ 200) × (apart p.y q.y ≤ 200)
unfolding is_within
near_parts p q h =
    let l : max (apart p.x q.x) (apart p.y q.y) ≤ 200 = leb-true (max (apart p.x q.x) (apart p.y q.y)) 200 h in
    (omega (arith, l), omega (arith, l))

near_rows : (o t : Object) → LivesOn t → ObjectFits t → is_target_near 200 o t ≡ true → InRow o (low o.place.y) t ⊎ InRow o (high o.place.y) t
near_rows o t lives fits h =
    let parts = and_parts (is_target t) (is_other_near 200 o t) h in
    let within = (and_parts (not (nat_eq t.team o.team)) (is_within 200 t.place o.place) parts.1).1 in
    let near = near_parts t.place o.place within in
    let life = target_by t.alive t.state lives parts.0 in
    in_rows o t life.0 life.1 (one_of_two o.place.y t.place.y fits.place.1 near.1) (one_of_two o.place.x t.place.x fits.place.0 near.0)

abbrev pub NoneIn : List Object → Object → ℕ → Type 0
NoneIn os o row = (n : ℕ) (t : Object) → slice_get os n ≡ Some t → InRow o row t → is_target_near 200 o t ≡ false

miss : (b : Bool) → (b ≡ true → b ≡ false) → b ≡ false
miss true h = h refl
miss false h = refl

missed : (os : List Object) (o : Object) → NoneIn os o (low o.place.y) → NoneIn os o (high o.place.y) → (n : ℕ) (t : Object) → slice_get os n ≡ Some t → InRow o (low o.place.y) t ⊎ InRow o (high o.place.y) t → is_target_near 200 o t ≡ false
missed os o first last n t at (inl h) = first n t at h
missed os o first last n t at (inr h) = last n t at h

-- neither row of cells has one
pub none_round : (os : List Object) (o : Object) → AllByRecursion LivesOn os → AllByRecursion ObjectFits os → NoneIn os o (low o.place.y) → NoneIn os o (high o.place.y) → list_any (is_target_near 200 o) os ≡ false
none_round os o alive fits first last =
    none_any (is_target_near 200 o) os (λ n t at. miss (is_target_near 200 o t) (λ h. missed os o first last n t at (near_rows o t (all_at LivesOn os n t alive at) (all_at ObjectFits os n t fits at) h)))
