-- Places with one object's place or bit put in.
use Rattle.std.proofs.Common.{◌≡◌, ℕ, zero, suc, ◌%◌, ◌≤◌, true, List, [], ◌∷◌, ◌++◌, length, refl, sym, ap, ◌∙◌, arith, inl, inr, Some}
use Rattle.std.specs.Prelude.{slice_get}
use Rattle.std.proofs.lemmas.Bool.Decides.{eqb_tells}
use Rattle.world_rules.specs.declared.object.Place.{Place}
use Rattle.world_rules.specs.declared.object.Object.{Object}
use Rattle.world_rules.specs.Ranges.{PlaceFits}
use Rattle.world_places.specs.Places.{PlaceLists, ArePlaced, IsPut, IsMarked, is_special, place_in, special_in}

-- ---- one object among all

-- before and behind an object all stay
other_kept : (before behind : List Object) (was now o : Object) (n : ℕ) → (n ≡ length before → ⊥) → slice_get (before ++ now ∷ behind) n ≡ Some o → slice_get (before ++ was ∷ behind) n ≡ Some o
other_kept [] behind was now o zero apart e = absurd (apart refl)
other_kept [] behind was now o (suc n) apart e = e
other_kept (x ∷ before) behind was now o zero apart e = e
other_kept (x ∷ before) behind was now o (suc n) apart e = other_kept before behind was now o n (λ s. apart (ap suc s)) e

here_is : (before behind : List Object) (now o : Object) (n : ℕ) → n ≡ length before → slice_get (before ++ now ∷ behind) n ≡ Some o → now ≡ o
here_is [] behind now o zero at e = cc
here_is [] behind now o (suc n) at e = absurd (omega (arith, at))
here_is (x ∷ before) behind now o zero at e = absurd (omega (arith, at))
here_is (x ∷ before) behind now o (suc n) at e = here_is before behind now o n (omega (arith, at)) e

front_kept : (before : List Object) (now o : Object) (n : ℕ) → (n ≡ length before → ⊥) → slice_get (before ++ now ∷ []) n ≡ Some o → slice_get before n ≡ Some o
front_kept [] now o zero apart e = absurd (apart refl)
front_kept [] now o (suc n) apart e = absurd (cc)
front_kept (x ∷ before) now o zero apart e = e
front_kept (x ∷ before) now o (suc n) apart e = front_kept before now o n (λ s. apart (ap suc s)) e

-- what was moved is at its place, and all others are where they were
placed_by : (number : ℕ) (now : Object) (lists next : PlaceLists) (was os : List Object) → ArePlaced lists was
    → place_in next number ≡ now.place → (is_special now ≡ true → special_in next number ≡ 1)
    → ((n : ℕ) → (n ≡ number → ⊥) → place_in next n ≡ place_in lists n) → ((n : ℕ) → (n ≡ number → ⊥) → special_in next n ≡ special_in lists n)
    → ((n : ℕ) (o : Object) → n ≡ number → slice_get os n ≡ Some o → now ≡ o)
    → ((n : ℕ) (o : Object) → (n ≡ number → ⊥) → slice_get os n ≡ Some o → slice_get was n ≡ Some o) → ArePlaced next os
placed_by number now lists next was os placed here mark places marks is kept = record {
  places = λ n o e. elim (eqb_tells n number) [
    | inl w ↦ ap (place_in next) w.1 ∙ here ∙ ap (λ (x : Object). x.place) (is n o w.1 e)
    | inr w ↦ places n w.1 ∙ placed.places n o (kept n o w.1 e)
  ];
  marks = λ n o e s. elim (eqb_tells n number) [
    | inl w ↦ ap (special_in next) w.1 ∙ mark (ap is_special (is n o w.1 e) ∙ s)
    | inr w ↦ marks n w.1 ∙ placed.marks n o (kept n o w.1 e) s
  ];
}

coordinate : (n : ℕ) → n ≤ 65535 → n % 65536 ≡ n
coordinate n l = omega (arith, l)

fitting : (p : Place) → PlaceFits p → record { x = p.x % 65536; y = p.y % 65536 } ≡ p
fitting p f =
    let x : p.x % 65536 ≡ p.x = coordinate p.x f.0 in
    let y : p.y % 65536 ≡ p.y = coordinate p.y f.1 in
    rw (x, y) refl

-- both steps of a settling
settled_by : (number : ℕ) (now : Object) (lists between next : PlaceLists) (was os : List Object) → PlaceFits now.place
    → IsMarked number (is_special now) lists between → IsPut number (now.place.x % 65536) (now.place.y % 65536) between next → ArePlaced lists was
    → ((n : ℕ) (o : Object) → n ≡ number → slice_get os n ≡ Some o → now ≡ o)
    → ((n : ℕ) (o : Object) → (n ≡ number → ⊥) → slice_get os n ≡ Some o → slice_get was n ≡ Some o) → ArePlaced next os
settled_by number now lists between next was os fits mark put placed is kept =
    placed_by number now lists next was os placed (put.here ∙ fitting now.place fits)
    (λ s. put.marks number ∙ mark.here s)
    (λ n a. put.others n a ∙ mark.places n)
    (λ n a. put.marks n ∙ mark.others n a)
    is kept

pub settled : (number : ℕ) (now : Object) (lists between next : PlaceLists) (before behind : List Object) (was : Object) → PlaceFits now.place → IsMarked number (is_special now) lists between → IsPut number (now.place.x % 65536) (now.place.y % 65536) between next
    → length before ≡ number → ArePlaced lists (before ++ was ∷ behind) → ArePlaced next (before ++ now ∷ behind)
settled number now lists between next before behind was fits mark put at placed =
    settled_by number now lists between next (before ++ was ∷ behind) (before ++ now ∷ behind) fits mark put placed
    (λ n o e g. here_is before behind now o n (e ∙ sym at) g)
    (λ n o a g. other_kept before behind was now o n (λ e. a (e ∙ at)) g)

pub added : (number : ℕ) (now : Object) (lists between next : PlaceLists) (before : List Object) → PlaceFits now.place → IsMarked number (is_special now) lists between → IsPut number (now.place.x % 65536) (now.place.y % 65536) between next
    → length before ≡ number → ArePlaced lists before → ArePlaced next (before ++ now ∷ [])
added number now lists between next before fits mark put at placed =
    settled_by number now lists between next before (before ++ now ∷ []) fits mark put placed
    (λ n o e g. here_is before [] now o n (e ∙ sym at) g)
    (λ n o a g. front_kept before now o n (λ e. a (e ∙ at)) g)

here_at : (before behind : List Object) (was : Object) (n : ℕ) → length before ≡ n → slice_get (before ++ was ∷ behind) n ≡ Some was
here_at [] behind was n at = rw (sym at) refl
here_at (x ∷ before) behind was zero at = absurd (omega (arith, at))
here_at (x ∷ before) behind was (suc n) at = here_at before behind was n (omega (arith, at))

-- an object moved, and is special only if it was
pub shifted : (number x y : ℕ) (now : Object) (lists next : PlaceLists) (before behind : List Object) (was : Object) → length before ≡ number → now.place ≡ record { x = x; y = y } → PlaceFits now.place → (is_special now ≡ true → is_special was ≡ true)
    → IsPut number (x % 65536) (y % 65536) lists next → ArePlaced lists (before ++ was ∷ behind) → ArePlaced next (before ++ now ∷ behind)
shifted number x y now lists next before behind was at e fits keeps put placed =
    let fit : record { x = x % 65536; y = y % 65536 } ≡ now.place = ap (λ (p : Place). record { x = p.x % 65536; y = p.y % 65536 }) (sym e) ∙ fitting now.place fits in
    placed_by number now lists next (before ++ was ∷ behind) (before ++ now ∷ behind) placed (put.here ∙ fit)
    (λ s. put.marks number ∙ placed.marks number was (here_at before behind was number at) (keeps s))
    put.others (λ n a. put.marks n)
    (λ n o e g. here_is before behind now o n (e ∙ sym at) g)
    (λ n o a g. other_kept before behind was now o n (λ e. a (e ∙ at)) g)

-- an object that stayed, and is special only if it was, needs no step
pub stayed : (lists : PlaceLists) (before behind : List Object) (was now : Object) → now.place ≡ was.place → (is_special now ≡ true → is_special was ≡ true)
    → ArePlaced lists (before ++ was ∷ behind) → ArePlaced lists (before ++ now ∷ behind)
stayed lists before behind was now e keeps placed =
    placed_by (length before) now lists lists (before ++ was ∷ behind) (before ++ now ∷ behind) placed
    (placed.places (length before) was (here_at before behind was (length before) refl) ∙ sym e)
    (λ s. placed.marks (length before) was (here_at before behind was (length before) refl) (keeps s))
    (λ n a. refl) (λ n a. refl)
    (λ n o e g. here_is before behind now o n e g)
    (λ n o a g. other_kept before behind was now o n a g)
