-- On a circle by its parts: which way it goes, and that a value off the circle stays.
use Rattle.std.proofs.Common.{◌≡◌, ℕ, ◌+◌, ◌-◌, ◌*◌, ◌%◌, ◌<◌, ◌≤◌, Bool, true, false, ◌&&◌, ◌⊎◌, inl, inr, nat_le, refl, sym, ◌∙◌, arith, subst}
use Rattle.std.specs.Prelude.{ℤ, pos, ◌+ℤ◌}
use Rattle.std.specs.Int.{int_gap}
use Rattle.std.proofs.lemmas.Bool.{le-leb}
use Rattle.std.proofs.lemmas.Bool.Decides.{nat_tests}
use Rattle.timeline.specs.Lines.{share, size_of, way_up, on_circle, is_inside, turned}
use Rattle.timeline.specs.Between.{part_way}
use Rattle.timeline.specs.declared.between.Interpolation.{Interpolation}
use Rattle.timeline.specs.declared.between.Interpolation.TheVariants.{Turning}

not_le : (a b : ℕ) → b < a → nat_le a b ≡ false
not_le a b h = grind (arith, nat_tests)

pub goes_up : (least most from to : ℤ) (part whole size up at : ℕ) (v : ℤ) → size ≡ size_of least most → up ≡ way_up least most from to → at ≡ int_gap least from → 2 * up ≤ size
    → v ≡ least +ℤ pos ((at + share up part whole) % size) → v ≡ on_circle least most from to part whole
goes_up least most from to part whole size up at v s u a h is =
    let t : nat_le (2 * way_up least most from to) (size_of least most) ≡ true = subst (λ k. nat_le (2 * k) (size_of least most) ≡ true) u (subst (λ k. nat_le (2 * up) k ≡ true) s (le-leb (2 * up) size h)) in
    is ∙ rw (s, u, a, t) refl

pub goes_down : (least most from to : ℤ) (part whole size up at : ℕ) (v : ℤ) → size ≡ size_of least most → up ≡ way_up least most from to → at ≡ int_gap least from → size < 2 * up
    → v ≡ least +ℤ pos ((at + size - share (size - up) part whole) % size) → v ≡ on_circle least most from to part whole
goes_down least most from to part whole size up at v s u a h is =
    let t : nat_le (2 * way_up least most from to) (size_of least most) ≡ false = subst (λ k. nat_le (2 * k) (size_of least most) ≡ false) u (subst (λ k. nat_le (2 * up) k ≡ false) s (not_le (2 * up) size h)) in
    is ∙ rw (s, u, a, t) refl

pub turns : (least most from to : ℤ) (part whole : ℕ) (starts ends : Bool) → starts ≡ is_inside least most from → ends ≡ is_inside least most to → starts ≡ true → ends ≡ true
    → on_circle least most from to part whole ≡ turned least most from to part whole
turns least most from to part whole starts ends a b p q = rw (sym a ∙ p, sym b ∙ q) refl

pub stays : (least most from to : ℤ) (part whole : ℕ) (starts ends : Bool) → starts ≡ is_inside least most from → ends ≡ is_inside least most to → (starts && ends) ≡ false
    → from ≡ turned least most from to part whole
stays least most from to part whole starts ends a b p =
    let e : (is_inside least most from && is_inside least most to) ≡ false = subst (λ t. (is_inside least most from && t) ≡ false) b (subst (λ t. (t && ends) ≡ false) a p) in
    rw e refl

pub by_turning : (how : Interpolation) (least most from to : ℤ) (part whole : ℕ) → how ≡ Turning least most → turned least most from to part whole ≡ part_way how from to part whole
by_turning how least most from to part whole e = rw e refl

pub one_fails : (s e : Bool) → ((s ≡ true) × (e ≡ false)) ⊎ (s ≡ false) → (s && e) ≡ false
one_fails true e (inl h) = h.1
one_fails true e (inr h) = absurd (cc)
one_fails false e h = refl
