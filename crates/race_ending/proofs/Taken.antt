-- Messages that are taken one after another, and clients that are added one by one.
use Rattle.std.proofs.Common.{◌≡◌, ◌⊎◌, inl, inr, ⊎_elim, ℕ, zero, suc, List, [], ◌∷◌, ◌++◌, length, drop, Some, None, refl, sym, ap, ◌∙◌, subst, arith}
use Rattle.std.specs.Prelude.{slice_get}
use Rattle.std.proofs.lemmas.List.{append_assoc, append-nil}
use Rattle.stream_manager.specs.Limits.{Terms}
use Rattle.race_messages.specs.declared.message.Message.{Message}
use Rattle.connection_lock.specs.Taking.{Progress, TakesAll}

-- ---- lists

first-of : {A : Type 0} (xs : List A) (x : A) → slice_get xs 0 ≡ Some x → xs ≡ x ∷ drop 1 xs
first-of [] x e = absurd (cc)
first-of (y ∷ ys) x e = grind (arith, e)

none-of : {A : Type 0} (xs : List A) → slice_get xs 0 ≡ None → xs ≡ []
none-of [] e = refl
none-of (y ∷ ys) e = absurd (cc)

-- one more of these comes behind those that came
pub one-more : {A : Type 0} (all behind waited rest : List A) (x : A) → all ≡ behind ++ waited → slice_get waited 0 ≡ Some x
    → rest ≡ drop 1 waited → all ≡ (behind ++ x ∷ []) ++ rest
one-more all behind waited rest x e f r =
    e ∙ ap (λ w. behind ++ w) (first-of waited x f ∙ ap (λ w. x ∷ w) (sym r)) ∙ sym (append_assoc behind (x ∷ []) rest)

pub no-more : {A : Type 0} (all behind waited : List A) → all ≡ behind ++ waited → slice_get waited 0 ≡ None → behind ≡ all
no-more all behind waited e f = sym (e ∙ ap (λ w. behind ++ w) (none-of waited f) ∙ append-nil behind)

-- an item of a list with one more is one of it, or that one
pub pushed : {A : Type 0} (xs : List A) (x y : A) (i : ℕ) → slice_get (xs ++ x ∷ []) i ≡ Some y
    → (slice_get xs i ≡ Some y) ⊎ ((i ≡ length xs) × (y ≡ x))
pushed [] x y zero e = inr (refl, grind (arith, e))
pushed [] x y (suc i) e = absurd (cc)
pushed (z ∷ xs) x y zero e = inl e
pushed (z ∷ xs) x y (suc i) e = ⊎_elim inl (λ r. inr (ap suc r.0, r.1)) (pushed xs x y i e)

-- ---- messages

pub takes-both : (t : Terms) (objects : ℕ) (old mid new : Progress) (xs ys : List Message) → TakesAll t objects old xs mid
    → TakesAll t objects mid ys new → TakesAll t objects old (xs ++ ys) new
takes-both t objects old mid new [] ys all more = subst (λ p. TakesAll t objects p ys new) all more
takes-both t objects old mid new (x ∷ xs) ys all more = (all.0, all.1, takes-both t objects all.0 mid new xs ys all.2 more)
