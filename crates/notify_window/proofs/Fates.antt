-- Fates of the packets that carry one thing, and what a sender keeps of it.
use Rattle.std.proofs.Common.{◌≡◌, ◌≢◌, ℕ, Bool, true, false, not, ◌&&◌, ◌||◌, ◌==◌, List, [], ◌∷◌, refl, sym, ◌∙◌, ap, arith, inl, inr}
use Rattle.std.proofs.lemmas.Bool.Decides.{nat_tests}
use Rattle.std.proofs.lemmas.Bool.{cases_eq}
use Rattle.tn_types.specs.declared.choices.Verdict.{Verdict}
use Rattle.tn_types.specs.declared.choices.Verdict.TheVariants as verdict
use Rattle.notify_window.specs.Log.{Fate, Unjudged, Received, Lost, is_received}
use Rattle.notify_window.specs.declared.progress.Progress.{Progress}
use Rattle.notify_window.specs.declared.progress.Progress.TheVariants.{Due, Carried, Done}
use Rattle.notify_window.specs.Fates.{is_lost, all_lost, any_received, fate_for, judged}
use Rattle.notify_window.specs.Carriers.{progress_is_due, progress_is_done, progress_after, verdict_progress, ProgressIs}

-- a packet that has its verdict keeps it
judged_other : (fate : ℕ → Fate) (seq s : ℕ) (f g : Fate) → fate seq ≡ Unjudged → fate s ≡ g → g ≢ Unjudged → judged fate seq f s ≡ g
judged_other fate seq s f g open_ e other = elim (cases_eq s seq) [
  | inl same ↦ absurd (other (sym e ∙ ap fate same ∙ open_))
  | inr apart ↦ (let t : (s == seq) ≡ false = grind (arith, nat_tests) in rw t e)
]

judged_same : (fate : ℕ → Fate) (seq s : ℕ) (f : Fate) → s ≡ seq → judged fate seq f s ≡ f
judged_same fate seq s f e = let t : (s == seq) ≡ true = grind (arith, nat_tests) in rw t

pub not-false : (b : Bool) → not b ≡ false → b ≡ true
not-false true h = refl
not-false false h = cc

pub not-true : (b : Bool) → not b ≡ true → b ≡ false
not-true true h = cc
not-true false h = refl

lost-is : (f : Fate) → is_lost f ≡ true → f ≡ Lost
lost-is Unjudged h = cc
lost-is Received h = cc
lost-is Lost h = refl

received-is : (f : Fate) → is_received f ≡ true → f ≡ Received
received-is Unjudged h = cc
received-is Received h = refl
received-is Lost h = cc

and-first : (a b : Bool) → (a && b) ≡ true → a ≡ true
and-first true b h = refl
and-first false b h = cc

and-second : (a b : Bool) → (a && b) ≡ true → b ≡ true
and-second true b h = h
and-second false b h = cc

-- what is lost stays lost, and what is received stays received
pub lost-stays : (fate : ℕ → Fate) (seq : ℕ) (f : Fate) (ss : List ℕ) → fate seq ≡ Unjudged → all_lost fate ss ≡ true → all_lost (judged fate seq f) ss ≡ true
lost-stays fate seq f [] o h = refl
lost-stays fate seq f (s ∷ ss) o h =
    let one : judged fate seq f s ≡ Lost = judged_other fate seq s f Lost o (lost-is (fate s) (and-first (is_lost (fate s)) (all_lost fate ss) h)) (λ e. cc) in
    let rest : all_lost (judged fate seq f) ss ≡ true = lost-stays fate seq f ss o (and-second (is_lost (fate s)) (all_lost fate ss) h) in
    rw (one, rest)

or_true : (b : Bool) → (b || true) ≡ true
or_true true = refl
or_true false = refl

pub received-stays : (fate : ℕ → Fate) (seq : ℕ) (f : Fate) (ss : List ℕ) → fate seq ≡ Unjudged → any_received fate ss ≡ true → any_received (judged fate seq f) ss ≡ true
received-stays fate seq f [] o h = cc
received-stays fate seq f (s ∷ ss) o h = go (is_received (fate s)) refl h (received-stays fate seq f ss o)
  where
    go : (b : Bool) → is_received (fate s) ≡ b → (b || any_received fate ss) ≡ true → (any_received fate ss ≡ true → any_received (judged fate seq f) ss ≡ true) → (is_received (judged fate seq f s) || any_received (judged fate seq f) ss) ≡ true
    go true e k ih = let one : judged fate seq f s ≡ Received = judged_other fate seq s f Received o (received-is (fate s) e) (λ u. cc) in rw one
    go false e k ih = let rest : any_received (judged fate seq f) ss ≡ true = ih k in rw rest (or_true (is_received (judged fate seq f s)))

pub lost-none : (fate : ℕ → Fate) (ss : List ℕ) → all_lost fate ss ≡ true → any_received fate ss ≡ false
lost-none fate [] h = refl
lost-none fate (s ∷ ss) h =
    let one : fate s ≡ Lost = lost-is (fate s) (and-first (is_lost (fate s)) (all_lost fate ss) h) in
    let rest : any_received fate ss ≡ false = lost-none fate ss (and-second (is_lost (fate s)) (all_lost fate ss) h) in
    rw (one, rest)

-- one thing and a verdict
pub progress-settled : (fate : ℕ → Fate) (seq : ℕ) (v : Verdict) (ss : List ℕ) (p : Progress) → fate seq ≡ Unjudged → ProgressIs fate ss p → ProgressIs (judged fate seq (fate_for v)) ss (progress_after seq v p)
progress-settled fate seq v ss Due o h = lost-stays fate seq (fate_for v) ss o h
progress-settled fate seq v [] (Carried q) o h = absurd h
progress-settled fate seq v [] Done o h = cc
progress-settled fate seq v (s ∷ ss) Done o h = received-stays fate seq (fate_for v) (s ∷ ss) o h
progress-settled fate seq v (s ∷ ss) (Carried q) o h = elim (cases_eq q seq) [
  | inl e ↦ (let t : (q == seq) ≡ true = grind (arith, nat_tests) in rw t (at v (h.0 ∙ e)))
  | inr e ↦ (let t : (q == seq) ≡ false = grind (arith, nat_tests) in let u : (s == seq) ≡ false = grind (arith, nat_tests) in
      rw t (h.0, rw u h.1, lost-stays fate seq (fate_for v) ss o h.2))
]
  where
    at : (u : Verdict) → s ≡ seq → ProgressIs (judged fate seq (fate_for u)) (s ∷ ss) (verdict_progress u)
    at verdict.Received e = let one : judged fate seq Received s ≡ Received = judged_same fate seq s Received e in rw one
    at verdict.Lost e = let one : judged fate seq Lost s ≡ Lost = judged_same fate seq s Lost e in rw one (lost-stays fate seq Lost ss o h.2)

-- a due thing and a verdict
pub progress-due : (fate : ℕ → Fate) (seq : ℕ) (v : Verdict) (ss : List ℕ) (p : Progress) → fate seq ≡ Unjudged → p ≡ Due → ProgressIs fate ss p → ProgressIs (judged fate seq (fate_for v)) ss p
progress-due fate seq v ss Due o e h = lost-stays fate seq (fate_for v) ss o h
progress-due fate seq v ss (Carried q) o e h = cc
progress-due fate seq v ss Done o e h = cc

-- what the progress says
pub carried-none : (fate : ℕ → Fate) (ss : List ℕ) (q : ℕ) → ProgressIs fate ss (Carried q) → (any_received fate ss ≡ false) × (all_lost fate ss ≡ false)
carried-none fate [] q h = absurd h
carried-none fate (s ∷ ss) q h = let one : fate s ≡ Unjudged = h.1 in rw one (lost-none fate ss h.2, refl)

pub done-none : (fate : ℕ → Fate) (ss : List ℕ) → any_received fate ss ≡ true → all_lost fate ss ≡ false
done-none fate ss h = go (all_lost fate ss) (lost-none fate ss)
  where
    go : (b : Bool) → (b ≡ true → any_received fate ss ≡ false) → b ≡ false
    go false k = refl
    go true k = let never : any_received fate ss ≡ false = k refl in absurd cc

pub done-is : (fate : ℕ → Fate) (ss : List ℕ) → ProgressIs fate ss Done → any_received fate ss ≡ true
done-is fate [] h = h
done-is fate (s ∷ ss) h = h

pub due-is : (fate : ℕ → Fate) (ss : List ℕ) → ProgressIs fate ss Due → all_lost fate ss ≡ true
due-is fate [] h = h
due-is fate (s ∷ ss) h = h

pub due-test : (fate : ℕ → Fate) (ss : List ℕ) (p : Progress) → ProgressIs fate ss p → all_lost fate ss ≡ progress_is_due p
due-test fate ss Due h = due-is fate ss h
due-test fate ss (Carried q) h = (carried-none fate ss q h).1
due-test fate ss Done h = done-none fate ss (done-is fate ss h)

pub done-test : (fate : ℕ → Fate) (ss : List ℕ) (p : Progress) → ProgressIs fate ss p → progress_is_done p ≡ any_received fate ss
done-test fate ss Due h = sym (lost-none fate ss (due-is fate ss h))
done-test fate ss (Carried q) h = sym (carried-none fate ss q h).0
done-test fate ss Done h = sym (done-is fate ss h)
