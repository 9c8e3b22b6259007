-- Verdicts in rising order: those that notices say are those that their packet brought.
use Rattle.std.proofs.Common.{◌≡◌, ℕ, zero, suc, ◌+◌, ◌-◌, ◌<◌, ◌≤◌, List, ◌∷◌, Some, None, refl, sym, ◌∙◌, ap, subst, arith, length}
use Rattle.std.specs.Prelude.{slice_get}
use Rattle.std.specs.Int.{bit_at}
use Rattle.tn_types.specs.declared.choices.Verdict.{Verdict}
use Rattle.notify_window.specs.declared.Notices.{Notices}
use Rattle.notify_window.specs.Log.{Fate, fate_of_bit}
use Rattle.stream_manager.specs.End.{Seen, EndEvent, Took, fates, judged_at}
use Rattle.stream_manager.specs.Settling.{Judges, Names, verdict_of}
use Rattle.stream_manager.specs.Verdicts.{verdicts_from, last_verdicts, noticed}

-- packet s with a verdict, and with that of a fate
abbrev pub pair : ℕ → Verdict → ℕ × Verdict
pair s v = (s, v)

abbrev told : ℕ → Fate → ℕ × Verdict
told s fate = pair s (verdict_of fate)

pub same-verdicts : (f g : ℕ → Fate) (first count : ℕ) → ((s : ℕ) → first ≤ s → s < first + count → f s ≡ g s) → verdicts_from f first count ≡ verdicts_from g first count
same-verdicts f g first zero same = refl
same-verdicts f g first (suc count) same =
    ap (λ (x : Fate). told first x ∷ verdicts_from f (first + 1) count) (same first (omega arith) (omega arith))
    ∙ ap (λ (l : List (ℕ × Verdict)). told first (g first) ∷ l) (same-verdicts f g (first + 1) count (λ s low high. same s (omega (arith, low)) (omega (arith, high))))

-- those of the packet that brought them
pub noticed-last : (n : Notices) (p : Seen) (log : List EndEvent) → Judges n (fates log) (fates (Took p ∷ log)) → Names n (judged_at log) (judged_at (Took p ∷ log)) → noticed n ≡ last_verdicts (Took p ∷ log)
noticed-last n p log j names =
    same-verdicts (λ s. fate_of_bit (bit_at n.bits (s - n.first))) (fates (Took p ∷ log)) n.first n.count
    (λ s low high. let there : n.first + (s - n.first) ≡ s = omega (arith, low) in
    sym (subst (λ (x : ℕ). fates (Took p ∷ log) x ≡ fate_of_bit (bit_at n.bits (s - n.first))) there (j.verdicts (s - n.first) (omega (arith, low, high)))))
    ∙ ap (λ (a : ℕ). verdicts_from (fates (Took p ∷ log)) a n.count) names.first
    ∙ ap (λ (k : ℕ). verdicts_from (fates (Took p ∷ log)) (judged_at log + 1) k) names.count

length-verdicts : (f : ℕ → Fate) (first count : ℕ) → length (verdicts_from f first count) ≡ count
length-verdicts f first zero = refl
length-verdicts f first (suc count) = let rest = length-verdicts f (first + 1) count in grind (arith, rest)

get-past : (f : ℕ → Fate) (first count place : ℕ) → count ≤ place → None ≡ slice_get (verdicts_from f first count) place
get-past f first zero place l = refl
get-past f first (suc count) zero l = absurd (omega (arith, l))
get-past f first (suc count) (suc place) l = get-past f (first + 1) count place (omega (arith, l))

get-there : (f : ℕ → Fate) (first count place : ℕ) → place < count → Some (told (first + place) (f (first + place))) ≡ slice_get (verdicts_from f first count) place
get-there f first zero place l = absurd (omega (arith, l))
get-there f first (suc count) zero l = let e : first + 0 ≡ first = omega arith in rw e refl
get-there f first (suc count) (suc place) l = let e : first + suc place ≡ first + 1 + place = omega arith in rw e (get-there f (first + 1) count place (omega (arith, l)))

-- a list of notices by places
pub length-noticed : (n : Notices) → n.count ≡ length (noticed n)
length-noticed n = sym (length-verdicts (λ s. fate_of_bit (bit_at n.bits (s - n.first))) n.first n.count)

pub noticed-past : (n : Notices) (place : ℕ) → n.count ≤ place → None ≡ slice_get (noticed n) place
noticed-past n place l = get-past (λ s. fate_of_bit (bit_at n.bits (s - n.first))) n.first n.count place l

pub noticed-there : (n : Notices) (place : ℕ) (v : Verdict) → place < n.count → v ≡ verdict_of (fate_of_bit (bit_at n.bits place)) → Some (pair (n.first + place) v) ≡ slice_get (noticed n) place
noticed-there n place v l is =
    let at : place ≡ n.first + place - n.first = omega arith in
    ap (λ (w : Verdict). Some (pair (n.first + place) w)) (is ∙ ap (λ (i : ℕ). verdict_of (fate_of_bit (bit_at n.bits i))) at)
    ∙ get-there (λ s. fate_of_bit (bit_at n.bits (s - n.first))) n.first n.count place l
