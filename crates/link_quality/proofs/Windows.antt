-- A window of verdicts that slides: what it has and what fell out of it are as many losses as all of it.
use Rattle.std.proofs.Common.{ℕ, zero, suc, ◌+◌, ◌-◌, ◌≡◌, ◌≤◌, List, [], ◌∷◌, length, take, slice_get, refl, arith}
use Rattle.std.proofs.lemmas.List.{length-take}
use Rattle.tn_types.specs.declared.choices.Verdict.{Verdict}
use Rattle.tn_types.specs.declared.choices.Verdict.TheVariants.{Received, Lost}
use Rattle.link_quality.specs.Packets.{lost_in}
use Rattle.link_quality.specs.Window.{loss_of, losses_of_option, IsCounted}

one_more : (verdict : Verdict) (verdicts : List Verdict) → lost_in (verdict ∷ verdicts) ≡ loss_of verdict + lost_in verdicts
one_more Received verdicts = omega arith
one_more Lost verdicts = omega arith

at_most_all : (verdicts : List Verdict) → lost_in verdicts ≤ length verdicts
at_most_all [] = omega arith
at_most_all (Received ∷ verdicts) = let ih = at_most_all verdicts in omega (arith, ih)
at_most_all (Lost ∷ verdicts) = let ih = at_most_all verdicts in omega (arith, ih)

fell_out : (c : ℕ) (xs : List Verdict) → length xs ≤ suc c → lost_in (take c xs) + losses_of_option (slice_get xs c) ≡ lost_in xs
fell_out zero [] h = refl
fell_out (suc c) [] h = refl
fell_out zero (x ∷ []) h = let e = one_more x [] in grind (arith, e)
fell_out zero (x ∷ y ∷ xs) h = grind (arith, h)
fell_out (suc c) (x ∷ xs) h =
    let few : length xs ≤ suc c = omega (arith, h) in
    let ih = fell_out c xs few in
    let e = one_more x xs in
    let t = one_more x (take c xs) in
    grind (arith, ih, e, t)

-- ---- a step of the window

pub few_lost : (xs : List Verdict) (capacity lost : ℕ) → IsCounted xs capacity lost → lost ≤ 64
few_lost xs capacity lost h =
    let a = h.count in
    let b = h.few in
    let m = at_most_all xs in
    omega (arith, a, b, m)

all_lost : (verdict : Verdict) (xs : List Verdict) (capacity lost : ℕ) → IsCounted xs capacity lost
    → lost_in (take capacity (verdict ∷ xs)) + losses_of_option (slice_get (verdict ∷ xs) capacity) ≡ lost + loss_of verdict
all_lost verdict xs capacity lost h =
    let p = h.places in
    let f = h.few in
    let room : length (verdict ∷ xs) ≤ suc capacity = omega (arith, p, f) in
    let all = fell_out capacity (verdict ∷ xs) room in
    let e = one_more verdict xs in
    let n = h.count in
    grind (arith, all, e, n)

pub was_counted : (verdict : Verdict) (xs : List Verdict) (capacity lost : ℕ) → IsCounted xs capacity lost
    → losses_of_option (slice_get (verdict ∷ xs) capacity) ≤ lost + loss_of verdict
was_counted verdict xs capacity lost h = let e = all_lost verdict xs capacity lost h in omega (arith, e)

pub slid : (verdict : Verdict) (xs : List Verdict) (capacity lost : ℕ) → IsCounted xs capacity lost
    → IsCounted (take capacity (verdict ∷ xs)) capacity (lost + loss_of verdict - losses_of_option (slice_get (verdict ∷ xs) capacity))
slid verdict xs capacity lost h =
    let e = all_lost verdict xs capacity lost h in
    let p = h.places in
    record {
      places = h.places;
      few = let t = length-take capacity (verdict ∷ xs) in omega (arith, p, t);
      count = omega (arith, e);
    }
