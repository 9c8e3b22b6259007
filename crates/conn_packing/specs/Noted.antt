-- Reads are noted one behind another. All of them are where there is room for all; how much room there is, noting doesn't change.
use Rattle.std.specs.Prelude.{◌≡◌, ℕ, ◌≤◌, List, [], ◌++◌, length}
use Rattle.std.proofs.Common.{◌∙◌, sym, ap, subst, append_assoc, append-nil, length-append}
use Rattle.std.proofs.Math.Nat.{le_trans, le-add_right}
use Rattle.tn_types.specs.declared.choices.Read.{Read}

-- where there is room for all of them, these reads stand behind those that were noted before
abbrev pub AreNoted : ℕ → List Read → List Read → List Read → Type 0
AreNoted room noted reads noted' = length (noted ++ reads) ≤ room → noted' ≡ noted ++ reads

-- ---- none, and more

pub noted_none : (room : ℕ) (noted : List Read) → AreNoted room noted [] noted
noted_none room noted fits = sym (append-nil noted)

pub noted_more : (room room' : ℕ) (one two three first later : List Read) → room' ≡ room
    → AreNoted room one first two → AreNoted room' two later three → AreNoted room one (first ++ later) three
noted_more room room' one two three first later same p q fits =
    let whole : length ((one ++ first) ++ later) ≤ room = subst (λ (l : List Read). length l ≤ room) (sym (append_assoc one first later)) fits in
    let before : length (one ++ first) ≤ length ((one ++ first) ++ later) =
    subst (λ n. length (one ++ first) ≤ n) (sym (length-append (one ++ first) later)) (le-add_right (length (one ++ first)) (length later)) in
    let at = p (le_trans before whole) in
    q (subst (λ n. length (two ++ later) ≤ n) (sym same) (subst (λ (l : List Read). length (l ++ later) ≤ room) (sym at) whole))
    ∙ ap (λ (l : List Read). l ++ later) at ∙ append_assoc one first later
