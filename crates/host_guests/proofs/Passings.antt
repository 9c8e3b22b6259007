-- What a log of passings keeps with one passing more: who answered did so for good, and nobody else is sent more than came.
use Rattle.std.proofs.Common.{◌≡◌, ◌∙◌, ℕ, ◌+◌, ◌≤◌, ◌==◌, ◌&&◌, Bool, true, false, List, ◌∷◌, length, Option, Some, None, ap, sym, subst, refl, arith, inl, inr}
use Rattle.std.proofs.lemmas.Bool.{eqb-true}
use Rattle.datagram_tags.specs.declared.sides.Side.{Side}
use Rattle.datagram_tags.proofs.Tags.{length-tagged}
use Rattle.greeting.specs.declared.words.Address.{Address}
use Rattle.greeting.specs.Words.{is_same}
use Rattle.greeting.proofs.Forms.{first_true, second_true}
use Rattle.host_guests.specs.Keys.{end_under, Carries, more_bytes}
use Rattle.host_guests.specs.Passing.{Passing, Came, Went, bytes_if, IsAnswer, HasAnswered, IsFair}

-- two addresses with the same numbers are one
same_address : (a b : Address) → is_same a b ≡ true → a ≡ b
same_address a b e =
    let two = first_true ((a.high == b.high) && (a.low == b.low)) (a.port == b.port) e in
    let high : a.high ≡ b.high = eqb-true _ _ (first_true (a.high == b.high) (a.low == b.low) two) in
    let low : a.low ≡ b.low = eqb-true _ _ (second_true (a.high == b.high) (a.low == b.low) two) in
    let port : a.port ≡ b.port = eqb-true _ _ (second_true ((a.high == b.high) && (a.low == b.low)) (a.port == b.port) e) in
    ap (λ (x : ℕ). record { high = x; low = a.low; port = a.port }) high
    ∙ ap (λ (x : ℕ). record { high = b.high; low = x; port = a.port }) low
    ∙ ap (λ (x : ℕ). record { high = b.high; low = b.low; port = x }) port

pub same_itself : (a : Address) → is_same a a ≡ true
same_itself a = grind arith

-- how long a datagram is
pub length_carried : (key : Option (List ℕ)) (side : Side) (number : ℕ) (datagram bytes : List ℕ) → Carries key side number datagram bytes
    → length datagram ≡ length bytes + more_bytes key
length_carried None side number datagram bytes is = let same = ap (λ (l : List ℕ). length l) is in omega (arith, same)
length_carried (Some key) side number datagram bytes is = ap (λ (l : List ℕ). length l) is ∙ length-tagged (end_under key) side number bytes

-- ---- how much went

pub fair_came : (key : Option (List ℕ)) (secret : List ℕ) (b : Address) (d : List ℕ) (log : List Passing) → IsFair key secret log
    → IsFair key secret (Came b d ∷ log)
fair_came key secret b d log fair a never = let before = fair a (λ h. never (inr h)) in omega (arith, before)

at_most : (v : Bool) (back d : List ℕ) → (v ≡ true → length back ≤ length d) → bytes_if v back ≤ bytes_if v d
at_most true back d fits = fits refl
at_most false back d fits = omega arith

-- what goes back to who does not answer is no longer than what came
pub fair_back : (key : Option (List ℕ)) (secret : List ℕ) (b : Address) (d back : List ℕ) (log : List Passing)
    → ((IsAnswer key secret b d → ⊥) → length back ≤ length d) → IsFair key secret log → IsFair key secret (Went b back ∷ Came b d ∷ log)
fair_back key secret b d back log fits fair a never =
    let before = fair a (λ h. never (inr h)) in
    let here = at_most (is_same a b) back d (λ e. fits (λ answer. never (inl (e, answer)))) in
    omega (arith, before, here)

-- what goes to one who answered goes to nobody else
nobody_else : (key : Option (List ℕ)) (secret : List ℕ) (a b : Address) (log : List Passing) (v : Bool) → is_same a b ≡ v
    → HasAnswered key secret b log → (HasAnswered key secret a log → ⊥) → v ≡ false
nobody_else key secret a b log false is known never = refl
nobody_else key secret a b log true is known never =
    absurd (never (subst (λ (x : Address). HasAnswered key secret x log) (sym (same_address a b is)) known))

pub fair_went : (key : Option (List ℕ)) (secret : List ℕ) (b : Address) (d : List ℕ) (log : List Passing) → HasAnswered key secret b log
    → IsFair key secret log → IsFair key secret (Went b d ∷ log)
fair_went key secret b d log known fair a never =
    let not = nobody_else key secret a b log (is_same a b) refl known never in
    let none : bytes_if (is_same a b) d ≡ 0 = ap (λ (v : Bool). bytes_if v d) not in
    let before = fair a never in
    omega (arith, none, before)
