-- What a log of passings keeps with one passing more.
use Rattle.std.proofs.Common.{◌≡◌, ◌∙◌, ℕ, ◌≤◌, ◌==◌, ◌&&◌, ◌||◌, Bool, true, false, List, [], ◌∷◌, length, Some, ap, refl, arith, inl, inr, ◌⊎◌}
use Rattle.std.proofs.lemmas.Bool.{eqb-true}
use Rattle.greeting.specs.declared.words.Address.{Address}
use Rattle.greeting.specs.declared.words.Sixteen.{Sixteen}
use Rattle.greeting.specs.declared.door.Guest.{Guest}
use Rattle.greeting.specs.Words.{is_same, is_equal}
use Rattle.greeting.specs.Datagrams.{nonce_in}
use Rattle.greeting.specs.Door.{is_guest}
use Rattle.greeting.specs.Passing.{Passing, Came, Given, Turned, Left, Renewed, bytes_if, came_from, went_to, is_right_after, has_answered, has_asked, IsFair}
use Rattle.greeting.proofs.Forms.{first_true, second_true}

false_left : (b c : Bool) → (b || c) ≡ false → b ≡ false
false_left true c e = e
false_left false c e = refl

false_right : (b c : Bool) → (b || c) ≡ false → c ≡ false
false_right true c e = cc
false_right false c e = e

pub true_right : (b c : Bool) → c ≡ true → (b || c) ≡ true
true_right true c e = refl
true_right false c e = e

pub true_left : (b c : Bool) → b ≡ true → (b || c) ≡ true
true_left true c e = refl
true_left false c e = cc

one_of : (b c : Bool) → (b || c) ≡ true → (b ≡ true) ⊎ (c ≡ true)
one_of true c e = inl refl
one_of false c e = inr e

pub both : (b c : Bool) → b ≡ true → c ≡ true → (b && c) ≡ true
both true c e f = f
both false c e f = cc

-- two addresses with the same numbers are one
same_address : (a b : Address) → is_same a b ≡ true → a ≡ b
same_address a b e =
    let two = first_true ((a.high == b.high) && (a.low == b.low)) (a.port == b.port) e in
    let high : a.high ≡ b.high = eqb-true _ _ (first_true (a.high == b.high) (a.low == b.low) two) in
    let low : a.low ≡ b.low = eqb-true _ _ (second_true (a.high == b.high) (a.low == b.low) two) in
    let port : a.port ≡ b.port = eqb-true _ _ (second_true ((a.high == b.high) && (a.low == b.low)) (a.port == b.port) e) in
    ap (λ (x : ℕ). record { high = x; low = a.low; port = a.port }) high
    ∙ ap (λ (x : ℕ). record { high = b.high; low = x; port = a.port }) low
    ∙ ap (λ (x : ℕ). record { high = b.high; low = b.low; port = x }) port

same_itself : (a : Address) → is_same a a ≡ true
same_itself a = grind arith

pub equal_itself : (n : Sixteen) → is_equal n n ≡ true
equal_itself n = grind arith

pub is_itself : (a : Address) (n : Sixteen) → is_guest a n (record { address = a; nonce = n }) ≡ true
is_itself a n = both (is_same a a) (is_equal n n) (same_itself a) (equal_itself n)

-- ---- who asked answered

pub asked_answered : (first : List ℕ) (g : Guest) (log : List Passing) → has_asked first g log ≡ true → has_answered first g.address log ≡ true
asked_answered first g [] e = e
asked_answered first g (Came b bytes reply ∷ log) e =
    let right = is_right_after first log b bytes in
    elim (one_of (is_guest b (nonce_in bytes) g && right) (has_asked first g log) e) [
      | inl h ↦
          let at = first_true (is_same g.address b) (is_equal g.nonce (nonce_in bytes)) (first_true (is_guest b (nonce_in bytes) g) right h) in
          true_left (is_same g.address b && right) (has_answered first g.address log)
          (both (is_same g.address b) right at (second_true (is_guest b (nonce_in bytes) g) right h))
      | inr h ↦ true_right (is_same g.address b && right) (has_answered first g.address log) (asked_answered first g log h)
    ]
asked_answered first g (Given h client reply ∷ log) e = asked_answered first g log e
asked_answered first g (Turned h reply ∷ log) e = asked_answered first g log e
asked_answered first g (Left client ∷ log) e = asked_answered first g log e
asked_answered first g (Renewed secret ∷ log) e = asked_answered first g log e

-- ---- bytes

at_most : (v r : Bool) (reply bytes : List ℕ) → (v && r) ≡ false → (r ≡ false → length reply ≤ length bytes) → bytes_if v reply ≤ bytes_if v bytes
at_most true r reply bytes e fits = fits e
at_most false r reply bytes e fits = omega arith

pub fair_came : (first : List ℕ) (b : Address) (bytes reply : List ℕ) (log : List Passing)
    → (is_right_after first log b bytes ≡ false → length reply ≤ length bytes) → IsFair first log → IsFair first (Came b bytes reply ∷ log)
fair_came first b bytes reply log fits fair a never =
    let right = is_right_after first log b bytes in
    let before = fair a (false_right (is_same a b && right) (has_answered first a log) never) in
    let here = at_most (is_same a b) right reply bytes (false_left (is_same a b && right) (has_answered first a log) never) fits in
    omega (arith, before, here)

-- what goes to one who answered goes to nobody else
nobody_else : (first : List ℕ) (a b : Address) (log : List Passing) (v : Bool) → is_same a b ≡ v → has_answered first b log ≡ true
    → has_answered first a log ≡ false → v ≡ false
nobody_else first a b log false is known never = refl
nobody_else first a b log true is known never = let one = same_address a b is in cc (ap (λ (x : Address). has_answered first x log) one)

no_bytes : (first : List ℕ) (a b : Address) (reply : List ℕ) (log : List Passing) → has_answered first b log ≡ true
    → has_answered first a log ≡ false → bytes_if (is_same a b) reply ≡ 0
no_bytes first a b reply log known never =
    ap (λ (v : Bool). bytes_if v reply) (nobody_else first a b log (is_same a b) refl known never)

pub fair_given : (first : List ℕ) (g : Guest) (client : ℕ) (reply : List ℕ) (log : List Passing) → has_asked first g log ≡ true
    → IsFair first log → IsFair first (Given g client reply ∷ log)
fair_given first g client reply log asked fair a never =
    let none = no_bytes first a g.address reply log (asked_answered first g log asked) never in
    let before = fair a never in
    omega (arith, none, before)

pub fair_turned : (first : List ℕ) (g : Guest) (reply : List ℕ) (log : List Passing) → has_asked first g log ≡ true → IsFair first log
    → IsFair first (Turned g reply ∷ log)
fair_turned first g reply log asked fair a never =
    let none = no_bytes first a g.address reply log (asked_answered first g log asked) never in
    let before = fair a never in
    omega (arith, none, before)
