-- A move is its number, and a number of ten bits its move.
use Rattle.std.proofs.Common.{◌≡◌, ℕ, zero, suc, ◌+◌, ◌*◌, ◌/◌, ◌%◌, ◌<◌, Bool, true, false, refl, ap, subst, ◌∙◌, arith}
use Rattle.std.specs.Prelude.{ℤ, pos, negsuc, ◌+ℤ◌, ◌≤ℤ◌, ◌==◌}
use Rattle.std.proofs.lemmas.Int.{ints}
use denote.Struct.Props.{props}
use Rattle.tn_types.specs.Steps.{is_step}
use Rattle.tn_types.specs.declared.moves.Move.{Move}
use Rattle.tn_types.specs.declared.moves.MoveBits.{MoveBits}
use Rattle.bit_stream.specs.WorldMoves.{raised, step_of, flag_of, number_of, bits_of, move_of}
use Rattle.tn_types.proofs.StepRanges.{step_in_range, step_of_four_bits}

-- ---- steps

pub step_range : (z : ℤ) → is_step z ≡ true → (negsuc 7 ≤ℤ z) × (z ≤ℤ pos 7)
step_range z h = step_in_range z h

raised_few : (z : ℤ) → z ≤ℤ pos 7 → raised z < 16
raised_few (pos n) h = omega (arith, ints)
raised_few (negsuc n) h = omega arith

pub raised_below : (z : ℤ) → is_step z ≡ true → raised z < 16
raised_below z h = raised_few z (step_in_range z h).1

within : (z : ℤ) → negsuc 7 ≤ℤ z → z ≤ℤ pos 7 → step_of (raised z) ≡ z
within (pos n) low high = omega (arith, ints)
within (negsuc n) low high = omega (arith, ints)

pub step_of-raised : (z : ℤ) → is_step z ≡ true → step_of (raised z) ≡ z
step_of-raised z h = let range = step_in_range z h in within z range.0 range.1

raised_is : (z : ℤ) → negsuc 7 ≤ℤ z → pos (raised z) ≡ z +ℤ pos 8
raised_is (pos n) low = refl
raised_is (negsuc n) low = omega (arith, ints)

pub raised-step_of : (n : ℕ) → n < 16 → raised (step_of n) ≡ n
raised-step_of n h = let sum = raised_is (step_of n) (step_in_range (step_of n) (step_of_four_bits n)).0 in omega (arith, ints, sum)

-- ---- flags

pub flag_below : (b : Bool) → flag_of b < 2
flag_below true = omega arith
flag_below false = omega arith

pub flag_is : (b : Bool) → (flag_of b == 1) ≡ b
flag_is true = refl
flag_is false = refl

pub flag_of-is : (n : ℕ) → n < 2 → flag_of (n == 1) ≡ n
flag_of-is zero h = refl
flag_of-is (suc zero) h = refl
flag_of-is (suc (suc n)) h = absurd (omega arith)

-- ---- moves of the same steps and flags are the same

abbrev InRange : ℤ → Type 0
InRange z = is_step z ≡ true

same_range : (z : ℤ) (p q : InRange z) → p ≡ q
same_range z = hlevel props

abbrev made_of : (dx dy : ℤ) (fire act : Bool) → InRange dx → InRange dy → Move
made_of dx dy fire act p q = record { dx = dx; dy = dy; fire = fire; act = act; dx_range = p; dy_range = q }

same_dx : (x x' y : ℤ) (fire act : Bool) (p : InRange x) (p' : InRange x') (q : InRange y) → x ≡ x' → made_of x y fire act p q ≡ made_of x' y fire act p' q
same_dx x x' y fire act p p' q e =
    let P : ℤ → Type 0 = λ z. (r : InRange z) → made_of x y fire act p q ≡ made_of z y fire act r q in
    subst P e (λ r. ap (λ (s : InRange x). made_of x y fire act s q) (same_range x p r)) p'

same_dy : (x y y' : ℤ) (fire act : Bool) (p : InRange x) (q : InRange y) (q' : InRange y') → y ≡ y' → made_of x y fire act p q ≡ made_of x y' fire act p q'
same_dy x y y' fire act p q q' e =
    let P : ℤ → Type 0 = λ z. (r : InRange z) → made_of x y fire act p q ≡ made_of x z fire act p r in
    subst P e (λ r. ap (λ (s : InRange y). made_of x y fire act p s) (same_range y q r)) q'

pub same_move : (m n : Move) → m.dx ≡ n.dx → m.dy ≡ n.dy → m.fire ≡ n.fire → m.act ≡ n.act → m ≡ n
same_move m n dx dy fire act =
    same_dx m.dx n.dx m.dy m.fire m.act m.dx_range n.dx_range m.dy_range dx
    ∙ same_dy n.dx m.dy n.dy m.fire m.act n.dx_range m.dy_range n.dy_range dy
    ∙ ap (λ (b : Bool). made_of n.dx n.dy b m.act n.dx_range n.dy_range) fire
    ∙ ap (λ (b : Bool). made_of n.dx n.dy n.fire b n.dx_range n.dy_range) act

-- ---- there and back

bits_below : (dx dy fire act : ℕ) → dx < 16 → dy < 16 → fire < 2 → act < 2 → dx + 16 * (dy + 16 * (fire + 2 * act)) < 1024
bits_below dx dy fire act x y f a = omega arith

pub few_bits : (m : Move) → number_of m < 1024
few_bits m = bits_below (raised m.dx) (raised m.dy) (flag_of m.fire) (flag_of m.act) (raised_below m.dx m.dx_range) (raised_below m.dy m.dy_range) (flag_below m.fire) (flag_below m.act)

pub back : (m : Move) → move_of (bits_of m) ≡ m
back m =
    let n = number_of m in
    let x = raised_below m.dx m.dx_range in
    let y = raised_below m.dy m.dy_range in
    let f = flag_below m.fire in
    let a = flag_below m.act in
    let dx : n % 16 ≡ raised m.dx = omega (arith, x) in
    let dy : n / 16 % 16 ≡ raised m.dy = omega (arith, x, y) in
    let fire : n / 16 / 16 % 2 ≡ flag_of m.fire = omega (arith, x, y, f) in
    let act : n / 16 / 16 / 2 % 2 ≡ flag_of m.act = omega (arith, x, y, f, a) in
    same_move (move_of (bits_of m)) m
    (ap step_of dx ∙ step_of-raised m.dx m.dx_range)
    (ap step_of dy ∙ step_of-raised m.dy m.dy_range)
    (ap (λ k. k == 1) fire ∙ flag_is m.fire)
    (ap (λ k. k == 1) act ∙ flag_is m.act)

there_number : (n : ℕ) → n < 1024 → number_of (move_of (record { bits = n })) ≡ n
there_number n h =
    let dx : raised (step_of (n % 16)) ≡ n % 16 = raised-step_of (n % 16) (omega arith) in
    let dy : raised (step_of (n / 16 % 16)) ≡ n / 16 % 16 = raised-step_of (n / 16 % 16) (omega arith) in
    let fire : flag_of (n / 16 / 16 % 2 == 1) ≡ n / 16 / 16 % 2 = flag_of-is (n / 16 / 16 % 2) (omega arith) in
    let act : flag_of (n / 16 / 16 / 2 % 2 == 1) ≡ n / 16 / 16 / 2 % 2 = flag_of-is (n / 16 / 16 / 2 % 2) (omega arith) in
    omega (arith, h, dx, dy, fire, act)

pub there : (m : MoveBits) → m.bits < 1024 → bits_of (move_of m) ≡ m
there m h = ap (λ (n : ℕ). record { bits = n }) (there_number m.bits h)
