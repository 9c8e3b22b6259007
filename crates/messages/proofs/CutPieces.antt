-- What is left of a message after its first piece, piece by piece; and how many pieces a parcel has.
use Rattle.std.proofs.Common.{◌≡◌, ℕ, zero, suc, ◌-◌, ◌*◌, ◌/◌, ◌<◌, ◌≤◌, true, false, List, [], ◌∷◌, ◌++◌, length, take, drop, refl, ◌∙◌, ap, arith, length-append, length-drop}
use Rattle.std.specs.Prelude.{nat_le}
use Rattle.std.proofs.lemmas.List.{take_all, nil_from_length, take-append-le, drop-append-le}
use Rattle.std.proofs.lemmas.Bool.Decides.{nat_tests}
use Rattle.messages.specs.declared.form.Form.TheVariants.{Middle, Last}
use Rattle.messages.specs.declared.form.ParcelKind.TheVariants.{Event, Message}
use Rattle.messages.specs.Forms.{form_byte}
use Rattle.messages.specs.Pieces.{rest_pieces, rest_of, first_piece, pieces_by}
use Rattle.messages.specs.InboxStands.{middle_pieces}

pub rest-more : (xs : List ℕ) → 23 < length xs → rest_of xs ≡ (form_byte Middle ∷ take 23 xs) ∷ rest_of (drop 23 xs)
unfolding rest_of
rest-more xs h =
    let e : (length xs - 1) / 23 ≡ suc ((length (drop 23 xs) - 1) / 23) = omega (arith, length-drop 23 xs) in
    rw e

pub rest-last : (xs : List ℕ) → length xs ≤ 23 → rest_of xs ≡ (form_byte Last ∷ xs) ∷ []
unfolding rest_of
rest-last xs h =
    let e : (length xs - 1) / 23 ≡ 0 = omega arith in
    rw e

length-pieces : (k : ℕ) (xs : List ℕ) → length (rest_pieces k xs) ≡ suc k
length-pieces zero xs = refl
length-pieces (suc k) xs = ap suc (length-pieces k (drop 23 xs))

pub length-rest : (xs : List ℕ) → length (rest_of xs) ≡ suc ((length xs - 1) / 23)
unfolding rest_of
length-rest xs = length-pieces _ xs

-- ---- an event; a message of more than 23 bytes, and others

pub event-pieces : (xs : List ℕ) → pieces_by Event xs ≡ (0 ∷ xs) ∷ []
unfolding pieces_by
event-pieces xs = refl

pub short-message : (xs : List ℕ) → length xs ≤ 23 → pieces_by Message xs ≡ (1 ∷ xs) ∷ []
unfolding pieces_by
short-message xs h = let t : nat_le (length xs) 23 ≡ true = grind (arith, nat_tests) in rw t

pub long-message : (xs : List ℕ) → 23 < length xs → pieces_by Message xs ≡ first_piece (length xs) xs ∷ rest_of (drop 21 xs)
unfolding pieces_by
long-message xs h = let t : nat_le (length xs) 23 ≡ false = grind (arith, nat_tests) in rw t

-- ---- whole pieces that came, and one more

pub middle-push : (k : ℕ) (xs ys : List ℕ) → length xs ≡ 23 * k → length ys ≡ 23 → middle_pieces (suc k) (xs ++ ys) ≡ middle_pieces k xs ++ (form_byte Middle ∷ ys) ∷ []
middle-push zero xs ys h l =
    let nil : xs ≡ [] = nil_from_length xs (omega (arith, h)) in
    let whole : take 23 ys ≡ ys = take_all 23 ys (omega arith) in
    rw (nil, whole)
middle-push (suc k) xs ys h l =
    let enough : 23 ≤ length xs = omega arith in
    let front : take 23 (xs ++ ys) ≡ take 23 xs = take-append-le 23 xs ys enough in
    let rest : drop 23 (xs ++ ys) ≡ drop 23 xs ++ ys = drop-append-le 23 xs ys enough in
    let more : length (drop 23 xs) ≡ 23 * k = omega (arith, length-drop 23 xs) in
    ap (λ (p : List ℕ). (form_byte Middle ∷ p) ∷ middle_pieces (suc k) (drop 23 (xs ++ ys))) front
    ∙ ap (λ (r : List ℕ). (form_byte Middle ∷ take 23 xs) ∷ middle_pieces (suc k) r) rest
    ∙ ap (λ (q : List (List ℕ)). (form_byte Middle ∷ take 23 xs) ∷ q) (middle-push k (drop 23 xs) ys more l)

-- ---- the last piece after them

pub rest-begun : (k : ℕ) (xs ys : List ℕ) → length xs ≡ 23 * k → 0 < length ys → length ys ≤ 23 → rest_of (xs ++ ys) ≡ middle_pieces k xs ++ (form_byte Last ∷ ys) ∷ []
rest-begun zero xs ys h some l =
    let nil : xs ≡ [] = nil_from_length xs (omega (arith, h)) in
    rw nil (rest-last ys l)
rest-begun (suc k) xs ys h some l =
    let enough : 23 ≤ length xs = omega arith in
    let front : take 23 (xs ++ ys) ≡ take 23 xs = take-append-le 23 xs ys enough in
    let rest : drop 23 (xs ++ ys) ≡ drop 23 xs ++ ys = drop-append-le 23 xs ys enough in
    let more : length (drop 23 xs) ≡ 23 * k = omega (arith, length-drop 23 xs) in
    rest-more (xs ++ ys) (omega (arith, length-append xs ys))
    ∙ ap (λ (p : List ℕ). (form_byte Middle ∷ p) ∷ rest_of (drop 23 (xs ++ ys))) front
    ∙ ap (λ (r : List ℕ). (form_byte Middle ∷ take 23 xs) ∷ rest_of r) rest
    ∙ ap (λ (q : List (List ℕ)). (form_byte Middle ∷ take 23 xs) ∷ q) (rest-begun k (drop 23 xs) ys more some l)
