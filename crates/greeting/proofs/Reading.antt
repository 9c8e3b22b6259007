-- What is written is read again.
use Rattle.std.proofs.Common.{◌≡◌, ◌∙◌, ℕ, ◌+◌, ◌<◌, ◌≤◌, ◌^◌, ◌==◌, ◌&&◌, ◌||◌, not, nat_le, nat_lt, Bool, true, false, List, [], ◌∷◌, ◌++◌, length, take, drop, sym, ap, subst, refl, arith, Some, None}
use Rattle.std.specs.Prelude.{slice_index, if◌then◌else◌}
use Rattle.std.specs.Int.{w64, to_le_bytes, from_le_bytes}
use Rattle.std.specs.Str.{bytes_eq}
use Rattle.std.proofs.lemmas.Bool.{le-leb, le-ltb}
use Rattle.std.proofs.lemmas.List.{take_at, drop_at, append_assoc, append-nil, length-append}
use Rattle.std.proofs.lemmas.Nat.{from_le_bytes-to_le_bytes_8}
use Rattle.std.proofs.lemmas.Slice.Eq.{bytes_eq-Decides}
use Rattle.greeting.specs.declared.words.Address.{Address}
use Rattle.greeting.specs.declared.words.Sixteen.{Sixteen}
use Rattle.greeting.specs.declared.datagrams.Form.{Form}
use Rattle.greeting.specs.declared.datagrams.Form.TheVariants.{Hello, OtherHello, Challenge, Answer, Nothing}
use Rattle.greeting.specs.declared.datagrams.Reason.TheVariants.{OtherVersion, OtherProtocol, Full, TokenRefused}
use Rattle.greeting.specs.declared.datagrams.TheConstants.{HELLO, CHALLENGE, ANSWER, GREETING_VERSION}
use Rattle.greeting.specs.declared.door.Heard.{Heard}
use Rattle.greeting.specs.declared.door.Heard.TheVariants.{Dropped, Challenged, Refused, Asks, Again}
use Rattle.greeting.specs.declared.knock.Knock.{Knock}
use Rattle.greeting.specs.declared.knock.Reached.{Reached}
use Rattle.greeting.specs.declared.knock.Reached.TheVariants.{Asking, Answering}
use Rattle.greeting.specs.Words.{is_equal, bytes_of, word_at, sixteen_at, number_of}
use Rattle.greeting.specs.Datagrams.{form, form_by, begun, hello, challenge, answer, nonce_in, number_in, protocol_in}
use Rattle.greeting.specs.Door.{DoorState, is_right_number, IsRight, Hears}
use Rattle.greeting.specs.Knock.{moved, heard_by}
use Rattle.greeting.specs.Laws.{IsSixteen}
use Rattle.greeting.proofs.Forms.{length-bytes_of, length-begun, length-challenge}
use Rattle.greeting.proofs.Passings.{true_left, both, equal_itself}

-- ---- numbers

read_word : (front rest : List ℕ) (n i : ℕ) → length front ≡ i → n < 2 ^ 64 → word_at i (front ++ (to_le_bytes w64 n ++ rest)) ≡ n
unfolding word_at
read_word front rest n i long small =
    ap (λ (l : List ℕ). from_le_bytes w64 (take 8 l)) (drop_at front (to_le_bytes w64 n ++ rest) i long)
    ∙ ap (λ (l : List ℕ). from_le_bytes w64 l) (take_at (to_le_bytes w64 n) rest 8 refl) ∙ from_le_bytes-to_le_bytes_8 n small

length-word : (n : ℕ) → length (to_le_bytes w64 n) ≡ 8
length-word n = refl

read_sixteen : (front rest : List ℕ) (m : Sixteen) (i : ℕ) → length front ≡ i → IsSixteen m → sixteen_at i (front ++ (bytes_of m ++ rest)) ≡ m
unfolding bytes_of
read_sixteen front rest m i long is =
    let low : word_at i (front ++ ((to_le_bytes w64 m.low ++ to_le_bytes w64 m.high) ++ rest)) ≡ m.low =
    ap (λ (l : List ℕ). word_at i (front ++ l)) (append_assoc (to_le_bytes w64 m.low) (to_le_bytes w64 m.high) rest)
    ∙ read_word front (to_le_bytes w64 m.high ++ rest) m.low i long is.low in
    let behind : length (front ++ to_le_bytes w64 m.low) ≡ i + 8 =
    omega (arith, length-append front (to_le_bytes w64 m.low), length-word m.low, long) in
    let high : word_at (i + 8) (front ++ ((to_le_bytes w64 m.low ++ to_le_bytes w64 m.high) ++ rest)) ≡ m.high =
    ap (λ (l : List ℕ). word_at (i + 8) (front ++ l)) (append_assoc (to_le_bytes w64 m.low) (to_le_bytes w64 m.high) rest)
    ∙ ap (λ (l : List ℕ). word_at (i + 8) l) (sym (append_assoc front (to_le_bytes w64 m.low) (to_le_bytes w64 m.high ++ rest)))
    ∙ read_word (front ++ to_le_bytes w64 m.low) rest m.high (i + 8) behind is.high in
    ap (λ (x : ℕ). record { low = x; high = word_at (i + 8) (front ++ ((to_le_bytes w64 m.low ++ to_le_bytes w64 m.high) ++ rest)) }) low
    ∙ ap (λ (x : ℕ). record { low = m.low; high = x }) high

-- the nonce, whatever stands behind it
read_nonce : (kind : ℕ) (nonce : Sixteen) (rest : List ℕ) → IsSixteen nonce → nonce_in (begun kind nonce ++ rest) ≡ nonce
read_nonce kind nonce rest is =
    ap (λ (l : List ℕ). nonce_in l) (append_assoc (kind ∷ GREETING_VERSION ∷ []) (bytes_of nonce) rest)
    ∙ read_sixteen (kind ∷ GREETING_VERSION ∷ []) rest nonce 2 refl is

read_number : (kind : ℕ) (nonce number : Sixteen) (rest : List ℕ) → IsSixteen number → number_in (begun kind nonce ++ (bytes_of number ++ rest)) ≡ number
read_number kind nonce number rest is = read_sixteen (begun kind nonce) rest number 18 (length-begun kind nonce) is

-- ---- forms

by_form : (b : Bool) (kind count : ℕ) → b ≡ false → (if b then Nothing else form_by kind 1 count) ≡ form_by kind 1 count
by_form true kind count e = cc
by_form false kind count e = refl

form_is : (kind : ℕ) (nonce : Sixteen) (rest : List ℕ) (count : ℕ) → length (begun kind nonce ++ rest) ≡ count → 2 ≤ count
    → form (begun kind nonce ++ rest) ≡ form_by kind 1 count
unfolding form bytes_of
form_is kind nonce rest count is enough =
    let whole = begun kind nonce ++ rest in
    by_form (nat_lt (length whole) 2) kind (length whole) (le-ltb (length whole) 2 (omega (arith, is, enough)))
    ∙ ap (λ (n : ℕ). form_by kind 1 n) is

answer_form : (count : ℕ) → 34 ≤ count → count ≤ 290 → form_by ANSWER 1 count ≡ Answer
answer_form count low high = rw (le-leb 34 count low, le-leb count 290 high) refl

-- ---- the greeting

-- what is done with a hello of the door's protocol
only : (d : DoorState) (a : Address) (bytes : List ℕ) (heard : Heard) → form bytes ≡ Hello → bytes_eq (protocol_in bytes) d.protocol ≡ true
    → Hears d a bytes heard → heard ≡ Challenged
only d a bytes Challenged is own h = refl
only d a bytes (Refused OtherVersion) is own h = cc
only d a bytes (Refused OtherProtocol) is own h = let other = h.1 in cc
only d a bytes (Refused Full) is own h = let answer = h.0.0 in cc
only d a bytes (Refused TokenRefused) is own h = absurd h.1
only d a bytes Asks is own h = let answer = h.0.0 in cc
only d a bytes (Again client) is own h = let answer = h.0.0 in cc
only d a bytes Dropped is own h = absurd (h.0 is)

pub hello_challenged : (d : DoorState) (a : Address) (nonce : Sixteen) (heard : Heard) → length d.protocol ≡ 32
    → Hears d a (hello nonce d.protocol) heard → heard ≡ Challenged
hello_challenged d a nonce heard long h =
    let bytes = hello nonce d.protocol in
    let whole : length bytes ≡ 50 = omega (arith, length-append (begun HELLO nonce) d.protocol, length-begun HELLO nonce, long) in
    let is : form bytes ≡ Hello = form_is HELLO nonce d.protocol 50 whole (omega arith) in
    let own : bytes_eq (protocol_in bytes) d.protocol ≡ true =
    ap (λ (l : List ℕ). bytes_eq l d.protocol) (drop_at (begun HELLO nonce) d.protocol 18 (length-begun HELLO nonce))
    ∙ (bytes_eq-Decides d.protocol d.protocol).1 refl in
    only d a bytes heard is own h

pub challenge_taken : (k : Knock) (number : Sixteen) → IsSixteen k.nonce → IsSixteen number → k.reached ≡ Asking
    → heard_by k (challenge k.nonce number) ≡ Answering number
challenge_taken k number nonce_is number_is asking =
    let bytes = challenge k.nonce number in
    let is : form bytes ≡ Challenge = form_is CHALLENGE k.nonce (bytes_of number) 34 (length-challenge k.nonce number) (omega arith) in
    let own : is_equal (nonce_in bytes) k.nonce ≡ true =
    ap (λ (n : Sixteen). is_equal n k.nonce) (read_nonce CHALLENGE k.nonce (bytes_of number) nonce_is) ∙ equal_itself k.nonce in
    let found : number_in bytes ≡ number =
    ap (λ (l : List ℕ). number_in (begun CHALLENGE k.nonce ++ l)) (sym (append-nil (bytes_of number)))
    ∙ read_number CHALLENGE k.nonce number [] number_is in
    ap (λ (r : Reached). moved r (form bytes) (is_equal (nonce_in bytes) k.nonce) bytes) asking
    ∙ ap (λ (f : Form). moved Asking f (is_equal (nonce_in bytes) k.nonce) bytes) is
    ∙ ap (λ (b : Bool). moved Asking Challenge b bytes) own ∙ ap (λ (n : Sixteen). Answering n) found

pub answer_right : (d : DoorState) (a : Address) (nonce number : Sixteen) (token : List ℕ) → IsSixteen nonce → IsSixteen number
    → number ≡ number_of d.secret a nonce → length token ≤ 256 → IsRight d.secret d.before a (answer nonce number token)
answer_right d a nonce number token nonce_is number_is own few =
    let rest = bytes_of number ++ token in
    let bytes = begun ANSWER nonce ++ rest in
    let same : answer nonce number token ≡ bytes = append_assoc (begun ANSWER nonce) (bytes_of number) token in
    let whole : length bytes ≡ 34 + length token =
    omega (arith, length-append (begun ANSWER nonce) rest, length-append (bytes_of number) token, length-begun ANSWER nonce, length-bytes_of number) in
    let is : form bytes ≡ Answer =
    form_is ANSWER nonce rest (34 + length token) whole (omega arith) ∙ answer_form (34 + length token) (omega arith) (omega (arith, few)) in
    let equal : is_equal (number_in bytes) (number_of d.secret a (nonce_in bytes)) ≡ true =
    ap (λ (n : Sixteen). is_equal n (number_of d.secret a (nonce_in bytes))) (read_number ANSWER nonce number token number_is ∙ own)
    ∙ ap (λ (n : Sixteen). is_equal (number_of d.secret a nonce) (number_of d.secret a n)) (read_nonce ANSWER nonce rest nonce_is)
    ∙ equal_itself (number_of d.secret a nonce) in
    let right : IsRight d.secret d.before a bytes = (is, true_left _ _ equal) in
    subst (λ (l : List ℕ). IsRight d.secret d.before a l) (sym same) right
