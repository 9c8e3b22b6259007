-- How many bytes a datagram of each form has at least, and how many what is written has.
use Rattle.std.proofs.Common.{◌≡◌, ◌∙◌, ℕ, ◌+◌, ◌≤◌, ◌==◌, ◌&&◌, not, nat_le, if◌then◌else◌, Bool, true, false, List, [], ◌∷◌, ◌++◌, length, arith, refl, ap, subst, nat_lt}
use Rattle.std.proofs.lemmas.Bool.{eqb-true, leb-true}
use Rattle.greeting.specs.declared.datagrams.Form.{Form}
use Rattle.greeting.specs.declared.datagrams.Form.TheVariants.{Hello, OtherHello, Challenge, Answer, Welcome, Refusal, Nothing}
use Rattle.std.specs.Prelude.{slice_index}
use Rattle.std.proofs.lemmas.List.{length-append}
use Rattle.greeting.specs.declared.words.Sixteen.{Sixteen}
use Rattle.greeting.specs.declared.datagrams.Reason.{Reason}
use Rattle.greeting.specs.declared.datagrams.TheConstants.{CHALLENGE, REFUSAL, GREETING_VERSION}
use Rattle.greeting.specs.Words.{bytes_of}
use Rattle.greeting.specs.Datagrams.{form, form_by, least_bytes, begun, challenge, refusal, reason_byte}

either : (b : Bool) (x y : Form) (count : ℕ) → (b ≡ true → least_bytes x ≤ count) → least_bytes y ≤ count → least_bytes (if b then x else y) ≤ count
either true x y count first second = first refl
either false x y count first second = second

pub first_true : (b c : Bool) → (b && c) ≡ true → b ≡ true
first_true true c e = refl
first_true false c e = e

pub second_true : (b c : Bool) → (b && c) ≡ true → c ≡ true
second_true true c e = e
second_true false c e = cc

-- a test of a kind and of the exact length
exactly : (b : Bool) (count n : ℕ) → (b && (count == n)) ≡ true → n ≤ count
exactly b count n e = let is = eqb-true count n (second_true b (count == n) e) in omega (arith, is)

-- a test of a kind, of a least length, and another one
at_least : (b c : Bool) (count n : ℕ) → (b && nat_le n count && c) ≡ true → n ≤ count
at_least b c count n e = leb-true n count (second_true b (nat_le n count) (first_true (b && nat_le n count) c e))

pub long_enough : (kind version count : ℕ) → least_bytes (form_by kind version count) ≤ count
long_enough kind version count =
    either _ _ _ count (at_least (kind == 3) (not (version == 1)) count 50)
    (either (not (version == 1)) Nothing _ count (λ e. omega arith)
    (either _ _ _ count (exactly (kind == 3) count 50)
    (either _ _ _ count (exactly (kind == 7) count 34)
    (either _ _ _ count (at_least (kind == 11) (nat_le count 290) count 34)
    (either _ _ _ count (exactly (kind == 15) count 54)
    (either _ _ _ count (exactly (kind == 19) count 19)
    (omega arith)))))))

long_form : (b : Bool) (kind version count : ℕ) → least_bytes (if b then Nothing else form_by kind version count) ≤ count
long_form true kind version count = omega arith
long_form false kind version count = long_enough kind version count

pub long : (bytes : List ℕ) (f : Form) → form bytes ≡ f → least_bytes f ≤ length bytes
unfolding form
long bytes f is = subst (λ (g : Form). least_bytes g ≤ length bytes) is (long_form (nat_lt (length bytes) 2) (slice_index bytes 0) (slice_index bytes 1) (length bytes))

-- ---- what is written

pub length-bytes_of : (n : Sixteen) → length (bytes_of n) ≡ 16
unfolding bytes_of
length-bytes_of n = refl

pub length-begun : (kind : ℕ) (nonce : Sixteen) → length (begun kind nonce) ≡ 18
length-begun kind nonce = let n = length-bytes_of nonce in omega (arith, length-append (kind ∷ GREETING_VERSION ∷ []) (bytes_of nonce), n)

pub length-challenge : (nonce number : Sixteen) → length (challenge nonce number) ≡ 34
length-challenge nonce number =
    omega (arith, length-append (begun CHALLENGE nonce) (bytes_of number), length-begun CHALLENGE nonce, length-bytes_of number)

pub length-refusal : (nonce : Sixteen) (reason : Reason) → length (refusal nonce reason) ≡ 19
length-refusal nonce reason =
    omega (arith, length-append (begun REFUSAL nonce) (reason_byte reason ∷ []), length-begun REFUSAL nonce)
