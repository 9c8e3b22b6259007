-- The datagrams of a greeting: what each is written as, and what the form of some bytes is. All begin with a kind, a version and the client's nonce.
use Rattle.std.specs.Prelude.{◌≡◌, refl, ◌==◌, ◌&&◌, not, nat_lt, nat_le, if◌then◌else◌, ◌≤◌, ℕ, Bool, true, false, List, [], ◌∷◌, ◌++◌, length, drop, take, slice_index, replicate, Option, Some, None}
use Rattle.std.specs.Int.{w32, to_le_bytes, from_le_bytes}
use Rattle.greeting.specs.declared.words.Sixteen.{Sixteen}
use Rattle.greeting.specs.declared.datagrams.Reason.{Reason}
use Rattle.greeting.specs.declared.datagrams.Reason.TheVariants.{OtherVersion, OtherProtocol, Full, TokenRefused}
use Rattle.greeting.specs.declared.datagrams.Form.{Form}
use Rattle.greeting.specs.declared.datagrams.Form.TheVariants.{Hello, OtherHello, Challenge, Answer, Welcome, Refusal, Nothing}
use Rattle.greeting.specs.declared.datagrams.TheConstants.{HELLO, CHALLENGE, ANSWER, WELCOME, REFUSAL, GREETING_VERSION, HELLO_BYTES, CHALLENGE_BYTES, ANSWER_BYTES, WELCOME_BYTES, REFUSAL_BYTES, MAX_GREETING_BYTES, TERMS_BYTES}
use Rattle.greeting.specs.Words.{bytes_of, sixteen_at}

-- ---- what is written

abbrev pub begun : ℕ → Sixteen → List ℕ
begun kind nonce = (kind ∷ GREETING_VERSION ∷ []) ++ bytes_of nonce

abbrev pub hello : Sixteen → List ℕ → List ℕ
hello nonce protocol = begun HELLO nonce ++ protocol

abbrev pub challenge : Sixteen → Sixteen → List ℕ
challenge nonce number = begun CHALLENGE nonce ++ bytes_of number

abbrev pub answer : Sixteen → Sixteen → List ℕ → List ℕ
answer nonce number token = begun ANSWER nonce ++ bytes_of number ++ token

abbrev pub welcome : Sixteen → ℕ → List ℕ → List ℕ
welcome nonce client terms = begun WELCOME nonce ++ to_le_bytes w32 client ++ terms

abbrev pub reason_byte : Reason → ℕ
reason_byte OtherVersion = 1
reason_byte OtherProtocol = 2
reason_byte Full = 3
reason_byte TokenRefused = 4

abbrev pub refusal : Sixteen → Reason → List ℕ
refusal nonce reason = begun REFUSAL nonce ++ (reason_byte reason ∷ [])

-- ---- what is read

-- by its kind, its version and its length
abbrev pub form_by : ℕ → ℕ → ℕ → Form
form_by kind version count =
    if (kind == HELLO) && nat_le HELLO_BYTES count && not (version == GREETING_VERSION) then OtherHello
    else if not (version == GREETING_VERSION) then Nothing
    else if (kind == HELLO) && (count == HELLO_BYTES) then Hello
    else if (kind == CHALLENGE) && (count == CHALLENGE_BYTES) then Challenge
    else if (kind == ANSWER) && nat_le ANSWER_BYTES count && nat_le count MAX_GREETING_BYTES then Answer
    else if (kind == WELCOME) && (count == WELCOME_BYTES) then Welcome
    else if (kind == REFUSAL) && (count == REFUSAL_BYTES) then Refusal
    else Nothing

unfoldable pub form : List ℕ → Form
form bytes = if nat_lt (length bytes) 2 then Nothing else form_by (slice_index bytes 0) (slice_index bytes 1) (length bytes)

abbrev pub is_answer : Form → Bool
is_answer Answer = true
is_answer other = false

-- the fewest bytes of a form
abbrev pub least_bytes : Form → ℕ
least_bytes Hello = HELLO_BYTES
least_bytes OtherHello = HELLO_BYTES
least_bytes Challenge = CHALLENGE_BYTES
least_bytes Answer = ANSWER_BYTES
least_bytes Welcome = WELCOME_BYTES
least_bytes Refusal = REFUSAL_BYTES
least_bytes Nothing = 0

abbrev pub nonce_in : List ℕ → Sixteen
nonce_in bytes = sixteen_at 2 bytes

-- of a challenge or an answer
abbrev pub number_in : List ℕ → Sixteen
number_in bytes = sixteen_at 18 bytes

-- of a hello
abbrev pub protocol_in : List ℕ → List ℕ
protocol_in bytes = drop 18 bytes

-- of a welcome
unfoldable pub client_in : List ℕ → ℕ
client_in bytes = from_le_bytes w32 (take 4 (drop 18 bytes))

abbrev pub terms_in : List ℕ → List ℕ
terms_in bytes = take TERMS_BYTES (drop 22 bytes)

abbrev pub reason_of : ℕ → Option Reason
reason_of byte =
    if byte == 1 then Some OtherVersion
    else if byte == 2 then Some OtherProtocol
    else if byte == 3 then Some Full
    else if byte == 4 then Some TokenRefused
    else None

-- ---- examples

one : Sixteen
one = record { low = 1; high = 0 }

a_refusal : refusal one Full ≡ 19 ∷ 1 ∷ 1 ∷ 0 ∷ 0 ∷ 0 ∷ 0 ∷ 0 ∷ 0 ∷ 0 ∷ 0 ∷ 0 ∷ 0 ∷ 0 ∷ 0 ∷ 0 ∷ 0 ∷ 0 ∷ 3 ∷ []
unfolding one bytes_of
a_refusal = refl

its_form : form (refusal one Full) ≡ Refusal
unfolding one bytes_of form
its_form = refl

a_hello : form (hello one (replicate 32 9)) ≡ Hello
unfolding one bytes_of form
a_hello = refl

another_version : form (3 ∷ 2 ∷ replicate 80 0) ≡ OtherHello
unfolding form
another_version = refl

too_short_a_hello : form (3 ∷ 2 ∷ replicate 47 0) ≡ Nothing
unfolding form
too_short_a_hello = refl
