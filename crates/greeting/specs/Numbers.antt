-- Each number is the one that docs/joining.md tells: who changes one of them has to say so here as well.
use Rattle.std.specs.Prelude.{◌≡◌, refl, ◌∷◌, []}
use Rattle.greeting.specs.declared.words.TheConstants.{SECRET_BYTES}
use Rattle.greeting.specs.declared.datagrams.TheConstants.{HELLO, CHALLENGE, ANSWER, WELCOME, REFUSAL, GREETING_VERSION, PROTOCOL_BYTES, TERMS_BYTES, MAX_TOKEN_BYTES, HELLO_BYTES, CHALLENGE_BYTES, ANSWER_BYTES, WELCOME_BYTES, REFUSAL_BYTES, MAX_GREETING_BYTES}

kinds : HELLO ∷ CHALLENGE ∷ ANSWER ∷ WELCOME ∷ REFUSAL ∷ [] ≡ 3 ∷ 7 ∷ 11 ∷ 15 ∷ 19 ∷ []
kinds = refl

version : GREETING_VERSION ≡ 1
version = refl

lengths : HELLO_BYTES ∷ CHALLENGE_BYTES ∷ ANSWER_BYTES ∷ WELCOME_BYTES ∷ REFUSAL_BYTES ∷ MAX_GREETING_BYTES ∷ []
    ≡ 50 ∷ 34 ∷ 34 ∷ 54 ∷ 19 ∷ 290 ∷ []
lengths = refl

parts : SECRET_BYTES ∷ PROTOCOL_BYTES ∷ TERMS_BYTES ∷ MAX_TOKEN_BYTES ∷ [] ≡ 32 ∷ 32 ∷ 32 ∷ 256 ∷ []
parts = refl
