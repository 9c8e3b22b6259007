-- Who keeps to the rules gets in: each datagram of a greeting is read by the other side as what it was written for.
use Rattle.std.specs.Prelude.{◌≡◌, ◌<◌, ◌≤◌, ◌^◌, ℕ, List, length}
use Rattle.greeting.specs.declared.words.Address.{Address}
use Rattle.greeting.specs.declared.words.Sixteen.{Sixteen}
use Rattle.greeting.specs.declared.datagrams.TheConstants.{PROTOCOL_BYTES, MAX_TOKEN_BYTES}
use Rattle.greeting.specs.declared.door.Heard.{Heard}
use Rattle.greeting.specs.declared.door.Heard.TheVariants.{Challenged}
use Rattle.greeting.specs.declared.knock.Knock.{Knock}
use Rattle.greeting.specs.declared.knock.Reached.TheVariants.{Asking, Answering}
use Rattle.greeting.specs.Words.{number_of}
use Rattle.greeting.specs.Datagrams.{hello, challenge, answer}
use Rattle.greeting.specs.Door.{DoorState, IsRight, Hears}
use Rattle.greeting.specs.Knock.{heard_by}

-- two numbers of eight bytes
pub record IsSixteen (n : Sixteen) : Type 0 where
  pub low : n.low < 2 ^ 64
  pub high : n.high < 2 ^ 64

-- a hello with the door's own protocol is challenged
abbrev pub HelloIsChallenged : Type 0
HelloIsChallenged = (d : DoorState) (a : Address) (nonce : Sixteen) (heard : Heard) → length d.protocol ≡ PROTOCOL_BYTES
    → Hears d a (hello nonce d.protocol) heard → heard ≡ Challenged

-- the client takes the challenge's number
abbrev pub ChallengeIsTaken : Type 0
ChallengeIsTaken = (k : Knock) (number : Sixteen) → IsSixteen k.nonce → IsSixteen number → k.reached ≡ Asking
    → heard_by k (challenge k.nonce number) ≡ Answering number

-- and with it its answer is right
abbrev pub AnswerIsRight : Type 0
AnswerIsRight = (d : DoorState) (a : Address) (nonce number : Sixteen) (token : List ℕ) → IsSixteen nonce → IsSixteen number
    → number ≡ number_of d.secret a nonce → length token ≤ MAX_TOKEN_BYTES → IsRight d.secret d.before a (answer nonce number token)
