-- Whether the other end is there, by what happened, the newest first: a datagram of it was taken, it said goodbye, this end left, or was asked for the next
-- goodbye that it is to say.
use Rattle.std.specs.Prelude.{◌≡◌, refl, ◌==◌, ◌&&◌, ◌+◌, ◌-◌, nat_lt, nat_le, if◌then◌else◌, ℕ, Bool, true, false, not, List, [], ◌∷◌, Option, Some, None, is_some}
use Rattle.std.specs.Option.{option_or}
use Rattle.std.specs.Int.{w16, to_le_bytes, from_le_bytes}
use Rattle.presence.specs.declared.other_end.PresenceParts.{PresenceParts}
use Rattle.presence.specs.declared.other_end.TheConstants.{GOODBYE, GOODBYE_VERSION, GOODBYES, NO_GOODBYE}

-- ---- the datagram

abbrev pub goodbye : ℕ → List ℕ
goodbye reason = GOODBYE ∷ GOODBYE_VERSION ∷ to_le_bytes w16 reason

abbrev pub goodbye_in : List ℕ → Option ℕ
goodbye_in (kind ∷ version ∷ r0 ∷ r1 ∷ []) =
    if (kind == GOODBYE) && (version == GOODBYE_VERSION) then Some (from_le_bytes w16 (r0 ∷ r1 ∷ [])) else None
goodbye_in bytes = None

-- ---- what happened

pub data PresenceEvent : Type 0 where
  Came : (at : ℕ) → PresenceEvent
  Ended : (reason : ℕ) → PresenceEvent
  Left : (reason : ℕ) → PresenceEvent
  -- this end was asked what it is to say, and there was a goodbye or none
  Said : (goodbye : Bool) → PresenceEvent

abbrev pub later : ℕ → ℕ → ℕ
later a b = if nat_lt a b then b else a

-- when it was heard last, if it was heard first at `start`
abbrev pub last_by : ℕ → List PresenceEvent → ℕ
last_by start [] = start
last_by start (Came at ∷ log) = later (last_by start log) at
last_by start (event ∷ log) = last_by start log

-- the reason of its first goodbye
abbrev pub ended_by : ℕ → List PresenceEvent → Option ℕ
ended_by start [] = None
ended_by start (Ended reason ∷ log) = option_or (ended_by start log) (Some reason)
ended_by start (event ∷ log) = ended_by start log

-- the first reason for which this end leaves
abbrev pub leaving_by : List PresenceEvent → Option ℕ
leaving_by [] = None
leaving_by (Left reason ∷ log) = option_or (leaving_by log) (Some reason)
leaving_by (event ∷ log) = leaving_by log

-- how many goodbyes this end said
abbrev pub said_by : List PresenceEvent → ℕ
said_by [] = 0
said_by (Said true ∷ log) = said_by log + 1
said_by (event ∷ log) = said_by log

abbrev pub is_within : ℕ → ℕ → ℕ → Bool
is_within last limit now = nat_le (now - last) limit

abbrev pub is_alive_by : ℕ → ℕ → ℕ → List PresenceEvent → Bool
is_alive_by limit now start log =
    not (is_some (ended_by start log)) && not (is_some (leaving_by log)) && is_within (last_by start log) limit now

-- the goodbye that is to be said next: none after three
abbrev pub says_next : ℕ → List PresenceEvent → Option ℕ
says_next start log = if nat_le GOODBYES (said_by log) then None else leaving_by log

-- ---- what a clause sees

pub record PresenceState : Type 0 where
  pub limit : ℕ
  pub last : ℕ
  pub ended : Option ℕ
  pub leaving : Option ℕ
  pub said : ℕ

-- the reason that a number tells, if it tells one
abbrev pub reason_from : ℕ → Option ℕ
reason_from number = if nat_lt number NO_GOODBYE then Some number else None

-- what these numbers tell
abbrev pub presence_from : PresenceParts → PresenceState
presence_from p =
    record { limit = p.limit; last = p.last; ended = reason_from p.ended; leaving = reason_from p.leaving; said = p.said }

pub record StandsFor (start : ℕ) (p : PresenceState) (log : List PresenceEvent) : Type 0 where
  pub last : p.last ≡ last_by start log
  pub ended : p.ended ≡ ended_by start log
  pub leaving : p.leaving ≡ leaving_by log
  pub said : p.said ≡ said_by log

-- for every log that the old one stood for, the new one stands for it with what happened
abbrev pub Does : PresenceState → PresenceEvent → PresenceState → Type 0
Does old event new = (start : ℕ) (log : List PresenceEvent) → StandsFor start old log → StandsFor start new (event ∷ log)

-- for every such log the answer is what it makes of it
abbrev pub Answers : {R : Type 0} → PresenceState → (ℕ → List PresenceEvent → R) → R → Type 0
Answers old f result = (start : ℕ) (log : List PresenceEvent) → StandsFor start old log → result ≡ f start log

-- ---- examples: heard at 100 and 900, with a limit of 5,000

still_there : is_alive_by 5000 5900 100 (Came 900 ∷ []) ≡ true
still_there = refl

given_up : is_alive_by 5000 5901 100 (Came 900 ∷ []) ≡ false
given_up = refl

fourth_goodbye : says_next 0 (Said true ∷ Said true ∷ Said true ∷ Left 7 ∷ []) ≡ None
fourth_goodbye = refl
