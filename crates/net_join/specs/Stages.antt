-- How far one who joins came: what it holds and what was sent, since a run began.
use Rattle.std.specs.Prelude.{◌≡◌, ℕ, suc, ◌++◌, ◌%◌, ◌^◌, List, length, Option}
use Rattle.tn_outside.specs.Links.{Datagram, answer_at}
use Rattle.tn_outside.specs.Totals.{Adds, AddsFront}
use Rattle.net_rules.specs.Runs.{Begun}
use Rattle.net_rules.specs.Turns.{Event, turned, AreTurns, events}
use Rattle.net_join.specs.Joining.{sends, ending}
use Rattle.net_join.specs.Playing.{JoinerState, Joins}

-- the nonce is the clock's answer at the start
abbrev pub nonce_of : ℕ → ℕ
nonce_of start = start % 2 ^ 32

-- all of this was heard since, and what it asks for was sent
pub record IsAt (first : Option (List Datagram)) (j : JoinerState) (sent : Option (List Datagram)) (past : List Event) : Type 0 where
  pub joins : Joins j past
  pub outgoing : Adds first sent (sends j.nonce past)

-- whatever was heard: more events happened, none of them an end of a turn
abbrev pub HeardMore : JoinerState → JoinerState → Type 0
HeardMore old new =
    (past : List Event) → Joins old past
    → (more : List Event) × Joins new (more ++ past) × (turned (more ++ past) ≡ turned past)
    × (sends new.nonce (more ++ past) ≡ sends old.nonce past)

-- whatever was heard: a turn more happened, and what it asks for was sent
abbrev pub Went : JoinerState → Option (List Datagram) → JoinerState → Option (List Datagram) → Type 0
Went old sent new sent' =
    (first : Option (List Datagram)) (past : List Event) → IsAt first old sent past
    → (more : List Event) × IsAt first new sent' more × (turned more ≡ suc (turned past))

-- what the rules ask for over the two lists in so many turns was heard and sent
pub record Sent (o : Begun) (turns : ℕ) (j : JoinerState) (sent : Option (List Datagram)) : Type 0 where
  pub counts : List ℕ
  pub turns_are : length counts ≡ turns
  pub are : AreTurns o.ahead o.clock counts
  pub at : IsAt o.sent j sent (events o.ahead counts)

-- a front of it was sent
pub record SentFront (o : Begun) (turns nonce : ℕ) (sent : Option (List Datagram)) : Type 0 where
  pub counts : List ℕ
  pub turns_are : length counts ≡ turns
  pub are : AreTurns o.ahead o.clock counts
  pub sends : AddsFront o.sent sent (sends nonce (events o.ahead counts))

-- what the rules ask for over the two lists, in so many turns, was sent, and its ending was written
pub record Joined (turns : ℕ) (o : Begun) (written : Option (List ℕ)) (sent : Option (List Datagram)) : Type 0 where
  pub counts : List ℕ
  pub turns_are : length counts ≡ turns
  pub are : AreTurns o.ahead o.clock counts
  pub sends : Adds o.sent sent (sends (nonce_of (answer_at o.clock 0)) (events o.ahead counts))
  pub text : Adds o.written written (ending (nonce_of (answer_at o.clock 0)) (events o.ahead counts))

-- a front of it was sent, and a front written
pub record JoinedFront (turns : ℕ) (o : Begun) (written : Option (List ℕ)) (sent : Option (List Datagram)) : Type 0 where
  pub counts : List ℕ
  pub turns_are : length counts ≡ turns
  pub are : AreTurns o.ahead o.clock counts
  pub sends : AddsFront o.sent sent (sends (nonce_of (answer_at o.clock 0)) (events o.ahead counts))
  pub text : AddsFront o.written written (ending (nonce_of (answer_at o.clock 0)) (events o.ahead counts))

-- whatever was heard: what some events ask for, in so many turns and for some nonce, was sent, and their ending was written
pub record JoinedSome (turns : ℕ) (old written : Option (List ℕ)) (before sent : Option (List Datagram)) : Type 0 where
  pub nonce : ℕ
  pub past : List Event
  pub count : turned past ≡ turns
  pub sends : Adds before sent (sends nonce past)
  pub text : Adds old written (ending nonce past)
