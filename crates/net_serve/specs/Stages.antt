-- How far a server came: what it holds, what was written and what was sent, since a run began.
use Rattle.std.specs.Prelude.{◌≡◌, ℕ, List, ◌++◌, length, Option}
use Rattle.std.specs.List.{All}
use Rattle.tn_outside.specs.Links.{Datagram}
use Rattle.tn_outside.specs.Totals.{Adds, AddsFront}
use Rattle.match_script.specs.declared.types.BodyLine.{BodyLine}
use Rattle.match_script.specs.declared.types.Head.{Head}
use Rattle.match_script.specs.declared.types.Script.{Script}
use Rattle.match_script.specs.Ranges.{HeadFits, LineFits}
use Rattle.match_engine.specs.Served.{ServedState, StandsFor}
use Rattle.net_rules.specs.declared.hello.Hello.{Hello}
use Rattle.net_rules.specs.Hellos.{joined}
use Rattle.net_rules.specs.Turns.{Event, turned, AreTurns, events}
use Rattle.net_rules.specs.Runs.{Begun}
use Rattle.net_serve.specs.Lines.{lines, text_so_far}
use Rattle.net_serve.specs.Outgoing.{Outgoing, sends, datagrams}

pub record ServerState : Type 0 where
  pub script : Script
  pub game : ServedState
  pub peers : List Hello

-- ---- a server

-- these lines were done, the newest first
pub record Plays (s : ServerState) (past : List BodyLine) : Type 0 where
  pub game : StandsFor s.game past
  pub script : s.game.script ≡ s.script

-- all of this happened
pub record Serves (s : ServerState) (past : List Event) : Type 0 where
  pub plays : Plays s (lines s.script.head past)
  pub peers : s.peers ≡ joined s.script.head.clients past

-- the script and the peers stay
pub record Same (old new : ServerState) : Type 0 where
  pub script : new.script ≡ old.script
  pub peers : new.peers ≡ old.peers

-- ---- calls that do lines: f adds them to whatever was done before, and g tells what they send

abbrev pub PlaysOn : ServerState → (List BodyLine → List BodyLine) → ServerState → Type 0
PlaysOn old f new = (past : List BodyLine) → Plays old past → Plays new (f past)

-- whatever was written before, the lines were written more
abbrev pub Writes : ServerState → (List BodyLine → List BodyLine) → Option (List ℕ) → Option (List ℕ) → Type 0
Writes old f written written' =
    (first : Option (List ℕ)) (past : List BodyLine) → Plays old past → Adds first written (text_so_far old.script.head past)
    → Adds first written' (text_so_far old.script.head (f past))

-- or a front of them
abbrev pub WritesFront : ServerState → (List BodyLine → List BodyLine) → Option (List ℕ) → Option (List ℕ) → Type 0
WritesFront old f written written' =
    (first : Option (List ℕ)) (past : List BodyLine) → Plays old past → Adds first written (text_so_far old.script.head past)
    → AddsFront first written' (text_so_far old.script.head (f past))

-- whatever was sent before, this was sent more
abbrev pub SendsMore : ServerState → (List BodyLine → List Outgoing) → Option (List Datagram) → Option (List Datagram) → Type 0
SendsMore old g sent sent' =
    (first : Option (List Datagram)) (before : List Outgoing) (past : List BodyLine) → Plays old past → Adds first sent (datagrams before)
    → Adds first sent' (datagrams (before ++ g past))

-- or a front of it
abbrev pub SendsFront : ServerState → (List BodyLine → List Outgoing) → Option (List Datagram) → Option (List Datagram) → Type 0
SendsFront old g sent sent' =
    (first : Option (List Datagram)) (before : List Outgoing) (past : List BodyLine) → Plays old past → Adds first sent (datagrams before)
    → AddsFront first sent' (datagrams (before ++ g past))

-- ---- a run

-- all of this happened since, the script of it was written, and what it asks for was sent
pub record IsAt (o : Begun) (s : ServerState) (written : Option (List ℕ)) (sent : Option (List Datagram)) (past : List Event) : Type 0 where
  pub serves : Serves s past
  pub text : Adds o.written written (text_so_far s.script.head (lines s.script.head past))
  pub outgoing : Adds o.sent sent (datagrams (sends s.script.head past))

-- a front of the script was written, and a front of what is to be sent was sent
pub record IsFront (o : Begun) (head : Head) (written : Option (List ℕ)) (sent : Option (List Datagram)) (past : List Event) : Type 0 where
  pub text : AddsFront o.written written (text_so_far head (lines head past))
  pub outgoing : AddsFront o.sent sent (datagrams (sends head past))

-- whatever was heard: some events happened since, so many of them ends of turns
pub record Went (o : Begun) (s : ServerState) (written : Option (List ℕ)) (sent : Option (List Datagram)) (turns : ℕ) : Type 0 where
  pub past : List Event
  pub count : turned past ≡ turns
  pub at : IsAt o s written sent past

-- ---- the whole

-- these lines, the newest first, are a script's, but for their number
pub record HasLines (head : Head) (past : List BodyLine) : Type 0 where
  pub fits : HeadFits head
  pub lines : All (LineFits head.clients) past

-- the script that the rules ask for over the two lists, in so many turns, was written, and what they ask for was sent
pub record Served (head : Head) (turns : ℕ) (o : Begun) (written : Option (List ℕ)) (sent : Option (List Datagram)) : Type 0 where
  pub counts : List ℕ
  pub turns_are : length counts ≡ turns
  pub are : AreTurns o.ahead o.clock counts
  pub script : HasLines head (lines head (events o.ahead counts))
  pub text : Adds o.written written (text_so_far head (lines head (events o.ahead counts)))
  pub sends : Adds o.sent sent (datagrams (sends head (events o.ahead counts)))

-- a front of it was written, and a front sent
pub record ServedFront (head : Head) (turns : ℕ) (o : Begun) (written : Option (List ℕ)) (sent : Option (List Datagram)) : Type 0 where
  pub counts : List ℕ
  pub turns_are : length counts ≡ turns
  pub are : AreTurns o.ahead o.clock counts
  pub front : IsFront o head written sent (events o.ahead counts)

-- whatever was heard: the script of some events in so many turns was written, and what it asks for was sent
pub record ServedSome (head : Head) (turns : ℕ) (old written : Option (List ℕ)) (before sent : Option (List Datagram)) : Type 0 where
  pub past : List Event
  pub count : turned past ≡ turns
  pub script : HasLines head (lines head past)
  pub text : Adds old written (text_so_far head (lines head past))
  pub sends : Adds before sent (datagrams (sends head past))
