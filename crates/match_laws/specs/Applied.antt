-- The moves that ticks took from a client: at each tick the one by which the world went on.
use Rattle.std.specs.Prelude.{ℕ, ◌<◌, List, [], ◌∷◌, ◌++◌, Option, Some, None}
use Rattle.tn_types.specs.declared.moves.MoveBits.{MoveBits}
use Rattle.tn_types.specs.Prefix.{IsPrefixOf}
use Rattle.match_script.specs.declared.types.BodyLine.{BodyLine}
use Rattle.match_script.specs.declared.types.BodyLine.TheVariants.{Tick}
use Rattle.match_script.specs.declared.types.Head.{Head}
use Rattle.match_script.specs.declared.types.Script.{Script}
use Rattle.match_script.specs.Ranges.{HasRanges}
use Rattle.client_seat.specs.pair_core.Conditions.{IsHonest}
use Rattle.client_seat.specs.pair_core.Answers.{accepted_in, sampled_in}
use Rattle.client_seat.specs.own_lists.Kept.{journal}
use Rattle.client_seat.specs.own_lists.Past.{client_terms, move_of, after}
use Rattle.match_laws.specs.Laws.{first, journal_of}

-- a tick takes one move of a client, or none
abbrev pub one_move : Option MoveBits → List MoveBits
one_move None = []
one_move (Some m) = m ∷ []

-- the moves that the ticks among these lines took from a client, the oldest first: each is what `moves_of` has of the client
-- after the lines before the tick
abbrev pub applied : Head → ℕ → List BodyLine → List MoveBits
applied head c [] = []
applied head c (Tick ∷ past) = applied head c past ++ one_move (move_of head (after head past) c)
applied head c (line ∷ past) = applied head c past

-- after any lines, whoever the client is, the applied moves are those that its server accepted, as far as ticks have come
abbrev pub AppliedAreAccepted : Type 0
AppliedAreAccepted =
    (head : Head) (c : ℕ) (past : List BodyLine)
    → IsPrefixOf (applied head c past) (accepted_in (client_terms head c) (journal (client_terms head c) ((after head past).own c)))

-- at every line, the applied moves of an honest client are those that it sampled, as far as ticks have come
abbrev pub AppliedInOrder : Type 0
AppliedInOrder = (s : Script) (c n : ℕ) → HasRanges s → c < s.head.clients → IsHonest (journal_of s c n)
    → IsPrefixOf (applied s.head c (first n s)) (sampled_in (client_terms s.head c) (journal_of s c n))
