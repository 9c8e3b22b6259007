-- What a script asks of the steps of one client, and when the steps that a race kept of it are these: the messages that the
-- simulation gives it, a pack for each of its lines `pack`, and the lines of its client, each kind in its own order. How they are
-- mixed is free. Of a client that met no room the first of them were made.
use Rattle.std.specs.Prelude.{◌≡◌, refl, ℕ, ◌+◌, ◌<◌, ◌≤◌, ◌==◌, ◌↔◌, Bool, true, false, List, [], ◌∷◌, length, map, take, count_by, slice_get, Option, Some, None, if◌then◌else◌}
use Rattle.std.specs.List.{filter_map}
use Rattle.std.specs.Option.{option_and_then}
use Rattle.tn_types.specs.Prefix.{IsPrefixOf}
use Rattle.tn_types.specs.declared.limits.TheConstants.{MAX_WAITING_MOVES}
use Rattle.kept_pair.specs.declared.limits.TheConstants.{MAX_KEPT_STEPS}
use Rattle.tn_types.specs.declared.choices.Class.{Class}
use Rattle.tn_types.specs.declared.moves.MoveBits.{MoveBits}
use Rattle.bit_stream.specs.WorldMoves.{bits_of}
use Rattle.match_script.specs.declared.types.BodyLine.{BodyLine}
use Rattle.match_script.specs.declared.types.BodyLine.TheVariants as script
use Rattle.pair_core.specs.History as step
use Rattle.pair_core.specs.History.{PairStep}
use Rattle.kept_pair.specs.Kept.{KeptState, accepted_by}
use Rattle.race_messages.specs.declared.message.Message.{Message}
use Rattle.race_messages.specs.declared.message.Message.TheVariants as message
use Rattle.race_messages.specs.Steps.{step_for}
use Rattle.match_script.specs.Named.{client_named}
use Rattle.own_lists.specs.Own.{is_named}
use Rattle.race_history.specs.Moves.{moves_taken}

-- these are all of them, or where the client is full the first of them
abbrev pub AreAllOrFirst : {A : Type 0} → (full : Bool) → List A → List A → Type 0
AreAllOrFirst true xs ys = IsPrefixOf xs ys
AreAllOrFirst false xs ys = xs ≡ ys

abbrev pub IsAllOrFewer : (full : Bool) → ℕ → ℕ → Type 0
IsAllOrFewer true n all = n ≤ all
IsAllOrFewer false n all = n ≡ all

-- ---- messages of the simulation

-- the step, if it is that of a message
abbrev pub message_step : PairStep → Option PairStep
message_step (step.Show kind block level control) = Some (step.Show kind block level control)
message_step (step.Hide n) = Some (step.Hide n)
message_step (step.Near n level) = Some (step.Near n level)
message_step (step.Post class v) = Some (step.Post class v)
message_step other = None

abbrev pub messages_taken : List PairStep → List PairStep
messages_taken steps = filter_map message_step steps

-- the object of a show
abbrev pub object_shown : Message → Option ℕ
object_shown (message.Show object kind block level control) = Some object
object_shown other = None

abbrev pub objects_shown : List Message → List ℕ
objects_shown given = filter_map object_shown given

-- ---- packs

abbrev pub is_pack_step : PairStep → Bool
is_pack_step (step.Pack drains reads) = true
is_pack_step other = false

abbrev pub is_pack_line : ℕ → BodyLine → Bool
is_pack_line c (script.Pack d) = d == c
is_pack_line c other = false

abbrev pub packs_made : List PairStep → ℕ
packs_made steps = count_by is_pack_step steps

abbrev pub packs_asked : ℕ → List BodyLine → ℕ
packs_asked c lines = count_by (is_pack_line c) lines

-- ---- what the client does, and the network for it

pub data ClientAct : Type 0 where
  Posts : (class : Class) (payload : List ℕ) → ClientAct  -- the client posts an event
  Samples : MoveBits → ClientAct  -- it takes up a move of its player
  Packs : ClientAct  -- it makes a datagram
  Gets : (k : ℕ) → ClientAct  -- it gets the server's datagram of this place
  Brings : (k : ℕ) → ClientAct  -- the server gets the client's datagram of this place
  BringsRaw : (bytes : List ℕ) → ClientAct  -- the server gets these bytes

-- the act of a step, whatever its room for moves
abbrev pub act_done : PairStep → Option ClientAct
act_done (step.ClientPost class v) = Some (Posts class v)
act_done (step.Sample m) = Some (Samples m)
act_done step.ClientPack = Some Packs
act_done (step.Down k) = Some (Gets k)
act_done (step.Up k room) = Some (Brings k)
act_done (step.Raw bytes room) = Some (BringsRaw bytes)
act_done other = None

-- the act of a line, whichever client it names
abbrev pub act_said : BodyLine → Option ClientAct
act_said (script.ClientPost d class v) = Some (Posts class v)
act_said (script.Move d m) = Some (Samples (bits_of m))
act_said (script.ClientPack d) = Some Packs
act_said (script.Down d k) = Some (Gets k)
act_said (script.Up d k) = Some (Brings k)
act_said (script.Raw d bytes) = Some (BringsRaw bytes)
act_said other = None

-- the act that a line asks of this client
abbrev pub act_asked : ℕ → BodyLine → Option ClientAct
act_asked c line = if is_named c (client_named line) then act_said line else None

abbrev pub acts_done : List PairStep → List ClientAct
acts_done steps = filter_map act_done steps

abbrev pub acts_asked : ℕ → List BodyLine → List ClientAct
acts_asked c lines = filter_map (act_asked c) lines

-- ---- moves

-- the places for moves that a step found
abbrev pub room_found : PairStep → Option ℕ
room_found (step.Up k room) = Some room
room_found (step.Raw bytes room) = Some room
room_found other = None

-- there may be so many places where so many moves were accepted before: each that is taken has one of these moves
pub record IsRoom (accepted room : ℕ) : Type 0 where
  pub most : room ≤ MAX_WAITING_MOVES
  pub least : MAX_WAITING_MOVES ≤ accepted + room

-- each step found places that there may have been after the steps before it
abbrev pub AreRooms : KeptState → Type 0
AreRooms k =
    (i room : ℕ) → option_and_then room_found (slice_get k.steps i) ≡ Some room → IsRoom (length (accepted_by k (take i k.steps))) room

-- ---- a client that met no room

-- how many steps are asked for
abbrev pub steps_asked : ℕ → List BodyLine → List Message → ℕ
steps_asked c lines given = length given + packs_asked c lines + length (acts_asked c lines)

-- as many steps are kept as can be, and one is wanting
pub record IsFull (c : ℕ) (lines : List BodyLine) (given : List Message) (steps : List PairStep) : Type 0 where
  pub no_room : length steps ≡ MAX_KEPT_STEPS
  pub wanting : length steps < steps_asked c lines given

-- ---- all points

-- what was kept of client c is what these lines ask for: `objects` has the object of each of its periods, `full` says that it met no
-- room, `given` are the messages that the lines give it, and `ticks` has what each tick took, of each client a move or none
pub record AreAsked
    (lines : List BodyLine) (c : ℕ) (k : KeptState) (objects : List ℕ) (full : Bool) (given : List Message)
    (ticks : List (List (Option MoveBits))) : Type 0 where
  -- the steps of messages are those of the messages that are given, in order
  pub messages : AreAllOrFirst full (messages_taken k.steps) (map step_for given)
  -- each show that was made has its object, and there is no other
  pub shows : objects_shown (take (length (messages_taken k.steps)) given) ≡ objects
  -- as many packs as lines ask for
  pub packs : IsAllOrFewer full (packs_made k.steps) (packs_asked c lines)
  -- the acts are those of the client's lines, in order
  pub acts : AreAllOrFirst full (acts_done k.steps) (acts_asked c lines)
  -- each room for moves is one that there may have been
  pub rooms : AreRooms k
  -- the moves that ticks took are the first of those that were accepted
  pub moves : IsPrefixOf (moves_taken c ticks) (accepted_by k k.steps)
  -- the client is full exactly where no room was left, and a step is wanting
  pub fullness : (full ≡ true) ↔ IsFull c lines given k.steps

-- ---- examples: client 0 has a pack and an `up`, between lines of others

some_lines : List BodyLine
some_lines = script.Pack 1 ∷ script.Pack 0 ∷ script.Tick ∷ script.Up 1 4 ∷ script.Up 0 7 ∷ []

one_pack : packs_asked 0 some_lines ≡ 1
unfolding some_lines
one_pack = refl

one_act : acts_asked 0 some_lines ≡ Brings 7 ∷ []
unfolding some_lines
one_act = refl

-- the order of the two is free, and so is the room
pack_behind : acts_done (step.Up 7 32 ∷ step.Pack [] [] ∷ []) ≡ Brings 7 ∷ []
pack_behind = refl

-- the object of a hidden period stays in the list, and a message that was left over adds none
objects_of_shows : objects_shown (take 2 (message.Show 5 2 0 1 false ∷ message.Hide 0 ∷ message.Show 6 2 0 1 false ∷ [])) ≡ 5 ∷ []
objects_of_shows = refl
