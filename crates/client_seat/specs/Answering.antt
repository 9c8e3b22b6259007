-- The answers that a step of each kind may have, and which steps bring something to the server.
use Rattle.std.specs.Prelude.{ℕ}
use Rattle.own_lists.specs.pair_core.declared.step.Answer.{Answer}
use Rattle.own_lists.specs.pair_core.declared.step.Answer.TheVariants as says
use Rattle.own_lists.specs.pair_core.declared.step.PairStep.{PairStep as GivenStep}
use Rattle.own_lists.specs.pair_core.declared.step.PairStep.TheVariants as given

abbrev pub TellsPost : Answer → Type 0
TellsPost (says.Posted number) = Unit {0}
TellsPost (says.PostRefused fault) = Unit {0}
TellsPost (says.Loose dropped) = Unit {0}
TellsPost other = ⊥

abbrev pub TellsMove : Answer → Type 0
TellsMove (says.Sampled number) = Unit {0}
TellsMove (says.MoveRefused fault) = Unit {0}
TellsMove other = ⊥

abbrev pub TellsPack : Answer → Type 0
TellsPack (says.Packed kind place) = Unit {0}
TellsPack (says.Worn life) = Unit {0}
TellsPack other = ⊥

-- of a delivery to the server
abbrev pub TellsUp : Answer → Type 0
TellsUp (says.NotSent k sent) = Unit {0}
TellsUp (says.ServerRefused fault) = Unit {0}
TellsUp (says.Came moves) = Unit {0}
TellsUp other = ⊥

-- of a delivery to the client
abbrev pub TellsDown : Answer → Type 0
TellsDown (says.NotSent k sent) = Unit {0}
TellsDown (says.ClientRefused fault) = Unit {0}
TellsDown (says.Came moves) = Unit {0}
TellsDown other = ⊥

-- a step that brings something to the server, and the places that it has for moves
abbrev pub ComesUp : GivenStep → Type 0
ComesUp (given.Up k room) = Unit {0}
ComesUp (given.Raw bytes room) = Unit {0}
ComesUp other = ⊥

abbrev pub room_for : GivenStep → ℕ
room_for (given.Up k room) = room
room_for (given.Raw bytes room) = room
room_for other = 0
