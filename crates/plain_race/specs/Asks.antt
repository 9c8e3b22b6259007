-- What a line asks of a client's connection, where so many moves have a place: of its own side a step, of the server a pack, or nothing.
use Rattle.std.specs.Prelude.{ℕ, ◌==◌, Option, Some, None, if◌then◌else◌}
use Rattle.bit_stream.specs.WorldMoves.{bits_of}
use Rattle.match_script.specs.declared.types.BodyLine.{BodyLine}
use Rattle.match_script.specs.declared.types.BodyLine.TheVariants as script
use Rattle.pair_core.specs.declared.step.PairStep.{PairStep as GivenStep}
use Rattle.pair_core.specs.declared.step.PairStep.TheVariants as given

-- a step of the client or of the network
abbrev pub IsAct : GivenStep → Type 0
IsAct (given.Show kind block level control) = ⊥
IsAct (given.Hide n) = ⊥
IsAct (given.Near n level) = ⊥
IsAct (given.Post class v) = ⊥
IsAct given.Pack = ⊥
IsAct step = Unit {0}

-- the step of a message
abbrev pub IsGiven : GivenStep → Type 0
IsGiven (given.Show kind block level control) = Unit {0}
IsGiven (given.Hide n) = Unit {0}
IsGiven (given.Near n level) = Unit {0}
IsGiven (given.Post class v) = Unit {0}
IsGiven step = ⊥

-- where the line names the client
abbrev pub asked_of : ℕ → ℕ → GivenStep → Option GivenStep
asked_of client named step = if named == client then Some step else None

abbrev pub act_given : ℕ → ℕ → BodyLine → Option GivenStep
act_given client room (script.ClientPost named class v) = asked_of client named (given.ClientPost class v)
act_given client room (script.Move named m) = asked_of client named (given.Sample (bits_of m))
act_given client room (script.ClientPack named) = asked_of client named given.ClientPack
act_given client room (script.Down named k) = asked_of client named (given.Down k)
act_given client room (script.Up named k) = asked_of client named (given.Up k room)
act_given client room (script.Raw named bytes) = asked_of client named (given.Raw bytes room)
act_given client room line = None
