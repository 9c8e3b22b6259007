-- What a delivery between honest ends may answer. The network brings what was sent, as late and as often as it likes, so a
-- packet may be old when it comes, and nothing may have been sent at a place. Nothing else is ever refused.
use Rattle.conn_packing.specs.stream_manager.declared.fault.ArriveFault.{ArriveFault}
use Rattle.conn_packing.specs.stream_manager.declared.fault.ArriveFault.TheVariants as server
use Rattle.conn_packing.specs.stream_manager.declared.fault.ClientFault.{ClientFault}
use Rattle.conn_packing.specs.stream_manager.declared.fault.ClientFault.TheVariants as client
use Rattle.pair_core.specs.declared.step.Answer.{Answer}
use Rattle.pair_core.specs.declared.step.Answer.TheVariants as says

-- the refusal of an old packet
abbrev pub IsOldAtClient : ClientFault → Type 0
IsOldAtClient (client.Old seq horizon) = Unit {0}
IsOldAtClient other = ⊥

abbrev pub IsOldAtServer : ArriveFault → Type 0
IsOldAtServer (server.Old seq horizon) = Unit {0}
IsOldAtServer other = ⊥

-- an answer that is no refusal by an end, or that of an old packet
abbrev pub RefusesLittle : Answer → Type 0
RefusesLittle (says.ServerRefused fault) = IsOldAtServer fault
RefusesLittle (says.ClientRefused fault) = IsOldAtClient fault
RefusesLittle other = Unit {0}
