-- What a protocol number is reckoned of: a configuration but for its client. And what reckoning one answers.
use Rattle.std.specs.Prelude.{◌≡◌, ℤ, pos, Option, Some, None}
use Rattle.protocol_number.specs.declared.protocol.Protocol.{Protocol}
use Rattle.stream_manager.specs.declared.config.Config.{Config}
use Rattle.tribes_ends.specs.Codes.{code_of, why_of}
use Rattle.tribes_ends.specs.declared.refusal.Refusal.{Refusal}
use Rattle.tribes_ends.specs.declared.why.Why.{Why}

abbrev pub protocol_of : Config → Protocol
protocol_of c = record { version = c.version; size = c.size; life = c.life; move_bits = c.move_bits }

-- the first number that is wrong is refused, with its reason
abbrev pub IsReckoned : Option Refusal → ℤ → Why → Type 0
IsReckoned (Some refusal) code reason = (code ≡ code_of refusal) × (reason ≡ why_of refusal)
IsReckoned None code reason = code ≡ pos 0
