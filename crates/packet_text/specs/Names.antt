-- Names of parts and of fields, as the table of a datagram has them.
use Rattle.std.specs.Prelude.{ℕ, ◌==◌, if◌then◌else◌, List, ◌++◌, codes}
use Rattle.world_rules.specs.declared.kinds.TheConstants.{PLAYER, MINE, FLAG, CLOCK}
use Rattle.world_rules.specs.Kinds.{kind_word}
use Rattle.packet_parts.specs.declared.part.PartName.{PartName}
use Rattle.packet_parts.specs.declared.part.PartName.TheVariants as names

-- a field of a kind
abbrev pub field_word : ℕ → ℕ → List ℕ
field_word kind field =
    if field == 0 then (if kind == CLOCK then codes "tick" else codes "x")
    else if field == 1 then (if kind == CLOCK then codes "red" else codes "y")
    else if field == 2 then (if kind == CLOCK then codes "blue" else if kind == MINE then codes "armed" else if kind == FLAG then codes "holder" else codes "hp")
    else if field == 3 then codes "ammo"
    else codes "score"

-- what a part is, where it is no level
abbrev pub plain_text : PartName → List ℕ
plain_text names.Kind = codes "kind"
plain_text names.Client = codes "client"
plain_text names.Seq = codes "seq"
plain_text names.Horizon = codes "horizon"
plain_text names.Mask = codes "mask"
plain_text names.Accepted = codes "accepted"
plain_text names.ControlFlag = codes "control.flag"
plain_text names.ControlSlot = codes "control.slot"
plain_text names.BlockCount = codes "block.count"
plain_text names.BlockNumber = codes "block.number"
plain_text names.BlockLength = codes "block.length"
plain_text names.BlockByte = codes "block.byte"
plain_text names.EventCount = codes "event.count"
plain_text names.EventFlag = codes "event.guaranteed"
plain_text names.EventNumber = codes "event.number"
plain_text names.EventLength = codes "event.length"
plain_text names.EventByte = codes "event.byte"
plain_text names.GhostCount = codes "ghost.count"
plain_text names.Slot = codes "ghost.slot"
plain_text names.Op = codes "ghost.op"
plain_text names.GhostKind = codes "ghost.kind"
plain_text names.GhostBlock = codes "ghost.block"
plain_text (names.FieldMask kind) = codes "ghost.mask"
plain_text (names.Level kind field) = codes "level"
plain_text names.FirstMove = codes "move.first"
plain_text names.MoveCount = codes "move.count"
plain_text names.StepX = codes "move.dx"
plain_text names.StepY = codes "move.dy"
plain_text names.Fire = codes "move.fire"
plain_text names.Use = codes "move.use"
plain_text names.MoveLow = codes "move.low"
plain_text names.MoveHigh = codes "move.high"

-- of a level its kind and its field
abbrev pub name_text : PartName → List ℕ
name_text (names.Level kind field) = kind_word kind ++ (codes "." ++ field_word kind field)
name_text name = plain_text name
