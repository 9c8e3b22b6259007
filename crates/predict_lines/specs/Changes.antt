-- What a line of a match did at one client's end, as far as a prediction hears of it: a packet came and was not refused, or a move was
-- sampled. It is read off the line and what it told.
use Rattle.std.specs.Prelude.{◌≡◌, ℕ, ◌==◌, ◌&&◌, Bool, true, false, if◌then◌else◌, List, ◌∷◌, Ok, Err}
use Rattle.bit_stream.specs.WorldMoves.{bits_of}
use Rattle.match_script.specs.declared.types.BodyLine.{BodyLine}
use Rattle.match_script.specs.declared.types.BodyLine.TheVariants as script
use Rattle.match_report.specs.declared.told.Told.{Told}
use Rattle.match_report.specs.declared.told.Told.TheVariants as told_as
use Rattle.match_laws.specs.pair_core.stream_manager.Client as end
use Rattle.match_laws.specs.pair_core.stream_manager.Client.{ClientEvent}
use Rattle.match_laws.specs.pair_core.stream_manager.wire_format.declared.server.ServerPacket.{ServerPacket}
use Rattle.world_rules.specs.Kinds.{match_kinds}
use Rattle.predict_client.specs.Following.{predict_log, base_at, unaccepted}
use Rattle.predict_lines.specs.declared.changes.EndChange.{EndChange}
use Rattle.predict_lines.specs.declared.changes.EndChange.TheVariants.{Came, Sampled, Nothing}

-- ---- by what a line told

abbrev pub is_taken : Told → Bool
is_taken (told_as.Came way c k moves events) = true
is_taken other = false

abbrev pub is_sampled : Told → Bool
is_sampled (told_as.Moved c (Ok number)) = true
is_sampled (told_as.Moved c (Err fault)) = false
is_sampled other = false

abbrev pub change_of : ℕ → BodyLine → Told → EndChange
change_of c (script.Down d k) told = if (d == c) && is_taken told then Came else Nothing
change_of c (script.Move d m) told = if (d == c) && is_sampled told then Sampled (bits_of m) else Nothing
change_of c line told = Nothing

-- ---- what it means of the list of what happened at the end

-- one list is longer than the other by what a prediction does not hear of
pub record TellsNothing (old new : List ClientEvent) : Type 0 where
  pub told : predict_log new ≡ predict_log old
  pub base : base_at match_kinds new ≡ base_at match_kinds old
  pub pending : unaccepted new ≡ unaccepted old

-- the list before the line and the one after it
abbrev pub IsChange : EndChange → List ClientEvent → List ClientEvent → Type 0
IsChange Came old new = (p : ServerPacket) × (new ≡ end.Took p ∷ old)
IsChange (Sampled m) old new = new ≡ end.Sampled m ∷ old
IsChange Nothing old new = TellsNothing old new
