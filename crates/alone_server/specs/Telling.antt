-- What a server that serves one client alone tells of an item of the client's own list: what the report tells of the line. It tells
-- nothing of a tick, nor of a line that only shows the client.
use Rattle.std.specs.Prelude.{Option, None, Some}
use Rattle.match_script.specs.declared.types.BodyLine.{BodyLine}
use Rattle.match_script.specs.declared.types.BodyLine.TheVariants as script
use Rattle.match_report.specs.declared.told.Told.{Told}
use Rattle.stream_manager.specs.Limits.{Terms}
use Rattle.own_lists.specs.bit_stream.WorldMoves.{bits_of}
use Rattle.own_lists.specs.Own.{OwnItem, Line, Scan, Tick}
use Rattle.own_lists.specs.Kept.{Kept}
use Rattle.own_items.specs.client_seat.Told.{post_told, client_post_told, move_told, pack_told, client_pack_told, brought_down_told, brought_up_told, raw_told, scan_told}

abbrev pub line_told : Terms → Kept → BodyLine → Option Told
line_told t k (script.Post c class payload) = Some (post_told t k.course.steps c class)
line_told t k (script.ClientPost c class payload) = Some (client_post_told t k.course.steps c class)
line_told t k (script.Pack c) = Some (pack_told t k t.config.client)
line_told t k (script.ClientPack c) = Some (client_pack_told c t k.course.steps)
line_told t k (script.Down c place) = Some (brought_down_told c place t k.course.steps)
line_told t k (script.Up c place) = Some (brought_up_told c place t k.course)
line_told t k (script.Raw c bytes) = Some (raw_told c bytes t k.course)
line_told t k (script.Move c m) = Some (move_told t k.course.steps c (bits_of m))
line_told t k line = None

abbrev pub item_told : Terms → Kept → OwnItem → Option Told
item_told t k (Line line) = line_told t k line
item_told t k (Scan hides nears shows) = Some (scan_told t.config.client hides nears shows)
item_told t k (Tick writes taken) = None
