-- What is told of a line that names a client: a function of what the client's own list leaves before the line.
use Rattle.std.specs.Prelude.{ℕ, Bool, false, not, ◌&&◌, nat_lt, List, ◌∷◌, length, map, filter_map, find, drop, option_map, Option}
use Rattle.std.specs.Option.{option_map_or}
use Rattle.tn_types.specs.declared.choices.Class.{Class}
use Rattle.tn_types.specs.declared.choices.Class.TheVariants.{Guaranteed, Loose}
use Rattle.tn_types.specs.declared.choices.PacketKind.TheVariants.{Ping, Body}
use Rattle.tn_types.specs.declared.choices.Drain.{Drain}
use Rattle.tn_types.specs.declared.choices.Read.{Read}
use Rattle.tn_types.specs.declared.moves.MoveBits.{MoveBits}
use Rattle.tn_types.specs.declared.limits.TheConstants.{MAX_SLOTS, MAX_FIELDS}
use Rattle.tn_types.specs.BitWords.{has_bit}
use Rattle.wire_format.specs.declared.server.ServerPacket.TheVariants as server_packet
use Rattle.notify_window.specs.declared.SendState.{SendState}
use Rattle.notify_window.specs.declared.SendState.TheVariants.{Held, Worn, Room}
use Rattle.ghost_model.specs.Words.{upto}
use Rattle.ghost_model.specs.Ghosts.{slot, is_settled}
use Rattle.ghost_masks.specs.Plan.{kind_of, fields_of, is_slot}
use Rattle.ghost_client.specs.declared.copy.GhostCopy.{GhostCopy}
use Rattle.ghost_client.specs.Copies.{copy_of}
use Rattle.ghost_client.specs.State.{field_value}
use Rattle.client_scope.specs.declared.period.Near.{Near}
use Rattle.stream_manager.specs.declared.config.Config.{Config}
use Rattle.stream_manager.specs.Limits.{Terms}
use Rattle.stream_manager.specs.End.{dropped_of}
use Rattle.stream_manager.specs.Wire.{bytes_down}
use Rattle.stream_manager.specs.Server.{ServerEvent, server_end, server_state, server_datagrams, posted_at_server, next_body, server_ping_bytes, ghost_log}
use Rattle.stream_manager.specs.Client.{ClientEvent, client_end, client_state, client_datagrams, client_bytes, client_ping_bytes, posted_at_client, sampled_answer, control_at, ghosts_came}
use Rattle.own_lists.specs.pair_core.declared.step.Answer.{Answer}
use Rattle.own_lists.specs.pair_core.declared.step.Answer.TheVariants as says
use Rattle.conn_packing.specs.Packs.{absorbing, values_of}
use Rattle.own_lists.specs.pair_core.History.{PairStep, Down, Up, Raw, history}
use Rattle.own_lists.specs.pair_core.Answers.{answer, client_delivered, server_delivered, client_run, sampled_in, accepted_in}
use Rattle.tn_types.specs.declared.choices.End.TheVariants.{Server, Client}
use Rattle.match_report.specs.declared.told.Way.{Way}
use Rattle.match_report.specs.declared.told.Way.TheVariants as way
use Rattle.match_report.specs.declared.told.EventTold.{EventTold}
use Rattle.match_report.specs.declared.told.Told.{Told}
use Rattle.match_report.specs.declared.told.Told.TheVariants as told_as
use Rattle.match_report.specs.declared.copies.CopyTold.{CopyTold}
use Rattle.match_report.specs.declared.copies.FieldTold.{FieldTold}
use Rattle.own_lists.specs.Course.{Course, room_in}
use Rattle.own_lists.specs.Kept.{Kept, drains_of, reads_of}

-- ---- posts and moves

abbrev pub event_told : Class × List ℕ → EventTold
event_told event = record { class = event.0; payload = event.1 }

abbrev pub post_told : Terms → List PairStep → ℕ → Class → Told
post_told t steps c Guaranteed = told_as.Post Server c (posted_at_server t.config (history t steps).server)
post_told t steps c Loose = told_as.PostLoose Server c (dropped_of (server_end (history t steps).server))

abbrev pub client_post_told : Terms → List PairStep → ℕ → Class → Told
client_post_told t steps c Guaranteed = told_as.Post Client c (posted_at_client t.config (history t steps).client)
client_post_told t steps c Loose = told_as.PostLoose Client c (dropped_of (client_end (history t steps).client))

abbrev pub move_told : Terms → List PairStep → ℕ → MoveBits → Told
move_told t steps c m = told_as.Moved c (sampled_answer t.config m (history t steps).client)

-- ---- packs

-- by what a pack makes: a data packet has these values, once these drains are absorbed
abbrev pub made_told : Terms → List ServerEvent → ℕ → List Drain → List Read → SendState → Told
made_told t log c drains reads Held = told_as.Packed Server c (length (server_datagrams t log)) Ping (server_ping_bytes t log)
made_told t log c drains reads Worn = told_as.PackWorn Server c t.config.life
made_told t log c drains reads Room =
    told_as.Packed Server c (length (server_datagrams t log)) Body
    (bytes_down t (server_packet.Body (next_body t (absorbing drains log) (values_of reads))))

-- what a pack of these drains and reads tells after these steps
abbrev pub packed_told : ℕ → Terms → List PairStep → List Drain → List Read → Told
packed_told c t steps drains reads =
    let log = (history t steps).server in made_told t log c drains reads (server_state t.config log)

abbrev pub pack_told : Terms → Kept → ℕ → Told
pack_told t k c = packed_told c t k.course.steps (drains_of t k) (reads_of t k)

abbrev pub client_made_told : Config → List ClientEvent → ℕ → SendState → Told
client_made_told k log c Held = told_as.Packed Client c (length (client_datagrams k log)) Ping (client_ping_bytes k log)
client_made_told k log c Worn = told_as.PackWorn Client c k.life
client_made_told k log c Room = told_as.Packed Client c (length (client_datagrams k log)) Body (client_bytes k log)

abbrev pub client_pack_told : ℕ → Terms → List PairStep → Told
client_pack_told c t steps = let log = (history t steps).client in client_made_told t.config log c (client_state t.config log)

-- ---- deliveries

-- the events that a delivery hands out: those delivered after it and not before
abbrev pub handed_down : Terms → List PairStep → ℕ → List EventTold
handed_down t steps place = map event_told (drop (length (client_delivered t steps)) (client_delivered t (Down place ∷ steps)))

abbrev pub handed_up : Terms → List PairStep → PairStep → List EventTold
handed_up t steps step = map event_told (drop (length (server_delivered t steps)) (server_delivered t (step ∷ steps)))

-- by the answer of the delivery: no other one is given to it
abbrev pub brought_told : Way → ℕ → ℕ → List EventTold → Answer → Told
brought_told w c place events (says.NotSent k sent) = told_as.NotSent w c place sent
brought_told w c place events (says.ServerRefused fault) = told_as.ServerRefused w c place fault
brought_told w c place events (says.ClientRefused fault) = told_as.ClientRefused c place fault
brought_told w c place events (says.Came moves) = told_as.Came w c place moves events
brought_told w c place events other = told_as.Came w c place 0 events

-- what a delivery tells after these steps
abbrev pub brought_down_told : ℕ → ℕ → Terms → List PairStep → Told
brought_down_told c place t steps = brought_told way.Down c place (handed_down t steps place) (answer t steps (Down place))

-- what a step tells that brings something to the server
abbrev pub arrived_told : Way → ℕ → ℕ → PairStep → Terms → Course → Told
arrived_told w c place step t k = brought_told w c place (handed_up t k.steps step) (answer t k.steps step)

abbrev pub brought_up_told : ℕ → ℕ → Terms → Course → Told
brought_up_told c place t k = arrived_told way.Up c place (Up place (room_in t k)) t k

abbrev pub raw_told : ℕ → List ℕ → Terms → Course → Told
raw_told c bytes t k = arrived_told way.Raw c 0 (Raw bytes (room_in t k)) t k

-- ---- copies

-- of these periods the one that holds the slot at the server
abbrev pub holder_at : Terms → List PairStep → List Drain → ℕ → Option Drain
holder_at t steps written at = find (λ d. is_slot at (slot (ghost_log (history t steps).server) d.n)) written

-- the period has the field, and the client has its newest value: what was drained is settled, and nothing was written since
abbrev pub is_newest : Terms → List PairStep → ℕ → Drain → Bool
is_newest t steps field d =
    let log = ghost_log (history t steps).server in
    nat_lt field (length (fields_of t.kinds (kind_of log d.n))) && is_settled log d.n field && not (has_bit d.bits field)

-- the value that a field of a copy shows, if the copy has the field, where this period holds the copy's slot
abbrev pub field_told : Terms → List PairStep → Option Drain → GhostCopy → ℕ → Option FieldTold
field_told t steps holder copy field =
    option_map (λ value. record { value = value; settled = option_map_or (is_newest t steps field) holder false })
    (field_value t.kinds field copy)

abbrev pub fields_told : Terms → List PairStep → Option Drain → GhostCopy → List FieldTold
fields_told t steps holder copy = filter_map (field_told t steps holder copy) (upto MAX_FIELDS)

abbrev pub copy_told : Terms → List PairStep → List Drain → ℕ → GhostCopy → CopyTold
copy_told t steps written at copy = record {
  slot = at;
  kind = copy.kind;
  block = copy.block;
  fields = fields_told t steps (holder_at t steps written at) copy;
}

-- the copy in a slot, if there is one
abbrev pub slot_told : Terms → List PairStep → List Drain → ℕ → Option CopyTold
slot_told t steps written at = option_map (copy_told t steps written at) (copy_of (ghosts_came (history t steps).client) at)

-- the client's copies by rising slot
abbrev pub copies_told : Terms → List PairStep → List Drain → List CopyTold
copies_told t steps written = filter_map (slot_told t steps written) (upto MAX_SLOTS)

-- what a client has, where these are its shown periods, each with its fields that were written and not drained
abbrev pub show_told : Terms → Course → ℕ → List Drain → Told
show_told t k c written =
    told_as.Show c (client_run t k.steps) (length (sampled_in t k.steps)) (length (accepted_in t k.steps)) k.taken
    (control_at (history t k.steps).client) (copies_told t k.steps written)

-- what a scan tells
abbrev pub scan_told : ℕ → List ℕ → List Near → {S : Type 0} → List S → Told
scan_told c hides nears shows = told_as.Scan c (length hides) (length nears) (length shows)
