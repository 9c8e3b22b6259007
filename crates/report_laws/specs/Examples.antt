-- A small match, computed through its datagrams, bit by bit: one client and a clock. An event is posted and comes, a move is sampled,
-- accepted and applied, and the client's copy of the clock is settled until the next tick.
use Rattle.std.specs.Prelude.{pos, ◌≡◌, List, [], ◌∷◌, map, true, false, Some, None, codes, refl}
use Rattle.std.specs.Fmt.{digits}
use Rattle.tn_types.specs.BitWords.{from_bits}
use Rattle.tn_types.specs.declared.choices.Class.TheVariants.{Guaranteed}
use Rattle.tn_types.specs.declared.moves.Move.{Move as PlayerMove}
use Rattle.tn_types.specs.declared.moves.MoveBits.{MoveBits}
use Rattle.bit_stream.specs.Reading.{number_at, is_padding, end_at}
use Rattle.bit_stream.specs.Bits.{number, number_from, bits_of, low_bytes, datagram}
use Rattle.bit_stream.specs.WorldMoves.{move_of}
use Rattle.pair_core.specs.stream_manager.wire_format.Moves.{side_by_side_at, move_at}
use Rattle.pair_core.specs.stream_manager.wire_format.Blocks.{block_at}
use Rattle.pair_core.specs.stream_manager.wire_format.Reading.{part_at, such_at, optional_at, counted_at, listed_at}
use Rattle.pair_core.specs.stream_manager.wire_format.Client.{client_body_at, client_at}
use Rattle.pair_core.specs.stream_manager.wire_format.Ghosts.{levels_at, create_at, updated_at, update_at, ghost_at}
use Rattle.pair_core.specs.stream_manager.wire_format.Events.{event_at}
use Rattle.pair_core.specs.stream_manager.wire_format.Server.{server_body_at, server_at}
use Rattle.pair_core.specs.stream_manager.wire_format.Header.{header_at}
use Rattle.ghost_model.specs.Words.{upto}
use Rattle.pair_core.specs.event_manager.Sending.{first_unacked, due_guaranteed}
use Rattle.pair_core.specs.ghost_masks.Plan.{plan_of}
use Rattle.pair_core.specs.stream_manager.Limits.{Terms}
use Rattle.pair_core.specs.Answers.{client_delivered}
use Rattle.world_rules.specs.Clocks.{clock_next}
use Rattle.world_sim.specs.Rows.{row_writes, world_writes}
use Rattle.world_sim.specs.Worlds.{next}
use Rattle.client_scope.specs.world_scope.Scope.{visible_list}
use Rattle.match_script.specs.declared.types.BodyLine.{BodyLine}
use Rattle.match_script.specs.declared.types.BodyLine.TheVariants.{Tick, Scan, Post, Pack, ClientPack, Down, Up, Move, Show}
use Rattle.match_script.specs.declared.types.Head.{Head}
use Rattle.own_lists.specs.Past.{client_terms}
use Rattle.match_laws.specs.Report.{line_text}
use Rattle.match_laws.specs.Applied.{applied}
use Rattle.match_laws.specs.Values.{steps_of, shown_at}
use Rattle.report_laws.specs.Settled.{is_written_then}

one_clock : Head
one_clock = record {
  version = 1;
  seed = 1;
  clients = 1;
  life = 100;
  size = 128;
  radius = 1000;
  blocks = (7 ∷ []) ∷ [];
  setup = record {
    clients = 1;
    radius = 1000;
    spawns = record { kind = 5; block = 0; team = 0; x = pos 0; y = pos 0; owner = None } ∷ [];
  };
}

a_move : PlayerMove
a_move = record { dx = pos 1; dy = pos 0; fire = false; act = false; dx_range = refl; dy_range = refl }

-- the newest line first: two datagrams go down and come, and two go up; the second event waits
arrived : List BodyLine
arrived =
    Post 0 Guaranteed (33 ∷ [])
    ∷ Up 0 1 ∷ ClientPack 0 ∷ Down 0 1 ∷ Pack 0
    ∷ Up 0 0 ∷ ClientPack 0 ∷ Move 0 a_move ∷ Down 0 0 ∷ Pack 0
    ∷ Post 0 Guaranteed (104 ∷ 105 ∷ []) ∷ Scan 0 ∷ []

terms : Terms
terms = client_terms one_clock 0

-- the first of two posted events was delivered
one_of_two : client_delivered terms (steps_of one_clock arrived 0) ≡ (Guaranteed, 104 ∷ 105 ∷ []) ∷ []
unfolding one_clock a_move arrived terms digits from_bits number_at is_padding end_at number number_from bits_of low_bytes datagram side_by_side_at move_at block_at part_at such_at optional_at counted_at listed_at client_body_at client_at levels_at create_at updated_at update_at ghost_at event_at server_body_at server_at header_at upto plan_of first_unacked due_guaranteed visible_list next clock_next
one_of_two = refl

-- the copy shows 0 in the clock's first field, and it is settled
zero_settled : shown_at (record { head = one_clock; past = arrived; client = 0 }) 0 (record { kind = 5; block = 0; levels = 0 ∷ 0 ∷ 0 ∷ [] }) 0
    ≡ Some (record { value = pos 0; settled = true })
unfolding one_clock a_move arrived terms digits from_bits number_at is_padding end_at number number_from bits_of low_bytes datagram side_by_side_at move_at block_at part_at such_at optional_at counted_at listed_at client_body_at client_at levels_at create_at updated_at update_at ghost_at event_at server_body_at server_at header_at upto plan_of first_unacked due_guaranteed visible_list next clock_next
zero_settled = refl

-- a tick writes it, and so it isn't any more
written_now : is_written_then (record { head = one_clock; past = Tick ∷ arrived; client = 0 }) 0 0 ≡ true
unfolding one_clock a_move arrived terms digits from_bits number_at is_padding end_at number number_from bits_of low_bytes datagram side_by_side_at move_at block_at part_at such_at optional_at counted_at listed_at client_body_at client_at levels_at create_at updated_at update_at ghost_at event_at server_body_at server_at header_at upto plan_of first_unacked due_guaranteed visible_list next clock_next row_writes world_writes
written_now = refl

-- the tick takes the move that was sampled: one step along x
move_applied : map (λ (m : MoveBits). (move_of m).dx) (applied one_clock 0 (Tick ∷ arrived)) ≡ pos 1 ∷ []
unfolding one_clock a_move arrived terms digits from_bits number_at is_padding end_at number number_from bits_of low_bytes datagram side_by_side_at move_at block_at part_at such_at optional_at counted_at listed_at client_body_at client_at levels_at create_at updated_at update_at ghost_at event_at server_body_at server_at header_at upto plan_of first_unacked due_guaranteed visible_list next clock_next
move_applied = refl

-- and so a report says it
as_printed : line_text one_clock arrived (Show 0)
    ≡ codes "show 0 events 1 sampled 1 accepted 1 taken 0 control - ghosts 1 | 0 clock 0 0s 0s 0s\n"
unfolding one_clock a_move arrived terms digits from_bits number_at is_padding end_at number number_from bits_of low_bytes datagram side_by_side_at move_at block_at part_at such_at optional_at counted_at listed_at client_body_at client_at levels_at create_at updated_at update_at ghost_at event_at server_body_at server_at header_at upto plan_of first_unacked due_guaranteed visible_list next clock_next
as_printed = refl
