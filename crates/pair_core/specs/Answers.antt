-- What each step answers after the steps before it, and what both ends have by then.
use Rattle.std.specs.Prelude.{◌≡◌, refl, ℕ, List, [], length, slice_get, true, false, Option, Some, None, Result, Ok, Err}
use Rattle.tn_types.specs.declared.choices.Class.{Class}
use Rattle.tn_types.specs.declared.choices.Class.TheVariants.{Guaranteed, Loose}
use Rattle.tn_types.specs.declared.choices.PacketKind.TheVariants.{Ping, Body}
use Rattle.notify_window.specs.declared.SendState.{SendState}
use Rattle.notify_window.specs.declared.SendState.TheVariants.{Held, Worn, Room}
use Rattle.tn_types.specs.declared.moves.MoveBits.{MoveBits}
use Rattle.event_manager.specs.declared.sender.PostFault.{PostFault}
use Rattle.move_manager.specs.declared.faults.MoveFault.{MoveFault}
use Rattle.ghost_model.specs.Scope.{shows}
use Rattle.ghost_model.specs.Ghosts.{scope_log}
use Rattle.conn_packing.specs.stream_manager.declared.server.Taken.{Taken}
use Rattle.conn_packing.specs.stream_manager.Limits.{Terms}
use Rattle.conn_packing.specs.stream_manager.declared.fault.ArriveFault.{ArriveFault}
use Rattle.conn_packing.specs.stream_manager.declared.fault.ClientFault.{ClientFault}
use Rattle.event_manager.specs.Receiving.{run_of}
use Rattle.conn_packing.specs.stream_manager.End.{came_of, delivered_at, dropped_of}
use Rattle.conn_packing.specs.stream_manager.Server as server
use Rattle.conn_packing.specs.stream_manager.Server.{server_end, server_state, server_datagrams, accepted_at, posted_at_server, ghost_log}
use Rattle.conn_packing.specs.stream_manager.Client as client
use Rattle.conn_packing.specs.stream_manager.Client.{client_end, client_state, client_datagrams, sampled_at, posted_at_client, sampled_answer}
use Rattle.conn_packing.specs.declared.made.Made.{Made}
use Rattle.conn_packing.specs.declared.made.Made.TheVariants as packs
use Rattle.pair_core.specs.declared.step.Answer.{Answer}
use Rattle.pair_core.specs.declared.step.Answer.TheVariants as says
use Rattle.pair_core.specs.History.{PairStep, Show, Hide, Near, Post, ClientPost, Sample, Pack, ClientPack, Down, Up, Raw, History, history}

abbrev pub post_answer : Result ℕ PostFault → Answer
post_answer (Ok number) = says.Posted number
post_answer (Err fault) = says.PostRefused fault

abbrev pub sample_answer : Result ℕ MoveFault → Answer
sample_answer (Ok number) = says.Sampled number
sample_answer (Err fault) = says.MoveRefused fault

-- a datagram stands behind those that were made before it
abbrev pub made : SendState → ℕ → ℕ → Answer
made Held life place = says.Packed Ping place
made Worn life place = says.Worn life
made Room life place = says.Packed Body place

-- by what a pack made
abbrev pub of_made : Made → ℕ → Answer
of_made (packs.Ping len) place = says.Packed Ping place
of_made (packs.Body len) place = says.Packed Body place
of_made (packs.Worn life) place = says.Worn life

abbrev pub came_down : Result (Unit {0}) ClientFault → Answer
came_down (Ok u) = says.Came 0
came_down (Err fault) = says.ClientRefused fault

abbrev pub came_up : Result Taken ArriveFault → Answer
came_up (Ok taken) = says.Came taken.moves
came_up (Err fault) = says.ServerRefused fault

-- what was sent of a place, if anything was, comes to the other end
abbrev pub brought_down : Terms → History → ℕ → Option (List ℕ) → Answer
brought_down t h k None = says.NotSent k (length (server_datagrams t h.server))
brought_down t h k (Some bytes) = came_down (client.arrive_answer t.config t.kinds bytes h.client)

abbrev pub brought_up : Terms → History → ℕ → ℕ → Option (List ℕ) → Answer
brought_up t h k room None = says.NotSent k (length (client_datagrams t.config h.client))
brought_up t h k room (Some bytes) = came_up (server.arrive_answer t.config room bytes h.server)

abbrev pub answer_at : Terms → History → PairStep → Answer
answer_at t h (Show kind block level control) = says.Period (shows (scope_log (ghost_log h.server)))
answer_at t h (Hide n) = says.Done
answer_at t h (Near n level) = says.Done
answer_at t h (Post Guaranteed v) = post_answer (posted_at_server t.config h.server)
answer_at t h (Post Loose v) = says.Loose (dropped_of (server_end h.server))
answer_at t h (ClientPost Guaranteed v) = post_answer (posted_at_client t.config h.client)
answer_at t h (ClientPost Loose v) = says.Loose (dropped_of (client_end h.client))
answer_at t h (Sample m) = sample_answer (sampled_answer t.config m h.client)
answer_at t h (Pack drains reads) = made (server_state t.config h.server) t.config.life (length (server_datagrams t h.server))
answer_at t h ClientPack = made (client_state t.config h.client) t.config.life (length (client_datagrams t.config h.client))
answer_at t h (Down k) = brought_down t h k (slice_get (server_datagrams t h.server) k)
answer_at t h (Up k room) = brought_up t h k room (slice_get (client_datagrams t.config h.client) k)
answer_at t h (Raw bytes room) = came_up (server.arrive_answer t.config room bytes h.server)

-- what a step answers after these steps
abbrev pub answer : Terms → List PairStep → PairStep → Answer
answer t steps step = answer_at t (history t steps) step

-- ---- what both ends have

-- the events that an end delivered; a delivery hands out what is delivered after it and was not before
abbrev pub client_delivered : Terms → List PairStep → List (Class × List ℕ)
client_delivered t steps = delivered_at (client_end (history t steps).client)

abbrev pub server_delivered : Terms → List PairStep → List (Class × List ℕ)
server_delivered t steps = delivered_at (server_end (history t steps).server)

-- how many guaranteed events the client delivered
abbrev pub client_run : Terms → List PairStep → ℕ
client_run t steps = run_of (came_of (client_end (history t steps).client))

-- the moves that the client sampled, and those that the server accepted
abbrev pub sampled_in : Terms → List PairStep → List MoveBits
sampled_in t steps = sampled_at (history t steps).client

abbrev pub accepted_in : Terms → List PairStep → List MoveBits
accepted_in t steps = accepted_at t.config (history t steps).server

-- ---- examples

new : Terms
new = record { config = record { client = 0; life = 2; size = 128; version = 1; move_bits = 10 }; kinds = []; blocks = [] }

-- nothing was sent at place 3
nothing_sent : answer new [] (Down 3) ≡ says.NotSent 3 0
unfolding new
nothing_sent = refl

-- the first object that is shown has period 0, the first data packet place 0
first_period : answer new [] (Show 2 0 3 false) ≡ says.Period 0
unfolding new
first_period = refl

first_packet : answer new [] (Pack [] []) ≡ says.Packed Body 0
unfolding new
first_packet = refl
