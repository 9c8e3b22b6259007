-- What a demo of a client is to its match.
use Rattle.std.specs.Prelude.{◌≡◌, ℕ, List}
use Rattle.match_script.specs.declared.types.BodyLine.{BodyLine}
use Rattle.match_script.specs.declared.types.Head.{Head}
use Rattle.demo_taken.specs.demo_view.stream_manager.Client.{ClientEvent, client_end, ghosts_came}
use Rattle.demo_taken.specs.demo_view.stream_manager.End.{delivered_at}
use Rattle.demo_taken.specs.demo_view.stream_manager.Packets.{ghosts_seen, delivered_to}
use Rattle.demo_taken.specs.demo_view.Viewing.{viewed}
use Rattle.demo_taken.specs.pair_core.History.{history}
use Rattle.demo_taken.specs.Taken.{taken_down, viewer_terms}
use Rattle.own_lists.specs.Past.{client_terms}
use Rattle.match_engine.specs.match_laws.Values.{steps_of}
use Rattle.demo_record.specs.Recording.{taken_lines}

-- what happened at a client by these lines
abbrev pub client_log : Head → ℕ → List BodyLine → List ClientEvent
client_log head c past = (history (client_terms head c) (steps_of head past c)).client

-- the lines record what the client's connection took
abbrev pub RecordsTheConnection : Type 0
RecordsTheConnection =
    (head : Head) (c : ℕ) (past : List BodyLine) → taken_lines head c past ≡ taken_down (client_terms head c) (steps_of head past c)

-- a viewer of the records shows the copies that the client has, and delivers the events that it delivers
pub record ShowsTheClient (head : Head) (c : ℕ) (past : List BodyLine) : Type 0 where
  pub ghosts : ghosts_seen (viewed (viewer_terms (client_terms head c)) (taken_lines head c past)) ≡ ghosts_came (client_log head c past)
  pub delivered : delivered_to (viewed (viewer_terms (client_terms head c)) (taken_lines head c past))
      ≡ delivered_at (client_end (client_log head c past))

abbrev pub ReplaysTheClient : Type 0
ReplaysTheClient = (head : Head) (c : ℕ) (past : List BodyLine) → ShowsTheClient head c past
