-- The datagrams that a client took, in order: what a demo of it records. A delivery brings the datagram of its place, and it is
-- taken where the client doesn't refuse it.
use Rattle.std.specs.Prelude.{◌≡◌, ℕ, List, [], ◌∷◌, ◌++◌, slice_get, Option, Some, None, Ok, Err}
use Rattle.tn_types.specs.Checks.{Checked}
use Rattle.demo_view.specs.stream_manager.Limits.{Terms}
use Rattle.demo_view.specs.stream_manager.declared.fault.ClientFault.{ClientFault}
use Rattle.demo_view.specs.stream_manager.Server.{server_datagrams}
use Rattle.demo_view.specs.stream_manager.Client.{client_end, arrive_answer, blocks_came, ghosts_came}
use Rattle.demo_view.specs.stream_manager.End.{delivered_at}
use Rattle.pair_core.specs.declared.step.Answer.{Answer}
use Rattle.pair_core.specs.declared.step.Answer.TheVariants as says
use Rattle.pair_core.specs.History.{PairStep, Down, History, history}
use Rattle.pair_core.specs.Answers.{answer}
use Rattle.demo_view.specs.stream_manager.Packets.{packets_at, blocks_seen, ghosts_seen, delivered_to}
use Rattle.demo_view.specs.Viewing.{ViewTerms, viewed}
use Rattle.demo_view.specs.Laws.{view_terms}

abbrev pub if_taken : Checked ClientFault → List ℕ → List (List ℕ)
if_taken (Ok u) bytes = bytes ∷ []
if_taken (Err fault) bytes = []

-- of what was sent of a place, if anything was
abbrev pub taken_of : Terms → History → Option (List ℕ) → List (List ℕ)
taken_of t h None = []
taken_of t h (Some bytes) = if_taken (arrive_answer t.config t.kinds bytes h.client) bytes

-- by the steps of the connection, the newest first
abbrev pub taken_down : Terms → List PairStep → List (List ℕ)
taken_down t [] = []
taken_down t (Down k ∷ steps) =
    taken_down t steps ++ taken_of t (history t steps) (slice_get (server_datagrams t (history t steps).server) k)
taken_down t (_ ∷ steps) = taken_down t steps

abbrev pub viewer_terms : Terms → ViewTerms
viewer_terms t = view_terms t.config t.kinds

-- ---- laws

-- a viewer that is given them has taken the packets that the client took
abbrev pub TakesTheSame : Terms → List PairStep → Type 0
TakesTheSame t steps = viewed (viewer_terms t) (taken_down t steps) ≡ packets_at (history t steps).client

-- and shows what the client shows
pub record ShowsTheSame (t : Terms) (steps : List PairStep) : Type 0 where
  pub blocks : blocks_seen (viewed (viewer_terms t) (taken_down t steps)) ≡ blocks_came (history t steps).client
  pub ghosts : ghosts_seen (viewed (viewer_terms t) (taken_down t steps)) ≡ ghosts_came (history t steps).client
  pub delivered : delivered_to (viewed (viewer_terms t) (taken_down t steps)) ≡ delivered_at (client_end (history t steps).client)

-- by the answer of a delivery
abbrev pub if_came : Answer → Option (List ℕ) → List (List ℕ)
if_came (says.Came moves) (Some bytes) = bytes ∷ []
if_came other bytes = []

-- a delivery that is answered `Came` records the datagram of its place, and no other one records anything
abbrev pub RecordsWhatCame : Terms → List PairStep → ℕ → Type 0
RecordsWhatCame t steps k =
    taken_down t (Down k ∷ steps)
    ≡ taken_down t steps ++ if_came (answer t steps (Down k)) (slice_get (server_datagrams t (history t steps).server) k)
