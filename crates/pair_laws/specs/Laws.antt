-- What is promised of one connection, over all that it did.
use Rattle.std.specs.Prelude.{ℕ, List, ◌++◌}
use Rattle.std.specs.List.{AllByRecursion}
use Rattle.tn_types.specs.Prefix.{IsPrefixOf}
use Rattle.event_manager.specs.Sending.{posted_of}
use Rattle.event_manager.specs.Posted.{guaranteed_of}
use Rattle.conn_packing.specs.stream_manager.Limits.{Terms, AreTerms}
use Rattle.conn_packing.specs.stream_manager.End.{EndEvent, sender_log}
use Rattle.conn_packing.specs.stream_manager.Server.{server_end}
use Rattle.conn_packing.specs.stream_manager.Client.{client_end}
use Rattle.pair_core.specs.History.{PairStep, history}
use Rattle.pair_core.specs.Conditions.{StepFits, AreMet, IsHonest}
use Rattle.pair_core.specs.Answers.{client_delivered, server_delivered, sampled_in, accepted_in}

-- the guaranteed events that were posted at an end, the oldest first
abbrev pub posted_at : List EndEvent → List (List ℕ)
posted_at log = posted_of (sender_log log)

-- it holds of each connection within its limits, after all steps that met their conditions, where only what the client's end
-- sent came to the server's end
abbrev pub Always : (Terms → List PairStep → Type 0) → Type 0
Always P =
    (t : Terms) (steps : List PairStep) → AreTerms t → AllByRecursion StepFits steps → AreMet t steps → IsHonest steps → P t steps

-- it holds whatever steps come later
abbrev pub AlwaysLater : (Terms → List PairStep → List PairStep → Type 0) → Type 0
AlwaysLater P = (t : Terms) (later steps : List PairStep) → AreTerms t → AllByRecursion StepFits (later ++ steps)
    → AreMet t (later ++ steps) → IsHonest (later ++ steps) → P t later steps

-- what the client delivered is what the server posted, as far as it has come
abbrev pub DeliversDown : Terms → List PairStep → Type 0
DeliversDown t steps = IsPrefixOf (guaranteed_of (client_delivered t steps)) (posted_at (server_end (history t steps).server))

-- and the other way
abbrev pub DeliversUp : Terms → List PairStep → Type 0
DeliversUp t steps = IsPrefixOf (guaranteed_of (server_delivered t steps)) (posted_at (client_end (history t steps).client))

-- the moves that the server accepted are those that the client sampled, as far as they have come
abbrev pub AcceptsInOrder : Terms → List PairStep → Type 0
AcceptsInOrder t steps = IsPrefixOf (accepted_in t steps) (sampled_in t steps)
