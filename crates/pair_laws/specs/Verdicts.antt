-- What a verdict of one end says of the other. A packet is Received only if the other end processed it, and Lost only if
-- the other end did not and never will: as soon as a packet is judged, it is Received exactly where it was processed.
use Rattle.std.specs.Prelude.{ℕ, ◌≡◌, true, false, List, ◌++◌}
use Rattle.notify_window.specs.Log.{Received, Lost, is_processed}
use Rattle.conn_packing.specs.stream_manager.Limits.{Terms}
use Rattle.conn_packing.specs.stream_manager.End.{EndEvent, window_log, fates}
use Rattle.conn_packing.specs.stream_manager.Server.{server_end}
use Rattle.conn_packing.specs.stream_manager.Client.{client_end}
use Rattle.pair_core.specs.History.{PairStep, history}

-- each packet of the sender that is Lost was not processed at the receiver
abbrev pub LostIsTrue : List EndEvent → List EndEvent → Type 0
LostIsTrue sender receiver = (s : ℕ) → fates sender s ≡ Lost → is_processed s (window_log receiver) ≡ false

-- and each that is Received was
abbrev pub ReceivedIsTrue : List EndEvent → List EndEvent → Type 0
ReceivedIsTrue sender receiver = (s : ℕ) → fates sender s ≡ Received → is_processed s (window_log receiver) ≡ true

abbrev pub VerdictsAreTrue : List EndEvent → List EndEvent → Type 0
VerdictsAreTrue sender receiver = ReceivedIsTrue sender receiver × LostIsTrue sender receiver

-- of the server's packets, after the steps
abbrev pub VerdictsAreTrueDown : Terms → List PairStep → Type 0
VerdictsAreTrueDown t steps = VerdictsAreTrue (server_end (history t steps).server) (client_end (history t steps).client)

-- and of the client's
abbrev pub VerdictsAreTrueUp : Terms → List PairStep → Type 0
VerdictsAreTrueUp t steps = VerdictsAreTrue (client_end (history t steps).client) (server_end (history t steps).server)

-- what the server lost after the steps, the client has not processed after any later ones either
abbrev pub LostForGoodDown : Terms → List PairStep → List PairStep → Type 0
LostForGoodDown t later steps = LostIsTrue (server_end (history t steps).server) (client_end (history t (later ++ steps)).client)

-- and the other way
abbrev pub LostForGoodUp : Terms → List PairStep → List PairStep → Type 0
LostForGoodUp t later steps = LostIsTrue (client_end (history t steps).client) (server_end (history t (later ++ steps)).server)
