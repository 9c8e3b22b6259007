-- Unguaranteed events from end to end: those that an end delivers are some of those that the other end posted, in the
-- order of posting and each once at most. They are named by their payloads, since they have no number.
use Rattle.std.specs.Prelude.{ℕ, ◌≡◌, List, [], ◌∷◌, ◌++◌, refl}
use Rattle.tn_types.specs.Subsequence.{IsSubsequenceOf}
use Rattle.tn_types.specs.declared.choices.Class.{Class}
use Rattle.tn_types.specs.declared.choices.Class.TheVariants.{Guaranteed, Loose}
use Rattle.conn_packing.specs.stream_manager.Limits.{Terms}
use Rattle.conn_packing.specs.stream_manager.End.{EndEvent, Posted, Packed, Pinged, Took}
use Rattle.conn_packing.specs.stream_manager.Server.{server_end}
use Rattle.conn_packing.specs.stream_manager.Client.{client_end}
use Rattle.pair_core.specs.History.{PairStep, history}
use Rattle.pair_core.specs.Answers.{client_delivered, server_delivered}

abbrev pub of_loose : Class → List ℕ → List (List ℕ) → List (List ℕ)
of_loose Guaranteed v vs = vs
of_loose Loose v vs = v ∷ vs

-- the payloads of the unguaranteed ones
abbrev pub loose_of : List (Class × List ℕ) → List (List ℕ)
loose_of [] = []
loose_of (event ∷ events) = of_loose event.0 event.1 (loose_of events)

-- the unguaranteed events that were posted at an end, the oldest first
abbrev pub loose_posted_at : List EndEvent → List (List ℕ)
loose_posted_at [] = []
loose_posted_at (Posted Guaranteed v ∷ log) = loose_posted_at log
loose_posted_at (Posted Loose v ∷ log) = loose_posted_at log ++ v ∷ []
loose_posted_at (Packed p ∷ log) = loose_posted_at log
loose_posted_at (Pinged p ∷ log) = loose_posted_at log
loose_posted_at (Took p ∷ log) = loose_posted_at log

-- the unguaranteed events that the client delivered are some of those that the server posted, in order
abbrev pub LooseDown : Terms → List PairStep → Type 0
LooseDown t steps = IsSubsequenceOf (loose_of (client_delivered t steps)) (loose_posted_at (server_end (history t steps).server))

-- and the other way
abbrev pub LooseUp : Terms → List PairStep → Type 0
LooseUp t steps = IsSubsequenceOf (loose_of (server_delivered t steps)) (loose_posted_at (client_end (history t steps).client))

-- events 7, 8 and 9 were posted, a guaranteed one among them
abbrev three_posted : List EndEvent
three_posted = Posted Loose (9 ∷ []) ∷ Posted Guaranteed (1 ∷ []) ∷ Posted Loose (8 ∷ []) ∷ Posted Loose (7 ∷ []) ∷ []

three_loose : loose_posted_at three_posted ≡ (7 ∷ []) ∷ (8 ∷ []) ∷ (9 ∷ []) ∷ []
three_loose = refl

two_delivered : loose_of ((Loose, 7 ∷ []) ∷ (Guaranteed, 1 ∷ []) ∷ (Loose, 9 ∷ []) ∷ []) ≡ (7 ∷ []) ∷ (9 ∷ []) ∷ []
two_delivered = refl
