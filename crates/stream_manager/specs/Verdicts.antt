-- The verdicts that an end's last arrival brought: the packets that were judged by the packet which the end took last, in
-- rising order, each with what became of it. A datagram that was refused is not among what happened, and changes nothing.
use Rattle.std.specs.Prelude.{◌≡◌, ℕ, zero, suc, ◌+◌, ◌-◌, List, [], ◌∷◌, false, refl}
use Rattle.std.specs.Int.{bit_at}
use Rattle.tn_types.specs.declared.choices.Verdict.{Verdict}
use Rattle.tn_types.specs.declared.choices.Verdict.TheVariants as verdict
use Rattle.notify_window.specs.declared.Notices.{Notices}
use Rattle.notify_window.specs.Log.{Fate, fate_of_bit}
use Rattle.wire_format.specs.declared.header.Header.{Header}
use Rattle.stream_manager.specs.Settling.{verdict_of}
use Rattle.stream_manager.specs.End.{EndEvent, Posted, Packed, Pinged, Took, seen, fates, judged_at}

-- so many packets from this one on, in rising order, each with its verdict
abbrev pub verdicts_from : (ℕ → Fate) → ℕ → ℕ → List (ℕ × Verdict)
verdicts_from fate first zero = []
verdicts_from fate first (suc count) = (first, verdict_of (fate first)) ∷ verdicts_from fate (first + 1) count

-- what the packet that was taken last judged: those above what was judged before it
abbrev pub last_verdicts : List EndEvent → List (ℕ × Verdict)
last_verdicts [] = []
last_verdicts (Posted class payload ∷ log) = last_verdicts log
last_verdicts (Packed p ∷ log) = last_verdicts log
last_verdicts (Pinged p ∷ log) = last_verdicts log
last_verdicts (Took p ∷ log) =
    verdicts_from (fates (Took p ∷ log)) (judged_at log + 1) (judged_at (Took p ∷ log) - judged_at log)

-- what notices say: bit i tells of the packet that stands i behind the first
abbrev pub noticed : Notices → List (ℕ × Verdict)
noticed n = verdicts_from (λ s. fate_of_bit (bit_at n.bits (s - n.first))) n.first n.count

-- ---- examples: of three packets the second was lost, and the third has no verdict yet; a later ping tells nothing new

abbrev ack : ℕ → ℕ → Header
ack horizon mask = record { client = 0; seq = 1; horizon = horizon; mask = mask }

abbrev sent_three : List EndEvent
sent_three = Packed (seen false (ack 0 0) []) ∷ Packed (seen false (ack 0 0) []) ∷ Packed (seen false (ack 0 0) []) ∷ []

one_is_lost : last_verdicts (Took (seen false (ack 2 2) []) ∷ sent_three) ≡ (1, verdict.Received) ∷ (2, verdict.Lost) ∷ []
one_is_lost = refl

stays_behind_a_post : last_verdicts (Packed (seen false (ack 0 0) []) ∷ Took (seen false (ack 1 1) []) ∷ sent_three) ≡ (1, verdict.Received) ∷ []
stays_behind_a_post = refl

nothing_new : last_verdicts (Took (seen false (ack 2 2) []) ∷ Took (seen false (ack 2 2) []) ∷ sent_three) ≡ []
nothing_new = refl
