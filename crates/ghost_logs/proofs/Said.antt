-- The server's ghosts, its packets and its verdicts tell the same.
use Rattle.std.proofs.Common.{◌≡◌, ℕ, zero, suc, ◌+◌, ◌-◌, ◌<◌, ◌≤◌, Bool, true, false, List, [], ◌∷◌, ◌++◌, ◌∙◌, map, length, refl, sym, ap, arith}
use Rattle.std.proofs.lemmas.List.{map-append, length-map}
use Rattle.tn_types.specs.BitWords.{bit_of}
use Rattle.tn_types.specs.declared.choices.Choice.{Choice}
use Rattle.notify_window.specs.Log.{Fate, Came, fate_of_bit, sent_of}
use Rattle.notify_window.proofs.Verdicts.{fate-told_judged}
use Rattle.wire_format.specs.declared.client.ClientPacket.{ClientPacket}
use Rattle.wire_format.specs.declared.ghosts.GhostItem.{GhostItem}
use Rattle.ghost_model.specs.Ghosts.{GhostEvent, packets, verdicts}
use Rattle.ghost_pair.specs.Copies.{choices}
use Rattle.ghost_pair.proofs.There.{verdict_by}
use Rattle.ghost_pair.proofs.Joined.{AreSaid}
use Rattle.stream_manager.specs.Settling.{judgements, verdict_of}
use Rattle.stream_manager.specs.End.{window_log, fates, judged_at}
use Rattle.stream_manager.specs.Server as server
use Rattle.stream_manager.specs.Server.{ServerEvent, Show, Hide, Near, Absorb, server_end, ghost_log, planned, seen_up}
use Rattle.stream_manager.proofs.GhostTurns.{judgements-packets, judgements-verdicts, packets-sent, verdicts-judged}
use Rattle.ghost_logs.specs.Sent.{items_of, sent_items}

-- ---- packets

choices-are : (cs : List Choice) (xs : List GhostItem) → choices (items_of cs xs) ≡ cs
choices-are [] xs = refl
choices-are (c ∷ cs) [] = ap (λ l. c ∷ l) (choices-are cs [])
choices-are (c ∷ cs) (x ∷ xs) = ap (λ l. c ∷ l) (choices-are cs xs)

pub packets-are : (log : List ServerEvent) → packets (ghost_log log) ≡ map choices (sent_items log)
packets-are [] = refl
packets-are (server.Posted class payload ∷ log) = packets-are log
packets-are (server.Scoped (Show kind block level control) ∷ log) = packets-are log
packets-are (server.Scoped (Hide n) ∷ log) = packets-are log
packets-are (server.Scoped (Near n level) ∷ log) = packets-are log
packets-are (server.Scoped (Absorb n bits) ∷ log) = packets-are log
packets-are (server.Planned cs ∷ log) = packets-are log
packets-are (server.Packed p ∷ log) =
    ap (λ l. l ++ planned log ∷ []) (packets-are log) ∙ ap (λ c. map choices (sent_items log) ++ c ∷ []) (sym (choices-are (planned log) p.ghosts))
    ∙ sym (map-append choices (sent_items log) (items_of (planned log) p.ghosts ∷ []))
packets-are (server.Pinged head ∷ log) = packets-are log
packets-are (server.Took p room ∷ log) =
    judgements-packets (fates (server_end (server.Took p room ∷ log))) (judged_at (server_end log) + 1) (judged_at (server_end (server.Took p room ∷ log)) - judged_at (server_end log)) (ghost_log log) ∙ packets-are log

pub sent-count : (log : List ServerEvent) → length (sent_items log) ≡ sent_of (window_log (server_end log))
sent-count log = sym (length-map (sent_items log) choices) ∙ ap length (sym (packets-are log)) ∙ packets-sent log

-- ---- verdicts

-- the verdicts up to a number, as far as packets have them
abbrev pub AreTold : (ℕ → Bool) → List ServerEvent → Type 0
AreTold done s = (n : ℕ) → 0 < n → n ≤ judged_at (server_end s) → fates (server_end s) n ≡ fate_of_bit (bit_of (done n))

by-bit : (b : Bool) → verdict_of (fate_of_bit (bit_of b)) ≡ verdict_by b
by-bit true = refl
by-bit false = refl

judged-said : (done : ℕ → Bool) (fate : ℕ → Fate) (first : ℕ) (g : List GhostEvent) → first ≡ verdicts g + 1 → AreSaid done g → (count : ℕ) → ((n : ℕ) → first ≤ n → n < first + count → fate n ≡ fate_of_bit (bit_of (done n))) → AreSaid done (judgements fate first count g)
judged-said done fate first g e said zero told = said
judged-said done fate first g e said (suc count) told =
    let number : first + count ≡ suc (verdicts (judgements fate first count g)) = omega (arith, e, judgements-verdicts fate first count g) in (
      ap verdict_of (told (first + count) (omega arith) (omega arith)) ∙ by-bit (done (first + count)) ∙ ap (λ n. verdict_by (done n)) number,
      judged-said done fate first g e said count (λ n a b. told n a (omega arith)),
    )

-- a verdict that was there stays
pub told-before : (done : ℕ → Bool) (log : List ServerEvent) (p : ClientPacket) (room : ℕ) → AreTold done (server.Took p room ∷ log) → AreTold done log
told-before done log p room told n pos le =
    sym (fate-told_judged n (seen_up p).head.horizon (seen_up p).head.mask (Came (seen_up p).ping (seen_up p).head.seq ∷ window_log (server_end log)) le) ∙ told n pos (omega arith)

pub verdicts-said : (done : ℕ → Bool) (log : List ServerEvent) → AreTold done log → AreSaid done (ghost_log log)
verdicts-said done [] told = tt
verdicts-said done (server.Posted class payload ∷ log) told = verdicts-said done log told
verdicts-said done (server.Scoped (Show kind block level control) ∷ log) told = verdicts-said done log told
verdicts-said done (server.Scoped (Hide n) ∷ log) told = verdicts-said done log told
verdicts-said done (server.Scoped (Near n level) ∷ log) told = verdicts-said done log told
verdicts-said done (server.Scoped (Absorb n bits) ∷ log) told = verdicts-said done log told
verdicts-said done (server.Planned cs ∷ log) told = verdicts-said done log told
verdicts-said done (server.Packed p ∷ log) told = verdicts-said done log told
verdicts-said done (server.Pinged head ∷ log) told = verdicts-said done log told
verdicts-said done (server.Took p room ∷ log) told =
    judged-said done (fates (server_end (server.Took p room ∷ log))) (judged_at (server_end log) + 1) (ghost_log log) (omega (arith, verdicts-judged log)) (verdicts-said done log (told-before done log p room told))
    (judged_at (server_end (server.Took p room ∷ log)) - judged_at (server_end log)) (λ n a b. told n (omega arith) (omega arith))
