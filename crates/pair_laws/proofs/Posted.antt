-- The guaranteed events of a packet are those that were posted under their numbers.
use Rattle.std.proofs.Common.{ℕ, zero, suc, ◌-◌, Bool, true, false, nat_le, List, [], ◌∷◌, ◌++◌, if◌then◌else◌, take, drop, ap, ◌∙◌}
use Rattle.std.proofs.lemmas.List.{take-append-drop}
use Rattle.wire_format.specs.declared.events.EventItem.{EventItem}
use Rattle.event_manager.specs.Receiving.{items_onto, run_of, delivered_of}
use Rattle.event_manager.specs.Posted.{ArePosted, guaranteed_of}
use Rattle.event_manager.proofs.Prefixes.{posted-due, delivered-posted}
use Rattle.conn_packing.specs.stream_manager.declared.config.Config.{Config}
use Rattle.conn_packing.specs.stream_manager.Wire.{event_bits}
use Rattle.conn_packing.specs.stream_manager.End.{EndEvent, sender_log, fates, events_for}
use Rattle.tn_types.specs.Fitting.{fitting}
use Rattle.tn_types.specs.Prefix.{IsPrefixOf}
use Rattle.pair_laws.specs.Laws.{posted_at}

posted-take : (vs : List (List ℕ)) (n : ℕ) (xs : List EventItem) → ArePosted vs xs → ArePosted vs (take n xs)
posted-take vs zero xs h = tt
posted-take vs (suc n) [] h = tt
posted-take vs (suc n) (x ∷ xs) h = (h.0, posted-take vs n xs h.1)

posted-fitting : (c : Config) (vs : List (List ℕ)) (room : ℕ) (es : List EventItem) → ArePosted vs es → ArePosted vs (fitting (event_bits c) room es)
posted-fitting c vs room [] h = tt
posted-fitting c vs room (e ∷ es) h = go (nat_le (event_bits c e) room) (posted-fitting c vs (room - event_bits c e) es h.1)
  where
    go : (b : Bool) → ArePosted vs (fitting (event_bits c) (room - event_bits c e) es) → ArePosted vs (if b then e ∷ fitting (event_bits c) (room - event_bits c e) es else [])
    go true rest = (h.0, rest)
    go false rest = tt

-- the events of a data packet
pub posted-events : (c : Config) (room : ℕ) (log : List EndEvent) → ArePosted (posted_at log) (events_for c room log)
posted-events c room log = posted-fitting c (posted_at log) room _ (posted-take (posted_at log) 31 _ (posted-due (fates log) (sender_log log)))

pub posted-items : (vs : List (List ℕ)) (xs ys : List EventItem) → ArePosted vs xs → ArePosted vs ys → ArePosted vs (items_onto xs ys)
posted-items vs [] ys h k = k
posted-items vs (x ∷ xs) ys h k = posted-items vs xs (x ∷ ys) h.1 (h.0, k)

pub delivered-prefix : (vs : List (List ℕ)) (came : List EventItem) → ArePosted vs came → IsPrefixOf (guaranteed_of (delivered_of came)) vs
delivered-prefix vs came h = (drop (run_of came) vs, ap (λ l. l ++ drop (run_of came) vs) (delivered-posted vs came h) ∙ take-append-drop (run_of came) vs)
