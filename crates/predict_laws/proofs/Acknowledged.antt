-- What the server told last of accepted moves is what it had accepted at the pack of the newest packet that came.
use Rattle.std.proofs.Common.{◌≡◌, inl, inr, ℕ, ◌+◌, ◌<◌, ◌≤◌, Bool, true, false, cond, List, [], ◌∷◌, length, Option, Some, None, refl, sym, ap, ◌∙◌, subst, arith, length-append, nat_le, max, ◌++◌, take, drop, ◌-◌}
use Rattle.tn_types.specs.declared.moves.MoveBits.{MoveBits}
use Rattle.wire_format.specs.declared.server.ServerBody.{ServerBody}
use Rattle.wire_format.specs.declared.server.ServerPacket.TheVariants as down
use Rattle.wire_format.specs.declared.client.ClientPacket.{ClientPacket}
use Rattle.wire_format.specs.declared.client.ClientPacket.TheVariants as up
use Rattle.move_manager.specs.Sending.{Packet, acked_of}
use Rattle.move_manager.specs.Accepting.{accept, new_count}
use Rattle.stream_manager.specs.declared.config.Config.{Config}
use Rattle.stream_manager.specs.Limits.{Terms}
use Rattle.stream_manager.specs.End.{window_log}
use Rattle.stream_manager.specs.Server as server
use Rattle.stream_manager.specs.Server.{ServerEvent, server_end, move_log, accepted_at}
use Rattle.stream_manager.specs.Client as client
use Rattle.stream_manager.specs.Client.{ClientEvent, sample_log}
use Rattle.notify_window.specs.Log.{sent_of}
use Rattle.ghost_logs.specs.Sent.{WasPacked, horizon_at}
use Rattle.ghost_logs.specs.Ends.{IsMade, CameFrom}
use Rattle.predict_laws.specs.Newest.{newest_body}

-- ---- what the server accepted grows

accepts_more : (life room : ℕ) (p : Packet) (accepted : List MoveBits) → length accepted ≤ length (accept life room p accepted)
accepts_more life room p accepted = by_test (nat_le p.first (length accepted))
  where
    by_test : (b : Bool) → length accepted ≤ length (cond b (accepted ++ take (new_count life room (length accepted) p) (drop (length accepted - p.first) p.moves)) accepted)
    by_test true = omega (arith, length-append accepted (take (new_count life room (length accepted) p) (drop (length accepted - p.first) p.moves)))
    by_test false = omega arith

took_more : (c : Config) (p : ClientPacket) (room : ℕ) (log : List ServerEvent) → length (accepted_at c log) ≤ length (accepted_at c (server.Took p room ∷ log))
took_more c (up.Ping head) room log = omega arith
took_more c (up.Body p) room log = accepts_more c.life room (record { first = p.first; moves = p.moves }) (accepted_at c log)

-- ---- packets that were sent

-- a packet tells of no more moves, and has no greater number, than the server has by now
pub record IsBehind (t : Terms) (log : List ServerEvent) (p : ServerBody) : Type 0 where
  pub accepted : p.accepted ≤ length (accepted_at t.config log)
  pub seq : p.head.seq ≤ sent_of (window_log (server_end log))

module _ (t : Terms) where
  behind : (log : List ServerEvent) (p : ServerBody) → IsMade t log → WasPacked p log → IsBehind t log p
  behind [] p made was = absurd was
  behind (server.Packed q ∷ log) p made (inl e) =
      let accepted : p.accepted ≡ length (accepted_at t.config log) = ap (λ (x : ServerBody). x.accepted) (e ∙ made.0.value) in
      let seq : p.head.seq ≡ sent_of (window_log (server_end log)) + 1 = ap (λ (x : ServerBody). x.head.seq) (e ∙ made.0.value) in
      record { accepted = omega (arith, accepted); seq = omega (arith, seq) }
  behind (server.Packed q ∷ log) p made (inr was) =
      let h = behind log p made.1 was in record { accepted = h.accepted; seq = omega (arith, h.seq) }
  behind (server.Posted class payload ∷ log) p made was = let h = behind log p made was in record { accepted = h.accepted; seq = h.seq }
  behind (server.Scoped change ∷ log) p made was = let h = behind log p made was in record { accepted = h.accepted; seq = h.seq }
  behind (server.Planned choices ∷ log) p made was = let h = behind log p made.1 was in record { accepted = h.accepted; seq = h.seq }
  behind (server.Pinged head ∷ log) p made was = let h = behind log p made was in record { accepted = h.accepted; seq = h.seq }
  behind (server.Took q room ∷ log) p made was =
      let h = behind log p made was in record { accepted = omega (arith, h.accepted, took_more t.config q room log); seq = h.seq }

  -- of two packets the newer one tells of no fewer moves
  newer_tells : (log : List ServerEvent) (p q : ServerBody) → IsMade t log → WasPacked p log → WasPacked q log → p.head.seq < q.head.seq → p.accepted ≤ q.accepted
  newer_tells [] p q made was after lt = absurd was
  newer_tells (server.Packed r ∷ log) p q made (inl e) (inl f) lt = let same : p.head.seq ≡ q.head.seq = ap (λ (x : ServerBody). x.head.seq) (e ∙ sym f) in absurd (omega (arith, same, lt))
  newer_tells (server.Packed r ∷ log) p q made (inl e) (inr after) lt =
      let seq : p.head.seq ≡ sent_of (window_log (server_end log)) + 1 = ap (λ (x : ServerBody). x.head.seq) (e ∙ made.0.value) in
      absurd (omega (arith, seq, (behind log q made.1 after).seq, lt))
  newer_tells (server.Packed r ∷ log) p q made (inr was) (inl f) lt =
      let accepted : q.accepted ≡ length (accepted_at t.config log) = ap (λ (x : ServerBody). x.accepted) (f ∙ made.0.value) in
      omega (arith, accepted, (behind log p made.1 was).accepted)
  newer_tells (server.Packed r ∷ log) p q made (inr was) (inr after) lt = newer_tells log p q made.1 was after lt
  newer_tells (server.Posted class payload ∷ log) p q made was after lt = newer_tells log p q made was after lt
  newer_tells (server.Scoped change ∷ log) p q made was after lt = newer_tells log p q made was after lt
  newer_tells (server.Planned choices ∷ log) p q made was after lt = newer_tells log p q made.1 was after lt
  newer_tells (server.Pinged head ∷ log) p q made was after lt = newer_tells log p q made was after lt
  newer_tells (server.Took r room ∷ log) p q made was after lt = newer_tells log p q made was after lt

-- ---- packets that came

-- the newest one was sent, and its number is not above the horizon
pub record IsNewest (s : List ServerEvent) (u : List ClientEvent) (p : ServerBody) : Type 0 where
  pub sent : WasPacked p s
  pub seq : p.head.seq ≤ horizon_at u

newest_is : (s : List ServerEvent) (u : List ClientEvent) (p : ServerBody) → CameFrom s u → newest_body u ≡ Some p → IsNewest s u p
newest_is s [] p came e = absurd (cc)
newest_is s (client.Posted class payload ∷ u) p came e = let h = newest_is s u p came e in record { sent = h.sent; seq = h.seq }
newest_is s (client.Sampled m ∷ u) p came e = let h = newest_is s u p came e in record { sent = h.sent; seq = h.seq }
newest_is s (client.Packed q ∷ u) p came e = let h = newest_is s u p came e in record { sent = h.sent; seq = h.seq }
newest_is s (client.Pinged head ∷ u) p came e = let h = newest_is s u p came e in record { sent = h.sent; seq = h.seq }
newest_is s (client.Took (down.Ping head) ∷ u) p came e = let h = newest_is s u p came e in record { sent = h.sent; seq = omega (arith, h.seq) }
newest_is s (client.Took (down.Body q) ∷ u) p came e =
    let same : q ≡ p = cc in
    record { sent = subst (λ (x : ServerBody). WasPacked x s) same came.0; seq = let seq : q.head.seq ≡ p.head.seq = ap (λ (x : ServerBody). x.head.seq) same in omega (arith, seq) }

-- how many moves a packet tells of, if there is one
abbrev pub moves_told : Option ServerBody → ℕ
moves_told None = 0
moves_told (Some p) = p.accepted

module _ (t : Terms) where
  pub acked_newest : (s : List ServerEvent) (u : List ClientEvent) → IsMade t s → CameFrom s u → acked_of (sample_log u) ≡ moves_told (newest_body u)
  acked_newest s [] made came = refl
  acked_newest s (client.Posted class payload ∷ u) made came = acked_newest s u made came
  acked_newest s (client.Sampled m ∷ u) made came = acked_newest s u made came
  acked_newest s (client.Packed q ∷ u) made came = acked_newest s u made came
  acked_newest s (client.Pinged head ∷ u) made came = acked_newest s u made came
  acked_newest s (client.Took (down.Ping head) ∷ u) made came = acked_newest s u made came
  acked_newest s (client.Took (down.Body q) ∷ u) made came =
      by_older (newest_body u) refl (acked_newest s u made came.2)
    where
      by_older : (o : Option ServerBody) → newest_body u ≡ o → acked_of (sample_log u) ≡ moves_told (newest_body u) → max (acked_of (sample_log u)) q.accepted ≡ q.accepted
      by_older None e same = let none : acked_of (sample_log u) ≡ 0 = same ∙ ap moves_told e in omega (arith, none)
      by_older (Some p) e same =
          let tells : acked_of (sample_log u) ≡ p.accepted = same ∙ ap moves_told e in
          let h = newest_is s u p came.2 e in
          let le = newer_tells t s p q made h.sent came.0 (omega (arith, h.seq, came.1)) in
          omega (arith, tells, le)
