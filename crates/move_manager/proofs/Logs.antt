-- What a sender and a receiver show, against their logs.
use Rattle.std.proofs.Common.{◌≡◌, ℕ, zero, suc, ◌+◌, ◌-◌, ◌≤◌, max, nat_le, true, List, [], ◌∷◌, ◌++◌, length, take, drop, arith, sym, ap, ◌∙◌, length-append, length-drop, length-take}
use Rattle.std.proofs.lemmas.Bool.Decides.{nat_tests}
use Rattle.std.proofs.lemmas.List.{drop-append-le, drop-drop}
use Rattle.std.specs.Prelude.{nat_lt, ◌^◌}
use Rattle.std.specs.List.{AllByRecursion}
use Rattle.std.proofs.lemmas.Bool.{ltb-true}
use Rattle.tn_types.specs.declared.moves.MoveBits.{MoveBits}
use Rattle.wire_format.specs.declared.wire.Wire.{Wire}
use Rattle.wire_format.specs.Moves.{move_width, IsMove}
use Rattle.move_manager.specs.Sending.{Sender, Sampled, Acked, sampled_of, acked_of, Packet}
use Rattle.move_manager.specs.Sending as sending
use Rattle.move_manager.specs.Accepting.{Receiver, Took, accepted_of, accept, new_count}
use Rattle.move_manager.specs.Accepting as accepting

pub sampled_more : (s : Sender) (m : MoveBits) (log : List sending.SenderEvent) → sending.StandsFor s log → sending.StandsFor (record s { waiting = s.waiting ++ m ∷ [] }) (Sampled m ∷ log)
sampled_more s m log h = record {
  first = h.first;
  within = omega (arith, h.within, length-append (sampled_of log) (m ∷ []));
  waiting = ap (λ t. t ++ m ∷ []) h.waiting ∙ sym (drop-append-le (acked_of log) (sampled_of log) (m ∷ []) (omega (arith, h.first, h.within)));
}

pub count_sampled : (s : Sender) (log : List sending.SenderEvent) → sending.StandsFor s log → s.first + length s.waiting ≡ length (sampled_of log)
count_sampled s log h = omega (arith, h.first, h.within, ap length h.waiting, length-drop (acked_of log) (sampled_of log))

pub acked_more : (s : Sender) (count : ℕ) (log : List sending.SenderEvent) → count ≤ s.first + length s.waiting → sending.StandsFor s log → sending.StandsFor (record s { first = max s.first count; waiting = drop (count - s.first) s.waiting }) (Acked count ∷ log)
acked_more s count log few h =
    let all = count_sampled s log h in
    record {
      first = ap (λ n. max n count) h.first;
      within = omega (arith, h.within, all);
      waiting =
          ap (λ t. drop (count - s.first) t) h.waiting ∙ drop-drop (count - s.first) (acked_of log) (sampled_of log)
          ∙ ap (λ n. drop n (sampled_of log)) (omega (arith, h.first));
    }

pub length-accept : (life room : ℕ) (p : Packet) (acc : List MoveBits) → p.first ≤ length acc → length (accept life room p acc) ≡ length acc + new_count life room (length acc) p
length-accept life room p acc l =
    let e : nat_le p.first (length acc) ≡ true = grind (arith, nat_tests) in
    let n = new_count life room (length acc) p in
    let rest = drop (length acc - p.first) p.moves in
    rw e (omega (arith, length-append acc (take n rest), length-take n rest, length-drop (length acc - p.first) p.moves))

pub accepted_more : (r : Receiver) (p : Packet) (room : ℕ) (log : List accepting.ReceiverEvent) → p.first ≤ r.accepted → accepting.StandsFor r log → accepting.StandsFor (record r { accepted = r.accepted + new_count r.life room r.accepted p }) (Took p room ∷ log)
accepted_more r p room log l h =
    let few : p.first ≤ length (accepted_of r.life log) = omega (arith, h.accepted) in
    record { accepted = rw h.accepted (sym (length-accept r.life room p (accepted_of r.life log) few)) }

-- ---- waiting moves have no further bits than are written

pub fits_more : (w : Wire) (ms : List MoveBits) (m : MoveBits) → AllByRecursion (IsMove w) ms → nat_lt m.bits (2 ^ move_width w) ≡ true → AllByRecursion (IsMove w) (ms ++ m ∷ [])
fits_more w [] m all fits = (ltb-true _ _ fits, tt)
fits_more w (x ∷ ms) m all fits = (all.0, fits_more w ms m all.1 fits)

pub fits_less : (w : Wire) (n : ℕ) (ms : List MoveBits) → AllByRecursion (IsMove w) ms → AllByRecursion (IsMove w) (drop n ms)
fits_less w zero ms all = all
fits_less w (suc n) [] all = tt
fits_less w (suc n) (m ∷ ms) all = fits_less w n ms all.1
