-- What a sender of blocks did, the newest first, and what follows from it and from the fates of the packets. A block
-- is acknowledged where a packet that carries it is Received, and due where it is near the first one not
-- acknowledged and every packet that carries it is Lost.
use Rattle.std.specs.Prelude.{◌≡◌, ℕ, ◌+◌, Bool, not, ◌&&◌, ◌==◌, nat_lt, List, [], ◌∷◌, drop, if◌then◌else◌, refl}
use Rattle.tn_types.specs.Least.{least, those_below}
use Rattle.tn_types.specs.declared.limits.TheConstants.{MAX_BLOCKS_AHEAD}
use Rattle.notify_window.specs.Log.{Fate, Unjudged, Received, Lost}
use Rattle.notify_window.specs.Fates.{all_lost, any_received, judged}

pub data SenderEvent : Type 0 where
  Wrote : (seq number : ℕ) → SenderEvent  -- packet seq was sent with this block

-- the packets that carry block b, the newest first
abbrev pub carriers : ℕ → List SenderEvent → List ℕ
carriers b [] = []
carriers b (Wrote seq number ∷ log) = if number == b then seq ∷ carriers b log else carriers b log

abbrev pub is_unacked : (ℕ → Fate) → List SenderEvent → ℕ → Bool
is_unacked fate log b = not (any_received fate (carriers b log))

-- the first of so many blocks that no Received packet carries
abbrev pub first_unacked : (ℕ → Fate) → List SenderEvent → ℕ → ℕ
first_unacked fate log count = least (is_unacked fate log) count

abbrev pub is_due : (ℕ → Fate) → List SenderEvent → ℕ → ℕ → Bool
is_due fate log count b = nat_lt b (first_unacked fate log count + MAX_BLOCKS_AHEAD) && all_lost fate (carriers b log)

-- the due blocks among so many
abbrev pub due_of : (ℕ → Fate) → List SenderEvent → ℕ → List ℕ
due_of fate log count = those_below (is_due fate log count) count

-- Packet 1 carried blocks 0 and 1, packet 2 block 2. Packet 1 is lost, packet 2 is unjudged.
abbrev three_sent : List SenderEvent
three_sent = Wrote 2 2 ∷ Wrote 1 1 ∷ Wrote 1 0 ∷ []

abbrev first_lost : ℕ → Fate
first_lost s = if s == 1 then Lost else Unjudged

lost_are_due : due_of first_lost three_sent 4 ≡ 0 ∷ 1 ∷ 3 ∷ []
lost_are_due = refl

-- block 0 holds the window back, whatever comes after it
window_waits : drop 11 (due_of (judged first_lost 2 Received) three_sent 18) ≡ 12 ∷ 13 ∷ 14 ∷ 15 ∷ []
window_waits = refl
