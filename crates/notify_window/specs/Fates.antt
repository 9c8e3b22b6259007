-- What is known of the packets that carry one thing, an event or a block: whether all of them are lost, whether one was
-- received, and what a verdict changes.
use Rattle.std.specs.Prelude.{◌≡◌, ℕ, Bool, true, false, ◌&&◌, ◌||◌, ◌==◌, List, [], ◌∷◌, if◌then◌else◌, refl}
use Rattle.tn_types.specs.declared.choices.Verdict.{Verdict}
use Rattle.tn_types.specs.declared.choices.Verdict.TheVariants as verdict
use Rattle.notify_window.specs.Log.{Fate, Unjudged, Received, Lost, is_received}

abbrev pub is_lost : Fate → Bool
is_lost Unjudged = false
is_lost Received = false
is_lost Lost = true

-- all of these packets are lost
abbrev pub all_lost : (ℕ → Fate) → List ℕ → Bool
all_lost fate [] = true
all_lost fate (s ∷ ss) = is_lost (fate s) && all_lost fate ss

-- one of these packets was received
abbrev pub any_received : (ℕ → Fate) → List ℕ → Bool
any_received fate [] = false
any_received fate (s ∷ ss) = is_received (fate s) || any_received fate ss

abbrev pub fate_for : Verdict → Fate
fate_for verdict.Received = Received
fate_for verdict.Lost = Lost

-- the fates once packet seq has this one
abbrev pub judged : (ℕ → Fate) → ℕ → Fate → ℕ → Fate
judged fate seq f s = if s == seq then f else fate s

-- Packet 1 is lost and packet 2 is unjudged; then packet 2 is received.
abbrev first_lost : ℕ → Fate
first_lost s = if s == 1 then Lost else Unjudged

two_unjudged : all_lost first_lost (2 ∷ 1 ∷ []) ≡ false
two_unjudged = refl

two_received : any_received (judged first_lost 2 Received) (2 ∷ 1 ∷ []) ≡ true
two_received = refl
