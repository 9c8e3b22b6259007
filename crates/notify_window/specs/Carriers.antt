-- How far one thing is on its way, as a sender keeps it, and what that says of the packets that carry it, the newest
-- first. A verdict makes it done or due again where that packet was the last to carry it.
use Rattle.std.specs.Prelude.{◌≡◌, ℕ, Bool, true, false, ◌==◌, List, [], ◌∷◌, if◌then◌else◌}
use Rattle.tn_types.specs.declared.choices.Verdict.{Verdict}
use Rattle.tn_types.specs.declared.choices.Verdict.TheVariants.{Received, Lost}
use Rattle.notify_window.specs.declared.progress.Progress.{Progress}
use Rattle.notify_window.specs.declared.progress.Progress.TheVariants.{Due, Carried, Done}
use Rattle.notify_window.specs.Log.{Fate, Unjudged}
use Rattle.notify_window.specs.Fates.{all_lost, any_received}

abbrev pub progress_is_due : Progress → Bool
progress_is_due Due = true
progress_is_due (Carried seq) = false
progress_is_due Done = false

abbrev pub progress_is_done : Progress → Bool
progress_is_done Due = false
progress_is_done (Carried seq) = false
progress_is_done Done = true

abbrev pub verdict_progress : Verdict → Progress
verdict_progress Received = Done
verdict_progress Lost = Due

-- what the verdict of packet seq makes of it
abbrev pub progress_after : ℕ → Verdict → Progress → Progress
progress_after seq verdict Due = Due
progress_after seq verdict (Carried q) = if q == seq then verdict_progress verdict else Carried q
progress_after seq verdict Done = Done

-- what it says of the packets that carry the thing
abbrev pub ProgressIs : (ℕ → Fate) → List ℕ → Progress → Type 0
ProgressIs fate ss Due = all_lost fate ss ≡ true
ProgressIs fate [] (Carried q) = ⊥
ProgressIs fate (s ∷ ss) (Carried q) = (s ≡ q) × (fate s ≡ Unjudged) × (all_lost fate ss ≡ true)
ProgressIs fate ss Done = any_received fate ss ≡ true
