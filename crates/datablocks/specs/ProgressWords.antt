-- How far each block is on its way, as a sender keeps it: block b stands at place b of a list, and what stands past
-- its end was never sent.
use Rattle.std.specs.Prelude.{◌≡◌, ℕ, ◌<◌, Bool, not, List}
use Rattle.std.specs.List.{slice_index_or}
use Rattle.std.specs.Int.{bit_at}
use Rattle.tn_types.specs.declared.choices.Verdict.{Verdict}
use Rattle.tn_types.specs.declared.limits.TheConstants.{MAX_BLOCKS}
use Rattle.notify_window.specs.declared.progress.Progress.{Progress}
use Rattle.notify_window.specs.declared.progress.Progress.TheVariants.{Due, Carried, Done}
use Rattle.notify_window.specs.Carriers.{progress_is_due, progress_is_done, progress_after}

abbrev pub progress_at : List Progress → ℕ → Progress
progress_at progress b = slice_index_or progress b Due

abbrev pub is_due_at : List Progress → ℕ → Bool
is_due_at progress b = progress_is_due (progress_at progress b)

-- no packet that carries it is received
abbrev pub is_open : List Progress → ℕ → Bool
is_open progress b = not (progress_is_done (progress_at progress b))

abbrev pub done_bit : Progress → ℕ
done_bit Due = 0
done_bit (Carried seq) = 0
done_bit Done = 1

-- bit b of the word tells whether block b is done
abbrev pub TellsDone : ℕ → List Progress → Type 0
TellsDone word progress = (b : ℕ) → b < MAX_BLOCKS → bit_at word b ≡ done_bit (progress_at progress b)

-- the verdict of packet seq leaves block b as it is
abbrev pub StaysPut : ℕ → Verdict → List Progress → ℕ → Type 0
StaysPut seq verdict progress b = progress_after seq verdict (progress_at progress b) ≡ progress_at progress b
