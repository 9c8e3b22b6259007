-- The last verdicts with a count of the losses among them.
use Rattle.std.specs.Prelude.{ℕ, ◌≡◌, ◌≤◌, List, length, Option, Some, None}
use Rattle.tn_types.specs.declared.choices.Verdict.{Verdict}
use Rattle.tn_types.specs.declared.choices.Verdict.TheVariants.{Received, Lost}
use Rattle.link_quality.specs.declared.verdicts.TheConstants.{JUDGED_PACKETS}
use Rattle.link_quality.specs.Packets.{lost_in}

abbrev pub loss_of : Verdict → ℕ
loss_of Received = 0
loss_of Lost = 1

abbrev pub losses_of_option : Option Verdict → ℕ
losses_of_option None = 0
losses_of_option (Some verdict) = loss_of verdict

pub record IsCounted (verdicts : List Verdict) (capacity lost : ℕ) : Type 0 where
  pub places : capacity ≡ JUDGED_PACKETS
  pub few : length verdicts ≤ JUDGED_PACKETS
  pub count : lost ≡ lost_in verdicts
