-- The command `relay`: it reads a relay script, and writes the report of its relay.
use Rattle.std.specs.Prelude.{◌≡◌}
use Rattle.relay_script.specs.Ranges.{HasRelayRanges}
use Rattle.relay_script.specs.Whole.{relay_script_of}
use Rattle.script_input.specs.Outcome.{Row, of_script}
use Rattle.relay_node.specs.relay_report.Report.{relay_report}
use Rattle.relay_node.specs.relay_report.Laws.{PacksAreOfWhatWasMet, SameMetSamePacks, SameListsSamePacks}
use Rattle.relay_laws.specs.Shown.{SpectatorsShowWhatWasSo, PeriodsStandForOne}
use Rattle.relay_laws.specs.Settled.{SettledShowsTheRelays}
use Rattle.relay_laws.specs.Delivered.{SpectatorsDeliverWhatWasPosted}

abbrev pub relaying : Row
relaying = of_script relay_script_of HasRelayRanges (λ script text. text ≡ relay_report script)

-- what a relay keeps
pub record RelayLaws : Type 0 where
  -- what a spectator is sent is made of the header's numbers and blocks, what the relay's client took, and the spectator's own lines
  pub packs_are_of_what_was_met : PacksAreOfWhatWasMet
  pub same_met_same_packs : SameMetSamePacks
  pub same_lists_same_packs : SameListsSamePacks
  -- of an honest client at the relay, before every line of the relay: what a spectator shows is shown for a value that the object had, all
  -- of a copy of one object; a settled field shows what the relay's copy does, and the newest value where it is settled there too; and
  -- what it was delivered are the first of the events that were posted to that client
  pub shown : SpectatorsShowWhatWasSo
  pub of_one_object : PeriodsStandForOne
  pub settled : SettledShowsTheRelays
  pub delivered : SpectatorsDeliverWhatWasPosted
