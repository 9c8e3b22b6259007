-- What becomes of a message from the simulation. Where it meets the condition of its step, the step is made, and a show discards what
-- was drained of its object before. Where it doesn't, it is passed over, and nothing changes. A show has two conditions of its own:
-- the lanes have its object, and no period that is shown and not hidden has it.
use Rattle.std.specs.Prelude.{◌≡◌, ℕ, ◌<◌, ◌⊎◌, false, List, [], ◌∷◌, ◌++◌}
use Rattle.dirty_lanes.specs.declared.view.DrainedBits.{DrainedBits}
use Rattle.stream_manager.specs.Limits.{Terms}
use Rattle.kept_pair.specs.pair_core.History.{PairStep}
use Rattle.kept_pair.specs.pair_core.Conditions.{IsMet}
use Rattle.lane_periods.specs.Periods.{has_object}
use Rattle.pair_periods.specs.pair_steps.Steps.{up_in}
use Rattle.race_messages.specs.declared.message.Message.{Message}
use Rattle.race_messages.specs.declared.message.Message.TheVariants as message
use Rattle.race_messages.specs.Steps.{step_for, objects_with}

-- the steps, the newest first; the object of each period; and what the seat drained, the oldest first
pub record Progress : Type 0 where
  pub past : List PairStep
  pub objects : List ℕ
  pub drains : List DrainedBits

-- what a show needs of its object
abbrev pub IsFree : ℕ → Progress → Message → Type 0
IsFree objects p (message.Show object kind block level control) = (object < objects) × (has_object p.objects (up_in p.past) object ≡ false)
IsFree objects p m = Unit {0}

-- the message meets its condition, where the lanes have so many objects
abbrev pub MayTake : Terms → ℕ → Progress → Message → Type 0
MayTake t objects p m = IsMet t p.past (step_for m) × IsFree objects p m

abbrev pub Discards : Message → List DrainedBits → List DrainedBits → Type 0
Discards (message.Show object kind block level control) old new = (bits : ℕ) × (new ≡ old ++ record { object = object; bits = bits } ∷ [])
Discards m old new = new ≡ old

-- its step was made
pub record IsTaken (m : Message) (old new : Progress) : Type 0 where
  pub past : new.past ≡ step_for m ∷ old.past
  pub objects : new.objects ≡ objects_with m old.objects
  pub drains : Discards m old.drains new.drains

abbrev pub Takes : Terms → ℕ → Progress → Message → Progress → Type 0
Takes t objects old m new = (MayTake t objects old m × IsTaken m old new) ⊎ ((MayTake t objects old m → ⊥) × (new ≡ old))

-- messages one after another
abbrev pub TakesAll : Terms → ℕ → Progress → List Message → Progress → Type 0
TakesAll t objects old [] new = new ≡ old
TakesAll t objects old (m ∷ ms) new = (mid : Progress) × Takes t objects old m mid × TakesAll t objects mid ms new
