-- What the events came to that a channel took from its end.
use Rattle.std.specs.Prelude.{◌≡◌, ℕ, List, Some, None, IsSome}
use Rattle.tn_types.specs.declared.choices.Class.TheVariants.{Guaranteed, Loose}
use Rattle.messages.specs.declared.faults.PieceFault.{PieceFault}
use Rattle.messages.specs.InboxState.{InboxState, waiting}
use Rattle.tribes_channel.specs.Channel.{Gathers, Awaits, EndsBy}
use Rattle.tribes_ends.specs.Sides.{Pops}
use Rattle.tribes_channel.specs.declared.receiving.Gathered.{Gathered}
use Rattle.tribes_channel.specs.declared.receiving.Gathered.TheVariants.{Nothing, Whole, Loose as Unguaranteed, Bad}
use Rattle.tribes_ends.specs.declared.link.Side.{Side}

-- all that was taken, and then an unguaranteed event
pub record GathersLoose (piece : List ℕ) (before : InboxState) (old : Side) (after : InboxState) (new : Side) : Type 0 where
  pub mid : Side
  pub gathers : Gathers before old after mid
  pub popped : Pops mid Loose piece new
  pub none_waits : waiting after ≡ None

abbrev pub GatheredBy : Gathered → InboxState → Side → InboxState → Side → Type 0
GatheredBy Nothing before old after new = Awaits before old after new
GatheredBy Whole before old after new = Gathers before old after new × IsSome (waiting after)
GatheredBy (Unguaranteed piece) before old after new = GathersLoose piece before old after new
GatheredBy (Bad fault) before old after new = EndsBy fault before old after new × (waiting after ≡ None)
