-- Which steps may bring moves to the server: those that bring it a datagram, where it takes that datagram.
use Rattle.std.specs.Prelude.{Bool, true, false, List, [], if◌then◌else◌}
use Rattle.tn_types.specs.declared.moves.MoveBits.{MoveBits}
use Rattle.pair_core.specs.declared.step.PairStep.{PairStep as GivenStep}
use Rattle.pair_core.specs.declared.step.PairStep.TheVariants as given
use Rattle.pair_core.specs.declared.step.Answer.{Answer}
use Rattle.pair_core.specs.declared.step.Answer.TheVariants as says

abbrev pub has_come : Answer → Bool
has_come (says.Came moves) = true
has_come other = false

abbrev pub brings : GivenStep → Answer → Bool
brings (given.Up k room) a = has_come a
brings (given.Raw bytes room) a = has_come a
brings other a = false

-- of the moves that the server lends, those that the step brought
abbrev pub brought : GivenStep → Answer → List MoveBits → List MoveBits
brought step a lent = if brings step a then lent else []
