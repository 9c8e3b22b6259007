use Rattle.std.proofs.Common.{refl, arith}
use Rattle.tn_types.specs.BitWords.{from_bits}
use Rattle.notify_window.proofs.window.Window.new.Goals as goal

pub returns-clause-stands : goal.returns-clause-stands
unfolding from_bits
returns-clause-stands c = record { bounded = record { positive = omega arith; judged = omega arith; few = omega arith; living = omega arith; short = c.requires }; sent = refl; judged = refl; horizon = refl; mask = refl }
