use Rattle.std.specs.Prelude.{reverse}
use Rattle.demo_view.proofs.Keeping.{AreKept}
use Rattle.demo_view.proofs.kept.creates_of.Given as goal

abbrev pub invariant-slots : goal.invariant-slots
invariant-slots l = AreKept l.copies.kinds l.copies.slots l.slot (reverse l.all.items)
