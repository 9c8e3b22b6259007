use Rattle.std.proofs.Common.{◌≡◌, take, length}
use Rattle.ghost_client.proofs.copies.copied_kinds.Given as goal

abbrev pub invariant-slots : goal.invariant-slots
invariant-slots l = record { places : length l.all ≡ 256; items : take l.slot l.all ≡ take l.slot l.held }
