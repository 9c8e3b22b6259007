use Rattle.std.proofs.Common.{◌≡◌, ◌≤◌, ◌*◌, take}
use Rattle.std.specs.Prelude.{◌↔◌}
use Rattle.datagram_tags.proofs.sides.is_same.Given as goal

abbrev pub invariant-bytes : goal.invariant-bytes
invariant-bytes l = record {
  small : l.apart ≤ 255 * l.i;
  same : l.apart ≡ 0 ↔ take l.i l.found ≡ take l.i l.right;
}
