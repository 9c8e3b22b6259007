use Rattle.std.proofs.Common.{◌≡◌, length}
use Rattle.race_course.specs.Course.{AreNew}
use Rattle.race_course.proofs.making.first_clients.Given as goal

abbrev pub invariant-loop-i : goal.invariant-loop-i
invariant-loop-i l = record {
  count : length l.clients.items ≡ l._i;
  clients : AreNew l.clients.items;
}
