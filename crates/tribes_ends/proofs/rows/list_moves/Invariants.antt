use Rattle.std.proofs.Common.{◌≡◌, map, take}
use Rattle.tribes_ends.specs.Lists.{number_of}
use Rattle.tribes_ends.proofs.rows.list_moves.Given as goal

abbrev pub invariant-moves : goal.invariant-moves
invariant-moves l = record {
  counted : l.count ≡ l.m-index;
  listed : take l.m-index l.place ≡ map number_of (take l.m-index l.moves);
}
