use Rattle.std.proofs.Common.{◌≡◌, take, map}
use Rattle.bit_stream.specs.WorldMoves.{move_of}
use Rattle.stream_manager.proofs.server.Conn.taken_moves.Given as goal

abbrev pub invariant-moves : goal.invariant-moves
invariant-moves l = record {
  moves : l.moves ≡ map move_of (take l.m-index l.m-items);
  items : l.m-items ≡ l.self.taken;
}
