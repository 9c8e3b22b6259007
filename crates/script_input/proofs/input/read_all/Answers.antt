use Rattle.std.proofs.Common.{◌+◌, arith}
use Rattle.script_input.proofs.Taking.{took_more}
use Rattle.script_input.proofs.input.read_all.Goals as goal

pub returns-then-is_err-clause-taken : goal.returns-then-is_err-clause-taken
returns-then-is_err-clause-taken g c = took_more (g.S.Source.held c.args.source.now) (g.S.Source.held c.reads.source) (g.S.Source.held c.read.new.self) c.in-Ok.count (c.args.limit + 1) c.reads.bytes.items c.read.new.buf c.reads.invariant.gave c.in-Ok.ensures.bytes (omega (arith, c.in-Ok.ensures.bound, c.read.auto.buf, c.split_at_mut-piece.ensures.front_len, c.min-room.ensures, c.len-in-reads.ensures))
