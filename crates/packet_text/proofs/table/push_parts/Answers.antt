use Rattle.std.proofs.Common.{◌+◌, ◌++◌, refl, arith}
use Rattle.packet_text.specs.Table.{parts_text}
use Rattle.packet_text.proofs.Pieces.{next_line, last_line, from_place}
use Rattle.packet_text.proofs.table.push_parts.Goals as goal

pub loop-place-preserved : goal.loop-place-preserved
loop-place-preserved c =
    let s = c.loop-place in
    let ps = c.args.parts.now in
    next_line c.args.kinds.now ps s.place _ _ _ s.out c.push_part.new.out (c.args.out.now ++ parts_text c.args.kinds.now ps) (omega arith) refl (from_place ps (s.place + 1)) c.in_ok-push_part.ensures s.invariant

pub returns : goal.returns
returns c =
    let s = c.loop-place in
    let ps = c.args.parts.now in
    last_line c.args.kinds.now ps s.place s.out (c.args.out.now ++ parts_text c.args.kinds.now ps) (omega arith) s.invariant
