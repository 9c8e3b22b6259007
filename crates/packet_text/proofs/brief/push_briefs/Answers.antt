use Rattle.std.proofs.Common.{◌+◌, ◌++◌, refl, arith}
use Rattle.packet_text.specs.Brief.{briefs_of}
use Rattle.packet_text.proofs.Pieces.{next_brief, last_brief, from_place}
use Rattle.packet_text.proofs.brief.push_briefs.Goals as goal

pub loop-place-preserved : goal.loop-place-preserved
loop-place-preserved c =
    let s = c.loop-place in
    let ps = c.args.parts.now in
    next_brief c.args.kinds.now ps s.place _ _ _ s.out c.push_brief.new.out (c.args.out.now ++ briefs_of c.args.kinds.now ps) (omega arith) refl (from_place ps (s.place + 1)) c.in_ok-push_brief.ensures s.invariant

pub returns : goal.returns
returns c =
    let s = c.loop-place in
    let ps = c.args.parts.now in
    last_brief c.args.kinds.now ps s.place s.out (c.args.out.now ++ briefs_of c.args.kinds.now ps) (omega arith) s.invariant
