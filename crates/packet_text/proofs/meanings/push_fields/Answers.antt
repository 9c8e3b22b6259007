use Rattle.std.proofs.Common.{◌++◌, arith}
use Rattle.packet_text.specs.Table.{fields_text}
use Rattle.packet_text.proofs.Pieces.{next_field, last_field}
use Rattle.packet_text.proofs.meanings.push_fields.Goals as goal

pub loop-field-preserved : goal.loop-field-preserved
loop-field-preserved c =
    let s = c.loop-field in
    next_field c.args.kind c.args.mask c.args.count s.field s.out c.push_field.new.out (c.args.out.now ++ fields_text c.args.kind c.args.mask 0 c.args.count) (omega arith) c.in_ok-push_field.ensures s.invariant

pub returns : goal.returns
returns c =
    let s = c.loop-field in
    last_field c.args.kind c.args.mask c.args.count s.field s.out (c.args.out.now ++ fields_text c.args.kind c.args.mask 0 c.args.count) (omega arith) s.invariant
