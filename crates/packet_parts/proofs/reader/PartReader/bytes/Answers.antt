use Rattle.std.proofs.Common.{◌∙◌}
use Rattle.std.proofs.lemmas.Result.{err_from_is_err_and}
use Rattle.packet_parts.specs.Parts.{counted_told}
use Rattle.packet_parts.specs.Telling.{byte_told}
use Rattle.packet_parts.proofs.Counted.{one_more, stops_at, all_told}
use Rattle.packet_parts.proofs.reader.PartReader.bytes.Goals as goal

pub loop-preserved : goal.loop-preserved
loop-preserved c = record {
  read = one_more (byte_told c.args.name) c.args.count c.loop.counter c.loop.self c.byte.new.self (counted_told (byte_told c.args.name) c.args.count c.args.self.now) c.loop-test.true c.in_ok-byte.ensures.read c.loop.invariant.read;
  whole = c.in_ok-byte.ensures.whole ∙ c.loop.invariant.whole;
}

pub returns-in_err-byte-clause-read : goal.returns-in_err-byte-clause-read
returns-in_err-byte-clause-read c =
    let p = err_from_is_err_and c.from_residual.result c.from_residual.ensures.1 in
    rw (p.1, p.2) (stops_at (byte_told c.args.name) c.in_err-byte.field-0.0 c.args.count c.loop.counter c.loop.self c.byte.new.self (counted_told (byte_told c.args.name) c.args.count c.args.self.now) c.loop-test.true c.in_err-byte.ensures.read c.loop.invariant.read)

pub returns-in_err-byte-clause-whole : goal.returns-in_err-byte-clause-whole
returns-in_err-byte-clause-whole c = c.in_err-byte.ensures.whole ∙ c.loop.invariant.whole

pub returns-clause-read : goal.returns-clause-read
returns-clause-read c = all_told (byte_told c.args.name) c.args.count c.loop.counter c.loop.self (counted_told (byte_told c.args.name) c.args.count c.args.self.now) c.loop-test.false c.loop.invariant.read
