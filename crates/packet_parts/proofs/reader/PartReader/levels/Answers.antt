use Rattle.std.proofs.Common.{sym, ◌∙◌, arith}
use Rattle.std.specs.Prelude.{map}
use Rattle.std.proofs.lemmas.List.{length-map}
use Rattle.std.proofs.lemmas.Result.{err_from_is_err_and}
use Rattle.wire_format.proofs.ReadChosen.{width_at}
use Rattle.packet_parts.specs.Telling.{levels_told}
use Rattle.packet_parts.proofs.Counted.{next_level, level_stops, levels_told_all}
use Rattle.packet_parts.proofs.reader.PartReader.levels.Goals as goal

pub loop-field-preserved : goal.loop-field-preserved
loop-field-preserved c =
    let s = c.loop-field in
    let fields = c.args.fields.now in
    let ws = map (λ f. f.bits) fields in
    let len = length-map fields (λ f. f.bits) in
    record {
      read = next_level c.args.kind c.args.mask ws s.field _ s.self c.level.new.self (levels_told c.args.kind c.args.mask 0 ws c.args.self.now) (omega (arith, len))
          (sym (width_at fields s.field _ (omega arith))) c.in_ok-level.ensures.read s.invariant.read;
      whole = c.in_ok-level.ensures.whole ∙ s.invariant.whole;
    }

pub returns-in_err-level-clause-read : goal.returns-in_err-level-clause-read
returns-in_err-level-clause-read c =
    let s = c.loop-field in
    let fields = c.args.fields.now in
    let ws = map (λ f. f.bits) fields in
    let len = length-map fields (λ f. f.bits) in
    let p = err_from_is_err_and c.from_residual.result c.from_residual.ensures.1 in
    rw (p.1, p.2) (level_stops c.args.kind c.args.mask ws c.in_err-level.field-0.0 s.field _ s.self c.level.new.self (levels_told c.args.kind c.args.mask 0 ws c.args.self.now) (omega (arith, len))
    (sym (width_at fields s.field _ (omega arith))) c.in_err-level.ensures.read s.invariant.read)

pub returns-in_err-level-clause-whole : goal.returns-in_err-level-clause-whole
returns-in_err-level-clause-whole c = c.in_err-level.ensures.whole ∙ c.loop-field.invariant.whole

pub returns-clause-read : goal.returns-clause-read
returns-clause-read c =
    let s = c.loop-field in
    let ws = map (λ f. f.bits) c.args.fields.now in
    let len = length-map c.args.fields.now (λ f. f.bits) in
    levels_told_all c.args.kind c.args.mask ws s.field s.self (levels_told c.args.kind c.args.mask 0 ws c.args.self.now) (omega (arith, len)) s.invariant.read
