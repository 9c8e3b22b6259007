use Rattle.std.proofs.Common.{◌≡◌, ℕ, ◌∙◌, subst, Ok, take, arith}
use Rattle.std.proofs.lemmas.List.{take_more_set, length-set}
use Rattle.bit_stream.specs.Reading.{number_at}
use Rattle.tn_types.specs.declared.moves.MoveBits.{MoveBits}
use Rattle.wire_format.specs.Moves.{move_at}
use Rattle.wire_format.specs.Reading.{counted_at}
use Rattle.wire_format.proofs.Counted.{goes_on, ends, is_done}
use Rattle.wire_format.proofs.MoveFormat.{read_at_once}
use Rattle.wire_format.proofs.moves.read_each.Goals as goal

pub returns-in-None-clause-read : goal.returns-in-None-clause-read
returns-in-None-clause-read c =
    ends (move_at c.args.wire) c.short_move.result (take c.moves.i c.moves.places) c.args.count c.moves.i c.moves.own (counted_at (move_at c.args.wire) c.args.count c.args.reader.now) c.moves-test.true
    (rw c.in-None.ensures.kept at c.short_move.ensures) c.moves.invariant.read

pub moves-preserved : goal.moves-preserved
moves-preserved c =
    let s = c.moves in
    let came : MoveBits = record { bits = c.in-Some.bits } in
    let item : move_at c.args.wire s.own ≡ Ok (came, c.take_wide.new.reader) =
    read_at_once c.args.wire s.own c.take_wide.new.reader c.in-Some.bits
    (subst (λ (w : ℕ). number_at w s.own ≡ Ok (c.in-Some.bits, c.take_wide.new.reader)) c.move_width-width.ensures.value c.in-Some.ensures.some) in
    record {
      read = rw (take_more_set s.places s.i came (omega (arith, c.requires, s.invariant.len))) (goes_on (move_at c.args.wire) (take s.i s.places) c.args.count s.i s.own came c.take_wide.new.reader (counted_at (move_at c.args.wire) c.args.count c.args.reader.now) c.moves-test.true item s.invariant.read);
      len = length-set s.places s.i came ∙ s.invariant.len;
    }

pub returns-clause-read : goal.returns-clause-read
returns-clause-read c =
    let s = c.moves in
    let end : s.i ≡ c.args.count = omega (arith, s.auto.i-end, c.moves-test.false) in
    subst (λ (n : ℕ). counted_at (move_at c.args.wire) c.args.count c.args.reader.now ≡ Ok (take n s.places, s.own)) end
    (is_done (move_at c.args.wire) (take s.i s.places) c.args.count s.i s.own (counted_at (move_at c.args.wire) c.args.count c.args.reader.now) c.moves-test.false s.invariant.read)
