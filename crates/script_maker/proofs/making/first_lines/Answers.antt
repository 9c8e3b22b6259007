use Rattle.std.proofs.Common.{[], List, subst, sym, ◌∙◌, arith}
use Rattle.match_script.specs.declared.types.BodyLine.{BodyLine}
use Rattle.script_maker.specs.Adding.{Adds}
use Rattle.script_maker.specs.Draws.{each_below}
use Rattle.script_maker.specs.Lines.{round}
use Rattle.script_maker.proofs.Drawing.{adds_nothing, adds_next}
use Rattle.script_maker.proofs.Rounds.{adds_a_line, enough_rounds}
use Rattle.script_maker.proofs.making.first_lines.Goals as goal

pub rounds-init : goal.rounds-init
rounds-init c = record {
  rounds = subst (λ (xs : List BodyLine). Adds (each_below 0 (round c.args.clients)) [] c.args.rng.now xs c.args.rng.now) (sym c.in_ok-lines.ensures) (adds_nothing (round c.args.clients) [] c.args.rng.now);
  few = omega arith;
  long = omega arith;
}

pub rounds-smaller : goal.rounds-smaller
rounds-smaller c =
    let grown = adds_a_line c.args.clients c.rounds.k c.rounds.lines.items c.put_round.new.lines.items c.rounds.rng c.put_round.new.rng c.in_ok-put_round.ensures in
    omega (arith, grown, c.rounds-test.true, c.len.ensures)

pub rounds-preserved : goal.rounds-preserved
rounds-preserved c =
    let grown = adds_a_line c.args.clients c.rounds.k c.rounds.lines.items c.put_round.new.lines.items c.rounds.rng c.put_round.new.rng c.in_ok-put_round.ensures in
    record {
      rounds = adds_next (round c.args.clients) c.rounds.k [] c.rounds.lines.items c.put_round.new.lines.items c.args.rng.now c.rounds.rng c.put_round.new.rng c.rounds.invariant.rounds c.in_ok-put_round.ensures;
      few = omega (arith, c.rounds.invariant.long, c.rounds-test.true, c.len.ensures);
      long = omega (arith, grown, c.rounds.invariant.long);
    }

pub returns : goal.returns
returns c =
    c.from_vec.ensures ∙ c.truncate.ensures.items
    ∙ enough_rounds c.args.clients c.args.steps c.rounds.k c.args.rng.now c.rounds.rng c.rounds.lines.items c.rounds.invariant.rounds c.rounds.invariant.few (omega (arith, c.rounds-test.false, c.len.ensures))
