use Rattle.std.proofs.Common.{◌∙◌, inl, inr, sym, ap, arith}
use Rattle.bit_stream.specs.Reading.{end_at}
use Rattle.bit_stream.proofs.Reading.{end_at-even, end_at-odd}
use Rattle.bit_stream.proofs.reader.BitReader.end.Goals as goal
use Rattle.bit_stream.proofs.reader.BitReader.end.Goals.{else-left-lt8-via-then-left-lt8+else-self-eq0, else-left-lt8-via-else-left-lt8}

pub returns-then-self-eq0 : goal.returns-then-self-eq0
returns-then-self-eq0 c =
    sym (end_at-even c.self.inside c.self.invariant c.if-left-lt8.true c.if-self-eq0.true) ∙ ap end_at c.self.view_is

pub returns-else-left-lt8 : goal.returns-else-left-lt8
returns-else-left-lt8 c =
    elim c.else-left-lt8.branch [
      | else-left-lt8-via-then-left-lt8+else-self-eq0 w ↦
          sym (end_at-odd c.self.inside c.self.invariant (inr (omega arith, w.if-left-lt8.true))) ∙ ap end_at c.self.view_is
      | else-left-lt8-via-else-left-lt8 w ↦
          sym (end_at-odd c.self.inside c.self.invariant (inl w.if-left-lt8.false)) ∙ ap end_at c.self.view_is
    ]
