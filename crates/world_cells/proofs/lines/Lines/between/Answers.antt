use Rattle.std.proofs.Common.{ap, min, ◌+◌, ◌*◌, ◌-◌, ℕ, List}
use Rattle.world_cells.specs.Lines.{has}
use Rattle.world_cells.proofs.LineBits.{has_word}
use Rattle.world_cells.proofs.lines.Lines.between.Goals as goal

pub returns : goal.returns
returns c = λ k l.
    let words = c.self.inside.words.items in
    let behind = has_word words c.args.to c.args.word k c.index.result.now _ c.self.invariant c.requires.word c.requires.to l c.index.ensures in
    let before = has_word words c.args.from c.args.word k c.index-2.result.now _ c.self.invariant c.requires.word c.requires.from l c.index-2.ensures in
    rw (c.apart.ensures k l, behind, before) (ap (λ (ws : List ℕ). min (has ws c.args.to (64 * c.args.word + k)) (1 - has ws c.args.from (64 * c.args.word + k))) c.self.view_is)
