use Rattle.std.proofs.Common.{◌≡◌, ℕ, ◌<◌, ◌/◌, ◌%◌, ◌∙◌, List, cond, nat_eq, max, length, sym, ap, arith}
use Rattle.std.specs.Int.{bit_at}
use Rattle.world_cells.specs.NumberSet.{bit_of}
use Rattle.world_scope.proofs.Marks.{word_more, marked_more, are_marked, few_marked}
use Rattle.world_scope.proofs.word_set.WordSet.join.Goals as goal

pub invariant_of-self : goal.invariant_of-self
invariant_of-self c =
    let one = are_marked c.args.words c.args.marks c.args.word c.requires.word c.requires.marks in
    let few = few_marked c.args.words c.args.marks c.requires.words c.requires.marks in
    marked_more c.self.inside.words c.self.inside.marks c.args.marks c.args.word _ one few c.self.invariant

pub returns : goal.returns
returns c = λ n.
    let e : c.args.self.now ≡ c.self.inside.words = cc in
    let there : c.args.word < length c.self.inside.words = omega (arith, c.requires.word, c.requires.words, c.self.invariant.many) in
    word_more c.self.inside.words c.args.word c.args.bits n there
    ∙ ap (λ (ws : List ℕ). max (bit_of ws n) (cond (nat_eq (n / 64) c.args.word) (bit_at c.args.bits (n % 64)) 0)) (sym e)
