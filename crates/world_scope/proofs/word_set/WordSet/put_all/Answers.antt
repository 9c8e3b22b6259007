use Rattle.std.proofs.Common.{◌/◌, get_or, arith}
use Rattle.world_scope.proofs.Marks.{one_more, one_marked}
use Rattle.world_scope.proofs.Sets.{one_found}
use Rattle.world_scope.proofs.word_set.WordSet.put_all.Goals as goal

pub loop-number-preserved : goal.loop-number-preserved
loop-number-preserved c =
    let found = c.args.numbers.now in
    let i = c.loop-number.number-index in
    let words = c.loop-number.self-inside.words in
    let marked = c.loop-number.invariant.marked in
    let small = c.requires i c.loop-number-test.true in
    record {
      marked = one_marked words c.loop-number.marks (get_or found i 0 / 64) _ (omega (arith, small)) marked;
      so_far = one_found i found c.self.inside.words words _ c.loop-number-test.true (λ n l. one_more words (get_or found i 0) n marked.many small) c.loop-number.invariant.so_far;
    }
