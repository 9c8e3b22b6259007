use Rattle.world_cells.specs.Grid.{lies_between}
use Rattle.world_scope.proofs.Sets.{AreWordsTo}
use Rattle.world_scope.proofs.candidates.add_words.Given as goal

abbrev pub invariant-loop-word : goal.invariant-loop-word
invariant-loop-word l = AreWordsTo l.word (lies_between l.columns.0 l.columns.1 l.rows.0 l.rows.1) l.world.objects l.initial.words l.words
