use Rattle.world_cells.proofs.SetBits.{all_there}
use Rattle.world_cells.proofs.number_set.NumberSet.all.Goals as goal

pub returns : goal.returns
returns c = λ n l. all_there c.in_ok-vec.field-0.items (c.in_ok-vec.ensures.items_if_clones_equal (λ y h. h)) n l
