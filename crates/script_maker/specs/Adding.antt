-- What a call that draws adds to a list.
use Rattle.std.specs.Prelude.{◌≡◌, List, ◌++◌}
use Rattle.rand_pcg.specs.Lcg.{Lcg}
use Rattle.script_maker.specs.Draws.{Drawn}

-- what is drawn now stands behind what stood there, and the generator is behind its last draw
pub record Adds {A : Type 0} (drawn : Drawn (List A)) (old : List A) (g : Lcg) (new : List A) (g' : Lcg) : Type 0 where
  pub items : new ≡ old ++ (drawn g).0
  pub generator : g' ≡ (drawn g).1
