-- A text that is written part by part: what stood there before, and what was added.
use Rattle.std.specs.Prelude.{ℕ, List}

pub record Written : Type 0 where
  pub before : List ℕ
  pub added : List ℕ
