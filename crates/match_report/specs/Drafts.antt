-- A text with a line at its end that is still being written: what stands before the line, and the line so far.
use Rattle.std.specs.Prelude.{ℕ, List}

pub record Written : Type 0 where
  pub before : List ℕ
  pub line : List ℕ
