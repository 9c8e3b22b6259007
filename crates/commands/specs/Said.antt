-- The number that a word of a command line says: in a range, and written in decimal digits as in a script.
use Rattle.std.specs.Prelude.{ℕ, List, Option}
use Rattle.std.specs.Result.{result_ok}
use Rattle.match_script.specs.Words.{number_from}

-- the number in this range that a word says, if it says one
abbrev pub number_said : ℕ → ℕ → List ℕ → Option ℕ
number_said least most word = result_ok (number_from least most word)
