-- What is said of a text that is no script.
use Rattle.std.specs.Prelude.{ℕ, List, codes}
use Rattle.match_script.specs.declared.types.ScriptFault.{ScriptFault}
use Rattle.match_script.specs.declared.types.ScriptFault.TheVariants.{NotText, BadHeader, TooManyLines, UnknownWord, BadNumber, OutOfRange, BadHex}

abbrev pub fault_word : ScriptFault → List ℕ
fault_word NotText = codes "NotText"
fault_word BadHeader = codes "BadHeader"
fault_word TooManyLines = codes "TooManyLines"
fault_word UnknownWord = codes "UnknownWord"
fault_word BadNumber = codes "BadNumber"
fault_word OutOfRange = codes "OutOfRange"
fault_word BadHex = codes "BadHex"
