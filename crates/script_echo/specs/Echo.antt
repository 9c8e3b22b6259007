-- What is written of bytes that are read as a script: the script's text. Of others, the fault that they have as one.
use Rattle.std.specs.Prelude.{ℕ, List, Result, Ok, Err}
use Rattle.match_script.specs.Script.{Fault}
use Rattle.match_script.specs.Print.{text_of}
use Rattle.match_script.specs.declared.types.Script.{Script as OneScript}

abbrev pub echo_of : Result OneScript Fault → Result (List ℕ) Fault
echo_of (Ok script) = Ok (text_of script)
echo_of (Err fault) = Err fault
