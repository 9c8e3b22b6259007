-- What the program says of an answer: its exit status, and its words on standard error.
use Rattle.std.specs.Prelude.{ℕ, List, ◌++◌, codes}
use Rattle.std.specs.Fmt.{decimal}
use Rattle.match_script.specs.Said.{fault_word}
use Rattle.script_input.specs.declared.status.Status.{Status}
use Rattle.script_input.specs.declared.status.Status.TheVariants.{Done, Usage, Script, TooLong, ReadFault, WriteFault, NoMemory, LinkFault, ClockFault, Demo}

abbrev pub exit_of : Status → ℕ
exit_of Done = 0
exit_of (Usage place) = 2
exit_of (Script line fault) = 3
exit_of TooLong = 4
exit_of ReadFault = 5
exit_of WriteFault = 6
exit_of NoMemory = 7
exit_of LinkFault = 8
exit_of ClockFault = 9
exit_of (Demo place) = 10

abbrev pub words_of : Status → List ℕ
words_of Done = codes ""
words_of (Usage place) = codes "usage " ++ decimal place
words_of (Script line fault) = codes "script " ++ decimal line ++ codes " " ++ fault_word fault
words_of TooLong = codes "toolong"
words_of ReadFault = codes "readfault"
words_of WriteFault = codes "writefault"
words_of NoMemory = codes "nomemory"
words_of LinkFault = codes "linkfault"
words_of ClockFault = codes "clockfault"
words_of (Demo place) = codes "demo " ++ decimal place
