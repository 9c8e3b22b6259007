-- What is said of moves that are refused.
use Rattle.std.specs.Prelude.{ℕ, List, ◌++◌, codes}
use Rattle.std.specs.Fmt.{decimal}
use Rattle.move_manager.specs.declared.faults.MoveFault.{MoveFault}
use Rattle.move_manager.specs.declared.faults.MoveAhead.{MoveAhead}
use Rattle.move_manager.specs.declared.faults.MoveGap.{MoveGap}
use Rattle.move_manager.specs.declared.faults.MoveFault.TheVariants.{TooWide, Worn, Full}

abbrev pub move_fault_text : MoveFault → List ℕ
move_fault_text (TooWide width) = codes "wide " ++ decimal width
move_fault_text (Worn life) = codes "worn " ++ decimal life
move_fault_text (Full first last) = codes "full " ++ decimal first ++ codes " " ++ decimal last

abbrev pub move_ahead_text : MoveAhead → List ℕ
move_ahead_text fault = codes "moveahead " ++ decimal fault.count ++ codes " " ++ decimal fault.sampled

abbrev pub move_gap_text : MoveGap → List ℕ
move_gap_text fault = codes "movegap " ++ decimal fault.first ++ codes " " ++ decimal fault.accepted
