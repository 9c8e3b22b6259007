-- What is said of an acknowledgement that is refused.
use Rattle.std.specs.Prelude.{ℕ, List, ◌++◌, codes}
use Rattle.std.specs.Fmt.{decimal}
use Rattle.notify_window.specs.declared.AckAhead.{AckAhead}

abbrev pub ack_ahead_text : AckAhead → List ℕ
ack_ahead_text fault = codes "ackahead " ++ decimal fault.horizon ++ codes " " ++ decimal fault.last
