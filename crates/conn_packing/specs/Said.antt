-- What is said of a buffer that is too small for a datagram: how many bytes are needed.
use Rattle.std.specs.Prelude.{List, ℕ, ◌++◌, codes}
use Rattle.std.specs.Fmt.{decimal}
use Rattle.conn_packing.specs.declared.made.TooSmall.{TooSmall}

abbrev pub too_small_text : TooSmall → List ℕ
too_small_text fault = codes "buffer " ++ decimal fault.needed ++ codes " wanted"
