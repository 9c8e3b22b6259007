-- What is said of bits that are no number, or no end: the bit at which they begin, and what is wrong, in the words of a
-- datagram's fault.
use Rattle.std.specs.Prelude.{ℕ, List, ◌++◌, codes}
use Rattle.std.specs.Fmt.{decimal}
use Rattle.bit_stream.specs.declared.reader.Short.{Short}
use Rattle.bit_stream.specs.declared.reader.PaddingFault.{PaddingFault}

abbrev pub short_text : Short → List ℕ
short_text fault = codes "bits " ++ decimal fault.place ++ codes " Short"

abbrev pub padding_text : PaddingFault → List ℕ
padding_text fault = codes "bits " ++ decimal fault.place ++ codes " Padding"
