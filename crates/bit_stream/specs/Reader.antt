-- What a reader's fields mean: fewer than 64 bits as a number, and then whole bytes.
use Rattle.std.specs.Prelude.{◌+◌, ◌*◌, ◌^◌, ◌<◌, ◌≤◌, ◌++◌, length}
use Rattle.bit_stream.specs.Bits.{bits_of, number}
use Rattle.bit_stream.specs.Reading.{Unread}
use Rattle.tn_types.specs.declared.limits.TheConstants.{MAX_READ_BYTES, MAX_WORD_BITS}
use Rattle.bit_stream.specs.declared.reader.BitReader.TheInside.{Inside}

abbrev pub unread : Inside → Unread
unread r = record { place = r.place; rest = number r.count r.pending ++ bits_of r.rest.now }

pub record IsReader (r : Inside) : Type 0 where
  pub below : r.pending < 2 ^ r.count
  pub few : r.count < 2 * MAX_WORD_BITS
  pub fits : r.place + r.count + 8 * length r.rest.now ≤ 8 * MAX_READ_BYTES
