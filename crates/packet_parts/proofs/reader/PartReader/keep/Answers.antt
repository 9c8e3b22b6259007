use Rattle.bit_stream.specs.Bits.{bits_of}
use Rattle.packet_parts.specs.Parts.{Told}
use Rattle.packet_parts.proofs.Kept.{keeps}
use Rattle.packet_parts.proofs.reader.PartReader.keep.Goals as goal

pub invariant_of-self : goal.invariant_of-self
invariant_of-self c =
    let s : Told = record { whole = bits_of c.self.inside.bytes.now; parts = c.self.inside.parts; unread = c.self.inside.reader } in
    let h = c.requires in
    let v = c.self.view_is in
    rw (c.in-Ok.ensures.ok, c.place.ensures) (keeps c.args.name c.args.width s (c.args.value, c.args.reader) c.self.invariant (rw (← v) at h))
