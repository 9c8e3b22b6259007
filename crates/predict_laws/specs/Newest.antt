-- The data packet that a client's end took last.
use Rattle.std.specs.Prelude.{List, [], ◌∷◌, Option, Some, None}
use Rattle.wire_format.specs.declared.server.ServerBody.{ServerBody}
use Rattle.wire_format.specs.declared.server.ServerPacket.TheVariants as down
use Rattle.stream_manager.specs.Client.{ClientEvent, Posted, Sampled, Packed, Pinged, Took}

abbrev pub newest_body : List ClientEvent → Option ServerBody
newest_body [] = None
newest_body (Posted class payload ∷ log) = newest_body log
newest_body (Sampled m ∷ log) = newest_body log
newest_body (Packed p ∷ log) = newest_body log
newest_body (Pinged head ∷ log) = newest_body log
newest_body (Took (down.Ping head) ∷ log) = newest_body log
newest_body (Took (down.Body p) ∷ log) = Some p
