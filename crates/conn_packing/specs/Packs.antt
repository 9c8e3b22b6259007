-- What a pack makes of a server's end: it absorbs what was drained, plans and sends a data packet with what was read, or sends a
-- ping where too many packets are unjudged, or does nothing where the connection's life is over; and which datagram that is.
use Rattle.std.specs.Prelude.{◌≡◌, refl, pos, ℕ, ℤ, List, [], ◌∷◌, length, map}
use Rattle.tn_types.specs.declared.choices.Drain.{Drain}
use Rattle.tn_types.specs.declared.choices.Read.{Read}
use Rattle.notify_window.specs.declared.SendState.{SendState}
use Rattle.notify_window.specs.declared.SendState.TheVariants.{Held, Worn, Room}
use Rattle.stream_manager.specs.Limits.{Terms}
use Rattle.stream_manager.specs.Server as server
use Rattle.stream_manager.specs.Server.{ServerEvent, server_state, server_bytes, server_ping_bytes, with_plan}
use Rattle.conn_packing.specs.declared.made.Made.{Made}
use Rattle.conn_packing.specs.declared.made.Made.TheVariants as made

-- what was drained is absorbed, in this order
abbrev pub absorbing : List Drain → List ServerEvent → List ServerEvent
absorbing [] log = log
absorbing (d ∷ drains) log = absorbing drains (server.Scoped (server.Absorb d.n d.bits) ∷ log)

-- what was read, whatever its versions
abbrev pub values_of : List Read → List ℤ
values_of reads = map (λ r. r.value) reads

-- a pack absorbs what was drained, and packs with what was read
abbrev pub server_packs : Terms → List Drain → List Read → List ServerEvent → List ServerEvent
server_packs t drains reads log = server.packing t (absorbing drains log) (values_of reads)

-- the bytes that it sends, behind what was absorbed: none where nothing is sent
abbrev pub sends_onto : Terms → List ServerEvent → List ℤ → SendState → List ℕ
sends_onto t log values Held = server_ping_bytes t log
sends_onto t log values Worn = []
sends_onto t log values Room = server_bytes t values (with_plan t log)

abbrev pub datagram_of : Terms → List Drain → List Read → List ServerEvent → List ℕ
datagram_of t drains reads log = sends_onto t (absorbing drains log) (values_of reads) (server_state t.config log)

-- what it answers, by what an end sends and these bytes
abbrev pub made_of : SendState → ℕ → List ℕ → Made
made_of Held life bytes = made.Ping (length bytes)
made_of Worn life bytes = made.Worn life
made_of Room life bytes = made.Body (length bytes)

-- how many bytes it made
abbrev pub len_of : Made → ℕ
len_of (made.Ping len) = len
len_of (made.Body len) = len
len_of (made.Worn life) = 0

-- ---- examples

-- drains are absorbed in the order in which they are given, so that the last is the newest
two_drains : absorbing (record { n = 0; bits = 1 } ∷ record { n = 1; bits = 6 } ∷ []) []
    ≡ server.Scoped (server.Absorb 1 6) ∷ server.Scoped (server.Absorb 0 1) ∷ []
two_drains = refl

-- reads that differ in versions alone are the same to an end
without_versions : values_of (record { n = 0; field = 1; version = 7; value = pos 3 } ∷ [])
    ≡ values_of (record { n = 0; field = 1; version = 0; value = pos 3 } ∷ [])
without_versions = refl
