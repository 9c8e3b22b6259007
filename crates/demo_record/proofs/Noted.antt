-- What a line tells of a datagram that a client took.
use Rattle.std.proofs.Common.{◌≡◌, ℕ, ◌≤◌, ◌==◌, Bool, true, false, cond, List, [], ◌∷◌, length, if◌then◌else◌, Option, Some, None, Ok, Err, Result, refl, sym, ◌∙◌, ap, subst, arith, inl, inr, ◌⊎◌}
use Rattle.std.specs.Prelude.{slice_get}
use Rattle.std.proofs.lemmas.Bool.{cases_eq}
use Rattle.std.proofs.lemmas.Bool.Decides.{nat_tests}
use Rattle.tn_types.specs.declared.choices.Class.{Class}
use Rattle.tn_types.specs.declared.choices.Class.TheVariants.{Guaranteed, Loose}
use Rattle.tn_types.specs.Checks.{Checked}
use Rattle.notify_window.specs.declared.SendState.{SendState}
use Rattle.notify_window.specs.declared.SendState.TheVariants.{Held, Worn, Room}
use Rattle.quantised_fields.specs.declared.kind.Kind.{Kind}
use Rattle.bit_stream.specs.Bits.{bits_of}
use Rattle.bit_stream.specs.Reading.{number_at}
use Rattle.wire_format.specs.declared.fault.BitsFault.{BitsFault}
use Rattle.wire_format.specs.declared.fault.BitsCause.TheVariants.{Short}
use Rattle.wire_format.specs.declared.server.ServerPacket.{ServerPacket}
use Rattle.wire_format.specs.Reading.{part_at, such_at}
use Rattle.wire_format.specs.Server.{server_at, read_server}
use Rattle.demo_taken.specs.demo_view.stream_manager.declared.config.Config.{Config}
use Rattle.demo_taken.specs.demo_view.stream_manager.declared.fault.ClientFault.{ClientFault}
use Rattle.demo_taken.specs.demo_view.stream_manager.declared.fault.ClientFault.TheVariants as refuses
use Rattle.event_manager.specs.Receiving.{run_of}
use Rattle.demo_taken.specs.demo_view.stream_manager.End.{came_of}
use Rattle.demo_taken.specs.demo_view.stream_manager.Faults.{checked_then, without_packet}
use Rattle.demo_taken.specs.demo_view.stream_manager.Wire.{map_ok, whole_down}
use Rattle.demo_taken.specs.demo_view.stream_manager.Limits.{Terms}
use Rattle.tn_types.specs.declared.choices.Drain.{Drain}
use Rattle.tn_types.specs.declared.choices.Read.{Read}
use Rattle.demo_taken.specs.demo_view.stream_manager.Server.{ServerEvent, server_state, server_datagrams}
use Rattle.demo_taken.specs.demo_view.stream_manager.Client.{ClientEvent, client_end, client_state, kind_at, head_first, arrive_answer, whole_answer, packet_answer}
use Rattle.demo_taken.specs.pair_core.declared.step.Answer.{Answer}
use Rattle.demo_taken.specs.pair_core.declared.step.Answer.TheVariants as says
use Rattle.demo_taken.specs.pair_core.History.{PairStep, Down, Up, Raw, History, history}
use Rattle.demo_taken.specs.pair_core.Answers.{answer, brought_down, came_down}
use Rattle.match_script.specs.declared.types.BodyLine.{BodyLine}
use Rattle.match_script.specs.declared.types.BodyLine.TheVariants as script
use Rattle.match_script.specs.declared.types.Head.{Head}
use Rattle.match_report.specs.declared.told.EventTold.{EventTold}
use Rattle.match_report.specs.declared.told.Told.{Told}
use Rattle.match_report.specs.declared.told.Told.TheVariants as told_as
use Rattle.match_report.specs.declared.told.Way.TheVariants as way
use Rattle.own_lists.specs.Course.{room_in}
use Rattle.own_lists.specs.Own.{Line}
use Rattle.own_lists.specs.Kept.{kept, drains_of, reads_of}
use Rattle.own_lists.specs.Past.{Past, client_terms, kept_by, after}
use Rattle.match_engine.specs.client_seat.Told.{post_told, client_post_told, made_told, client_made_told, brought_told, handed_down, handed_up}
use Rattle.match_engine.specs.match_laws.Report.{told_after}
use Rattle.match_engine.specs.match_laws.Values.{steps_of}
use Rattle.demo_taken.specs.Taken.{if_taken, taken_of}
use Rattle.demo_record.specs.Laws.{client_log}
use Rattle.demo_record.specs.Recording.{taken_at, taken_by, place_taken, events_by}

-- ---- a datagram that is taken has bytes

no-bytes : BitsFault
no-bytes = record { place = 0; cause = Short }

read-nothing : (version : ℕ) (kinds : List Kind) (held : ℕ → Option ℕ) → read_server version kinds held [] ≡ Err no-bytes
unfolding server_at such_at part_at number_at bits_of no-bytes
read-nothing version kinds held = refl

whole-nothing : (c : Config) (kinds : List Kind) (log : List ClientEvent) → whole_answer c kinds log [] ≡ Err (refuses.Bits no-bytes)
whole-nothing c kinds log =
    ap (λ (r : Result ServerPacket BitsFault). packet_answer c log (map_ok (whole_down c (run_of (came_of (client_end log)))) r)) (read-nothing c.version kinds (kind_at log))

has-bytes : (c : Config) (kinds : List Kind) (bytes : List ℕ) (log : List ClientEvent) → arrive_answer c kinds bytes log ≡ Ok tt → 1 ≤ length bytes
has-bytes c kinds [] log e = absurd (never (head_first c log []) (whole_answer c kinds log []) (whole-nothing c kinds log) e)
  where
    never : (first : Checked ClientFault) (whole : Result ServerPacket ClientFault) → whole ≡ Err (refuses.Bits no-bytes) → without_packet (checked_then first whole) ≡ Ok tt → ⊥
    never (Ok u) (Ok p) is e = cc
    never (Ok u) (Err f) is e = cc
    never (Err d) whole is e = cc
has-bytes c kinds (b ∷ bytes) log e = omega arith

-- ---- lines that tell no such thing

module _ (c : ℕ) where
  post-none : (t : Terms) (steps : List PairStep) (d : ℕ) (class : Class) → place_taken c (post_told t steps d class) ≡ None
  post-none t steps d Guaranteed = refl
  post-none t steps d Loose = refl

  client-post-none : (t : Terms) (steps : List PairStep) (d : ℕ) (class : Class) → place_taken c (client_post_told t steps d class) ≡ None
  client-post-none t steps d Guaranteed = refl
  client-post-none t steps d Loose = refl

  pack-none : (t : Terms) (log : List ServerEvent) (d : ℕ) (drains : List Drain) (reads : List Read) (s : SendState) → place_taken c (made_told t log d drains reads s) ≡ None
  pack-none t log d drains reads Held = refl
  pack-none t log d drains reads Worn = refl
  pack-none t log d drains reads Room = refl

  client-pack-none : (k : Config) (log : List ClientEvent) (d : ℕ) (s : SendState) → place_taken c (client_made_told k log d s) ≡ None
  client-pack-none k log d Held = refl
  client-pack-none k log d Worn = refl
  client-pack-none k log d Room = refl

  up-none : (d k : ℕ) (events : List EventTold) (a : Answer) → place_taken c (brought_told way.Up d k events a) ≡ None
  up-none d k events says.Done = refl
  up-none d k events (says.Period n) = refl
  up-none d k events (says.Posted n) = refl
  up-none d k events (says.Loose dropped) = refl
  up-none d k events (says.PostRefused fault) = refl
  up-none d k events (says.Sampled n) = refl
  up-none d k events (says.MoveRefused fault) = refl
  up-none d k events (says.Packed kind place) = refl
  up-none d k events (says.Worn life) = refl
  up-none d k events (says.Came moves) = refl
  up-none d k events (says.ServerRefused fault) = refl
  up-none d k events (says.ClientRefused fault) = refl
  up-none d k events (says.NotSent n sent) = refl

  raw-none : (d k : ℕ) (events : List EventTold) (a : Answer) → place_taken c (brought_told way.Raw d k events a) ≡ None
  raw-none d k events says.Done = refl
  raw-none d k events (says.Period n) = refl
  raw-none d k events (says.Posted n) = refl
  raw-none d k events (says.Loose dropped) = refl
  raw-none d k events (says.PostRefused fault) = refl
  raw-none d k events (says.Sampled n) = refl
  raw-none d k events (says.MoveRefused fault) = refl
  raw-none d k events (says.Packed kind place) = refl
  raw-none d k events (says.Worn life) = refl
  raw-none d k events (says.Came moves) = refl
  raw-none d k events (says.ServerRefused fault) = refl
  raw-none d k events (says.ClientRefused fault) = refl
  raw-none d k events (says.NotSent n sent) = refl

  -- a delivery to another client
  other-none : (d k : ℕ) (events : List EventTold) (a : Answer) → (d == c) ≡ false → place_taken c (brought_told way.Down d k events a) ≡ None
  other-none d k events says.Done e = rw e refl
  other-none d k events (says.Period n) e = rw e refl
  other-none d k events (says.Posted n) e = rw e refl
  other-none d k events (says.Loose dropped) e = rw e refl
  other-none d k events (says.PostRefused fault) e = rw e refl
  other-none d k events (says.Sampled n) e = rw e refl
  other-none d k events (says.MoveRefused fault) e = rw e refl
  other-none d k events (says.Packed kind place) e = rw e refl
  other-none d k events (says.Worn life) e = rw e refl
  other-none d k events (says.Came moves) e = rw e refl
  other-none d k events (says.ServerRefused fault) e = refl
  other-none d k events (says.ClientRefused fault) e = refl
  other-none d k events (says.NotSent n sent) e = refl

-- ---- what is known of a line

-- the line records nothing; or the datagram of the place that it tells, which the server sent
pub record IsNoted (head : Head) (past : List BodyLine) (c : ℕ) (line : BodyLine) (k : ℕ) (bytes : List ℕ) : Type 0 where
  pub place : place_taken c (told_after head past line) ≡ Some k
  pub sent : slice_get (server_datagrams (client_terms head c) (history (client_terms head c) (steps_of head (line ∷ past) c)).server) k ≡ Some bytes
  pub taken : taken_by head past c line ≡ bytes ∷ []
  pub some : 1 ≤ length bytes
  -- it was there before the line, the client takes it, and these are its events
  pub there : slice_get (server_datagrams (client_terms head c) (history (client_terms head c) (steps_of head past c)).server) k ≡ Some bytes
  pub accepted : arrive_answer (client_terms head c).config (client_terms head c).kinds bytes (client_log head c past) ≡ Ok tt
  pub events : events_by c (told_after head past line) ≡ handed_down (client_terms head c) (steps_of head past c) k ∷ []

pub record IsUnnoted (head : Head) (past : List BodyLine) (c : ℕ) (line : BodyLine) : Type 0 where
  pub place : place_taken c (told_after head past line) ≡ None
  pub taken : taken_by head past c line ≡ []

abbrev pub Known : Head → List BodyLine → ℕ → BodyLine → Type 0
Known head past c line = IsUnnoted head past c line ⊎ ((k : ℕ) × (bytes : List ℕ) × IsNoted head past c line k bytes)

-- ---- a delivery to the client

module _ (head : Head) (past : List BodyLine) (c k : ℕ) where
  abbrev t : Terms
  t = client_terms head c

  abbrev p : Past
  p = after head past

  abbrev h : History
  h = history t (steps_of head past c)

  abbrev events : List EventTold
  events = handed_down t (steps_of head past c) k

  here : (c == c) ≡ true
  here = grind (arith, nat_tests)

  -- what it tells, by what was sent, and by what that meets
  abbrev told_by : Option (List ℕ) → Option ℕ
  told_by sent = place_taken c (brought_told way.Down c k events (brought_down t h k sent))

  abbrev told_of : Checked ClientFault → Option ℕ
  told_of r = place_taken c (brought_told way.Down c k events (came_down r))

  abbrev events_told_by : Option (List ℕ) → List (List EventTold)
  events_told_by sent = events_by c (brought_told way.Down c k events (brought_down t h k sent))

  abbrev events_told_of : Checked ClientFault → List (List EventTold)
  events_told_of r = events_by c (brought_told way.Down c k events (came_down r))

  abbrev server_after : Bool → Option (List ℕ)
  server_after b = slice_get (server_datagrams t (history t (kept t (cond b (Line (script.Down c k) ∷ p.own c) (p.own c))).course.steps).server) k

  recorded : taken_by head past c (script.Down c k) ≡ taken_at t (steps_of head past c) k
  recorded = ap (λ (b : Bool). if b then taken_at t (steps_of head past c) k else []) here

  by-answer : (bytes : List ℕ) → slice_get (server_datagrams t h.server) k ≡ Some bytes → (r : Checked ClientFault) → arrive_answer t.config t.kinds bytes h.client ≡ r → Known head past c (script.Down c k)
  by-answer bytes sent (Err fault) is = inl (record {
    place = ap told_by sent ∙ ap told_of is;
    taken = recorded ∙ ap (taken_of t h) sent ∙ ap (λ (r : Checked ClientFault). if_taken r bytes) is;
  })
  by-answer bytes sent (Ok u) is = inr (
    k,
    bytes,
    record {
      place = ap told_by sent ∙ ap told_of is ∙ ap (λ (b : Bool). let o : Option ℕ = if b then Some k else None in o) here;
      sent = ap server_after here ∙ sent;
      taken = recorded ∙ ap (taken_of t h) sent ∙ ap (λ (r : Checked ClientFault). if_taken r bytes) is;
      some = has-bytes t.config t.kinds bytes h.client is;
      there = sent;
      accepted = is;
      events = ap events_told_by sent ∙ ap events_told_of is ∙ ap (λ (b : Bool). let o : List (List EventTold) = if b then events ∷ [] else [] in o) here;
    },
  )

  by-sent : (sent : Option (List ℕ)) → slice_get (server_datagrams t h.server) k ≡ sent → Known head past c (script.Down c k)
  by-sent None is = inl (record { place = ap told_by is; taken = recorded ∙ ap (taken_of t h) is })
  by-sent (Some bytes) is = by-answer bytes is (arrive_answer t.config t.kinds bytes h.client) refl

  delivered : Known head past c (script.Down c k)
  delivered = by-sent (slice_get (server_datagrams t h.server) k) refl

pub known : (head : Head) (past : List BodyLine) (c : ℕ) (line : BodyLine) → Known head past c line
known head past c script.Tick = inl (record { place = refl; taken = refl })
known head past c (script.Scan d) = inl (record { place = refl; taken = refl })
known head past c (script.Post d class payload) = inl (record { place = post-none c (client_terms head d) (steps_of head past d) d class; taken = refl })
known head past c (script.ClientPost d class payload) = inl (record { place = client-post-none c (client_terms head d) (steps_of head past d) d class; taken = refl })
known head past c (script.Pack d) =
    let t = client_terms head d in
    let kept = kept_by head (after head past) d in
    let log = (history t (steps_of head past d)).server in
    inl (record { place = pack-none c t log d (drains_of t kept) (reads_of t kept) (server_state t.config log); taken = refl })
known head past c (script.ClientPack d) =
    let t = client_terms head d in
    let log = (history t (steps_of head past d)).client in
    inl (record { place = client-pack-none c t.config log d (client_state t.config log); taken = refl })
known head past c (script.Down d k) = elim (cases_eq d c) [
  | inl same ↦ subst (λ (n : ℕ). Known head past c (script.Down n k)) (sym same) (delivered head past c k)
  | inr other ↦ (let differs : (d == c) ≡ false = grind (arith, nat_tests) in
      inl (record {
        place = other-none c d k (handed_down (client_terms head d) (steps_of head past d) k) (answer (client_terms head d) (steps_of head past d) (Down k)) differs;
        taken = rw differs refl;
      }))
]
known head past c (script.Up d k) =
    let t = client_terms head d in
    let course = (kept_by head (after head past) d).course in
    inl (record { place = up-none c d k (handed_up t course.steps (Up k (room_in t course))) (answer t course.steps (Up k (room_in t course))); taken = refl })
known head past c (script.Raw d bytes) =
    let t = client_terms head d in
    let course = (kept_by head (after head past) d).course in
    inl (record { place = raw-none c d 0 (handed_up t course.steps (Raw bytes (room_in t course))) (answer t course.steps (Raw bytes (room_in t course))); taken = refl })
known head past c (script.Move d m) = inl (record { place = refl; taken = refl })
known head past c (script.Show d) = inl (record { place = refl; taken = refl })
known head past c script.World = inl (record { place = refl; taken = refl })

-- ---- the events of what records nothing

pub no-events : (c : ℕ) (told : Told) → place_taken c told ≡ None → events_by c told ≡ []
no-events c (told_as.Came way.Down d k moves events) e = by_client (d == c) e
  where
    by_client : (b : Bool) → ◌≡◌ {A = Option ℕ} (if b then Some k else None) None → ◌≡◌ {A = List (List EventTold)} (if b then events ∷ [] else []) []
    by_client true e = cc
    by_client false e = refl
no-events c (told_as.Came way.Up d k moves events) e = refl
no-events c (told_as.Came way.Raw d k moves events) e = refl
no-events c (told_as.Tick ticks writes) e = refl
no-events c (told_as.Scan d hides nears shows) e = refl
no-events c (told_as.Post by d number) e = refl
no-events c (told_as.PostLoose by d dropped) e = refl
no-events c (told_as.Packed by d place kind bytes) e = refl
no-events c (told_as.PackWorn by d life) e = refl
no-events c (told_as.Moved d number) e = refl
no-events c (told_as.NotSent way d k sent) e = refl
no-events c (told_as.ServerRefused way d k fault) e = refl
no-events c (told_as.ClientRefused d k fault) e = refl
no-events c (told_as.Show d events sampled accepted taken control copies) e = refl
no-events c (told_as.World ticks objects) e = refl
