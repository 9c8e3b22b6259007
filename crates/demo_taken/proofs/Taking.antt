-- What the steps of a connection leave of the datagrams that its client took.
use Rattle.std.proofs.Common.{◌≡◌, ℕ, Bool, true, false, List, [], ◌∷◌, ◌++◌, if◌then◌else◌, Option, Some, None, Ok, Err, Result, refl, sym, ◌∙◌, ap}
use Rattle.std.specs.Prelude.{slice_get}
use Rattle.std.specs.Result.{is_ok}
use Rattle.std.proofs.lemmas.List.{append-nil}
use Rattle.tn_types.specs.declared.choices.Class.{Class}
use Rattle.tn_types.specs.declared.choices.Class.TheVariants.{Guaranteed, Loose}
use Rattle.tn_types.specs.declared.moves.MoveBits.{MoveBits}
use Rattle.tn_types.specs.Checks.{Checked}
use Rattle.notify_window.specs.declared.SendState.{SendState}
use Rattle.notify_window.specs.declared.SendState.TheVariants.{Held, Worn, Room}
use Rattle.demo_view.specs.wire_format.declared.server.ServerPacket.{ServerPacket}
use Rattle.demo_view.specs.stream_manager.declared.config.Config.{Config}
use Rattle.demo_view.specs.stream_manager.declared.fault.ClientFault.{ClientFault}
use Rattle.demo_view.specs.stream_manager.Limits.{Terms}
use Rattle.demo_view.specs.stream_manager.End.{with_event}
use Rattle.demo_view.specs.stream_manager.Faults.{without_packet}
use Rattle.demo_view.specs.stream_manager.Server.{ServerEvent, server_datagrams}
use Rattle.demo_view.specs.stream_manager.Client as client
use Rattle.demo_view.specs.stream_manager.Client.{ClientEvent, posted_at_client, sampled_answer, client_state, pack_event, client_answer, arrive_answer, arriving, took_at_client}
use Rattle.pair_core.specs.History.{PairStep, Show, Hide, Near, Post, ClientPost, Sample, Pack, ClientPack, Down, Up, Raw, client_posts, client_gets, history}
use Rattle.demo_view.specs.stream_manager.Packets.{packets_at, blocks_seen, ghosts_seen, delivered_to}
use Rattle.demo_view.specs.Viewing.{viewed, taking}
use Rattle.demo_view.proofs.Below.stream_manager.Packets.{shows-alike}
use Rattle.demo_view.proofs.Alike.{takes-with-client}
use Rattle.demo_view.proofs.Views.{viewing-append}
use Rattle.pair_core.specs.Answers.{came_down, brought_down}
use Rattle.demo_taken.specs.Taken.{if_taken, if_came, taken_of, taken_down, viewer_terms, TakesTheSame, ShowsTheSame, RecordsWhatCame}

-- ---- what takes no packet

if-posted : (b : Bool) (class : Class) (v : List ℕ) (log : List ClientEvent) → packets_at (if b then client.Posted class v ∷ log else log) ≡ packets_at log
if-posted true class v log = refl
if-posted false class v log = refl

posts-none : (c : Config) (class : Class) (v : List ℕ) (log : List ClientEvent) → packets_at (client_posts c class v log) ≡ packets_at log
posts-none c Guaranteed v log = if-posted (is_ok (posted_at_client c log)) Guaranteed v log
posts-none c Loose v log = refl

if-sampled : (b : Bool) (m : MoveBits) (log : List ClientEvent) → packets_at (if b then client.Sampled m ∷ log else log) ≡ packets_at log
if-sampled true m log = refl
if-sampled false m log = refl

by-state : (c : Config) (log : List ClientEvent) (s : SendState) → packets_at (with_event (pack_event c log s) log) ≡ packets_at log
by-state c log Held = refl
by-state c log Worn = refl
by-state c log Room = refl

-- ---- what a delivery takes

module _ (t : Terms) (taken : List (List ℕ)) (log : List ClientEvent) (same : viewed (viewer_terms t) taken ≡ packets_at log) where
  taken-or-not : (bytes : List ℕ) (r : Result ServerPacket ClientFault) → client_answer t.config t.kinds log bytes ≡ r
      → viewed (viewer_terms t) (taken ++ if_taken (without_packet r) bytes) ≡ packets_at (took_at_client log r)
  taken-or-not bytes (Err e) is = ap (viewed (viewer_terms t)) (append-nil taken) ∙ same
  taken-or-not bytes (Ok p) is =
      let arrives : packets_at (arriving t.config t.kinds bytes log) ≡ p ∷ packets_at log = ap (λ (r : Result ServerPacket ClientFault). packets_at (took_at_client log r)) is in
      viewing-append (viewer_terms t) taken (bytes ∷ []) []
      ∙ ap (taking (viewer_terms t) bytes) same
      ∙ takes-with-client t.config t.kinds log bytes p is
      ∙ arrives

  brought : (server : List ServerEvent) (sent : Option (List ℕ)) → viewed (viewer_terms t) (taken ++ taken_of t (record { server = server; client = log }) sent) ≡ packets_at (client_gets t sent log)
  brought server None = ap (viewed (viewer_terms t)) (append-nil taken) ∙ same
  brought server (Some bytes) = taken-or-not bytes (client_answer t.config t.kinds log bytes) refl

pub takes-the-same : (t : Terms) (steps : List PairStep) → TakesTheSame t steps
takes-the-same t [] = refl
takes-the-same t (Show kind block level control ∷ steps) = takes-the-same t steps
takes-the-same t (Hide n ∷ steps) = takes-the-same t steps
takes-the-same t (Near n level ∷ steps) = takes-the-same t steps
takes-the-same t (Post class v ∷ steps) = takes-the-same t steps
takes-the-same t (ClientPost class v ∷ steps) = takes-the-same t steps ∙ sym (posts-none t.config class v (history t steps).client)
takes-the-same t (Sample m ∷ steps) = takes-the-same t steps ∙ sym (if-sampled (is_ok (sampled_answer t.config m (history t steps).client)) m (history t steps).client)
takes-the-same t (Pack drains reads ∷ steps) = takes-the-same t steps
takes-the-same t (ClientPack ∷ steps) = takes-the-same t steps ∙ sym (by-state t.config (history t steps).client (client_state t.config (history t steps).client))
takes-the-same t (Down k ∷ steps) =
    brought t (taken_down t steps) (history t steps).client (takes-the-same t steps) (history t steps).server (slice_get (server_datagrams t (history t steps).server) k)
takes-the-same t (Up k room ∷ steps) = takes-the-same t steps
takes-the-same t (Raw bytes room ∷ steps) = takes-the-same t steps

pub shows-the-same : (t : Terms) (steps : List PairStep) → ShowsTheSame t steps
shows-the-same t steps =
    let same = takes-the-same t steps in
    let alike = shows-alike (history t steps).client in
    record {
      blocks = ap blocks_seen same ∙ alike.blocks;
      ghosts = ap ghosts_seen same ∙ alike.ghosts;
      delivered = ap delivered_to same ∙ alike.delivered;
    }

-- ---- by the answer

by-answer : (r : Checked ClientFault) (bytes : List ℕ) → if_taken r bytes ≡ if_came (came_down r) (Some bytes)
by-answer (Ok u) bytes = refl
by-answer (Err e) bytes = refl

pub records-what-came : (t : Terms) (steps : List PairStep) (k : ℕ) → RecordsWhatCame t steps k
records-what-came t steps k = ap (λ (l : List (List ℕ)). taken_down t steps ++ l) (go (slice_get (server_datagrams t (history t steps).server) k))
  where
    go : (sent : Option (List ℕ)) → taken_of t (history t steps) sent ≡ if_came (brought_down t (history t steps) k sent) sent
    go None = refl
    go (Some bytes) = by-answer (arrive_answer t.config t.kinds bytes (history t steps).client) bytes
