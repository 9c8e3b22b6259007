-- A field that is due stays due until a packet that carries it is sent: each step but a pack leaves it due.
use Rattle.std.proofs.Common.{◌≡◌, ℕ, zero, suc, ◌+◌, ◌-◌, ◌==◌, ◌&&◌, Bool, true, false, cond, List, [], ◌∷◌, Option, Some, None, Result, Ok, Err}
use Rattle.std.specs.Prelude.{slice_get}
use Rattle.std.specs.Result.{is_ok}
use Rattle.std.proofs.lemmas.Bool.{or_right}
use Rattle.tn_types.specs.declared.choices.Class.{Class}
use Rattle.tn_types.specs.declared.choices.Class.TheVariants.{Guaranteed, Loose}
use Rattle.tn_types.specs.declared.choices.Drain.{Drain}
use Rattle.tn_types.specs.BitWords.{has_bit}
use Rattle.notify_window.specs.Log.{Fate}
use Rattle.wire_format.specs.declared.client.ClientPacket.{ClientPacket}
use Rattle.ghost_model.specs.Scope.{shows}
use Rattle.ghost_model.specs.Ghosts.{GhostEvent, Judged, scope_log, is_cause, is_due}
use Rattle.pair_core.specs.stream_manager.declared.config.Config.{Config}
use Rattle.pair_core.specs.stream_manager.declared.fault.ArriveFault.{ArriveFault}
use Rattle.pair_core.specs.stream_manager.Limits.{Terms}
use Rattle.pair_core.specs.stream_manager.Settling.{verdict_of, judgements}
use Rattle.pair_core.specs.stream_manager.End.{fates, judged_at}
use Rattle.pair_core.specs.stream_manager.Server as server
use Rattle.pair_core.specs.stream_manager.Server.{ServerEvent, server_end, server_answer, took_at_server, posted_at_server, ghost_log}
use Rattle.pair_core.specs.stream_manager.Client.{client_datagrams}
use Rattle.pair_core.specs.conn_packing.Packs.{absorbing}
use Rattle.pair_core.specs.History.{PairStep, Show, Hide, Near, Post, ClientPost, Sample, Pack, ClientPack, Down, Up, Raw, History, happens, server_posts, server_gets}
use Rattle.pair_steps.specs.Steps.{IsNoPack}

module _ (n f : ℕ) where
  abbrev pub Due : List ServerEvent → Type 0
  Due s = is_due (ghost_log s) n f ≡ true

  judged-due : (fate : ℕ → Fate) (start count : ℕ) (g : List GhostEvent) → is_due g n f ≡ true
      → is_due (judgements fate start count g) n f ≡ true
  judged-due fate start zero g due = due
  judged-due fate start (suc count) g due =
      let said = judgements fate start count g in
      or_right (is_cause (Judged (verdict_of (fate (start + count)))) said n f) (is_due said n f) (judged-due fate start count g due)

  took-due : (s : List ServerEvent) (room : ℕ) (a : Result ClientPacket ArriveFault) → Due s → Due (took_at_server s room a)
  took-due s room (Err e) due = due
  took-due s room (Ok p) due =
      judged-due (fates (server_end (server.Took p room ∷ s))) (judged_at (server_end s) + 1)
      (judged_at (server_end (server.Took p room ∷ s)) - judged_at (server_end s))
      (ghost_log s) due

  gets-due : (c : Config) (s : List ServerEvent) (room : ℕ) (o : Option (List ℕ)) → Due s → Due (server_gets c room o s)
  gets-due c s room None due = due
  gets-due c s room (Some bytes) due = took-due s room (server_answer c s bytes) due

  posts-due : (c : Config) (class : Class) (v : List ℕ) (s : List ServerEvent) → Due s → Due (server_posts c class v s)
  posts-due c Loose v s due = due
  posts-due c Guaranteed v s due = go (is_ok (posted_at_server c s))
    where
      go : (b : Bool) → Due (cond b (server.Posted Guaranteed v ∷ s) s)
      go true = due
      go false = due

  pub shows_due : (kind block level : ℕ) (control : Bool) (s : List ServerEvent) → Due s
      → Due (server.Scoped (server.Show kind block level control) ∷ s)
  shows_due kind block level control s due = or_right (n == shows (scope_log (ghost_log s))) (is_due (ghost_log s) n f) due

  pub absorbs_due : (drains : List Drain) (s : List ServerEvent) → Due s → Due (absorbing drains s)
  absorbs_due [] s due = due
  absorbs_due (d ∷ drains) s due =
      absorbs_due drains (server.Scoped (server.Absorb d.n d.bits) ∷ s)
      (or_right ((d.n == n) && has_bit d.bits f) (is_due (ghost_log s) n f) due)

  pub step_due : (t : Terms) (step : PairStep) (h : History) → IsNoPack step → Due h.server → Due (happens t step h).server
  step_due t (Show kind block level control) h none due = shows_due kind block level control h.server due
  step_due t (Hide m) h none due = due
  step_due t (Near m level) h none due = due
  step_due t (Post class v) h none due = posts-due t.config class v h.server due
  step_due t (ClientPost class v) h none due = due
  step_due t (Sample m) h none due = due
  step_due t (Pack drains reads) h none due = absurd none
  step_due t ClientPack h none due = due
  step_due t (Down k) h none due = due
  step_due t (Up k room) h none due = gets-due t.config h.server room (slice_get (client_datagrams t.config h.client) k) due
  step_due t (Raw bytes room) h none due = gets-due t.config h.server room (Some bytes) due
