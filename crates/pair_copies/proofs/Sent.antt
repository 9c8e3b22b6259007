-- Over every list of steps what packets tell of a field is what packs read.
use Rattle.std.proofs.Common.{◌≡◌, ◌⊎◌, inl, inr, ℕ, ℤ, ◌+◌, ◌<◌, Bool, true, false, cond, ◌&&◌, List, [], ◌∷◌, ◌++◌, ◌∙◌, length, Some, None, Option, Result, Ok, Err, refl, sym, ap, subst, arith, eqb}
use Rattle.std.specs.Prelude.{slice_get}
use Rattle.std.specs.Option.{option_map}
use Rattle.std.specs.Result.{is_ok}
use Rattle.std.specs.List.{AllByRecursion}
use Rattle.std.proofs.lemmas.Bool.Decides.{nat_tests}
use Rattle.std.proofs.lemmas.List.Elements.{All-weaker, recursion_from_All}
use Rattle.tn_types.specs.declared.choices.Class.{Class}
use Rattle.tn_types.specs.declared.choices.Class.TheVariants.{Guaranteed, Loose}
use Rattle.tn_types.specs.declared.choices.Choice.{Choice}
use Rattle.tn_types.specs.declared.choices.Drain.{Drain}
use Rattle.tn_types.specs.declared.choices.Read.{Read}
use Rattle.notify_window.specs.declared.SendState.{SendState}
use Rattle.notify_window.specs.declared.SendState.TheVariants.{Held, Worn, Room}
use Rattle.quantised_fields.specs.declared.field.FieldSpec.{FieldSpec}
use Rattle.quantised_fields.specs.Levels.{level_of}
use Rattle.wire_format.specs.declared.client.ClientPacket.{ClientPacket}
use Rattle.ghost_model.specs.Scope.{shows, traits}
use Rattle.ghost_model.specs.Ghosts.{GhostEvent, Grant, scope_log}
use Rattle.ghost_model.specs.Legal.{IsSendable, IsItsMask}
use Rattle.ghost_masks.specs.Plan.{sizes, fields_of, kind_of}
use Rattle.ghost_masks.specs.Carried.{ghosts_for}
use Rattle.ghost_pair.specs.Copies.{Item}
use Rattle.ghost_pair.specs.Levels.{put, processed_level, last_level}
use Rattle.ghost_pair.proofs.Walk.{done_push}
use Rattle.stream_manager.specs.declared.config.Config.{Config}
use Rattle.stream_manager.specs.declared.fault.ArriveFault.{ArriveFault}
use Rattle.stream_manager.specs.Limits.{Terms, AreTerms}
use Rattle.stream_manager.specs.Server as server
use Rattle.stream_manager.specs.Server.{ServerEvent, ScopeChange, ghost_log, server_state, choices_at, packed_onto, posted_at_server, took_at_server, server_answer}
use Rattle.stream_manager.specs.Client.{client_datagrams}
use Rattle.ghost_logs.specs.Sent.{items_of, sent_items}
use Rattle.ghost_logs.proofs.Kept.{AreKept, same-kept, scope-kept, sent-kept, took-kept, choices-shown, kept-then}
use Rattle.conn_packing.specs.Packs.{absorbing, values_of}
use Rattle.pair_core.specs.History.{PairStep, Show, Hide, Near, Post, ClientPost, Sample, Pack, ClientPack, Down, Up, Raw, history, server_posts, server_gets}
use Rattle.conn_packing.specs.Reads.{AreReads, IsReadFor}
use Rattle.conn_packing.proofs.Absorbed.{absorbed-state, absorbed-scope}
use Rattle.pair_laws.proofs.Good.{AreGood}
use Rattle.pair_core.proofs.LegalLogs.{IsLegalLog, packed-legal}
use Rattle.pair_laws.proofs.Carried.{carried-absorbed}
use Rattle.pair_copies.specs.Reads.{HasRead, WasRead, newest_in, last_read}
use Rattle.pair_copies.proofs.Levels.{packet-levels}

-- ---- steps that send nothing of ghosts

-- what was shown keeps its kind, and no data packet was sent
record SendsNothing (old new : List ServerEvent) : Type 0 where
  pub kept : AreKept (ghost_log old) (ghost_log new)
  pub sent : sent_items new ≡ sent_items old

scoped : (change : ScopeChange) (log : List ServerEvent) → SendsNothing log (server.Scoped change ∷ log)
scoped change log = record { kept = scope-kept change (ghost_log log); sent = refl }

unchanged : (log : List ServerEvent) → SendsNothing log log
unchanged log = record { kept = same-kept (ghost_log log); sent = refl }

posts : (c : Config) (class : Class) (v : List ℕ) (log : List ServerEvent) → SendsNothing log (server_posts c class v log)
posts c Loose v log = record { kept = same-kept (ghost_log log); sent = refl }
posts c Guaranteed v log = go (is_ok (posted_at_server c log))
  where
    go : (b : Bool) → SendsNothing log (cond b (server.Posted Guaranteed v ∷ log) log)
    go true = record { kept = same-kept (ghost_log log); sent = refl }
    go false = unchanged log

gets : (c : Config) (room : ℕ) (o : Option (List ℕ)) (log : List ServerEvent) → SendsNothing log (server_gets c room o log)
gets c room None log = unchanged log
gets c room (Some bytes) log = go (server_answer c log bytes)
  where
    go : (a : Result ClientPacket ArriveFault) → SendsNothing log (took_at_server log room a)
    go (Err e) = unchanged log
    go (Ok p) = record { kept = took-kept log p room; sent = refl }

absorbed-sent : (drains : List Drain) (log : List ServerEvent) → sent_items (absorbing drains log) ≡ sent_items log
absorbed-sent [] log = refl
absorbed-sent (d ∷ drains) log = absorbed-sent drains (server.Scoped (server.Absorb d.n d.bits) ∷ log)

absorbs : (drains : List Drain) (log : List ServerEvent) → SendsNothing log (absorbing drains log)
absorbs drains log = record {
  kept = λ n lt. record {
    shown = subst (λ l. n < shows l) (sym (absorbed-scope drains log)) lt;
    kind = ap (λ l. (traits l n).kind) (absorbed-scope drains log);
    block = ap (λ l. (traits l n).block) (absorbed-scope drains log);
  };
  sent = absorbed-sent drains log;
}

packed-kept : (t : Terms) (log : List ServerEvent) (values : List ℤ) (state : SendState) → AreKept (ghost_log log) (ghost_log (packed_onto t log values state))
packed-kept t log values Held = same-kept (ghost_log log)
packed-kept t log values Worn = same-kept (ghost_log log)
packed-kept t log values Room = kept-then (ghost_log log) (Grant ∷ ghost_log log) (ghost_log (packed_onto t log values Room)) (λ n lt. record { shown = lt; kind = refl; block = refl }) (sent-kept (choices_at t log) (Grant ∷ ghost_log log))

-- ---- the last of some reads is one of them

newest-is : (n f : ℕ) (reads : List Read) (older : Option ℤ) (v : ℤ) → newest_in reads n f older ≡ Some v → HasRead reads n f v ⊎ (older ≡ Some v)
newest-is n f [] older v e = inr e
newest-is n f (r ∷ reads) older v e = go (eqb r.n n && eqb r.field f) refl (newest-is n f reads (cond (eqb r.n n && eqb r.field f) (Some r.value) older) v e)
  where
    go : (b : Bool) → (eqb r.n n && eqb r.field f) ≡ b → HasRead reads n f v ⊎ (cond b (Some r.value) older ≡ Some v) → HasRead (r ∷ reads) n f v ⊎ (older ≡ Some v)
    go b is (inl later) = inl (inr later)
    go false is (inr before) = inr before
    go true is (inr here) = inl (inl (grind (arith, nat_tests), grind (arith, nat_tests), cc))

-- ---- one field

module _ (t : Terms) (limits : AreTerms t) (final : List GhostEvent) (n f : ℕ) (spec : FieldSpec) (own : slice_get (fields_of t.kinds (kind_of final n)) f ≡ Some spec) where
  abbrev Level : Option ℤ → Option ℕ
  Level o = option_map (level_of spec) o

  all-own : (log : List GhostEvent) → AreKept log final → (cs : List Choice) → AllByRecursion (λ (c : Choice). c.n < shows (scope_log log)) cs → AllByRecursion (λ (c : Choice). c.n ≡ n → slice_get (fields_of t.kinds (kind_of log c.n)) f ≡ Some spec) cs
  all-own log kept [] shown = tt
  all-own log kept (c ∷ cs) shown = (λ same. ap (λ k. slice_get (fields_of t.kinds k) f) (sym (kept c.n shown.0).kind ∙ ap (kind_of final) same) ∙ own, all-own log kept cs shown.1)

  -- the items of the data packet that a pack makes next
  abbrev Next : List ServerEvent → List Read → List Item
  Next log reads = items_of (choices_at t log) (ghosts_for t.kinds (Grant ∷ ghost_log log) (choices_at t log) (values_of reads))

  next-levels : (log : List ServerEvent) (reads : List Read) → AreReads t log reads → IsLegalLog t.kinds log → AreKept (ghost_log log) final → (older : Option ℤ) → put n f (Next log reads) (Level older) ≡ Level (newest_in reads n f older)
  next-levels log reads read legal kept older =
      let g : List GhostEvent = Grant ∷ ghost_log log in
      let can = (packed-legal t log (values_of reads) limits.kinds legal).0.0 in
      let masks : AllByRecursion (λ (c : Choice). IsItsMask (sizes t.kinds) (Grant ∷ ghost_log log) c.n c.mask c.op) (choices_at t log) =
      recursion_from_All (λ (c : Choice). IsItsMask (sizes t.kinds) (Grant ∷ ghost_log log) c.n c.mask c.op) (choices_at t log)
      (All-weaker (IsSendable (sizes t.kinds) (Grant ∷ ghost_log log)) (λ (c : Choice). IsItsMask (sizes t.kinds) (Grant ∷ ghost_log log) c.n c.mask c.op) (λ c k. k.carried) (choices_at t log) can) in
      packet-levels t.kinds limits.kinds (Grant ∷ ghost_log log) n f spec (choices_at t log) reads (values_of reads) refl masks
      (all-own (Grant ∷ ghost_log log) (λ m lt. record { shown = (kept m lt).shown; kind = (kept m lt).kind; block = (kept m lt).block }) (choices_at t log) (choices-shown (Grant ∷ ghost_log log) t.kinds (choices_at t log) can))
      read.asked older

  -- the level that packets tell is that of a value which was read
  pub record IsOfRead (read : ℤ → Type 0) (done : ℕ → Bool) (sent : List (List Item)) : Type 0 where
    pub value : Option ℤ
    pub level : processed_level n f done sent ≡ option_map (level_of spec) value
    pub was : (v : ℤ) → value ≡ Some v → read v

  same-read : (read : ℤ → Type 0) (done : ℕ → Bool) (old new : List ServerEvent) → SendsNothing old new → IsOfRead read done (sent_items old) → IsOfRead read done (sent_items new)
  same-read read done old new nothing h = record { value = h.value; level = ap (processed_level n f done) nothing.sent ∙ h.level; was = h.was }

  packs-read : (steps : List PairStep) (drains : List Drain) (reads : List Read) (done : ℕ → Bool) (log : List ServerEvent) (state : SendState) → IsReadFor t log state reads → IsLegalLog t.kinds log → AreKept (ghost_log log) final
      → IsOfRead (WasRead steps n f) done (sent_items log) → IsOfRead (WasRead (Pack drains reads ∷ steps) n f) done (sent_items (packed_onto t log (values_of reads) state))
  packs-read steps drains reads done log Held read legal kept h = record { value = h.value; level = h.level; was = λ v e. inr (h.was v e) }
  packs-read steps drains reads done log Worn read legal kept h = record { value = h.value; level = h.level; was = λ v e. inr (h.was v e) }
  packs-read steps drains reads done log Room read legal kept h = go (done (1 + length (sent_items log))) refl
    where
      pushed : processed_level n f done (sent_items log ++ Next log reads ∷ []) ≡ cond (done (1 + length (sent_items log))) (put n f (Next log reads) (processed_level n f done (sent_items log))) (processed_level n f done (sent_items log))
      pushed = done_push (put n f) done 1 None (sent_items log) (Next log reads)

      go : (b : Bool) → done (1 + length (sent_items log)) ≡ b → IsOfRead (WasRead (Pack drains reads ∷ steps) n f) done (sent_items log ++ Next log reads ∷ [])
      go false e = record { value = h.value; level = pushed ∙ ap (λ b. cond b (put n f (Next log reads) (processed_level n f done (sent_items log))) (processed_level n f done (sent_items log))) e ∙ h.level; was = λ v e. inr (h.was v e) }
      go true e = record {
        value = newest_in reads n f h.value;
        level =
            pushed ∙ ap (λ b. cond b (put n f (Next log reads) (processed_level n f done (sent_items log))) (processed_level n f done (sent_items log))) e
            ∙ ap (put n f (Next log reads)) h.level ∙ next-levels log reads read legal kept h.value;
        was = λ v e. either v (newest-is n f reads h.value v e);
      }
        where
          either : (v : ℤ) → HasRead reads n f v ⊎ (h.value ≡ Some v) → HasRead reads n f v ⊎ WasRead steps n f v
          either v (inl here) = inl here
          either v (inr before) = inr (h.was v before)

  packs-last : (steps : List PairStep) (reads : List Read) (log : List ServerEvent) (state : SendState) → IsReadFor t log state reads → IsLegalLog t.kinds log → AreKept (ghost_log log) final
      → last_level n f (sent_items log) ≡ Level (last_read steps n f) → last_level n f (sent_items (packed_onto t log (values_of reads) state)) ≡ Level (newest_in reads n f (last_read steps n f))
  packs-last steps reads log Held read legal kept h = h ∙ ap (λ (l : List Read). Level (newest_in l n f (last_read steps n f))) (sym read)
  packs-last steps reads log Worn read legal kept h = h ∙ ap (λ (l : List Read). Level (newest_in l n f (last_read steps n f))) (sym read)
  packs-last steps reads log Room read legal kept h =
      done_push (put n f) (λ k. true) 1 None (sent_items log) (Next log reads) ∙ ap (put n f (Next log reads)) h ∙ next-levels log reads read legal kept (last_read steps n f)

  -- what a pack's reads are for
  now-read : (steps : List PairStep) (drains : List Drain) (reads : List Read) → AreGood t (Pack drains reads ∷ steps)
      → IsReadFor t (absorbing drains (history t steps).server) (server_state t.config (absorbing drains (history t steps).server)) reads
  now-read steps drains reads all = subst (λ s. IsReadFor t (absorbing drains (history t steps).server) s reads) (sym (absorbed-state t.config drains (history t steps).server)) all.0.met.1

  -- ---- all steps

  abbrev Kept : List PairStep → Type 0
  Kept steps = AreKept (ghost_log (history t steps).server) final

  abbrev Before : List ServerEvent → List ServerEvent → Type 0
  Before old new = AreKept (ghost_log new) final → AreKept (ghost_log old) final

  before : (old new : List ServerEvent) → SendsNothing old new → Before old new
  before old new nothing kept = kept-then (ghost_log old) (ghost_log new) final nothing.kept kept

  before-pack : (steps : List PairStep) (drains : List Drain) (reads : List Read) → Kept (Pack drains reads ∷ steps) → AreKept (ghost_log (absorbing drains (history t steps).server)) final
  before-pack steps drains reads kept =
      let log : List ServerEvent = absorbing drains (history t steps).server in
      kept-then (ghost_log (absorbing drains (history t steps).server)) (ghost_log (history t (Pack drains reads ∷ steps)).server) final
      (packed-kept t (absorbing drains (history t steps).server) (values_of reads) (server_state t.config (absorbing drains (history t steps).server))) kept

  abbrev Reads : List PairStep → (ℕ → Bool) → Type 0
  Reads steps done = IsOfRead (WasRead steps n f) done (sent_items (history t steps).server)

  further : (steps : List PairStep) (new : List ServerEvent) → SendsNothing (history t steps).server new → AreKept (ghost_log new) final → (Kept steps → (done : ℕ → Bool) → Reads steps done) → (done : ℕ → Bool) → IsOfRead (WasRead steps n f) done (sent_items new)
  further steps new nothing kept h done = same-read (WasRead steps n f) done (history t steps).server new nothing (h (before (history t steps).server new nothing kept) done)

  pub all-read : (steps : List PairStep) → AreGood t steps → Kept steps → (done : ℕ → Bool) → Reads steps done
  all-read [] all kept done = record { value = None; level = refl; was = λ v e. absurd (cc) }
  all-read (Show kind block level control ∷ steps) all kept done = further steps (history t (Show kind block level control ∷ steps)).server (scoped (server.Show kind block level control) (history t steps).server) kept (all-read steps all.1) done
  all-read (Hide m ∷ steps) all kept done = further steps (history t (Hide m ∷ steps)).server (scoped (server.Hide m) (history t steps).server) kept (all-read steps all.1) done
  all-read (Near m level ∷ steps) all kept done = further steps (history t (Near m level ∷ steps)).server (scoped (server.Near m level) (history t steps).server) kept (all-read steps all.1) done
  all-read (Post class v ∷ steps) all kept done = further steps (history t (Post class v ∷ steps)).server (posts t.config class v (history t steps).server) kept (all-read steps all.1) done
  all-read (ClientPost class v ∷ steps) all kept done = all-read steps all.1 kept done
  all-read (Sample m ∷ steps) all kept done = all-read steps all.1 kept done
  all-read (Pack drains reads ∷ steps) all kept done =
      let now = before-pack steps drains reads kept in
      let nothing = absorbs drains (history t steps).server in
      packs-read steps drains reads done (absorbing drains (history t steps).server) (server_state t.config (absorbing drains (history t steps).server)) (now-read steps drains reads all) (carried-absorbed t limits steps drains reads all.0 all.1).legal now
      (same-read (WasRead steps n f) done (history t steps).server (absorbing drains (history t steps).server) nothing (all-read steps all.1 (before (history t steps).server (absorbing drains (history t steps).server) nothing now) done))
  all-read (ClientPack ∷ steps) all kept done = all-read steps all.1 kept done
  all-read (Down k ∷ steps) all kept done = all-read steps all.1 kept done
  all-read (Up k room ∷ steps) all kept done =
      further steps (history t (Up k room ∷ steps)).server (gets t.config room (slice_get (client_datagrams t.config (history t steps).client) k) (history t steps).server) kept (all-read steps all.1) done
  all-read (Raw bytes room ∷ steps) all kept done = further steps (history t (Raw bytes room ∷ steps)).server (gets t.config room (Some bytes) (history t steps).server) kept (all-read steps all.1) done

  abbrev Last : List PairStep → List ServerEvent → Type 0
  Last steps log = last_level n f (sent_items log) ≡ Level (last_read steps n f)

  next-last : (steps : List PairStep) (new : List ServerEvent) → SendsNothing (history t steps).server new → AreKept (ghost_log new) final → (Kept steps → Last steps (history t steps).server) → Last steps new
  next-last steps new nothing kept h = ap (last_level n f) nothing.sent ∙ h (before (history t steps).server new nothing kept)

  -- the level in the last packet that carries the field is that of the value which was read last
  pub all-last : (steps : List PairStep) → AreGood t steps → Kept steps → Last steps (history t steps).server
  all-last [] all kept = refl
  all-last (Show kind block level control ∷ steps) all kept = next-last steps (history t (Show kind block level control ∷ steps)).server (scoped (server.Show kind block level control) (history t steps).server) kept (all-last steps all.1)
  all-last (Hide m ∷ steps) all kept = next-last steps (history t (Hide m ∷ steps)).server (scoped (server.Hide m) (history t steps).server) kept (all-last steps all.1)
  all-last (Near m level ∷ steps) all kept = next-last steps (history t (Near m level ∷ steps)).server (scoped (server.Near m level) (history t steps).server) kept (all-last steps all.1)
  all-last (Post class v ∷ steps) all kept = next-last steps (history t (Post class v ∷ steps)).server (posts t.config class v (history t steps).server) kept (all-last steps all.1)
  all-last (ClientPost class v ∷ steps) all kept = all-last steps all.1 kept
  all-last (Sample m ∷ steps) all kept = all-last steps all.1 kept
  all-last (Pack drains reads ∷ steps) all kept =
      let now = before-pack steps drains reads kept in
      let nothing = absorbs drains (history t steps).server in
      packs-last steps reads (absorbing drains (history t steps).server) (server_state t.config (absorbing drains (history t steps).server)) (now-read steps drains reads all) (carried-absorbed t limits steps drains reads all.0 all.1).legal now
      (next-last steps (absorbing drains (history t steps).server) nothing now (all-last steps all.1))
  all-last (ClientPack ∷ steps) all kept = all-last steps all.1 kept
  all-last (Down k ∷ steps) all kept = all-last steps all.1 kept
  all-last (Up k room ∷ steps) all kept = next-last steps (history t (Up k room ∷ steps)).server (gets t.config room (slice_get (client_datagrams t.config (history t steps).client) k) (history t steps).server) kept (all-last steps all.1)
  all-last (Raw bytes room ∷ steps) all kept = next-last steps (history t (Raw bytes room ∷ steps)).server (gets t.config room (Some bytes) (history t steps).server) kept (all-last steps all.1)
