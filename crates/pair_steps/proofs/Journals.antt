-- What a list of steps says of periods is what the server's list says: how many were shown, which are hidden, and with what each
-- was shown. Nothing but shows, hides and near steps changes it.
use Rattle.std.proofs.Common.{◌≡◌, ℕ, zero, suc, ◌+◌, ◌-◌, ◌<◌, ◌==◌, Bool, true, false, not, cond, List, [], ◌∷◌, length, ◌&&◌, ◌||◌, Option, Some, None, Result, Ok, Err, if◌then◌else◌, refl, sym, ap, subst, ◌∙◌, count_by}
use Rattle.std.specs.Prelude.{ℤ, slice_get, filter, is_some}
use Rattle.std.specs.Result.{is_ok}
use Rattle.std.specs.List.{list_any}
use Rattle.std.proofs.lemmas.List.Sums.{length-filter}
use Rattle.tn_types.specs.declared.choices.Class.{Class}
use Rattle.tn_types.specs.declared.choices.Class.TheVariants.{Guaranteed, Loose}
use Rattle.tn_types.specs.declared.choices.Choice.{Choice}
use Rattle.tn_types.specs.declared.choices.Op.{Op}
use Rattle.tn_types.specs.declared.choices.Op.TheVariants.{Kill, Create}
use Rattle.tn_types.specs.declared.choices.Verdict.{Verdict}
use Rattle.notify_window.specs.Log.{Fate}
use Rattle.notify_window.specs.declared.SendState.{SendState}
use Rattle.notify_window.specs.declared.SendState.TheVariants.{Held, Worn, Room}
use Rattle.wire_format.specs.declared.client.ClientPacket.{ClientPacket}
use Rattle.ghost_model.specs.Words.{upto}
use Rattle.ghost_model.specs.Phases.{is_up}
use Rattle.ghost_model.specs.Scope.{ScopeEvent, Grant, Wrote, Settled, Traits, shows, is_hidden, traits, table, given, has_received, has_unjudged, up_periods, had_control}
use Rattle.ghost_model.specs.Scope as scope
use Rattle.ghost_model.specs.Ghosts.{GhostEvent, scope_log, wrote, settled_by, oldest, unjudged, phase}
use Rattle.ghost_model.specs.Legal.{IsUp}
use Rattle.pair_core.specs.ghost_masks.Plan.{kind_of}
use Rattle.pair_core.specs.stream_manager.declared.fault.ArriveFault.{ArriveFault}
use Rattle.pair_core.specs.stream_manager.Limits.{Terms}
use Rattle.pair_core.specs.stream_manager.Settling.{verdict_of, judgements}
use Rattle.pair_core.specs.stream_manager.End.{fates, judged_at}
use Rattle.pair_core.specs.stream_manager.Server as server
use Rattle.pair_core.specs.stream_manager.Server.{ServerEvent, server_end, server_state, server_answer, took_at_server, posted_at_server, ghost_log, choices_at}
use Rattle.pair_core.specs.stream_manager.Client.{client_datagrams}
use Rattle.pair_core.specs.conn_packing.Packs.{absorbing, values_of}
use Rattle.pair_core.specs.History.{PairStep, Show, Hide, Near, Post, ClientPost, Sample, Pack, ClientPack, Down, Up, Raw, History, history, happens, server_posts, server_gets}
use Rattle.pair_core.proofs.Below.conn_packing.Absorbed.{absorbed-scope}
use Rattle.pair_steps.specs.Steps.{shows_in, is_hidden_in, up_in, traits_in}

-- a step that shows, hides and brings nearer nothing
abbrev pub IsQuiet : PairStep → Type 0
IsQuiet (Show kind block level control) = ⊥
IsQuiet (Hide n) = ⊥
IsQuiet (Near n level) = ⊥
IsQuiet step = Unit {0}

-- what grants, items and their verdicts leave alone, quiet steps leave alone
module _ {A : Type 0} (f : List ScopeEvent → A) (granted : (l : List ScopeEvent) → f (Grant ∷ l) ≡ f l)
    (written : (n : ℕ) (op : Op) (l : List ScopeEvent) → f (Wrote n op ∷ l) ≡ f l)
    (settled : (n : ℕ) (op : Op) (v : Verdict) (l : List ScopeEvent) → f (Settled n op v ∷ l) ≡ f l) where
  abbrev told : List ServerEvent → A
  told s = f (scope_log (ghost_log s))

  wrote-told : (cs : List Choice) (l : List ScopeEvent) → f (wrote cs l) ≡ f l
  wrote-told [] l = refl
  wrote-told (c ∷ cs) l = wrote-told cs (Wrote c.n c.op ∷ l) ∙ written c.n c.op l

  settled-told : (v : Verdict) (cs : List Choice) (l : List ScopeEvent) → f (settled_by v cs l) ≡ f l
  settled-told v [] l = refl
  settled-told v (c ∷ cs) l = settled-told v cs (Settled c.n c.op v ∷ l) ∙ settled c.n c.op v l

  judged-told : (fate : ℕ → Fate) (first count : ℕ) (g : List GhostEvent) → f (scope_log (judgements fate first count g)) ≡ f (scope_log g)
  judged-told fate first zero g = refl
  judged-told fate first (suc count) g =
      let said = judgements fate first count g in
      settled-told (verdict_of (fate (first + count))) (oldest (unjudged said)) (scope_log said) ∙ judged-told fate first count g

  took-told : (s : List ServerEvent) (room : ℕ) (a : Result ClientPacket ArriveFault) → told (took_at_server s room a) ≡ told s
  took-told s room (Err e) = refl
  took-told s room (Ok p) =
      judged-told (fates (server_end (server.Took p room ∷ s))) (judged_at (server_end s) + 1) (judged_at (server_end (server.Took p room ∷ s)) - judged_at (server_end s))
      (ghost_log s)

  gets-told : (t : Terms) (s : List ServerEvent) (room : ℕ) (o : Option (List ℕ)) → told (server_gets t.config room o s) ≡ told s
  gets-told t s room None = refl
  gets-told t s room (Some bytes) = took-told s room (server_answer t.config s bytes)

  posts-told : (t : Terms) (class : Class) (v : List ℕ) (s : List ServerEvent) → told (server_posts t.config class v s) ≡ told s
  posts-told t Loose v s = refl
  posts-told t Guaranteed v s = go (is_ok (posted_at_server t.config s))
    where
      go : (b : Bool) → told (if b then server.Posted Guaranteed v ∷ s else s) ≡ told s
      go true = refl
      go false = refl

  packs-told : (t : Terms) (s : List ServerEvent) (values : List ℤ) → told (server.packing t s values) ≡ told s
  packs-told t s values = go (server_state t.config s)
    where
      go : (state : SendState) → told (server.packed_onto t s values state) ≡ told s
      go Held = refl
      go Worn = refl
      go Room = wrote-told (choices_at t s) (Grant ∷ scope_log (ghost_log s)) ∙ granted (scope_log (ghost_log s))

  quiet-told : (t : Terms) (step : PairStep) (h : History) → IsQuiet step → told (happens t step h).server ≡ told h.server
  quiet-told t (Show kind block level control) h quiet = absurd quiet
  quiet-told t (Hide n) h quiet = absurd quiet
  quiet-told t (Near n level) h quiet = absurd quiet
  quiet-told t (Post class v) h quiet = posts-told t class v h.server
  quiet-told t (ClientPost class v) h quiet = refl
  quiet-told t (Sample m) h quiet = refl
  quiet-told t (Pack drains reads) h quiet =
      packs-told t (absorbing drains h.server) (values_of reads) ∙ ap f (absorbed-scope drains h.server)
  quiet-told t ClientPack h quiet = refl
  quiet-told t (Down k) h quiet = refl
  quiet-told t (Up k room) h quiet = gets-told t h.server room (slice_get (client_datagrams t.config h.client) k)
  quiet-told t (Raw bytes room) h quiet = gets-told t h.server room (Some bytes)

-- ---- quiet steps

abbrev scopes : History → List ScopeEvent
scopes h = scope_log (ghost_log h.server)

pub quiet_shows : (t : Terms) (step : PairStep) (h : History) → IsQuiet step → shows (scopes (happens t step h)) ≡ shows (scopes h)
quiet_shows t step h quiet = quiet-told shows (λ l. refl) (λ n op l. refl) (λ n op v l. refl) t step h quiet

pub quiet_hidden : (t : Terms) (step : PairStep) (h : History) → IsQuiet step → (n : ℕ)
    → is_hidden (scopes (happens t step h)) n ≡ is_hidden (scopes h) n
quiet_hidden t step h quiet n = quiet-told (λ l. is_hidden l n) (λ l. refl) (λ m op l. refl) (λ m op v l. refl) t step h quiet

pub quiet_traits : (t : Terms) (step : PairStep) (h : History) → IsQuiet step → (n : ℕ)
    → traits (scopes (happens t step h)) n ≡ traits (scopes h) n
quiet_traits t step h quiet n = quiet-told (λ l. traits l n) (λ l. refl) (λ m op l. refl) (λ m op v l. refl) t step h quiet

-- ---- all steps

pub shows_told : (t : Terms) (steps : List PairStep) → shows (scope_log (ghost_log (history t steps).server)) ≡ shows_in steps
shows_told t [] = refl
shows_told t (Show kind block level control ∷ steps) = ap (λ m. m + 1) (shows_told t steps)
shows_told t (Hide n ∷ steps) = shows_told t steps
shows_told t (Near n level ∷ steps) = shows_told t steps
shows_told t (step ∷ steps) = quiet_shows t step (history t steps) tt ∙ shows_told t steps

pub hidden_told : (t : Terms) (steps : List PairStep) (n : ℕ)
    → is_hidden (scope_log (ghost_log (history t steps).server)) n ≡ is_hidden_in steps n
hidden_told t [] n = refl
hidden_told t (Show kind block level control ∷ steps) n = hidden_told t steps n
hidden_told t (Hide m ∷ steps) n = ap (λ b. (m == n) || b) (hidden_told t steps n)
hidden_told t (Near m level ∷ steps) n = hidden_told t steps n
hidden_told t (step ∷ steps) n = quiet_hidden t step (history t steps) tt n ∙ hidden_told t steps n

pub traits_told : (t : Terms) (steps : List PairStep) (n : ℕ)
    → traits (scope_log (ghost_log (history t steps).server)) n ≡ traits_in steps n
traits_told t [] n = refl
traits_told t (Show k b l c ∷ steps) n =
    λ j. cond (n == shows_told t steps j) (record { kind = k; block = b; level = l; control = c }) (traits_told t steps n j)
traits_told t (Hide m ∷ steps) n = traits_told t steps n
traits_told t (Near m l ∷ steps) n = ap (λ (x : Traits). cond (m == n) (record x { level = l }) x) (traits_told t steps n)
traits_told t (step ∷ steps) n = quiet_traits t step (history t steps) tt n ∙ traits_told t steps n

pub kind_told : (t : Terms) (steps : List PairStep) (n : ℕ) → kind_of (ghost_log (history t steps).server) n ≡ (traits_in steps n).kind
kind_told t steps n = ap (λ (x : Traits). x.kind) (traits_told t steps n)

-- ---- which periods are up

up-table : (hidden slotted created creating killed killing : Bool)
    → is_up (table hidden slotted created creating killed killing) ≡ not hidden
up-table false s true i k l = refl
up-table false s false true k l = refl
up-table false true false false k l = refl
up-table false false false false k l = refl
up-table true s c i true l = refl
up-table true s c i false true = refl
up-table true s true i false false = refl
up-table true s false true false false = refl
up-table true s false false false false = refl

-- a period is up where it isn't hidden
pub up_is : (log : List ScopeEvent) (n : ℕ) → is_up (scope.phase log n) ≡ not (is_hidden log n)
up_is log n = up-table (is_hidden log n) (is_some (given log n)) (has_received Create log n) (has_unjudged Create log n) (has_received Kill log n) (has_unjudged Kill log n)

not-true : (b : Bool) → not b ≡ true → b ≡ false
not-true true e = sym e
not-true false e = refl

-- a test with another one is the test of those that pass the other
any-both : (a b : ℕ → Bool) (xs : List ℕ) → list_any (λ n. a n && b n) xs ≡ list_any a (filter b xs)
any-both a b [] = refl
any-both a b (x ∷ xs) = go (a x) (b x) refl (any-both a b xs)
  where
    go : (c d : Bool) → a x ≡ c → list_any (λ n. a n && b n) xs ≡ list_any a (filter b xs)
        → ((c && d) || list_any (λ n. a n && b n) xs) ≡ list_any a (if d then x ∷ filter b xs else filter b xs)
    go true true e rest = ap (λ y. y || list_any a (filter b xs)) (sym e)
    go false true e rest = rest ∙ ap (λ y. y || list_any a (filter b xs)) (sym e)
    go true false e rest = rest
    go false false e rest = rest

module _ (t : Terms) (steps : List PairStep) where
  pub up_told : (n : ℕ) → is_up (phase (ghost_log (history t steps).server) n) ≡ not (is_hidden_in steps n)
  up_told n = up_is (scope_log (ghost_log (history t steps).server)) n ∙ ap not (hidden_told t steps n)

  pub up_from : (n : ℕ) → IsUp (ghost_log (history t steps).server) n → (n < shows_in steps) × (is_hidden_in steps n ≡ false)
  up_from n up = (subst (λ m. n < m) (shows_told t steps) up.shown, not-true (is_hidden_in steps n) (sym (up_told n) ∙ up.up))

  pub up_to : (n : ℕ) → n < shows_in steps → is_hidden_in steps n ≡ false → IsUp (ghost_log (history t steps).server) n
  up_to n shown up = record { shown = subst (λ m. n < m) (sym (shows_told t steps)) shown; up = up_told n ∙ ap not up }

  pub up_count_told : up_periods (scope_log (ghost_log (history t steps).server)) ≡ length (up_in steps)
  up_count_told =
      (λ j. count_by (λ n. up_told n j) (upto (shows_told t steps j))) ∙ sym (length-filter (λ n. not (is_hidden_in steps n)) (upto (shows_in steps)))

  pub control_told : had_control (scope_log (ghost_log (history t steps).server)) ≡ list_any (λ n. (traits_in steps n).control) (up_in steps)
  control_told =
      (λ j. list_any (λ n. (traits_told t steps n j).control && up_told n j) (upto (shows_told t steps j)))
      ∙ any-both (λ n. (traits_in steps n).control) (λ n. not (is_hidden_in steps n)) (upto (shows_in steps))

-- ---- what is up once more is hidden

pub filter_twice : (a b : ℕ → Bool) (xs : List ℕ) → filter (λ n. not (a n || b n)) xs ≡ filter (λ n. not (a n)) (filter (λ n. not (b n)) xs)
filter_twice a b [] = refl
filter_twice a b (x ∷ xs) = by (a x) (b x) refl (filter_twice a b xs)
  where
    by : (c d : Bool) → a x ≡ c → filter (λ n. not (a n || b n)) xs ≡ filter (λ n. not (a n)) (filter (λ n. not (b n)) xs)
        → cond (not (c || d)) (x ∷ filter (λ n. not (a n || b n)) xs) (filter (λ n. not (a n || b n)) xs) ≡ filter (λ n. not (a n))
        (cond (not d) (x ∷ filter (λ n. not (b n)) xs) (filter (λ n. not (b n)) xs))
    by true true e r = r
    by true false e r = rw e r
    by false true e r = r
    by false false e r = rw e (ap (λ (ns : List ℕ). x ∷ ns) r)
