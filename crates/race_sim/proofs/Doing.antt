-- How a simulation that did some lines does one more.
use Rattle.std.proofs.Common.{◌≡◌, ℕ, zero, suc, ◌<◌, ◌≤◌, ◌+◌, Bool, true, false, cond, List, [], ◌∷◌, ◌++◌, length, get_or, set, refl, ap, sym, subst, ◌∙◌, arith, Option, Some, None, append_assoc, ⊎_elim, map, reverse}
use Rattle.std.specs.Prelude.{if◌then◌else◌, ◌==◌, ◌&&◌, not, nat_lt, Result, Ok, Err, OnOk}
use Rattle.std.specs.Option.{option_to_list}
use Rattle.std.specs.List.{All, AllByRecursion, cons_option}
use Rattle.std.proofs.lemmas.List.{append-nil, take_all, take-append-le, length_push, length-set, length-map, get_or-set_same, get_or-set_other}
use Rattle.std.proofs.lemmas.Bool.{cases_eq}
use Rattle.std.proofs.lemmas.List.Elements.{filter_map-append}
use Rattle.std.proofs.lemmas.List.Sums.{sum_by-cons}
use Rattle.std.proofs.lemmas.Bool.Decides.{nat_tests}
use Rattle.tn_types.specs.declared.choices.Class.{Class}
use Rattle.tn_types.specs.declared.moves.MoveBits.{MoveBits}
use Rattle.match_script.specs.declared.types.BodyLine.{BodyLine}
use Rattle.match_script.specs.declared.types.BodyLine.TheVariants as script
use Rattle.match_script.specs.declared.types.Script.{Script}
use Rattle.tn_types.specs.declared.limits.TheConstants.{MAX_OBJECTS}
use Rattle.world_sim.specs.Worlds.{Worlds, next, after, coming, first_world}
use Rattle.world_sim.proofs.Histories.{of_fields_fresh, of_fields_next, same_fields_next}
use Rattle.world_rules.specs.declared.setup.Setup.{Setup}
use Rattle.world_rules.specs.Spawning.{first_objects}
use Rattle.world_lanes.specs.Behind.{is_behind, objects_below, Brings, IsBrought}
use Rattle.world_lanes.specs.Ticked.{IsTicked}
use Rattle.world_lanes.specs.Told.{is_told, Tells}
use Rattle.dirty_lanes.specs.declared.view.SimView.{SimView}
use Rattle.world_lanes.proofs.Bringing.{behind_by}
use Rattle.world_lanes.specs.declared.raising.Changed.{Changed}
use Rattle.dirty_lanes.specs.declared.view.SimStep.{SimStep}
use Rattle.dirty_lanes.specs.Views.{pending}
use Rattle.world_scope.specs.declared.viewer.Seen.{Seen}
use Rattle.world_scope.specs.Scope.{visible_list}
use Rattle.client_scope.specs.StandsFor.{Table, StandsFor}
use Rattle.race_messages.specs.declared.message.Message.{Message}
use Rattle.race_messages.specs.declared.message.Message.TheVariants as message
use Rattle.race_course.specs.Messages.{Ticks, is_tick, ticks_in, world_at, is_scan_of, seen_at, scans_of, line_gives, messages, scan_messages}
use Rattle.race_course.specs.Course.{world_of}
use Rattle.race_course.proofs.Following.{of_tick, ticks_more, ticks_same, ticks_reversed}
use Rattle.race_history.specs.History.{HasVersions, world_after, IsHistoryOf}
use Rattle.race_history.specs.Moves.{HasClients, MovesFit, move_taken, moves_taken}
use Rattle.race_sim.specs.Ports.{OutgoingState, all_given, with_more, PortState, given_to, HasPassedOn, waiting_for, IsNewPort, HaveAllPassedOn, TakesOne, TakesEach}
use Rattle.race_sim.specs.Simulating.{SimulationState, is_own, IsPortAt, HasDone, MayDo, Does, AreRests}
use Rattle.race_sim.specs.Telling.{is_wanting, IsTold, LanesAfter}

-- ---- ticks

ticks_behind : (line : BodyLine) (past : List BodyLine) → ticks_in past ≤ ticks_in (line ∷ past)
ticks_behind line past = let e = sum_by-cons of_tick line past in omega (arith, e)

pub ticks_few : (past : List BodyLine) → ticks_in past ≤ length past
ticks_few [] = omega arith
ticks_few (line ∷ past) =
    let e = sum_by-cons of_tick line past in
    let rest = ticks_few past in
    let one : of_tick line ≤ 1 = elim (is_tick line) as (λ b. cond b 1 0 ≤ 1) [ true ↦ omega arith | false ↦ omega arith ] in
    omega (arith, e, rest, one)

-- ---- what lies behind a tick is as it was

one_or_none : (m : Option MoveBits) → cons_option m [] ≡ option_to_list m
one_or_none None = refl
one_or_none (Some m) = refl

module _ (first : Worlds) (ticks : Ticks) (row : List (Option MoveBits)) where
  world_same : (past : List BodyLine) → ticks_in past ≤ length ticks → world_at first (ticks ++ row ∷ []) past ≡ world_at first ticks past
  world_same past l = ap (λ (ts : Ticks). world_after first ts) (take-append-le (ticks_in past) ticks (row ∷ []) l)

  scans_same : (c : ℕ) (past : List BodyLine) → ticks_in past ≤ length ticks → scans_of first (ticks ++ row ∷ []) c past ≡ scans_of first ticks c past
  scans_same c [] l = refl
  scans_same c (line ∷ past) l =
      let k : ticks_in past ≤ length ticks = (let b = ticks_behind line past in omega (arith, b, l)) in
      λ j. if is_scan_of c line then visible_list (world_same past k j) c ∷ scans_same c past k j else scans_same c past k j

  gives_same : (c : ℕ) (past : List BodyLine) (line : BodyLine) → ticks_in past ≤ length ticks
      → line_gives first (ticks ++ row ∷ []) c past line ≡ line_gives first ticks c past line
  gives_same c past (script.Scan d) l =
      λ j. if d == c then scan_messages (world_same past l j) c (visible_list (world_same past l j) c ∷ scans_same c past l j) else []
  gives_same c past (script.Post d class payload) l = refl
  gives_same c past line l = refl

  messages_same : (c : ℕ) (past : List BodyLine) → ticks_in past ≤ length ticks → messages first (ticks ++ row ∷ []) c past ≡ messages first ticks c past
  messages_same c [] l = refl
  messages_same c (line ∷ past) l =
      let k : ticks_in past ≤ length ticks = (let b = ticks_behind line past in omega (arith, b, l)) in
      λ j. messages_same c past k j ++ gives_same c past line k j

  taken_more : (c : ℕ) → moves_taken c (ticks ++ row ∷ []) ≡ moves_taken c ticks ++ option_to_list (move_taken c row)
  taken_more c = filter_map-append (move_taken c) ticks (row ∷ []) ∙ ap (λ (ms : List MoveBits). moves_taken c ticks ++ ms) (one_or_none (move_taken c row))

  port_ticked : (p q : PortState) (c : ℕ) (past : List BodyLine) → ticks_in past ≤ length ticks → TakesOne (move_taken c row) p q
      → IsPortAt p first ticks c past → IsPortAt q first (ticks ++ row ∷ []) c (script.Tick ∷ past)
  port_ticked p q c past l t h = record {
    scope = subst (λ (scans : List (List Seen)). StandsFor q.scope scans) (sym (scans_same c past l)) (subst (λ (s : Table). StandsFor s (scans_of first ticks c past)) (sym t.scope) h.scope);
    given = ap all_given t.outgoing ∙ h.given ∙ sym (messages_same c past l) ∙ sym (append-nil (messages first (ticks ++ row ∷ []) c past));
    taken = t.taken ∙ ap (λ (ms : List MoveBits). ms ++ option_to_list (move_taken c row)) h.taken ∙ sym (taken_more c);
    few = let f = h.few in let e = ap (λ (s : Table). s.count) t.scope in omega (arith, f, e);
  }

rows_more : (n : ℕ) (ticks : Ticks) (row : List (Option MoveBits)) → AllByRecursion (HasClients n) ticks → length row ≡ n → AllByRecursion (HasClients n) (ticks ++ row ∷ [])
rows_more n [] row a e = (e, tt)
rows_more n (r ∷ ticks) row a e = (a.0, rows_more n ticks row a.1 e)

versions_next : (w : Worlds) (row : List (Option MoveBits)) → HasVersions w → HasVersions (next w row)
unfolding next
versions_next w row h = of_fields_next w.objects (after w row) w.versions (same_fields_next w.objects row (coming w)) h

ticked : (old new : SimulationState) (row : List (Option MoveBits)) → new.world.ticks ≡ old.world.ticks + 1 → new.moves ≡ old.moves ++ row ∷ []
    → ((first : Worlds) → old.world ≡ world_after first old.moves → new.world ≡ world_after first new.moves)
    → ((first : Worlds) → HasVersions old.world → old.world ≡ world_after first old.moves → IsHistoryOf first old.moves old.values → IsHistoryOf first new.moves new.values)
    → new.world ≡ next old.world row → TakesEach row old.ports new.ports → Does script.Tick old new
ticked old new row counted longer world values is taken first past h =
    let same : ticks_in past ≤ length old.moves = (let e = h.moves.each_tick in omega (arith, e)) in
    record {
      world = world first h.world;
      ticks = counted ∙ ap (λ (n : ℕ). n + 1) h.ticks ∙ sym (ticks_more past);
      moves = record {
        each_tick = ap (λ (ts : Ticks). length ts) longer ∙ length_push old.moves row ∙ ap (λ (n : ℕ). n + 1) h.moves.each_tick ∙ sym (ticks_more past);
        each_client = subst (λ (n : ℕ). AllByRecursion (HasClients n) new.moves) (sym taken.count)
            (subst (λ (ts : Ticks). AllByRecursion (HasClients (length old.ports)) ts) (sym longer) (rows_more (length old.ports) old.moves row h.moves.each_client taken.long));
      };
      values = values first h.versions h.world h.values;
      versions = subst HasVersions (sym is) (versions_next old.world row h.versions);
      port = λ c d l.
          let k : c < length old.ports = (let e = taken.count in omega (arith, l, e)) in
          subst (λ (ts : Ticks). IsPortAt (get_or new.ports c d) first ts c (script.Tick ∷ past)) (sym longer)
          (port_ticked first old.moves row (get_or old.ports c d) (get_or new.ports c d) c past same (taken.each c d k) (h.port c d k));
    }

pub ticked_by : {E : Type 0} (result : Result (Unit {0}) E) (old new : SimulationState) (row : List (Option MoveBits)) → OnOk result (new.world.ticks ≡ old.world.ticks + 1)
    → OnOk result (new.moves ≡ old.moves ++ row ∷ [])
    → OnOk result ((first : Worlds) → old.world ≡ world_after first old.moves → new.world ≡ world_after first new.moves)
    → OnOk result ((first : Worlds) → HasVersions old.world → old.world ≡ world_after first old.moves → IsHistoryOf first old.moves old.values → IsHistoryOf first new.moves new.values)
    → OnOk result (new.world ≡ next old.world row) → TakesEach row old.ports new.ports → OnOk result (Does script.Tick old new)
ticked_by (Ok u) old new row counted longer world values is taken = ticked old new row counted longer world values is taken
ticked_by (Err e) old new row counted longer world values is taken = tt

-- ---- a line that is no tick

module _ (first : Worlds) (past : List BodyLine) where
  -- the ports alone changed
  untimed : (old : SimulationState) (ports : List PortState) (line : BodyLine) → is_tick line ≡ false → length ports ≡ length old.ports
      → ((c : ℕ) (d : PortState) → c < length old.ports → IsPortAt (get_or old.ports c d) first old.moves c past → IsPortAt (get_or ports c d) first old.moves c (line ∷ past))
      → HasDone first past old → HasDone first (line ∷ past) (record old { ports = ports })
  untimed old ports line no_tick count each h = record {
    world = h.world;
    ticks = h.ticks ∙ sym (ticks_same line past no_tick);
    moves = record {
      each_tick = h.moves.each_tick ∙ sym (ticks_same line past no_tick);
      each_client = subst (λ (n : ℕ). AllByRecursion (HasClients n) old.moves) (sym count) h.moves.each_client;
    };
    values = h.values;
    versions = h.versions;
    port = λ c d l. let k : c < length old.ports = omega (arith, l, count) in each c d k (h.port c d k);
  }

  -- the line is none of the client's
  port_kept : (p : PortState) (ticks : Ticks) (c : ℕ) (line : BodyLine) → is_scan_of c line ≡ false → line_gives first ticks c past line ≡ []
      → IsPortAt p first ticks c past → IsPortAt p first ticks c (line ∷ past)
  port_kept p ticks c line no_scan nothing h = record {
    scope = subst (λ (b : Bool). StandsFor p.scope (if b then seen_at first ticks c past ∷ scans_of first ticks c past else scans_of first ticks c past)) (sym no_scan) h.scope;
    given = h.given ∙ sym (append-nil (messages first ticks c past)) ∙ ap (λ (ms : List Message). messages first ticks c past ++ ms) (sym nothing);
    taken = h.taken;
    few = let f = h.few in omega (arith, f);
  }

pub passed_over : (s : SimulationState) (line : BodyLine) → is_own line ≡ false → Does line s s
passed_over s line other first past h = by line other
  where
    all : (l : BodyLine) → is_tick l ≡ false → ((c : ℕ) → is_scan_of c l ≡ false) → ((c : ℕ) → line_gives first s.moves c past l ≡ []) → HasDone first (l ∷ past) s
    all l no_tick no_scan nothing = untimed first past s s.ports l no_tick refl (λ c d k p. port_kept first past (get_or s.ports c d) s.moves c l (no_scan c) (nothing c) p) h

    by : (l : BodyLine) → is_own l ≡ false → HasDone first (l ∷ past) s
    by script.Tick o = absurd (cc)
    by (script.Scan c) o = absurd (cc)
    by (script.Post c class payload) o = absurd (cc)
    by l o = all l refl (λ c. refl) (λ c. refl)

-- ---- a line of one client

same_number : (c : ℕ) → (c == c) ≡ true
same_number c = grind (arith, nat_tests)

other_number : (c e : ℕ) → (c ≡ e → ⊥) → (c == e) ≡ false
other_number c e apart = grind (arith, nat_tests)

module _ (old : SimulationState) (client : ℕ) (p q : PortState) where
  of_client : (line : BodyLine) → is_tick line ≡ false → client < length old.ports → p ≡ get_or old.ports client p
      → ((c : ℕ) → (client ≡ c → ⊥) → is_scan_of c line ≡ false)
      → ((first : Worlds) (past : List BodyLine) (c : ℕ) → (client ≡ c → ⊥) → line_gives first old.moves c past line ≡ [])
      → ((first : Worlds) (past : List BodyLine) → HasDone first past old → IsPortAt p first old.moves client past → IsPortAt q first old.moves client (line ∷ past))
      → Does line old (record old { ports = set old.ports client q })
  of_client line no_tick there is no_scan nothing here first past h =
      untimed first past old (set old.ports client q) line no_tick (length-set old.ports client q)
      (λ c d k r. ⊎_elim (λ (e : client ≡ c). own c d e) (λ (a : client ≡ c → ⊥). other c d a r) (cases_eq client c)) h
    where
      at : IsPortAt p first old.moves client past
      at = subst (λ (r : PortState). IsPortAt r first old.moves client past) (sym is) (h.port client p there)

      own : (c : ℕ) (d : PortState) → client ≡ c → IsPortAt (get_or (set old.ports client q) c d) first old.moves c (line ∷ past)
      own c d e =
          subst (λ (n : ℕ). IsPortAt (get_or (set old.ports client q) n d) first old.moves n (line ∷ past)) e
          (subst (λ (r : PortState). IsPortAt r first old.moves client (line ∷ past)) (sym (get_or-set_same old.ports client q d there)) (here first past h at))

      other : (c : ℕ) (d : PortState) → (client ≡ c → ⊥) → IsPortAt (get_or old.ports c d) first old.moves c past
          → IsPortAt (get_or (set old.ports client q) c d) first old.moves c (line ∷ past)
      other c d a r =
          subst (λ (z : PortState). IsPortAt z first old.moves c (line ∷ past)) (sym (get_or-set_other old.ports client c q d (λ e. a (sym e))))
          (port_kept first past (get_or old.ports c d) old.moves c line (no_scan c a) (nothing first past c a) r)

given_more : (o : OutgoingState) (ms : List Message) → all_given (with_more o ms) ≡ all_given o ++ ms
given_more o ms = sym (append_assoc o.sent o.waiting ms)

-- the world of a simulation is that behind its lines
world_is : (first : Worlds) (past : List BodyLine) (s : SimulationState) → HasDone first past s → s.world ≡ world_at first s.moves past
world_is first past s h =
    let many : length s.moves ≤ ticks_in past = (let e = h.moves.each_tick in omega (arith, e)) in
    h.world ∙ ap (λ (ts : Ticks). world_after first ts) (sym (take_all (ticks_in past) s.moves many))

scanned : (old : SimulationState) (client : ℕ) (p q : PortState) → client < length old.ports → p ≡ get_or old.ports client p
    → ((scans : List (List Seen)) → StandsFor p.scope scans → StandsFor q.scope (visible_list old.world client ∷ scans))
    → ((scans : List (List Seen)) → StandsFor p.scope scans
    → q.outgoing ≡ with_more p.outgoing (scan_messages old.world client (visible_list old.world client ∷ scans)))
    → q.scope.count ≤ p.scope.count + MAX_OBJECTS → q.taken ≡ p.taken
    → Does (script.Scan client) old (record old { ports = set old.ports client q })
scanned old client p q there is scope given count taken =
    of_client old client p q (script.Scan client) refl there is (λ c a. other_number client c a)
    (λ first past c a. ap (λ (b : Bool). if b then scan_messages (world_at first old.moves past) c (seen_at first old.moves c past ∷ scans_of first old.moves c past) else []) (other_number client c a))
    here
  where
    here : (first : Worlds) (past : List BodyLine) → HasDone first past old → IsPortAt p first old.moves client past
        → IsPortAt q first old.moves client (script.Scan client ∷ past)
    here first past h r =
        let scans : List (List Seen) = scans_of first old.moves client past in
        let w : Worlds = world_at first old.moves past in
        let at : old.world ≡ w = world_is first past old h in
        record {
          scope = subst (λ (b : Bool). StandsFor q.scope (if b then visible_list w client ∷ scans else scans)) (sym (same_number client))
              (subst (λ (v : Worlds). StandsFor q.scope (visible_list v client ∷ scans)) at (scope scans r.scope));
          given = ap all_given (given scans r.scope) ∙ given_more p.outgoing (scan_messages old.world client (visible_list old.world client ∷ scans))
              ∙ (λ j. r.given j ++ scan_messages (at j) client (visible_list (at j) client ∷ scans))
              ∙ ap (λ (b : Bool). messages first old.moves client past ++ (if b then scan_messages w client (visible_list w client ∷ scans) else [])) (sym (same_number client));
          taken = taken ∙ r.taken;
          few = let f = r.few in omega (arith, f, count);
        }

pub scanned_by : {E : Type 0} (result : Result (Unit {0}) E) (old : SimulationState) (client : ℕ) (p q : PortState) → client < length old.ports → p ≡ get_or old.ports client p
    → OnOk result ((scans : List (List Seen)) → StandsFor p.scope scans → StandsFor q.scope (visible_list old.world client ∷ scans))
    → OnOk result ((scans : List (List Seen)) → StandsFor p.scope scans
    → q.outgoing ≡ with_more p.outgoing (scan_messages old.world client (visible_list old.world client ∷ scans)))
    → q.scope.count ≤ p.scope.count + MAX_OBJECTS → q.taken ≡ p.taken
    → OnOk result (Does (script.Scan client) old (record old { ports = set old.ports client q }))
scanned_by (Ok u) old client p q there is scope given count taken = scanned old client p q there is scope given count taken
scanned_by (Err e) old client p q there is scope given count taken = tt

posted : (old : SimulationState) (client : ℕ) (class : Class) (payload : List ℕ) (p q : PortState) → client < length old.ports → p ≡ get_or old.ports client p
    → q.outgoing ≡ with_more p.outgoing (message.Post class payload ∷ []) → q.scope ≡ p.scope → q.taken ≡ p.taken
    → Does (script.Post client class payload) old (record old { ports = set old.ports client q })
posted old client class payload p q there is given scope taken =
    of_client old client p q (script.Post client class payload) refl there is (λ c a. refl)
    (λ first past c a. ap (λ (b : Bool). if b then message.Post class payload ∷ [] else []) (other_number client c a)) here
  where
    here : (first : Worlds) (past : List BodyLine) → HasDone first past old → IsPortAt p first old.moves client past
        → IsPortAt q first old.moves client (script.Post client class payload ∷ past)
    here first past h r = record {
      scope = subst (λ (s : Table). StandsFor s (scans_of first old.moves client past)) (sym scope) r.scope;
      given = ap all_given given ∙ given_more p.outgoing (message.Post class payload ∷ [])
          ∙ ap (λ (ms : List Message). ms ++ message.Post class payload ∷ []) r.given
          ∙ ap (λ (b : Bool). messages first old.moves client past ++ (if b then message.Post class payload ∷ [] else [])) (sym (same_number client));
      taken = taken ∙ r.taken;
      few = let f = r.few in let e = ap (λ (s : Table). s.count) scope in omega (arith, f, e);
    }

pub posted_by : {E : Type 0} (result : Result (Unit {0}) E) (old : SimulationState) (client : ℕ) (class : Class) (payload : List ℕ) (p q : PortState)
    → client < length old.ports → p ≡ get_or old.ports client p
    → OnOk result (q.outgoing ≡ with_more p.outgoing (message.Post class payload ∷ [])) → q.scope ≡ p.scope → q.taken ≡ p.taken
    → OnOk result (Does (script.Post client class payload) old (record old { ports = set old.ports client q }))
posted_by (Ok u) old client class payload p q there is given scope taken = posted old client class payload p q there is given scope taken
posted_by (Err e) old client class payload p q there is given scope taken = tt

-- ---- what was done stays done

port_passed : (p q : PortState) (first : Worlds) (ticks : Ticks) (c : ℕ) (past : List BodyLine) → HasPassedOn p q → IsPortAt p first ticks c past → IsPortAt q first ticks c past
port_passed p q first ticks c past g h = record {
  scope = subst (λ (s : Table). StandsFor s (scans_of first ticks c past)) (sym g.scope) h.scope;
  given = g.passes.same ∙ h.given;
  taken = g.taken ∙ h.taken;
  few = let f = h.few in let e = ap (λ (s : Table). s.count) g.scope in omega (arith, f, e);
}

pub passed_on : (s : SimulationState) (ports : List PortState) → HaveAllPassedOn s.ports ports → (first : Worlds) (past : List BodyLine) → HasDone first past s
    → HasDone first past (record s { ports = ports })
passed_on s ports g first past h = record {
  world = h.world;
  ticks = h.ticks;
  moves = record {
    each_tick = h.moves.each_tick;
    each_client = subst (λ (n : ℕ). AllByRecursion (HasClients n) s.moves) (sym g.count) h.moves.each_client;
  };
  values = h.values;
  versions = h.versions;
  port = λ c d l.
      let k : c < length s.ports = (let e = g.count in omega (arith, l, e)) in
      port_passed (get_or s.ports c d) (get_or ports c d) first s.moves c past (g.each c d k) (h.port c d k);
}

-- ---- before the first line, and behind the last

pub begun : (s : SimulationState) (w : Worlds) → s.world ≡ w → w.ticks ≡ 0 → s.moves ≡ [] → IsHistoryOf s.world [] s.values → HasVersions w → All IsNewPort s.ports → HasDone w [] s
begun s w is none no_moves values versions new = record {
  world = is ∙ ap (λ (ts : Ticks). world_after w ts) (sym no_moves);
  ticks = ap (λ (v : Worlds). v.ticks) is ∙ none;
  moves = record {
    each_tick = ap (λ (ts : Ticks). length ts) no_moves;
    each_client = subst (λ (ts : Ticks). AllByRecursion (HasClients (length s.ports)) ts) (sym no_moves) tt;
  };
  values = subst (λ (ts : Ticks). IsHistoryOf w ts s.values) (sym no_moves) (subst (λ (v : Worlds). IsHistoryOf v [] s.values) is values);
  versions = subst HasVersions (sym is) versions;
  port = λ c d l.
      let p = new c d l in
      record {
        scope = p.scope;
        given = p.given;
        taken = p.taken ∙ ap (λ (ts : Ticks). moves_taken c ts) (sym no_moves);
        few = let e = p.scope.count in omega (arith, e);
      };
}

-- the port of a place, and what waits there
port_there : (ports : List PortState) (c : ℕ) (d : List Message) → c < length ports
    → (p : PortState) × ((e : PortState) → get_or ports c e ≡ p) × (get_or (map waiting_for ports) c d ≡ waiting_for p)
port_there [] c d l = absurd (omega (arith, l))
port_there (p ∷ ports) zero d l = (p, λ e. refl, refl)
port_there (p ∷ ports) (suc c) d l = port_there ports c d (omega (arith, l))

pub rests : (s : SimulationState) (script : Script) → HasDone (world_of script) (reverse script.body) s → length s.ports ≡ script.head.clients
    → AreRests script s.moves (map waiting_for s.ports)
rests s script h many = record {
  count = length-map s.ports waiting_for ∙ many;
  each = λ c d l.
      let k : c < length s.ports = omega (arith, l, many) in
      let there = port_there s.ports c d k in
      let p : PortState = there.0 in
      record {
        passed = p.outgoing.sent;
        whole = sym (h.port c p k).given ∙ ap given_to (there.1 p) ∙ ap (λ (ms : List Message). p.outgoing.sent ++ ms) (sym there.2);
      };
}

pub all_fit : (s : SimulationState) (script : Script) → HasDone (world_of script) (reverse script.body) s → length s.ports ≡ script.head.clients
    → MovesFit (ticks_in script.body) script.head.clients s.moves
all_fit s script h many = record {
  each_tick = h.moves.each_tick ∙ ticks_reversed script.body;
  each_client = subst (λ (n : ℕ). AllByRecursion (HasClients n) s.moves) many h.moves.each_client;
}

-- ---- what waits is passed on behind a line

pub then_passed_on : (line : BodyLine) (old mid new : SimulationState) → Does line old mid → HaveAllPassedOn mid.ports new.ports → new ≡ record mid { ports = new.ports } → Does line old new
then_passed_on line old mid new does g rest first past h =
    subst (λ (s : SimulationState). HasDone first (line ∷ past) s) (sym rest) (passed_on mid new.ports g first (line ∷ past) (does first past h))

lanes_stay : (line : BodyLine) (clients : ℕ) (old mid : SimulationState) (ports : List PortState) → LanesAfter line clients old mid → LanesAfter line clients old (record mid { ports = ports })
lanes_stay script.Tick clients old mid ports h = h
lanes_stay line clients old mid ports h = h

pub lanes_then : (line : BodyLine) (clients : ℕ) (old mid new : SimulationState) → LanesAfter line clients old mid → new ≡ record mid { ports = new.ports } → LanesAfter line clients old new
lanes_then line clients old mid new h rest = subst (λ (s : SimulationState). LanesAfter line clients old s) (sym rest) (lanes_stay line clients old mid new.ports h)

-- ---- the seat alone changed

reseated : (line : BodyLine) (old mid new : SimulationState) → Does line old mid → new ≡ record mid { seat = new.seat } → Does line old new
reseated line old mid new does rest first past h =
    let k = does first past h in
    subst (λ (s : SimulationState). HasDone first (line ∷ past) s) (sym rest) (record { world = k.world; ticks = k.ticks; moves = k.moves; values = k.values; versions = k.versions; port = k.port })

pub reseated_by : {E : Type 0} (result : Result (Unit {0}) E) (line : BodyLine) (old mid new : SimulationState) → Does line old mid → new ≡ record mid { seat = new.seat }
    → OnOk result (Does line old new)
reseated_by (Ok u) line old mid new does rest = reseated line old mid new does rest
reseated_by (Err e) line old mid new does rest = tt

-- ---- how many ticks there are

pub ticks_below : (line : BodyLine) (s new : SimulationState) → Does line s new → MayDo line s → new.world.ticks < 4294967295
ticks_below line s new does may =
    let h = (does may.first may.past may.done).ticks in
    let few = ticks_few (line ∷ may.past) in
    let most = may.few in
    omega (arith, h, few, most)

-- ---- the lanes have each field of the world

pub first_versions : (seed : ℕ) (setup : Setup) → HasVersions (first_world seed setup)
first_versions seed setup = of_fields_fresh (first_objects 0 setup.spawns)

pub still_brought : (w : Worlds) (chosen : ℕ → ℕ → Bool) (clients : ℕ) (a b : List SimStep) → IsBrought w a → Tells chosen clients a b → IsBrought w b
still_brought w chosen clients a b h t object field = behind_by w a b object field (t.versions object field) ∙ h object field

pub brought_then : (line : BodyLine) (clients : ℕ) (old new : SimulationState) → IsBrought old.world old.seat.steps → LanesAfter line clients old new → IsBrought new.world new.seat.steps
brought_then script.Tick clients old new h t = t.whole
brought_then line clients old new h t = λ object field. (λ j. is_behind (t.1 j) (t.0 j).steps object field) ∙ h object field

-- no line was done yet
pub none_done : (first : Worlds) (s : SimulationState) → HasDone first [] s → s.world ≡ first
none_done first s h = h.world ∙ ap (λ (ts : Ticks). world_after first ts) (none s.moves h.moves.each_tick)
  where
    none : (ts : Ticks) → length ts ≡ 0 → ts ≡ []
    none [] e = refl
    none (t ∷ ts) e = absurd (omega (arith, e))

-- a tick of a world of which the lanes have each field
pub ticked_world : (old new : SimulationState) (had : ℕ) → MayDo script.Tick old → (row : List (Option MoveBits)) × (new.world ≡ next old.world row) → new.seat ≡ old.seat
    → had ≡ length old.world.objects → IsTicked new.world had new.seat.steps
ticked_world old new had may t same many = (
  t.0,
  (
    old.world,
    record {
      next = t.1;
      objects = sym many;
      versions = may.done.versions;
      brought = subst (λ (s : SimView). IsBrought old.world s.steps) (sym same) may.brought;
    },
  ),
)

-- what was stored of a world was told
pub told_first : (w : Worlds) (clients : ℕ) (old stored new : List SimStep) (changed : List Changed) → Brings w (objects_below (length w.objects)) old stored
    → ((o f : ℕ) → is_told changed o f ≡ is_wanting w old o f) → Tells (is_told changed) clients stored new → IsBrought w stored → IsTold w clients old new
told_first w clients old stored new changed b e t h = record {
  stored = stored;
  brings = b;
  tells = record {
    versions = t.versions;
    values = t.values;
    waiting = λ d o f. t.waiting d o f ∙ ap (λ (chosen : Bool). pending stored d o f && not (nat_lt d clients && chosen)) (e o f);
  };
  whole = still_brought w (is_told changed) clients stored new h t;
}
