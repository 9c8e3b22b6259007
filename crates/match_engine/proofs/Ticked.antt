-- What a match stands for after a tick.
use Rattle.std.proofs.Common.{◌≡◌, ℕ, zero, suc, ◌+◌, ◌<◌, ◌≤◌, List, [], ◌∷◌, length, map, drop, Option, Some, if◌then◌else◌, get_or, refl, sym, ◌∙◌, ap, subst, arith}
use Rattle.std.specs.Prelude.{slice_get, is_some}
use Rattle.std.specs.List.{All, AllByRecursion, range_with_len}
use Rattle.std.proofs.lemmas.List.{length-map, length-drop, get_or-map, drop-drop}
use Rattle.std.proofs.lemmas.List.Elements.{recursion_from_All, All-from_recursion}
use Rattle.std.proofs.lemmas.Option.{slice_get_within}
use Rattle.tn_types.specs.declared.moves.MoveBits.{MoveBits}
use Rattle.match_script.specs.declared.types.BodyLine.{BodyLine}
use Rattle.match_script.specs.declared.types.BodyLine.TheVariants as script
use Rattle.match_script.specs.declared.types.Head.{Head}
use Rattle.stream_manager.specs.Limits.{Terms}
use Rattle.match_laws.specs.pair_core.Answers.{accepted_in}
use Rattle.ghost_masks.specs.Plan.{fields_of}
use Rattle.world_rules.specs.declared.object.Object.{Object}
use Rattle.world_rules.specs.declared.object.State.{State}
use Rattle.world_rules.specs.declared.object.State.TheVariants.{Player, Disc, Mine, Drone, Flag, Clock}
use Rattle.world_rules.specs.Kinds.{match_kinds, kind_of}
use Rattle.world_sim.specs.declared.rows.Write.{Write}
use Rattle.world_sim.specs.Worlds.{Worlds, IsWorld, next}
use Rattle.world_sim.specs.Facts.{IsWriteOf}
use Rattle.client_scope.specs.Scans.{shown, periods}
use Rattle.dirty_lanes.specs.Words.{Words, mask_at, SizesStay}
use Rattle.match_laws.specs.own_lists.Own.{OwnItem, Line, Scan, Tick}
use Rattle.match_laws.specs.own_lists.Course.{Course, waiting_in, next_move, ticked, with_steps, scan_steps}
use Rattle.match_laws.specs.own_lists.Kept.{Kept, after_line, with_course, wrote_all, kept}
use Rattle.match_laws.specs.own_lists.Past.{client_terms, kept_by, after, own_writes, moves_of, taken_from}
use Rattle.match_laws.specs.own_lists.Conditions.{AreOwn}
use Rattle.match_laws.proofs.Below.own_lists.Agreeing.{own_lists_agree}
use Rattle.match_laws.proofs.Below.own_lists.KeptValues.{wrote_course}
use Rattle.match_laws.proofs.Below.own_lists.ScanFacts.{numbers, different_rising, shown_are_shown}
use Rattle.match_laws.proofs.Below.own_lists.WorldFacts.{IsFieldWrite, world_after, scans_are_sights, tick_writes_fit}
use Rattle.match_laws.specs.client_seat.Stands.{SeatState, StandsFor as SeatStandsFor, without_first}
use Rattle.match_engine.specs.Stands.{GameState, StandsFor, IsMarked, AreFew}
use Rattle.match_engine.specs.Serving.{raised_by}
use Rattle.match_laws.specs.own_lists.Counted.{counted_in}
use Rattle.match_laws.proofs.Below.own_lists.Counting.{counted_items}
use Rattle.match_engine.proofs.Fed.{more_lines, own_few}
use Rattle.match_engine.proofs.Marks.{marks_after_tick}
use Rattle.match_laws.proofs.Below.own_lists.Meeting.{begun_taken}
use Rattle.match_engine.proofs.Lent.{some_scope}

-- ---- seats

drop_one : {X : Type 0} (n : ℕ) (xs ws : List X) → ws ≡ drop n xs → drop 1 ws ≡ drop (n + (if is_some (slice_get ws 0) then 1 else 0)) xs
drop_one n xs [] e = let z : n + 0 ≡ n = omega arith in rw z e
drop_one n xs (w ∷ ws) e = ap (drop 1) e ∙ drop-drop 1 n xs

one_fits : {X : Type 0} (n : ℕ) (xs ws : List X) → ws ≡ drop n xs → n ≤ length xs → n + (if is_some (slice_get ws 0) then 1 else 0) ≤ length xs
one_fits n xs [] e le = omega (arith, le)
one_fits n xs (w ∷ ws) e le = let all = ap (λ l. length l) e ∙ length-drop n xs in omega (arith, le, all)

-- a seat whose oldest waiting move was taken
seat_ticked : (seat : SeatState) (t : Terms) (k : Course) → SeatStandsFor seat t k → SeatStandsFor (without_first seat) t (ticked (if is_some (next_move t k) then 1 else 0) k)
seat_ticked seat t k s = record {
  holds = record {
    pair = s.holds.pair;
    waiting = drop_one k.taken (accepted_in t k.steps) seat.waiting s.holds.waiting ∙ ap (λ (ws : List MoveBits). drop (k.taken + (if is_some (slice_get ws 0) then 1 else 0)) (accepted_in t k.steps)) s.holds.waiting;
    taken = rw (s.holds.taken, s.holds.waiting) refl;
    few = one_fits k.taken (accepted_in t k.steps) (waiting_in t k) refl s.holds.few;
  };
  quiet_server = s.quiet_server;
  quiet_client = s.quiet_client;
}

-- the moves that wait first are those that a tick takes
moves_agree : (f : ℕ → Option MoveBits) (from : ℕ) (seats : List SeatState) → ((k : ℕ) (d : SeatState) → k < length seats → slice_get (get_or seats k d).waiting 0 ≡ f (from + k))
    → map (λ (s : SeatState). slice_get s.waiting 0) seats ≡ map f (range_with_len from (length seats))
moves_agree f from [] h = refl
moves_agree f from (s ∷ seats) h =
    let first : slice_get s.waiting 0 ≡ f from = (let e : from + 0 ≡ from = omega arith in h 0 s (omega arith) ∙ ap f e) in
    let rest = moves_agree f (from + 1) seats (λ k d l. let e : from + suc k ≡ from + 1 + k = omega arith in h (suc k) d (omega (arith, l)) ∙ ap f e) in
    rw (first, rest) refl

-- ---- counts

-- no more ticks are made than counted lines are done
few_ticks : (head : Head) (past : List BodyLine) → (after head past).world.ticks ≤ counted_in past
unfolding next
few_ticks head [] = omega arith
few_ticks head (script.Tick ∷ past) = let h = few_ticks head past in omega (arith, h)
few_ticks head (script.Scan c ∷ past) = let h = few_ticks head past in omega (arith, h)
few_ticks head (script.Post c class v ∷ past) = let h = few_ticks head past in omega (arith, h)
few_ticks head (script.ClientPost c class v ∷ past) = let h = few_ticks head past in omega (arith, h)
few_ticks head (script.Pack c ∷ past) = let h = few_ticks head past in omega (arith, h)
few_ticks head (script.ClientPack c ∷ past) = let h = few_ticks head past in omega (arith, h)
few_ticks head (script.Down c place ∷ past) = let h = few_ticks head past in omega (arith, h)
few_ticks head (script.Up c place ∷ past) = let h = few_ticks head past in omega (arith, h)
few_ticks head (script.Raw c bytes ∷ past) = let h = few_ticks head past in omega (arith, h)
few_ticks head (script.Move c m ∷ past) = let h = few_ticks head past in omega (arith, h)
few_ticks head (script.Show c ∷ past) = let h = few_ticks head past in omega (arith, h)
few_ticks head (script.World ∷ past) = let h = few_ticks head past in omega (arith, h)

line_taken : (t : Terms) (line : BodyLine) (k : Kept) → (after_line t line k).course.taken ≡ k.course.taken
line_taken t script.Tick k = refl
line_taken t (script.Scan c) k = refl
line_taken t (script.Post c class v) k = refl
line_taken t (script.ClientPost c class v) k = refl
line_taken t (script.Pack c) k = refl
line_taken t (script.ClientPack c) k = refl
line_taken t (script.Down c place) k = refl
line_taken t (script.Up c place) k = refl
line_taken t (script.Raw c bytes) k = refl
line_taken t (script.Move c m) k = refl
line_taken t (script.Show c) k = refl
line_taken t script.World k = refl

-- each tick takes one move at the most
few_taken : (t : Terms) (items : List OwnItem) → AreOwn t items → (kept t items).course.taken ≤ counted_items items
few_taken t [] own = omega arith
few_taken t (Line line ∷ items) own = let h = few_taken t items own.1 in omega (arith, h, line_taken t line (kept t items))
few_taken t (Scan hides nears shows ∷ items) own =
    let h = few_taken t items own.1 in
    let k = kept t items in
    omega (arith, h, begun_taken shows (with_course (with_steps (scan_steps hides nears []) k.course) k))
few_taken t (Tick writes taken ∷ items) own =
    let h = few_taken t items own.1 in
    let same = ap (λ (c : Course). c.taken) (wrote_course t writes (kept t items)) in
    omega (arith, h, same, own.0.one)

-- ---- what a tick asks

pub few_moves : (m : GameState) (past : List BodyLine) → StandsFor m past → m.done < 4000000 → AreFew m.seats
few_moves m past s done = λ c d l.
    let below : c < m.head.clients = omega (arith, l, s.seat_count) in
    let own = own_lists_agree m.head past c s.lines below in
    let taken = (s.client c d some_scope below).course.holds.taken in
    let few = few_taken (client_terms m.head c) ((after m.head past).own c) own.0 in
    omega (arith, taken, few, own_few m.head past c, s.counted, done)

pub may_tick : (m : GameState) (past : List BodyLine) → StandsFor m past → m.done < 4000000 → m.world.ticks < 4294967295
may_tick m past s done = let few = few_ticks m.head past in let same = ap (λ (w : Worlds). w.ticks) s.same_world in omega (arith, few, same, s.counted, done)

world_is : (m : GameState) (past : List BodyLine) → StandsFor m past → IsWorld m.world
world_is m past s = subst IsWorld (sym s.same_world) (world_after m.head past s.lines.fits)

each_below : (w : Worlds) (most : ℕ) → length w.objects ≤ most → (writes : List Write) → AllByRecursion (IsWriteOf w) writes → AllByRecursion (λ (x : Write). x.object < most) writes
each_below w most few [] h = tt
each_below w most few (x ∷ writes) h = (omega (arith, few, h.0.object), each_below w most few writes h.1)

pub objects_there : (m : GameState) (past : List BodyLine) (writes : List Write) → StandsFor m past → AllByRecursion (IsWriteOf m.world) writes → All (λ (x : Write). x.object < m.lanes.objects) writes
objects_there m past writes s h =
    let few = (world_is m past s).few in
    let objects = s.objects in
    All-from_recursion (λ (x : Write). x.object < m.lanes.objects) writes (each_below m.world m.lanes.objects (omega (arith, few, objects)) writes h)

few_fields : (s : State) → length (fields_of match_kinds (kind_of s)) ≤ 16
few_fields (Player p) = omega arith
few_fields (Disc d) = omega arith
few_fields (Mine m) = omega arith
few_fields (Drone d) = omega arith
few_fields (Flag f) = omega arith
few_fields (Clock c) = omega arith

entry_there : {X : Type 0} (xs : List X) (n : ℕ) → n < length xs → (x : X) × (slice_get xs n ≡ Some x)
entry_there [] n lt = absurd (omega (arith, lt))
entry_there (x ∷ xs) zero lt = (x, refl)
entry_there (x ∷ xs) (suc n) lt = entry_there xs n (omega (arith, lt))

each_field : (w : Worlds) (writes : List Write) → AllByRecursion (IsWriteOf w) writes
    → AllByRecursion (λ (x : Write). (o : Object) → slice_get w.objects x.object ≡ Some o → IsFieldWrite (kind_of o.state) x) writes
    → AllByRecursion (λ (x : Write). x.field < 16) writes
each_field w [] h f = tt
each_field w (x ∷ writes) h f =
    let o = entry_there w.objects x.object h.0.object in
    let is = f.0 o.0 o.1 in
    let within = slice_get_within (fields_of match_kinds (kind_of o.0.state)) x.field is.spec is.field in
    (omega (arith, within, few_fields o.0.state), each_field w writes h.1 f.1)

pub fields_there : (m : GameState) (past : List BodyLine) (moves : List (Option MoveBits)) → StandsFor m past → AllByRecursion (IsWriteOf m.world) (next m.world moves).writes
    → All (λ (x : Write). x.field < 16) (next m.world moves).writes
fields_there m past moves s h =
    let writes = (next m.world moves).writes in
    All-from_recursion (λ (x : Write). x.field < 16) writes (each_field m.world writes h (tick_writes_fit m.world moves (world_is m past s)))

-- ---- after it

pub moves_taken : (m : GameState) (past : List BodyLine) → StandsFor m past → map (λ (s : SeatState). slice_get s.waiting 0) m.seats ≡ moves_of m.head (after m.head past)
moves_taken m past s =
    moves_agree (λ c. next_move (client_terms m.head c) (kept_by m.head (after m.head past) c).course) 0 m.seats
    (λ k d l. let z : 0 + k ≡ k = omega arith in rw z (ap (λ (ws : List MoveBits). slice_get ws 0) (s.client k d some_scope (omega (arith, l, s.seat_count))).course.holds.waiting))
    ∙ ap (λ n. map (λ c. next_move (client_terms m.head c) (kept_by m.head (after m.head past) c).course) (range_with_len 0 n)) s.seat_count

pub next_world : (m : GameState) (past : List BodyLine) (moves : List (Option MoveBits)) → moves ≡ map (λ (s : SeatState). slice_get s.waiting 0) m.seats → StandsFor m past
    → next m.world moves ≡ (after m.head (script.Tick ∷ past)).world
next_world m past moves are s = ap (next m.world) (are ∙ moves_taken m past s) ∙ ap (λ (w : Worlds). next w (moves_of m.head (after m.head past))) s.same_world

pub ticked_match : (m : GameState) (past : List BodyLine) (moves : List (Option MoveBits)) (lanes : Words) → moves ≡ map (λ (s : SeatState). slice_get s.waiting 0) m.seats → m.done < 4000000
    → ((d o : ℕ) → d < 16 → mask_at lanes d o ≡ raised_by (next m.world moves).writes o (mask_at m.lanes d o)) → SizesStay m.lanes lanes → StandsFor m past
    → StandsFor (record { head = m.head; seats = map without_first m.seats; scopes = m.scopes; world = next m.world moves; lanes = lanes; done = m.done + 1 }) (script.Tick ∷ past)
ticked_match m past moves lanes are done masks sizes s =
    let is = next_world m past moves are s in
    record {
      lines = more_lines m.head script.Tick past s.lines tt (omega (arith, done, s.counted));
      seat_count = length-map m.seats without_first ∙ s.seat_count;
      scope_count = s.scope_count;
      same_world = is;
      counted = omega (arith, s.counted);
      objects = sizes.objects ∙ s.objects;
      clients = sizes.clients ∙ s.clients;
      client = λ c d e lt.
          let w = (after m.head (script.Tick ∷ past)).world in
          let t = client_terms m.head c in
          let k = kept_by m.head (after m.head past) c in
          let scans = (after m.head past).scans c in
          let holds = s.client c d e lt in
          let raised : (o : ℕ) → mask_at lanes c o ≡ raised_by w.writes o (mask_at m.lanes c o) =
          (λ o. masks c o (omega (arith, lt, s.lines.fits.clients)) ∙ ap (λ (x : Worlds). raised_by x.writes o (mask_at m.lanes c o)) is) in
          let ps = shown scans in
          let apart = different_rising 0 (length (periods scans)) (numbers ps) (shown_are_shown scans (scans_are_sights m.head past c s.lines.fits)).rising in
          let marks = marks_after_tick w m.lanes lanes c k ps raised apart (recursion_from_All (IsMarked m.lanes c k) ps holds.marks) in
          record {
            course = subst (λ (x : SeatState). SeatStandsFor x t (kept_by m.head (after m.head (script.Tick ∷ past)) c).course) (sym (get_or-map without_first m.seats c d d (omega (arith, lt, s.seat_count))))
                (subst (λ (x : Course). SeatStandsFor (without_first (get_or m.seats c d)) t (ticked (taken_from m.head (after m.head past) c) x)) (sym (wrote_course t (own_writes w ps) k))
                (seat_ticked (get_or m.seats c d) t k.course holds.course));
            periods = holds.periods;
            marks = All-from_recursion (IsMarked lanes c (wrote_all (own_writes w ps) k)) ps marks;
          };
    }
