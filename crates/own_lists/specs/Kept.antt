-- What an own list leaves: the client's course, the newest values of each of its periods, and which fields of each were written
-- since the last drain, or since the show. Items are listed newest first.
use Rattle.std.specs.Prelude.{ℕ, ℤ, pos, ◌^◌, ◌==◌, Bool, not, List, [], ◌∷◌, map, filter, bit_or, slice_set, slice_index_or, cond}
use Rattle.tn_types.specs.declared.choices.Drain.{Drain}
use Rattle.tn_types.specs.declared.choices.Read.{Read}
use Rattle.bit_stream.specs.WorldMoves.{bits_of}
use Rattle.match_script.specs.declared.types.BodyLine.{BodyLine}
use Rattle.match_script.specs.declared.types.BodyLine.TheVariants as script
use Rattle.client_scope.specs.declared.period.Near.{Near as NearPeriod}
use Rattle.notify_window.specs.declared.SendState.{SendState}
use Rattle.notify_window.specs.declared.SendState.TheVariants.{Held, Worn, Room}
use Rattle.pair_steps.specs.stream_manager.Limits.{Terms}
use Rattle.pair_steps.specs.stream_manager.Server.{ServerEvent, server_state, choices_at}
use Rattle.pair_steps.specs.conn_packing.Packs.{absorbing}
use Rattle.pair_steps.specs.pair_core.History.{PairStep, Post, ClientPost, Sample, Pack, ClientPack, Down, Up, Raw, history}
use Rattle.pair_steps.specs.conn_packing.Reads.{asked_by_all}
use Rattle.pair_steps.specs.Steps.{shows_in, up_in}
use Rattle.own_lists.specs.Own.{OwnShow, OwnWrite, OwnItem, Line, Scan, Tick}
use Rattle.own_lists.specs.Course.{Course, beginning, room_in, with_step, with_steps, ticked, show_step, scan_steps}

pub record Kept : Type 0 where
  pub course : Course
  pub values : ℕ → List ℤ
  pub written : ℕ → ℕ  -- bit f for field f

-- a function with another value at one place
abbrev pub put {ℓ} : {A : Type ℓ} → (ℕ → A) → ℕ → A → ℕ → A
put f n x m = cond (m == n) x (f m)

-- ---- packs

-- each shown period with its fields that were written and not drained
abbrev pub undrained : Kept → List Drain
undrained k = map (λ n. record { n = n; bits = k.written n }) (up_in k.course.steps)

abbrev pub has_bits : Drain → Bool
has_bits d = not (d.bits == 0)

-- what a pack drains, by what it makes
abbrev pub drained : SendState → List Drain → List Drain
drained Room drains = filter has_bits drains
drained Held drains = []
drained Worn drains = []

abbrev pub drains_of : Terms → Kept → List Drain
drains_of t k = drained (server_state t.config (history t k.course.steps).server) (undrained k)

-- a pack reads the newest value. Numbers of versions are for those who race; here they are all 0
abbrev pub read_of : (ℕ → List ℤ) → ℕ × ℕ → Read
read_of values x = record { n = x.0; field = x.1; version = 0; value = slice_index_or (values x.0) x.1 (pos 0) }

-- what a pack reads, by what it makes: the fields that its ghosts carry
abbrev pub reads_for : Terms → List ServerEvent → SendState → (ℕ → List ℤ) → List Read
reads_for t log Room values = map (read_of values) (asked_by_all (choices_at t log))
reads_for t log Held values = []
reads_for t log Worn values = []

abbrev pub reads_of : Terms → Kept → List Read
reads_of t k =
    let log = (history t k.course.steps).server in
    reads_for t (absorbing (drains_of t k) log) (server_state t.config log) k.values

abbrev pub left : SendState → (ℕ → ℕ) → ℕ → ℕ
left Room written n = 0
left Held written n = written n
left Worn written n = written n

abbrev pub packs : Terms → Kept → Kept
packs t k = record {
  course = with_step (Pack (drains_of t k) (reads_of t k)) k.course;
  values = k.values;
  written = left (server_state t.config (history t k.course.steps).server) k.written;
}

-- ---- lines

abbrev pub with_course : Course → Kept → Kept
with_course course k = record { course = course; values = k.values; written = k.written }

abbrev pub after_step : PairStep → Kept → Kept
after_step step k = with_course (with_step step k.course) k

-- after a line that stands in the own list
abbrev pub after_line : Terms → BodyLine → Kept → Kept
after_line t (script.Post c class payload) k = after_step (Post class payload) k
after_line t (script.ClientPost c class payload) k = after_step (ClientPost class payload) k
after_line t (script.Pack c) k = packs t k
after_line t (script.ClientPack c) k = after_step ClientPack k
after_line t (script.Down c place) k = after_step (Down place) k
after_line t (script.Up c place) k = after_step (Up place (room_in t k.course)) k
after_line t (script.Raw c bytes) k = after_step (Raw bytes (room_in t k.course)) k
after_line t (script.Move c m) k = after_step (Sample (bits_of m)) k
after_line t line k = k

-- ---- scans and ticks

-- a period begins: its values are the newest, and no field was written since
abbrev pub begins : OwnShow → Kept → Kept
begins s k = record {
  course = with_step (show_step s.how) k.course;
  values = put k.values (shows_in k.course.steps) s.values;
  written = put k.written (shows_in k.course.steps) 0;
}

abbrev pub all_begin : List OwnShow → Kept → Kept
all_begin [] k = k
all_begin (s ∷ shows) k = all_begin shows (begins s k)

abbrev pub after_scan : List ℕ → List NearPeriod → List OwnShow → Kept → Kept
after_scan hides nears shows k = all_begin shows (with_course (with_steps (scan_steps hides nears []) k.course) k)

abbrev pub wrote : OwnWrite → Kept → Kept
wrote w k = record {
  course = k.course;
  values = put k.values w.n (slice_set (k.values w.n) w.field w.value);
  written = put k.written w.n (bit_or (k.written w.n) (2 ^ w.field));
}

abbrev pub wrote_all : List OwnWrite → Kept → Kept
wrote_all [] k = k
wrote_all (w ∷ writes) k = wrote_all writes (wrote w k)

abbrev pub after_tick : List OwnWrite → ℕ → Kept → Kept
after_tick writes taken k = let after = wrote_all writes k in with_course (ticked taken after.course) after

-- ---- own lists

abbrev pub follows : Terms → OwnItem → Kept → Kept
follows t (Line line) k = after_line t line k
follows t (Scan hides nears shows) k = after_scan hides nears shows k
follows t (Tick writes taken) k = after_tick writes taken k

abbrev pub kept : Terms → List OwnItem → Kept
kept t [] = record { course = beginning; values = λ n. []; written = λ n. 0 }
kept t (item ∷ items) = follows t item (kept t items)

-- the journal of an own list
abbrev pub journal : Terms → List OwnItem → List PairStep
journal t items = (kept t items).course.steps
