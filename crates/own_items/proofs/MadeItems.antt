-- What a match's line adds to a client's own list, as it is read from the match.
use Rattle.std.proofs.Common.{◌≡◌, ◌∙◌, ◌<◌, ◌+◌, ◌==◌, ℕ, ℤ, Bool, true, false, List, [], ◌∷◌, ◌++◌, map, filter, take, length, get_or, refl, sym, ap, subst, arith, if◌then◌else◌, Option, Some, append-nil, append_assoc}
use Rattle.std.specs.Prelude.{slice_get, is_some}
use Rattle.std.specs.Option.{unwrap_or}
use Rattle.std.specs.List.{All, AllByRecursion, filter_map, flat_map}
use Rattle.std.proofs.lemmas.List.{map-append, take_more}
use Rattle.std.proofs.lemmas.List.Elements.{recursion_from_All, All-from_recursion, filter_map-append}
use Rattle.std.proofs.lemmas.List.Concat.{flat_map-append}
use Rattle.std.proofs.lemmas.Option.{slice_get-get_or}
use Rattle.tn_types.specs.declared.moves.MoveBits.{MoveBits}
use Rattle.match_script.specs.declared.types.BodyLine.{BodyLine}
use Rattle.match_script.specs.declared.types.BodyLine.TheVariants as script
use Rattle.match_script.specs.declared.types.Head.{Head}
use Rattle.world_rules.specs.declared.object.Object.{Object}
use Rattle.world_rules.specs.Kinds.{kind_of}
use Rattle.world_rules.specs.Flags.{is_player}
use Rattle.world_sim.specs.Worlds.{Worlds, values_at}
use Rattle.world_sim.specs.declared.rows.Write.{Write}
use Rattle.world_scope.specs.declared.viewer.Seen.{Seen}
use Rattle.world_scope.specs.Scope.{visible_list}
use Rattle.world_scope.proofs.SeenList.{all_there}
use Rattle.client_scope.specs.declared.period.ShownPeriod.{ShownPeriod}
use Rattle.client_scope.specs.Scans.{shown, is_new, level_in, last}
use Rattle.client_scope.specs.Changes.{shows}
use Rattle.client_scope.specs.StandsFor.{Table, StandsFor as ScopeStandsFor}
use Rattle.own_lists.specs.Own as own
use Rattle.own_lists.specs.Past.{Past, client_terms, kept_by, after, showing_of, own_show, own_writes, taken_from}
use Rattle.own_lists.specs.Past as past
use Rattle.own_lists.specs.declared.showing.Showing.{Showing}
use Rattle.match_engine.specs.client_seat.Stands.{SeatState}
use Rattle.match_engine.specs.Match.{MatchState, StandsFor as MatchStandsFor}
use Rattle.match_engine.specs.Stands.{GameState, StandsFor, ClientHolds}
use Rattle.match_engine.proofs.Fed.{put_there}
use Rattle.own_items.specs.declared.items.OwnShow.{OwnShow}
use Rattle.own_items.specs.declared.items.OwnWrite.{OwnWrite}
use Rattle.own_items.specs.Items.{show_of, write_of}
use Rattle.match_engine.proofs.Lent.{some_scope, some_of}

-- ---- reading

-- what is read of an object says how its period begins
pub begins : (w : Worlds) (c : ℕ) (s : Seen) (e : Object) → s.object < length w.objects → (os : List Object) (kind : ℕ) (control : Bool) (values : List ℤ) → os ≡ w.objects
    → kind ≡ kind_of (get_or os s.object e).state → control ≡ is_player c (get_or os s.object e) → ◌≡◌ {A = Option (List ℤ)} (Some values) (values_at w s.object)
    → show_of (record { kind = kind; block = (get_or os s.object e).block; level = s.level; control = control; values = values }) ≡ own_show w c s
begins w c s e there os kind control values same is_kind is_control are =
    let how : ◌≡◌ {A = Showing} (record { kind = kind; block = (get_or os s.object e).block; level = s.level; control = control }) (showing_of w c s) =
    ap (λ (z : ℕ × Bool). record { kind = z.0; block = (get_or os s.object e).block; level = s.level; control = z.1 }) (λ j. (is_kind j, is_control j))
    ∙ rw (same, slice_get-get_or w.objects s.object e there) refl in
    let of : values ≡ unwrap_or (values_at w s.object) [] = ap (λ (v : Option (List ℤ)). unwrap_or v []) are in
    λ j. record { how = how j; values = of j }

pub pushed_show : (new old : List OwnShow) (s : OwnShow) (ts whole : List own.OwnShow) (t : own.OwnShow) → new ≡ old ++ s ∷ [] → map show_of old ≡ ts → show_of s ≡ t → whole ≡ ts ++ t ∷ [] → map show_of new ≡ whole
pushed_show new old s ts whole t grown so_far is all =
    ap (map show_of) grown ∙ map-append show_of old (s ∷ []) ∙ (λ j. so_far j ++ is j ∷ []) ∙ sym all

module _ (p : ShownPeriod) where
  -- a write to another object adds nothing
  pub no_write : (w : Write) (old : List OwnWrite) → (w.object == p.object) ≡ false → map write_of old ≡ map write_of old ++ filter_map (past.write_of p) (w ∷ [])
  no_write w old apart =
      let none : filter_map (past.write_of p) (w ∷ []) ≡ [] = rw apart refl in sym (append-nil (map write_of old)) ∙ ap (λ l. map write_of old ++ l) (sym none)

  pub one_write : (w : Write) (old new : List OwnWrite) → (w.object == p.object) ≡ true → new ≡ old ++ record { n = p.n; field = w.field; value = w.value } ∷ []
      → map write_of new ≡ map write_of old ++ filter_map (past.write_of p) (w ∷ [])
  one_write w old new same grown =
      let this : OwnWrite = record { n = p.n; field = w.field; value = w.value } in
      let one : filter_map (past.write_of p) (w ∷ []) ≡ write_of this ∷ [] = rw same refl in
      ap (map write_of) grown ∙ map-append write_of old (this ∷ []) ∙ ap (λ l. map write_of old ++ l) (sym one)

  pub more_writes : (first old new : List own.OwnWrite) (ws : List Write) (i : ℕ) (d : Write) → i < length ws → old ≡ first ++ filter_map (past.write_of p) (take i ws)
      → new ≡ old ++ filter_map (past.write_of p) (get_or ws i d ∷ []) → new ≡ first ++ filter_map (past.write_of p) (take (i + 1) ws)
  more_writes first old new ws i d lt so_far grown =
      grown ∙ ap (λ l. l ++ filter_map (past.write_of p) (get_or ws i d ∷ [])) so_far
      ∙ append_assoc first (filter_map (past.write_of p) (take i ws)) (filter_map (past.write_of p) (get_or ws i d ∷ []))
      ∙ ap (λ l. first ++ l) (sym (ap (filter_map (past.write_of p)) (take_more ws i d lt) ∙ filter_map-append (past.write_of p) (take i ws) (get_or ws i d ∷ [])))

pub more_periods : (w : Worlds) (old new : List own.OwnWrite) (ps : List ShownPeriod) (i : ℕ) (d : ShownPeriod) → i < length ps → old ≡ own_writes w (take i ps)
    → new ≡ old ++ filter_map (past.write_of (get_or ps i d)) w.writes → new ≡ own_writes w (take (i + 1) ps)
more_periods w old new ps i d lt so_far grown =
    let f : ShownPeriod → List own.OwnWrite = λ p. filter_map (past.write_of p) w.writes in
    grown ∙ ap (λ l. l ++ f (get_or ps i d)) so_far
    ∙ sym (ap (flat_map f) (take_more ps i d lt) ∙ flat_map-append f (take i ps) (get_or ps i d ∷ []) ∙ ap (λ l. flat_map f (take i ps) ++ l) (append-nil (f (get_or ps i d))))

-- ---- what a match holds

all_filter : (P : Seen → Type 0) (p : Seen → Bool) (xs : List Seen) → AllByRecursion P xs → AllByRecursion P (filter p xs)
all_filter P p [] h = tt
all_filter P p (x ∷ xs) h = by (all_filter P p xs h.1) (p x)
  where
    by : AllByRecursion P (filter p xs) → (b : Bool) → AllByRecursion P (if b then x ∷ filter p xs else filter p xs)
    by rest true = (h.0, rest)
    by rest false = rest

none_waits : (ws : List MoveBits) → length ws ≡ 0 → ◌≡◌ {A = ℕ} 0 (if is_some (slice_get ws 0) then 1 else 0)
none_waits [] e = refl
none_waits (m ∷ ws) e = absurd (omega (arith, e))

one_waits : (ws : List MoveBits) → 0 < length ws → ◌≡◌ {A = ℕ} 1 (if is_some (slice_get ws 0) then 1 else 0)
one_waits [] e = absurd (omega (arith, e))
one_waits (m ∷ ws) e = refl

module _ (g : GameState) (lines : List BodyLine) (c : ℕ) (lt : c < g.head.clients) (s : StandsFor g lines) where
  seat : SeatState
  seat = some_of g.seats (omega (arith, lt, s.seat_count))

  holds : ClientHolds (get_or g.seats c seat) (get_or g.scopes c some_scope) g.lanes c (client_terms g.head c) ((after g.head lines).scans c) (kept_by g.head (after g.head lines) c)
  holds = s.client c seat some_scope lt

  pub takes_none : (n : ℕ) → ((d : SeatState) → n ≡ length (get_or g.seats c d).waiting) → n ≡ 0 → 0 ≡ taken_from g.head (after g.head lines) c
  takes_none n is z = none_waits _ (ap length (sym holds.course.holds.waiting) ∙ sym (is seat) ∙ z)

  pub takes_one : (n : ℕ) → ((d : SeatState) → n ≡ length (get_or g.seats c d).waiting) → 0 < n → 1 ≡ taken_from g.head (after g.head lines) c
  takes_one n is z = one_waits _ (omega (arith, is seat, ap length holds.course.holds.waiting, z))

  pub scope_is : (x : Table) → ((e : Table) → x ≡ get_or g.scopes c e) → ScopeStandsFor x ((after g.head lines).scans c)
  scope_is x is = subst (λ (y : Table). ScopeStandsFor y ((after g.head lines).scans c)) (sym (is some_scope)) holds.periods

-- a tick's item is what is read after it
pub tick_added : (g : GameState) (before : List BodyLine) (c taken : ℕ) → c < g.head.clients → StandsFor g (script.Tick ∷ before) → (w : Worlds) (x : Table) → w ≡ g.world → ((e : Table) → x ≡ get_or g.scopes c e)
    → taken ≡ taken_from g.head (after g.head before) c → (item : own.OwnItem) → item ≡ own.Tick (own_writes w x.shown) taken
    → (after g.head (script.Tick ∷ before)).own c ≡ item ∷ (after g.head before).own c
tick_added g before c taken lt s w x is_w is_x is_t item is =
    let p = after g.head before in
    let world : w ≡ (after g.head (script.Tick ∷ before)).world = is_w ∙ s.same_world in
    let periods : x.shown ≡ shown (p.scans c) = (scope_is g (script.Tick ∷ before) c lt s x is_x).shown in
    sym (ap (λ (i : own.OwnItem). i ∷ p.own c) (is ∙ (λ j. own.Tick (own_writes (world j) (periods j)) (is_t j))))

module _ (g : GameState) (before : List BodyLine) (c : ℕ) (lt : c < g.head.clients) (s : StandsFor g (script.Scan c ∷ before)) (w : Worlds) (x : Table) (is_w : w ≡ g.world) (is_x : (e : Table) → x ≡ get_or g.scopes c e) where
  abbrev p : Past
  p = after g.head before

  abbrev next : List (List Seen)
  next = visible_list p.world c ∷ p.scans c

  scans_are : (after g.head (script.Scan c ∷ before)).scans c ≡ next
  scans_are = put_there p.scans c c _ refl

  world : w ≡ p.world
  world = is_w ∙ s.same_world

  scope : ScopeStandsFor x next
  scope = subst (ScopeStandsFor x) scans_are (scope_is g (script.Scan c ∷ before) c lt s x is_x)

  pub shows_there : All (λ (y : Seen). y.object < length w.objects) x.shows
  shows_there =
      let P : Seen → Type 0 = λ y. y.object < length p.world.objects in
      let all : All P (shows next) = All-from_recursion P (shows next) (all_filter P (is_new (level_in (last (p.scans c)))) (visible_list p.world c) (recursion_from_All P (visible_list p.world c) (all_there p.world c))) in
      subst (λ (v : Worlds). All (λ (y : Seen). y.object < length v.objects) x.shows) (sym world) (subst (λ (l : List Seen). All P l) (sym scope.shows) all)

  -- a scan's item is what is read after it
  pub scan_added : (item : own.OwnItem) → item ≡ own.Scan x.hides x.nears (map (own_show w c) x.shows) → (after g.head (script.Scan c ∷ before)).own c ≡ item ∷ p.own c
  scan_added item is =
      put_there p.own c c _ refl
      ∙ sym (ap (λ (i : own.OwnItem). i ∷ p.own c) (is ∙ (λ j. own.Scan (scope.hides j) (scope.nears j) (map (own_show (world j) c) (scope.shows j)))))

-- ---- the same of a match and its line

module _ (m : MatchState) (before : List BodyLine) (line : BodyLine) (c : ℕ) (lt : c < m.script.head.clients) (h : MatchStandsFor m (line ∷ before))
    (w : Worlds) (x : Table) (is_w : w ≡ m.game.world) (is_x : (e : Table) → x ≡ get_or m.game.scopes c e) where
  below : c < m.game.head.clients
  below = subst (λ (z : Head). c < z.clients) (sym h.head) lt

  of_line : (l : BodyLine) → line ≡ l → StandsFor m.game (l ∷ before)
  of_line l is = subst (λ (k : BodyLine). StandsFor m.game (k ∷ before)) is h.game

  pub line_shows : (n : ℕ) → line ≡ script.Scan n → n ≡ c → All (λ (y : Seen). y.object < length w.objects) x.shows
  line_shows n is same = shows_there m.game before c below (of_line (script.Scan c) (is ∙ ap (λ (k : ℕ). script.Scan k) same)) w x is_w is_x

  pub line_scan : (n : ℕ) → line ≡ script.Scan n → n ≡ c → (item : own.OwnItem) → item ≡ own.Scan x.hides x.nears (map (own_show w c) x.shows)
      → (after m.script.head (line ∷ before)).own c ≡ item ∷ (after m.script.head before).own c
  line_scan n is same item made =
      let e : line ≡ script.Scan c = is ∙ ap (λ (k : ℕ). script.Scan k) same in
      subst (λ (l : BodyLine). (after m.script.head (l ∷ before)).own c ≡ item ∷ (after m.script.head before).own c) (sym e)
      (subst (λ (z : Head). (after z (script.Scan c ∷ before)).own c ≡ item ∷ (after z before).own c) h.head
      (scan_added m.game before c below (of_line (script.Scan c) e) w x is_w is_x item made))

  pub line_tick : line ≡ script.Tick → (taken : ℕ) → taken ≡ taken_from m.script.head (after m.script.head before) c → (item : own.OwnItem) → item ≡ own.Tick (own_writes w x.shown) taken
      → (after m.script.head (line ∷ before)).own c ≡ item ∷ (after m.script.head before).own c
  line_tick e taken took item made =
      subst (λ (l : BodyLine). (after m.script.head (l ∷ before)).own c ≡ item ∷ (after m.script.head before).own c) (sym e)
      (subst (λ (z : Head). taken ≡ taken_from z (after z before) c → (after z (script.Tick ∷ before)).own c ≡ item ∷ (after z before).own c) h.head
      (λ t. tick_added m.game before c taken below (of_line script.Tick e) w x is_w is_x t item made) took)
