-- What a server that serves one client alone tells of a line that is done on the connection is what a match tells of it, whose head
-- says the same of the client. And its held periods are shown and not hidden.
use Rattle.std.proofs.Common.{◌≡◌, ◌∙◌, ℕ, ◌<◌, true, not, List, [], ◌∷◌, Option, Some, map, refl, sym, ap, subst}
use Rattle.std.proofs.lemmas.Bool.{not-true}
use Rattle.std.specs.List.{AllByRecursion}
use Rattle.tn_types.specs.declared.choices.Drain.{Drain}
use Rattle.tn_types.specs.declared.limits.TheConstants.{WORLD_MOVE_BITS}
use Rattle.world_rules.specs.Kinds.{match_kinds}
use Rattle.match_script.specs.declared.types.BodyLine.{BodyLine}
use Rattle.match_script.specs.declared.types.BodyLine.TheVariants as script
use Rattle.match_script.specs.declared.types.Head.{Head}
use Rattle.match_report.specs.declared.told.Told.{Told}
use Rattle.ghost_model.specs.Legal.{IsUp}
use Rattle.stream_manager.specs.Limits.{Terms}
use Rattle.stream_manager.specs.Server.{ghost_log}
use Rattle.pair_core.specs.History.{PairStep, history}
use Rattle.pair_core.specs.Stands.{StandsFor as PairStandsFor}
use Rattle.pair_steps.specs.Steps.{shows_in, is_hidden_in, up_in}
use Rattle.pair_steps.proofs.Journals.{up_to}
use Rattle.match_script.specs.Named.{client_named}
use Rattle.own_lists.specs.bit_stream.WorldMoves.{bits_of}
use Rattle.own_lists.specs.Own.{OwnItem}
use Rattle.own_lists.specs.Kept.{kept}
use Rattle.own_lists.specs.Past.{Past, client_terms, start}
use Rattle.own_lists.proofs.Meeting.{all_up}
use Rattle.own_items.specs.client_seat.Stands.{SeatState, StandsFor as SeatStandsFor}
use Rattle.own_items.specs.client_seat.Told.{post_told, client_post_told, move_told, client_pack_told, brought_down_told, brought_up_told, raw_told}
use Rattle.own_items.specs.match_engine.Stands.{IsDirect}
use Rattle.own_items.specs.match_laws.Report.{told}
use Rattle.conn_packing.proofs.Scoped.{up-from, up-to}
use Rattle.alone_server.specs.Periods.{Table, drain_of}
use Rattle.alone_server.specs.Stands.{Serves}
use Rattle.alone_server.specs.Telling.{line_told}
use Rattle.alone_server.proofs.Holding.{undrained_is}

-- ---- lines

named : (n m : ℕ) → ◌≡◌ {A = Option ℕ} (Some n) (Some m) → n ≡ m
named n m e = cc (e)

module _ (t : Terms) (ten : t.config.move_bits ≡ WORLD_MOVE_BITS) (kinds : t.kinds ≡ match_kinds) (items : List OwnItem) where
  -- a header that says this of the client
  abbrev pub head : Head
  head = record {
    version = t.config.version;
    seed = 0;
    clients = 0;
    life = t.config.life;
    size = t.config.size;
    radius = 0;
    blocks = t.blocks;
    setup = record { clients = 0; radius = 0; spawns = [] };
  }

  abbrev pub past : Past
  past = record { world = (start head).world; scans = λ c. []; own = λ c. items }

  same : (n : ℕ) → n ≡ t.config.client → client_terms head n ≡ t
  same n is = λ j. record {
    config = record { client = is j; life = t.config.life; size = t.config.size; version = t.config.version; move_bits = sym ten j };
    kinds = sym kinds j;
    blocks = t.blocks;
  }

  pub stands_there : (seat : SeatState) → SeatStandsFor seat t (kept t items).course
      → SeatStandsFor seat (client_terms head t.config.client) (kept (client_terms head t.config.client) items).course
  stands_there seat s = subst (λ (u : Terms). SeatStandsFor seat u (kept u items).course) (sym (same t.config.client refl)) s

  pub direct_told : (line : BodyLine) → IsDirect line → client_named line ≡ Some t.config.client → (a : Told) → a ≡ told head past past line
      → Some a ≡ line_told t (kept t items) line
  direct_told script.Tick d e a is = absurd d
  direct_told (script.Scan n) d e a is = absurd d
  direct_told (script.Pack n) d e a is = absurd d
  direct_told (script.Show n) d e a is = absurd d
  direct_told script.World d e a is = absurd d
  direct_told (script.Post n class v) d e a is =
      let terms = same n (named n t.config.client e) in
      ap (λ (x : Told). Some x) (is ∙ ap (λ (u : Terms). post_told u (kept u items).course.steps n class) terms)
  direct_told (script.ClientPost n class v) d e a is =
      let terms = same n (named n t.config.client e) in
      ap (λ (x : Told). Some x) (is ∙ ap (λ (u : Terms). client_post_told u (kept u items).course.steps n class) terms)
  direct_told (script.ClientPack n) d e a is =
      let terms = same n (named n t.config.client e) in
      ap (λ (x : Told). Some x) (is ∙ ap (λ (u : Terms). client_pack_told n u (kept u items).course.steps) terms)
  direct_told (script.Down n place) d e a is =
      let terms = same n (named n t.config.client e) in
      ap (λ (x : Told). Some x) (is ∙ ap (λ (u : Terms). brought_down_told n place u (kept u items).course.steps) terms)
  direct_told (script.Up n place) d e a is =
      let terms = same n (named n t.config.client e) in
      ap (λ (x : Told). Some x) (is ∙ ap (λ (u : Terms). brought_up_told n place u (kept u items).course) terms)
  direct_told (script.Raw n bytes) d e a is =
      let terms = same n (named n t.config.client e) in
      ap (λ (x : Told). Some x) (is ∙ ap (λ (u : Terms). raw_told n bytes u (kept u items).course) terms)
  direct_told (script.Move n m) d e a is =
      let terms = same n (named n t.config.client e) in
      ap (λ (x : Told). Some x) (is ∙ ap (λ (u : Terms). move_told u (kept u items).course.steps n (bits_of m)) terms)

-- ---- what is held is shown and not hidden, whatever steps the connection stands for

module _ (client : ℕ) (seat : SeatState) (x : Table) (t : Terms) (items : List OwnItem) (s : Serves client seat x t items) where
  abbrev steps : List PairStep
  steps = (kept t items).course.steps

  each_up : (other : Terms) (theirs : List PairStep) → PairStandsFor seat.pair other theirs → (ns : List ℕ)
      → AllByRecursion (λ n. (n < shows_in steps) × (not (is_hidden_in steps n) ≡ true)) ns
      → AllByRecursion (λ (d : Drain). IsUp (ghost_log (history other theirs).server) d.n) (map (λ n. record { n = n; bits = (kept t items).written n }) ns)
  each_up other theirs stands [] h = tt
  each_up other theirs stands (n ∷ ns) h =
      let masks = seat.pair.conn.masks in
      let mine = ghost_log (history t steps).server in
      let up = up_to t steps n (h.0).0 (not-true (is_hidden_in steps n) (h.0).1) in
      (up-to masks (ghost_log (history other theirs).server) stands.conn.masks n (up-from masks mine s.course.holds.pair.conn.masks n up), each_up other theirs stands ns h.1)

  pub held_are_up : (drains : List Drain) → drains ≡ map drain_of x.periods → (other : Terms) (theirs : List PairStep) → PairStandsFor seat.pair other theirs
      → AllByRecursion (λ (d : Drain). IsUp (ghost_log (history other theirs).server) d.n) drains
  held_are_up drains is other theirs stands =
      subst (λ (ds : List Drain). AllByRecursion (λ (d : Drain). IsUp (ghost_log (history other theirs).server) d.n) ds)
      (sym (is ∙ undrained_is x (kept t items) s.periods)) (each_up other theirs stands (up_in steps) (all_up steps))
