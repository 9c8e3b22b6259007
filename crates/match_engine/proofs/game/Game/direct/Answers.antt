use Rattle.std.proofs.Common.{◌≡◌, ◌∙◌, ◌<◌, ◌+◌, ℕ, List, ◌∷◌, length, get_or, set, sym, ap, subst, refl, arith, Some}
use Rattle.std.specs.Prelude.{IfOk, OnOk}
use Rattle.match_script.specs.declared.types.BodyLine.{BodyLine}
use Rattle.match_script.specs.declared.types.Head.{Head}
use Rattle.match_script.specs.Ranges.{LineFits}
use Rattle.match_report.specs.declared.told.Told.{Told}
use Rattle.stream_manager.specs.Limits.{Terms}
use Rattle.match_script.specs.Named.{client_named}
use Rattle.match_laws.specs.own_lists.Counted.{counted}
use Rattle.match_laws.specs.own_lists.Kept.{Kept, after_line}
use Rattle.match_laws.specs.own_lists.Past.{Past, client_terms, kept_by, after}
use Rattle.match_laws.proofs.Below.own_lists.Counting.{few_up}
use Rattle.match_laws.specs.client_seat.Stands.{SeatState, StandsFor as SeatStandsFor}
use Rattle.match_laws.specs.Report.{told, told_after}
use Rattle.match_engine.specs.Stands.{GameState, StandsFor, IsDirect, KeepAll}
use Rattle.match_engine.proofs.Keeping.{keep-set}
use Rattle.match_engine.proofs.Fed.{names_client, fed, after_direct, put_set, put_none, own_few, map_if_ok, map_on_ok, ok_of}
use Rattle.match_engine.proofs.game.Game.direct.Goals as goal
use Rattle.match_engine.proofs.Lent.{some_scope}

abbrev before : goal.After-index_mut → GameState
before c = record { head = c.self.inside.head.now; seats = c.self.inside.seats.items; scopes = c.self.inside.scopes.items; world = c.self.inside.world; lanes = c.self.inside.lanes; done = c.self.inside.done }

module _ (m : GameState) (d : SeatState) (n : ℕ) (line : BodyLine) (past : List BodyLine) (named : client_named line ≡ Some n) (is : d ≡ get_or m.seats n d) (s : StandsFor m past) (fits : LineFits m.head.clients line) where
  lt : n < m.head.clients
  lt = names_client m.head.clients line n named fits

  course : SeatStandsFor d (client_terms m.head n) (kept_by m.head (after m.head past) n).course
  course = subst (λ (x : SeatState). SeatStandsFor x (client_terms m.head n) (kept_by m.head (after m.head past) n).course) (sym is) (s.client n d some_scope lt).course

  few : m.done < 4000000 → length d.pair.up < 4294967295
  few done =
      let up = ap length course.holds.pair.up in
      omega (arith, up, few_up (client_terms m.head n) ((after m.head past).own n), own_few m.head past n, s.counted, done)

  tells : (told_ : Told) → ((h : Head) (p q : Past) (c : ℕ) → client_named line ≡ Some c → SeatStandsFor d (client_terms h c) (kept_by h p c).course → told_ ≡ told h p q line) → told_ ≡ told_after m.head past line
  tells told_ f = f m.head (after m.head past) (after m.head (line ∷ past)) n named course

  next : IsDirect line → m.done < 4000000 → (new : SeatState)
      → ((t : Terms) (k : Kept) → SeatStandsFor d t k.course → SeatStandsFor new t (after_line t line k).course)
      → StandsFor (record { head = m.head; seats = set m.seats n new; scopes = m.scopes; world = m.world; lanes = m.lanes; done = m.done + counted line }) (line ∷ past)
  next direct done new f =
      let scope = get_or m.scopes n some_scope in
      fed m past line n (set m.seats n new) new m.scopes scope m.lanes named fits done s
      (put_set n m.seats new (omega (arith, lt, s.seat_count))) (put_none n m.scopes scope some_scope (omega (arith, lt, s.scope_count)) refl) (record { objects = refl; clients = refl; masks = λ c o l apart. refl })
      (after_direct m.head line past n (get_or m.seats n d) new scope m.lanes direct named (s.client n d some_scope lt) (f (client_terms m.head n) (kept_by m.head (after m.head past) n) course))

stands : (c : goal.After-index_mut) → StandsFor (before c) c.requires.stands.0
stands c = subst (λ (x : GameState). StandsFor x c.requires.stands.0) (sym c.self.view_is) c.requires.stands.1

line_fits : (c : goal.After-index_mut) → LineFits (before c).head.clients c.args.line.now
line_fits c = subst (λ (x : GameState). LineFits x.head.clients c.args.line.now) (sym c.self.view_is) c.requires.fits

is_few : (c : goal.After-index_mut) → (before c).done < 4000000
is_few c = subst (λ (x : GameState). x.done < 4000000) (sym c.self.view_is) c.requires.few

pub line_on-requires-clause-stands : goal.line_on-requires-clause-stands
line_on-requires-clause-stands c = record {
  terms = client_terms (before c).head c.args.client;
  course = (kept_by (before c).head (after (before c).head c.requires.stands.0) c.args.client).course;
  stands = course (before c) c.index_mut.result.now c.args.client c.args.line.now c.requires.stands.0 c.requires.named c.index_mut.ensures.value (stands c) (line_fits c);
}

pub line_on-requires-clause-few : goal.line_on-requires-clause-few
line_on-requires-clause-few c = few (before c) c.index_mut.result.now c.args.client c.args.line.now c.requires.stands.0 c.requires.named c.index_mut.ensures.value (stands c) (line_fits c) (is_few c)

pub line_on-requires-clause-kept : goal.line_on-requires-clause-kept
line_on-requires-clause-kept c down =
    let m = before c in
    let s = stands c in
    let all : KeepAll m.seats = subst (λ (x : GameState). KeepAll x.seats) (sym c.self.view_is) (c.requires.kept down) in
    let lt = names_client m.head.clients c.args.line.now c.args.client c.requires.named (line_fits c) in
    ap (λ (x : SeatState). x.pair.keeps_all) c.index_mut.ensures.value ∙ all c.args.client c.index_mut.result.now (omega (arith, lt, s.seat_count))

pub returns-clause-keeps : goal.returns-clause-keeps
returns-clause-keeps c =
    let m : GameState = record { head = c.self.inside.head.now; seats = c.self.inside.seats.items; scopes = c.self.inside.scopes.items; world = c.self.inside.world; lanes = c.self.inside.lanes; done = c.self.inside.done } in
    let s : StandsFor m c.requires.stands.0 = subst (λ (x : GameState). StandsFor x c.requires.stands.0) (sym c.self.view_is) c.requires.stands.1 in
    let fits : LineFits m.head.clients c.args.line.now = subst (λ (x : GameState). LineFits x.head.clients c.args.line.now) (sym c.self.view_is) c.requires.fits in
    let lt = names_client m.head.clients c.args.line.now c.args.client c.requires.named fits in
    ok_of c.line_on.result _ (λ all.
    keep-set m.seats c.args.client c.index_mut.result.now c.line_on.new.seat (omega (arith, lt, s.seat_count)) c.index_mut.ensures.value c.line_on.ensures.keeping
    (subst (λ (x : GameState). KeepAll x.seats) (sym c.self.view_is) all))

pub returns-clause-told : goal.returns-clause-told
returns-clause-told c =
    let m : GameState = record { head = c.self.inside.head.now; seats = c.self.inside.seats.items; scopes = c.self.inside.scopes.items; world = c.self.inside.world; lanes = c.self.inside.lanes; done = c.self.inside.done } in
    let fits : LineFits m.head.clients c.args.line.now = subst (λ (x : GameState). LineFits x.head.clients c.args.line.now) (sym c.self.view_is) c.requires.fits in
    subst (λ (x : GameState). IfOk c.line_on.result (λ t. (past : List BodyLine) → StandsFor x past → t ≡ told_after x.head past c.args.line.now)) c.self.view_is
    (map_if_ok c.line_on.result _ (λ (t : Told). (past : List BodyLine) → StandsFor m past → t ≡ told_after m.head past c.args.line.now)
    (λ t f past s. tells m c.index_mut.result.now c.args.client c.args.line.now past c.requires.named c.index_mut.ensures.value s fits t f)
    c.line_on.ensures.told)

pub returns-clause-stands : goal.returns-clause-stands
returns-clause-stands c =
    let m : GameState = record { head = c.self.inside.head.now; seats = c.self.inside.seats.items; scopes = c.self.inside.scopes.items; world = c.self.inside.world; lanes = c.self.inside.lanes; done = c.self.inside.done } in
    let fits : LineFits m.head.clients c.args.line.now = subst (λ (x : GameState). LineFits x.head.clients c.args.line.now) (sym c.self.view_is) c.requires.fits in
    let done : m.done < 4000000 = subst (λ (x : GameState). x.done < 4000000) (sym c.self.view_is) c.requires.few in
    let new : GameState = record { head = m.head; seats = set m.seats c.args.client c.line_on.new.seat; scopes = m.scopes; world = m.world; lanes = m.lanes; done = m.done + c.counted.result } in
    subst (λ (x : GameState). OnOk c.line_on.result ((past : List BodyLine) → StandsFor x past → StandsFor new (c.args.line.now ∷ past))) c.self.view_is
    (map_on_ok c.line_on.result _ ((past : List BodyLine) → StandsFor m past → StandsFor new (c.args.line.now ∷ past))
    (λ f past s.
    subst (λ (k : ℕ). StandsFor (record { head = m.head; seats = set m.seats c.args.client c.line_on.new.seat; scopes = m.scopes; world = m.world; lanes = m.lanes; done = m.done + k }) (c.args.line.now ∷ past)) (sym c.counted.ensures.value)
    (next m c.index_mut.result.now c.args.client c.args.line.now past c.requires.named c.index_mut.ensures.value s fits c.requires.direct done c.line_on.new.seat f))
    c.line_on.ensures.stands)
