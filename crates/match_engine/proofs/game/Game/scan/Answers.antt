use Rattle.std.proofs.Common.{◌≡◌, ◌<◌, ◌+◌, ℕ, List, ◌∷◌, get_or, set, sym, subst, refl, arith}
use Rattle.std.specs.Prelude.{IfOk, OnOk}
use Rattle.match_script.specs.declared.types.BodyLine.{BodyLine}
use Rattle.match_script.specs.declared.types.BodyLine.TheVariants as script
use Rattle.match_report.specs.declared.told.Told.{Told}
use Rattle.client_scope.specs.StandsFor.{Table}
use Rattle.match_laws.specs.own_lists.Counted.{counted_in}
use Rattle.dirty_lanes.specs.Words.{Words}
use Rattle.match_laws.specs.client_seat.Stands.{SeatState}
use Rattle.match_laws.specs.Report.{told_after}
use Rattle.match_engine.specs.Stands.{GameState, StandsFor, KeepAll}
use Rattle.match_engine.proofs.Keeping.{keep-set}
use Rattle.match_engine.specs.Serving.{Serves, OthersStay}
use Rattle.match_engine.proofs.Fed.{fed, serves, put_set, map_if_ok, both_ok, ok_of}
use Rattle.match_engine.proofs.game.Game.scan.Goals as goal

module _ (m : GameState) (d : SeatState) (e : Table) (n : ℕ) (past : List BodyLine) (lt : n < m.head.clients) (is : d ≡ get_or m.seats n d) (is_scope : e ≡ get_or m.scopes n e) (s : StandsFor m past) where
  finds : Serves d e m.world m.lanes n m.head past
  finds = serves m past n d d e e lt s is is_scope

  few : m.done < 4000000 → counted_in past < 4000000
  few done = omega (arith, done, s.counted)

  next : m.done < 4000000 → (seat : SeatState) (scope : Table) (lanes : Words) → OthersStay n m.lanes lanes → Serves seat scope m.world lanes n m.head (script.Scan n ∷ past)
      → StandsFor (record { head = m.head; seats = set m.seats n seat; scopes = set m.scopes n scope; world = m.world; lanes = lanes; done = m.done + 1 }) (script.Scan n ∷ past)
  next done seat scope lanes others after_ =
      fed m past (script.Scan n) n (set m.seats n seat) seat (set m.scopes n scope) scope lanes refl lt done s
      (put_set n m.seats seat (omega (arith, lt, s.seat_count))) (put_set n m.scopes scope (omega (arith, lt, s.scope_count))) others after_.holds

pub scan_for-requires : goal.scan_for-requires
scan_for-requires c =
    let m : GameState = record { head = c.self.inside.head.now; seats = c.self.inside.seats.items; scopes = c.self.inside.scopes.items; world = c.self.inside.world; lanes = c.self.inside.lanes; done = c.self.inside.done } in
    let s : StandsFor m c.requires.stands.0 = subst (λ (x : GameState). StandsFor x c.requires.stands.0) (sym c.self.view_is) c.requires.stands.1 in
    let lt : c.args.client < m.head.clients = subst (λ (x : GameState). c.args.client < x.head.clients) (sym c.self.view_is) c.requires.client in
    let done : m.done < 4000000 = subst (λ (x : GameState). x.done < 4000000) (sym c.self.view_is) c.requires.few in
    record { serves = (m.head, c.requires.stands.0, finds m c.index_mut.result.now c.index_mut-2.result.now c.args.client c.requires.stands.0 lt c.index_mut.ensures.value c.index_mut-2.ensures.value s, omega (arith, done, s.counted)) }

pub returns-clause-told : goal.returns-clause-told
returns-clause-told c =
    let m : GameState = record { head = c.self.inside.head.now; seats = c.self.inside.seats.items; scopes = c.self.inside.scopes.items; world = c.self.inside.world; lanes = c.self.inside.lanes; done = c.self.inside.done } in
    let lt : c.args.client < m.head.clients = subst (λ (x : GameState). c.args.client < x.head.clients) (sym c.self.view_is) c.requires.client in
    subst (λ (x : GameState). IfOk c.scan_for.result (λ t. (past : List BodyLine) → StandsFor x past → t ≡ told_after x.head past (script.Scan c.args.client))) c.self.view_is
    (map_if_ok c.scan_for.result _ (λ (t : Told). (past : List BodyLine) → StandsFor m past → t ≡ told_after m.head past (script.Scan c.args.client))
    (λ t f past s. f m.head past (finds m c.index_mut.result.now c.index_mut-2.result.now c.args.client past lt c.index_mut.ensures.value c.index_mut-2.ensures.value s))
    c.scan_for.ensures.told)

pub returns-clause-stands : goal.returns-clause-stands
returns-clause-stands c =
    let m : GameState = record { head = c.self.inside.head.now; seats = c.self.inside.seats.items; scopes = c.self.inside.scopes.items; world = c.self.inside.world; lanes = c.self.inside.lanes; done = c.self.inside.done } in
    let lt : c.args.client < m.head.clients = subst (λ (x : GameState). c.args.client < x.head.clients) (sym c.self.view_is) c.requires.client in
    let done : m.done < 4000000 = subst (λ (x : GameState). x.done < 4000000) (sym c.self.view_is) c.requires.few in
    let new : GameState = record { head = m.head; seats = set m.seats c.args.client c.scan_for.new.seat; scopes = set m.scopes c.args.client c.scan_for.new.scope; world = m.world; lanes = c.scan_for.new.lanes; done = m.done + 1 } in
    subst (λ (x : GameState). OnOk c.scan_for.result ((past : List BodyLine) → StandsFor x past → StandsFor new (script.Scan c.args.client ∷ past))) c.self.view_is
    (both_ok c.scan_for.result _ _ ((past : List BodyLine) → StandsFor m past → StandsFor new (script.Scan c.args.client ∷ past))
    (λ f others past s.
    let found = finds m c.index_mut.result.now c.index_mut-2.result.now c.args.client past lt c.index_mut.ensures.value c.index_mut-2.ensures.value s in
    next m c.index_mut.result.now c.index_mut-2.result.now c.args.client past lt c.index_mut.ensures.value c.index_mut-2.ensures.value s done c.scan_for.new.seat c.scan_for.new.scope c.scan_for.new.lanes others
    (f m.head past found (few m c.index_mut.result.now c.index_mut-2.result.now c.args.client past lt c.index_mut.ensures.value c.index_mut-2.ensures.value s done)))
    c.scan_for.ensures.serves c.scan_for.ensures.others)

pub returns-clause-keeps : goal.returns-clause-keeps
returns-clause-keeps c =
    let m : GameState = record { head = c.self.inside.head.now; seats = c.self.inside.seats.items; scopes = c.self.inside.scopes.items; world = c.self.inside.world; lanes = c.self.inside.lanes; done = c.self.inside.done } in
    let s : StandsFor m c.requires.stands.0 = subst (λ (x : GameState). StandsFor x c.requires.stands.0) (sym c.self.view_is) c.requires.stands.1 in
    let lt : c.args.client < m.head.clients = subst (λ (x : GameState). c.args.client < x.head.clients) (sym c.self.view_is) c.requires.client in
    ok_of c.scan_for.result _ (λ all.
    keep-set m.seats c.args.client c.index_mut.result.now c.scan_for.new.seat (omega (arith, lt, s.seat_count)) c.index_mut.ensures.value c.scan_for.ensures.keeping
    (subst (λ (x : GameState). KeepAll x.seats) (sym c.self.view_is) all))
