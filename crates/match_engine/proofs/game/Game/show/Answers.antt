use Rattle.std.proofs.Common.{◌≡◌, ◌<◌, ℕ, List, ◌∷◌, get_or, sym, subst, arith, refl, add-zero}
use Rattle.std.specs.Prelude.{Result, Ok, Err, IfOk, OnOk}
use Rattle.match_script.specs.declared.types.BodyLine.{BodyLine}
use Rattle.match_script.specs.declared.types.BodyLine.TheVariants as script
use Rattle.match_report.specs.declared.told.Told.{Told}
use Rattle.client_scope.specs.StandsFor.{Table}
use Rattle.match_laws.specs.own_lists.Own.{OwnItem}
use Rattle.match_laws.specs.own_lists.Kept.{kept}
use Rattle.match_laws.specs.own_lists.Past.{client_terms, after}
use Rattle.match_laws.specs.client_seat.Stands.{SeatState}
use Rattle.match_laws.specs.Report.{told_after}
use Rattle.match_engine.specs.Stands.{GameState, ClientHolds, StandsFor, KeepAll}
use Rattle.match_engine.proofs.Fed.{fed, serves, put_none, own_line, map_if_ok, ok_of}
use Rattle.match_engine.proofs.game.Game.show.Goals as goal

-- nothing changes
next : (m : GameState) (past : List BodyLine) (n : ℕ) (d : SeatState) (e : Table) → n < m.head.clients → m.done < 4000000 → d ≡ get_or m.seats n d → e ≡ get_or m.scopes n e → StandsFor m past
    → StandsFor (record { head = m.head; seats = m.seats; scopes = m.scopes; world = m.world; lanes = m.lanes; done = m.done }) (script.Show n ∷ past)
next m past n d e lt done is_seat is_scope s =
    let own = own_line m.head (script.Show n) past n tt refl in
    let now = (serves m past n d d e e lt s is_seat is_scope).holds in
    subst (λ (k : ℕ). StandsFor (record { head = m.head; seats = m.seats; scopes = m.scopes; world = m.world; lanes = m.lanes; done = k }) (script.Show n ∷ past)) (add-zero m.done)
    (fed m past (script.Show n) n m.seats d m.scopes e m.lanes refl lt done s
    (put_none n m.seats d d (omega (arith, lt, s.seat_count)) is_seat) (put_none n m.scopes e e (omega (arith, lt, s.scope_count)) is_scope)
    (record { objects = refl; clients = refl; masks = λ c o l apart. refl })
    (subst (λ (x : List OwnItem). ClientHolds d e m.lanes n (client_terms m.head n) ((after m.head past).scans n) (kept (client_terms m.head n) x)) (sym own.0)
    (record { course = now.course; periods = now.periods; marks = now.marks })))

pub show_for-requires : goal.show_for-requires
show_for-requires c =
    let m : GameState = record { head = c.self.inside.head.now; seats = c.self.inside.seats.items; scopes = c.self.inside.scopes.items; world = c.self.inside.world; lanes = c.self.inside.lanes; done = c.self.inside.done } in
    let lt : c.args.client < m.head.clients = subst (λ (x : GameState). c.args.client < x.head.clients) (sym c.self.view_is) c.requires.client in
    let s : StandsFor m c.requires.stands.0 = subst (λ (x : GameState). StandsFor x c.requires.stands.0) (sym c.self.view_is) c.requires.stands.1 in
    record { serves = (m.world, m.head, c.requires.stands.0, serves m c.requires.stands.0 c.args.client c.index.result.now c.index.result.now c.index-2.result.now c.index-2.result.now lt s c.index.ensures c.index-2.ensures) }

pub returns-clause-told : goal.returns-clause-told
returns-clause-told c =
    let m : GameState = record { head = c.self.inside.head.now; seats = c.self.inside.seats.items; scopes = c.self.inside.scopes.items; world = c.self.inside.world; lanes = c.self.inside.lanes; done = c.self.inside.done } in
    let lt : c.args.client < m.head.clients = subst (λ (x : GameState). c.args.client < x.head.clients) (sym c.self.view_is) c.requires.client in
    subst (λ (x : GameState). IfOk c.show_for.result (λ t. (past : List BodyLine) → StandsFor x past → t ≡ told_after x.head past (script.Show c.args.client))) c.self.view_is
    (map_if_ok c.show_for.result _ (λ (t : Told). (past : List BodyLine) → StandsFor m past → t ≡ told_after m.head past (script.Show c.args.client))
    (λ t f past s. f m.world m.head past (serves m past c.args.client c.index.result.now c.index.result.now c.index-2.result.now c.index-2.result.now lt s c.index.ensures c.index-2.ensures))
    c.show_for.ensures)

on_ok : {T E : Type 0} (r : Result T E) (A : Type 0) → A → OnOk r A
on_ok (Ok t) A a = a
on_ok (Err e) A a = tt

pub returns-clause-stands : goal.returns-clause-stands
returns-clause-stands c =
    let m : GameState = record { head = c.self.inside.head.now; seats = c.self.inside.seats.items; scopes = c.self.inside.scopes.items; world = c.self.inside.world; lanes = c.self.inside.lanes; done = c.self.inside.done } in
    let lt : c.args.client < m.head.clients = subst (λ (x : GameState). c.args.client < x.head.clients) (sym c.self.view_is) c.requires.client in
    let done : m.done < 4000000 = subst (λ (x : GameState). x.done < 4000000) (sym c.self.view_is) c.requires.few in
    let new : GameState = record { head = m.head; seats = m.seats; scopes = m.scopes; world = m.world; lanes = m.lanes; done = m.done } in
    subst (λ (x : GameState). OnOk c.show_for.result ((past : List BodyLine) → StandsFor x past → StandsFor new (script.Show c.args.client ∷ past))) c.self.view_is
    (on_ok c.show_for.result ((past : List BodyLine) → StandsFor m past → StandsFor new (script.Show c.args.client ∷ past))
    (λ past s. next m past c.args.client c.index.result.now c.index-2.result.now lt done c.index.ensures c.index-2.ensures s))

pub returns-clause-keeps : goal.returns-clause-keeps
returns-clause-keeps c = ok_of c.show_for.result _ (λ all. subst (λ (x : GameState). KeepAll x.seats) (sym c.self.view_is) all)
