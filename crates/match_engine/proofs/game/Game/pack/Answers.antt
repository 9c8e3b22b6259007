use Rattle.std.proofs.Common.{◌≡◌, ◌<◌, ◌+◌, ℕ, List, ◌∷◌, get_or, set, sym, subst, arith, refl}
use Rattle.std.specs.Prelude.{OnOk}
use Rattle.match_script.specs.declared.types.BodyLine.{BodyLine}
use Rattle.match_script.specs.declared.types.BodyLine.TheVariants as script
use Rattle.match_script.specs.declared.types.Head.{Head}
use Rattle.client_scope.specs.StandsFor.{Table}
use Rattle.match_laws.specs.own_lists.Counted.{counted_in}
use Rattle.dirty_lanes.specs.Words.{Words}
use Rattle.match_laws.specs.client_seat.Stands.{SeatState}
use Rattle.match_engine.specs.Serving.{Serves, OthersStay}
use Rattle.match_engine.specs.Stands.{GameState, StandsFor, KeepAll}
use Rattle.match_engine.proofs.Keeping.{keep-set}
use Rattle.match_engine.proofs.Fed.{fed, serves, put_set, put_none, both_ok, ok_of}
use Rattle.match_engine.proofs.game.Game.pack.Goals as goal

next : (m : GameState) (past : List BodyLine) (n : ℕ) (d : SeatState) (e : Table) → n < m.head.clients → m.done < 4000000 → d ≡ get_or m.seats n d → e ≡ get_or m.scopes n e
    → (new : SeatState) (lanes : Words) → StandsFor m past → OthersStay n m.lanes lanes
    → ((h : Head) (p : List BodyLine) → Serves d e m.world m.lanes n h p → counted_in p < 4000000 → Serves new e m.world lanes n h (script.Pack n ∷ p))
    → StandsFor (record { head = m.head; seats = set m.seats n new; scopes = m.scopes; world = m.world; lanes = lanes; done = m.done + 1 }) (script.Pack n ∷ past)
next m past n d e lt done is_seat is_scope new lanes s others f =
    let after = f m.head past (serves m past n d d e e lt s is_seat is_scope) (omega (arith, s.counted, done)) in
    fed m past (script.Pack n) n (set m.seats n new) new m.scopes e lanes refl lt done s
    (put_set n m.seats new (omega (arith, lt, s.seat_count))) (put_none n m.scopes e e (omega (arith, lt, s.scope_count)) is_scope) others after.holds

pub returns-clause-stands : goal.returns-clause-stands
returns-clause-stands c =
    let m : GameState = record { head = c.self.inside.head.now; seats = c.self.inside.seats.items; scopes = c.self.inside.scopes.items; world = c.self.inside.world; lanes = c.self.inside.lanes; done = c.self.inside.done } in
    let lt : c.args.client < m.head.clients = subst (λ (x : GameState). c.args.client < x.head.clients) (sym c.self.view_is) c.requires.client in
    let done : m.done < 4000000 = subst (λ (x : GameState). x.done < 4000000) (sym c.self.view_is) c.requires.few in
    let new : GameState = record { head = m.head; seats = set m.seats c.args.client c.pack_for.new.seat; scopes = m.scopes; world = m.world; lanes = c.pack_for.new.lanes; done = m.done + 1 } in
    subst (λ (x : GameState). OnOk c.pack_for.result ((past : List BodyLine) → StandsFor x past → StandsFor new (script.Pack c.args.client ∷ past))) c.self.view_is
    (both_ok c.pack_for.result _ _ ((past : List BodyLine) → StandsFor m past → StandsFor new (script.Pack c.args.client ∷ past))
    (λ f others past s. next m past c.args.client c.index_mut.result.now c.index.result.now lt done c.index_mut.ensures.value c.index.ensures c.pack_for.new.seat c.pack_for.new.lanes s others f)
    c.pack_for.ensures.serves c.pack_for.ensures.others)

pub returns-clause-keeps : goal.returns-clause-keeps
returns-clause-keeps c =
    let m : GameState = record { head = c.self.inside.head.now; seats = c.self.inside.seats.items; scopes = c.self.inside.scopes.items; world = c.self.inside.world; lanes = c.self.inside.lanes; done = c.self.inside.done } in
    let s : StandsFor m c.requires.stands.0 = subst (λ (x : GameState). StandsFor x c.requires.stands.0) (sym c.self.view_is) c.requires.stands.1 in
    let lt : c.args.client < m.head.clients = subst (λ (x : GameState). c.args.client < x.head.clients) (sym c.self.view_is) c.requires.client in
    ok_of c.pack_for.result _ (λ all.
    keep-set m.seats c.args.client c.index_mut.result.now c.pack_for.new.seat (omega (arith, lt, s.seat_count)) c.index_mut.ensures.value c.pack_for.ensures.keeping
    (subst (λ (x : GameState). KeepAll x.seats) (sym c.self.view_is) all))
