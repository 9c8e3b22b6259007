use Rattle.std.proofs.Common.{◌≡◌, ◌∙◌, ◌<◌, ◌+◌, ℕ, List, ◌∷◌, length, map, sym, ap, subst, Option}
use Rattle.std.specs.Prelude.{slice_get}
use Rattle.std.specs.List.{All, AllByRecursion}
use Rattle.tn_types.specs.declared.moves.MoveBits.{MoveBits}
use Rattle.match_script.specs.declared.types.BodyLine.{BodyLine}
use Rattle.match_script.specs.declared.types.BodyLine.TheVariants.{Tick}
use Rattle.world_sim.specs.declared.rows.Write.{Write}
use Rattle.world_sim.specs.Worlds.{Worlds, next}
use Rattle.world_sim.specs.Facts.{IsWriteOf}
use Rattle.dirty_lanes.specs.Words.{Words, mask_at, SizesStay}
use Rattle.match_report.specs.declared.told.Told.TheVariants as told_as
use Rattle.match_laws.specs.client_seat.Stands.{SeatState, without_first}
use Rattle.match_laws.specs.Report.{told_after, tick_told}
use Rattle.match_engine.specs.Serving.{raised_by}
use Rattle.match_engine.proofs.Keeping.{keep-ticked}
use Rattle.match_engine.specs.Stands.{KeepAll, GameState, StandsFor}
use Rattle.match_engine.proofs.Ticked.{few_moves, may_tick, objects_there, fields_there, next_world, ticked_match}
use Rattle.match_engine.proofs.game.Game.tick.Goals as goal

pub take_moves-requires : goal.take_moves-requires
take_moves-requires c =
    let m : GameState = record { head = c.self.inside.head.now; seats = c.self.inside.seats.items; scopes = c.self.inside.scopes.items; world = c.self.inside.world; lanes = c.self.inside.lanes; done = c.self.inside.done } in
    let s : StandsFor m c.requires.stands.0 = subst (λ (x : GameState). StandsFor x c.requires.stands.0) (sym c.self.view_is) c.requires.stands.1 in
    few_moves m c.requires.stands.0 s (subst (λ (x : GameState). x.done < 4000000) (sym c.self.view_is) c.requires.few)

pub tick-requires : goal.tick-requires
tick-requires c =
    let m : GameState = record { head = c.self.inside.head.now; seats = c.self.inside.seats.items; scopes = c.self.inside.scopes.items; world = c.self.inside.world; lanes = c.self.inside.lanes; done = c.self.inside.done } in
    let s : StandsFor m c.requires.stands.0 = subst (λ (x : GameState). StandsFor x c.requires.stands.0) (sym c.self.view_is) c.requires.stands.1 in
    may_tick m c.requires.stands.0 s (subst (λ (x : GameState). x.done < 4000000) (sym c.self.view_is) c.requires.few)

pub raise_all-requires-clause-objects : goal.raise_all-requires-clause-objects
raise_all-requires-clause-objects c =
    let m : GameState = record { head = c.self.inside.head.now; seats = c.self.inside.seats.items; scopes = c.self.inside.scopes.items; world = c.self.inside.world; lanes = c.self.inside.lanes; done = c.self.inside.done } in
    let s : StandsFor m c.requires.stands.0 = subst (λ (x : GameState). StandsFor x c.requires.stands.0) (sym c.self.view_is) c.requires.stands.1 in
    subst (λ (ws : List Write). All (λ (x : Write). x.object < m.lanes.objects) ws) (sym c.writes.ensures) (objects_there m c.requires.stands.0 c.tick.new.self.writes s c.in_ok-tick.ensures.writes)

pub raise_all-requires-clause-fields : goal.raise_all-requires-clause-fields
raise_all-requires-clause-fields c =
    let m : GameState = record { head = c.self.inside.head.now; seats = c.self.inside.seats.items; scopes = c.self.inside.scopes.items; world = c.self.inside.world; lanes = c.self.inside.lanes; done = c.self.inside.done } in
    let s : StandsFor m c.requires.stands.0 = subst (λ (x : GameState). StandsFor x c.requires.stands.0) (sym c.self.view_is) c.requires.stands.1 in
    let next_is : c.tick.new.self ≡ next m.world c.as_slice.result.now = c.in_ok-tick.ensures.ok in
    let writes : AllByRecursion (IsWriteOf m.world) (next m.world c.as_slice.result.now).writes = subst (λ (w : Worlds). AllByRecursion (IsWriteOf m.world) w.writes) next_is c.in_ok-tick.ensures.writes in
    subst (λ (ws : List Write). All (λ (x : Write). x.field < 16) ws) (sym (c.writes.ensures ∙ ap (λ (w : Worlds). w.writes) next_is)) (fields_there m c.requires.stands.0 c.as_slice.result.now s writes)

-- the match after its tick stands for the lines with it
after : (m : GameState) (moves : List (Option MoveBits)) (w : Worlds) (writes : List Write) (seats : List SeatState) (lanes : Words) → m.done < 4000000
    → moves ≡ map (λ (s : SeatState). slice_get s.waiting 0) m.seats → w ≡ next m.world moves → writes ≡ w.writes → seats ≡ map without_first m.seats
    → ((d o : ℕ) → d < 16 → mask_at lanes d o ≡ raised_by writes o (mask_at m.lanes d o)) → SizesStay m.lanes lanes
    → (past : List BodyLine) → StandsFor m past → StandsFor (record { head = m.head; seats = seats; scopes = m.scopes; world = w; lanes = lanes; done = m.done + 1 }) (Tick ∷ past)
after m moves w writes seats lanes done are is wrote left masks sizes past s =
    subst (λ (ss : List SeatState). StandsFor (record { head = m.head; seats = ss; scopes = m.scopes; world = w; lanes = lanes; done = m.done + 1 }) (Tick ∷ past)) (sym left)
    (subst (λ (x : Worlds). StandsFor (record { head = m.head; seats = map without_first m.seats; scopes = m.scopes; world = x; lanes = lanes; done = m.done + 1 }) (Tick ∷ past)) (sym is)
    (ticked_match m past moves lanes are done (λ d o lt. masks d o lt ∙ ap (λ (ws : List Write). raised_by ws o (mask_at m.lanes d o)) (wrote ∙ ap (λ (x : Worlds). x.writes) is)) sizes s))

pub returns-clause-told : goal.returns-clause-told
returns-clause-told c =
    let m : GameState = record { head = c.self.inside.head.now; seats = c.self.inside.seats.items; scopes = c.self.inside.scopes.items; world = c.self.inside.world; lanes = c.self.inside.lanes; done = c.self.inside.done } in
    let next_is : c.tick.new.self ≡ next m.world c.take_moves.new.moves.items = c.in_ok-tick.ensures.ok ∙ ap (next m.world) c.as_slice.ensures.value in
    subst (λ (x : GameState). (past : List BodyLine) → StandsFor x past → told_as.Tick c.ticks.result (length c.writes-2.result.now) ≡ told_after x.head past Tick) c.self.view_is
    (λ past s. rw (c.ticks.ensures, c.writes-2.ensures) (ap tick_told (next_is ∙ next_world m past c.take_moves.new.moves.items c.in-Ok.ensures.moves s)))

pub returns-clause-stands : goal.returns-clause-stands
returns-clause-stands c =
    let m : GameState = record { head = c.self.inside.head.now; seats = c.self.inside.seats.items; scopes = c.self.inside.scopes.items; world = c.self.inside.world; lanes = c.self.inside.lanes; done = c.self.inside.done } in
    let done : m.done < 4000000 = subst (λ (x : GameState). x.done < 4000000) (sym c.self.view_is) c.requires.few in
    let next_is : c.tick.new.self ≡ next m.world c.take_moves.new.moves.items = c.in_ok-tick.ensures.ok ∙ ap (next m.world) c.as_slice.ensures.value in
    let new : GameState = record { head = m.head; seats = c.take_moves.new.seats.items; scopes = m.scopes; world = c.tick.new.self; lanes = c.raise_all.new.lanes; done = m.done + 1 } in
    subst (λ (x : GameState). (past : List BodyLine) → StandsFor x past → StandsFor new (Tick ∷ past)) c.self.view_is
    (after m c.take_moves.new.moves.items c.tick.new.self c.writes.result.now c.take_moves.new.seats.items c.raise_all.new.lanes done c.in-Ok.ensures.moves next_is c.writes.ensures c.in-Ok.ensures.seats
    c.raise_all.ensures.masks c.raise_all.ensures.sizes)

pub returns-clause-keeps : goal.returns-clause-keeps
returns-clause-keeps c all =
    subst KeepAll (sym c.in-Ok.ensures.seats) (keep-ticked c.self.inside.seats.items (subst (λ (x : GameState). KeepAll x.seats) (sym c.self.view_is) all))
