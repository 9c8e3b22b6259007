use Rattle.std.proofs.Common.{◌≡◌, ◌∙◌, ◌<◌, ◌++◌, ◌∷◌, Bool, false, [], List, map, length, Option, Some, None, if◌then◌else◌, is_some, sym, ap, subst, arith, append-nil}
use Rattle.std.specs.List.{cons_option}
use Rattle.std.specs.Option.{option_map, option_copied}
use Rattle.std.proofs.lemmas.List.{map-append}
use Rattle.own_lists.specs.Own.{OwnShow as Shown}
use Rattle.alone_server.specs.own_items.declared.items.OwnShow.{OwnShow}
use Rattle.alone_server.specs.own_items.Items.{show_of as told_of}
use Rattle.ghost_client.specs.State.{copy_in}
use Rattle.relay_model.specs.Items.{show_of}
use Rattle.relay_spectator.specs.Watches.{WatchState, IsWatch}
use Rattle.relay_model.specs.Beginning.{begun_up_to, shown_in}
use Rattle.relay_spectator.proofs.Watching.{is_watched, is_free, stays, begins}
use Rattle.relay_spectator.proofs.watch.Watch.begin_at.Goals as goal

pub returns-then-is_some-clause-watched : goal.returns-then-is_some-clause-watched
returns-then-is_some-clause-watched c w h =
    let copies = copy_in c.args.copies.now.slots in
    let some = ap is_some (sym c.period.ensures) ∙ sym c.is_some.ensures ∙ c.if-is_some.true in
    stays copies w c.args.self.now c.args.slot h (is_watched copies w c.args.self.now c.args.slot h some)

pub returns-then-is_some-clause-shows : goal.returns-then-is_some-clause-shows
returns-then-is_some-clause-shows c w h =
    let copies = copy_in c.args.copies.now.slots in
    let some = ap is_some (sym c.period.ensures) ∙ sym c.is_some.ensures ∙ c.if-is_some.true in
    let shows : List Shown = map told_of c.args.shows.now.items in
    sym (append-nil shows)
    ∙ ap (λ (b : Bool). shows ++ cons_option (if b then option_map (show_of c.args.copies.now.kinds) (copies c.args.slot) else None) [])
    (sym (is_watched copies w c.args.self.now c.args.slot h some))

pub returns-clause-watched : goal.returns-clause-watched
returns-clause-watched c w h =
    let copies = copy_in c.args.copies.now.slots in
    let none = ap is_some (sym c.period.ensures) ∙ sym c.is_some.ensures ∙ c.if-is_some.false in
    let there : copies c.args.slot ≡ Some c.in-Some.copy.now = sym c.get.ensures.value ∙ ap option_copied c.in-Some.is in
    let free = is_free copies w c.args.self.now c.args.slot h c.in-Some.copy.now none there in
    let x : WatchState = record { periods = c.self.inside.periods.items; shows = c.self.inside.shows } in
    let k : IsWatch x (begun_up_to copies w c.args.slot) = subst (λ (y : WatchState). IsWatch y (begun_up_to copies w c.args.slot)) (sym c.self.view_is) h in
    let lt : c.args.slot < length c.self.inside.periods.items = omega (arith, c.self.invariant, c.ranges.slot.fits) in
    begins copies w x c.args.slot k free lt

pub returns-clause-shows : goal.returns-clause-shows
returns-clause-shows c w h =
    let copies = copy_in c.args.copies.now.slots in
    let kinds = c.args.copies.now.kinds in
    let copy = c.in-Some.copy.now in
    let none = ap is_some (sym c.period.ensures) ∙ sym c.is_some.ensures ∙ c.if-is_some.false in
    let there : copies c.args.slot ≡ Some copy = sym c.get.ensures.value ∙ ap option_copied c.in-Some.is in
    let free = is_free copies w c.args.self.now c.args.slot h copy none there in
    let shows : List Shown = map told_of c.args.shows.now.items in
    let begun : OwnShow = record { kind = copy.kind; block = copy.block; level = 0; control = false; values = c.values_of.result } in
    let shown : Some (told_of begun) ≡ shown_in kinds copies w c.args.slot =
    ap (λ vs. Some (record { how = record { kind = copy.kind; block = copy.block; level = 0; control = false }; values = vs })) c.values_of.ensures
    ∙ ap (option_map (show_of kinds)) (sym there)
    ∙ ap (λ (b : Bool). if b then option_map (show_of kinds) (copies c.args.slot) else None) (sym free) in
    ap (λ (l : List OwnShow). map told_of l) c.in_ok-push.ensures.items ∙ map-append told_of c.args.shows.now.items (begun ∷ [])
    ∙ ap (λ (o : Option Shown). shows ++ cons_option o []) shown
