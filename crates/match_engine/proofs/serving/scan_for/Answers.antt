use Rattle.std.proofs.Common.{◌≡◌, ◌<◌, ◌∙◌, ℕ, List, map, length, ap, sym, subst, if◌then◌else◌}
use Rattle.std.specs.List.{All, list_any}
use Rattle.world_scope.specs.declared.viewer.Seen.{Seen}
use Rattle.world_scope.specs.Scope.{visible_list}
use Rattle.dirty_lanes.specs.Words.{mask_at}
use Rattle.match_laws.specs.own_lists.Past.{after, showing_of}
use Rattle.match_engine.specs.Serving.{is_of}
use Rattle.match_engine.proofs.Scanning.{seen_below, few_periods, shows_there, may_scan, scanned_serves}
use Rattle.match_engine.proofs.serving.scan_for.Goals as goal

pub scan-requires-clause-there : goal.scan-requires-clause-there
scan-requires-clause-there c =
    let h = c.requires.serves in
    let is : c.deref.result.now ≡ visible_list c.args.world.now c.args.client = c.deref.ensures.value ∙ c.in_ok-visible.ensures.ok in
    seen_below c.args.seat.now c.args.scope.now c.args.world.now c.args.lanes.now c.args.client h.0 h.1 h.2 c.deref.result.now is

pub scan-requires-clause-few : goal.scan-requires-clause-few
scan-requires-clause-few c =
    let h = c.requires.serves in
    let is : c.deref.result.now ≡ visible_list c.args.world.now c.args.client = c.deref.ensures.value ∙ c.in_ok-visible.ensures.ok in
    few_periods c.args.seat.now c.args.scope.now c.args.world.now c.args.lanes.now c.args.client h.0 h.1 h.2 c.deref.result.now is h.3

pub showings-requires : goal.showings-requires
showings-requires c =
    let h = c.requires.serves in
    let is : c.deref.result.now ≡ visible_list c.args.world.now c.args.client = c.deref.ensures.value ∙ c.in_ok-visible.ensures.ok in
    let stands = c.in_ok-scan.ensures.stands ((after h.0 h.1).scans c.args.client) h.2.holds.periods in
    shows_there c.args.seat.now c.args.scope.now c.args.world.now c.args.lanes.now c.args.client h.0 h.1 h.2 (λ (x : Seen). x.object < length c.args.world.now.objects)
    c.deref.result.now c.shows.result.now is (c.shows.ensures ∙ stands.shows)
    (subst (λ (l : List Seen). All (λ (x : Seen). x.object < length c.args.world.now.objects) l) (sym c.deref.ensures.value) c.in_ok-visible.ensures.there)

pub clear_all-requires-clause-there : goal.clear_all-requires-clause-there
clear_all-requires-clause-there c =
    let h = c.requires.serves in
    let is : c.deref.result.now ≡ visible_list c.args.world.now c.args.client = c.deref.ensures.value ∙ c.in_ok-visible.ensures.ok in
    let stands = c.in_ok-scan.ensures.stands ((after h.0 h.1).scans c.args.client) h.2.holds.periods in
    subst (λ (most : ℕ). All (λ (x : Seen). x.object < most) c.shows-2.result.now) (sym h.2.objects)
    (shows_there c.args.seat.now c.args.scope.now c.args.world.now c.args.lanes.now c.args.client h.0 h.1 h.2 (λ (x : Seen). x.object < 1024)
    c.deref.result.now c.shows-2.result.now is (c.shows-2.ensures ∙ stands.shows)
    (seen_below c.args.seat.now c.args.scope.now c.args.world.now c.args.lanes.now c.args.client h.0 h.1 h.2 c.deref.result.now is))

pub scan-requires-2 : goal.scan-requires-2
scan-requires-2 c =
    let h = c.requires.serves in
    let is : c.deref.result.now ≡ visible_list c.args.world.now c.args.client = c.deref.ensures.value ∙ c.in_ok-visible.ensures.ok in
    let stands = c.in_ok-scan.ensures.stands ((after h.0 h.1).scans c.args.client) h.2.holds.periods in
    may_scan c.args.seat.now c.args.scope.now c.args.world.now c.args.lanes.now c.args.client h.0 h.1 h.2 h.3 c.deref.result.now c.scan.new.self is stands
    c.hides.result.now c.hides.ensures c.nears.result.now c.nears.ensures c.deref-2.result.now
    (c.deref-2.ensures.value ∙ c.in-Ok.ensures ∙ ap (map (showing_of c.args.world.now c.args.client)) c.shows.ensures)

pub returns-clause-serves : goal.returns-clause-serves
returns-clause-serves c = λ h past s few.
    let is : c.deref.result.now ≡ visible_list c.args.world.now c.args.client = c.deref.ensures.value ∙ c.in_ok-visible.ensures.ok in
    let stands = c.in_ok-scan.ensures.stands ((after h past).scans c.args.client) s.holds.periods in
    scanned_serves c.args.seat.now c.args.scope.now c.args.world.now c.args.lanes.now c.args.client h past s few c.deref.result.now c.scan.new.self c.scan-2.new.self c.clear_all.new.lanes is stands
    c.hides.result.now c.hides.ensures c.nears.result.now c.nears.ensures c.deref-2.result.now
    (c.deref-2.ensures.value ∙ c.in-Ok.ensures ∙ ap (map (showing_of c.args.world.now c.args.client)) c.shows.ensures)
    c.scan-2.ensures.stands c.clear_all.ensures.others
    (λ o. c.clear_all.ensures.masks o ∙ ap (λ (x : List Seen). if list_any (is_of o) x then 0 else mask_at c.args.lanes.now c.args.client o) c.shows-2.ensures)
