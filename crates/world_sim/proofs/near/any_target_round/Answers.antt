use Rattle.std.proofs.Common.{◌≡◌, ◌∙◌, Bool, true, false, sym}
use Rattle.std.specs.List.{list_any}
use Rattle.world_rules.specs.Near.{is_target_near}
use Rattle.world_sim.proofs.Searches.{NoneIn, low, high, none_round}
use Rattle.world_sim.proofs.near.any_target_round.Goals as goal

by_result : (r b : Bool) → (r ≡ true → b ≡ true) → (r ≡ false → b ≡ false) → r ≡ b
by_result true b found none = sym (found (λ i. true))
by_result false b found none = sym (none (λ i. false))

pub returns-then-rows : goal.returns-then-rows
returns-then-rows c =
    let os = c.args.objects.now in
    let o = c.args.o.now in
    let first : NoneIn os o (low o.place.y) = rw (c.first_touched.ensures, c.last_touched.ensures, c.first_touched-2.ensures) at (c.any_target_beside.ensures.none c.if-any_target_beside.false) in
    let same : low o.place.y ≡ high o.place.y = sym c.first_touched-2.ensures ∙ c.if-rows.true ∙ c.last_touched-2.ensures in
    sym (none_round os o c.requires.alive c.requires.fits first (rw same at first))

pub returns : goal.returns
returns c =
    let os = c.args.objects.now in
    let o = c.args.o.now in
    let first : NoneIn os o (low o.place.y) = rw (c.first_touched.ensures, c.last_touched.ensures, c.first_touched-2.ensures) at (c.any_target_beside.ensures.none c.if-any_target_beside.false) in
    by_result c.any_target_beside-2.result (list_any (is_target_near 200 o) os) c.any_target_beside-2.ensures.found (λ missed.
    let last : NoneIn os o (high o.place.y) = rw (c.first_touched.ensures, c.last_touched.ensures, c.last_touched-2.ensures) at (c.any_target_beside-2.ensures.none missed) in
    none_round os o c.requires.alive c.requires.fits first last)
