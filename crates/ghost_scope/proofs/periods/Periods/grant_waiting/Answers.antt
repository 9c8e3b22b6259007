use Rattle.std.proofs.Common.{◌≡◌, ◌≢◌, ◌<◌, ◌≤◌, ◌+◌, ◌-◌, ℕ, Some, None, Option, Bool, true, false, not, is_none, length, map, ◌∷◌, set, refl, sym, ap, ◌∙◌, subst, arith}
use Rattle.std.specs.Prelude.{is_some}
use Rattle.std.proofs.lemmas.List.{get_or_default}
use Rattle.ghost_scope.specs.declared.period.Period.{Period}
use Rattle.ghost_scope.specs.StandsFor.{StandsFor}
use Rattle.ghost_scope.specs.Table.{Table, no_entry, entry_at, slot_of}
use Rattle.ghost_scope.specs.Sound.{holder_at}
use Rattle.ghost_scope.proofs.Grant.{IsGranting, with_slot, granting_none, granting_held, granting_rest, granting_more, granting_places}
use Rattle.ghost_model.specs.Scope.{Grant}
use Rattle.ghost_scope.proofs.Calls.{with_work, slot_held}
use Rattle.work_list.specs.Work.{has}
use Rattle.work_list.proofs.Lists.{has-put_other}
use Rattle.ghost_scope.proofs.Tracked.{tracked_grant}
use Rattle.ghost_scope.proofs.Granted.{stands_grant}
use Rattle.ghost_scope.proofs.periods.Periods.grant_waiting.Goals as goal
use Rattle.ghost_scope.proofs.periods.Periods.grant_waiting.Goals.{then-is_none, else-is_none}

-- what `is_none` told of a holder
empty_from : (o : Option ℕ) (b : Bool) → is_some o ≡ not b → b ≡ true → o ≡ None
empty_from None b h e = refl
empty_from (Some x) b h e = absurd (let f : true ≡ false = h ∙ ap not e in cc)

full_from : (o : Option ℕ) (b : Bool) → is_some o ≡ not b → b ≡ false → is_none o ≡ false
full_from None b h e = absurd (let f : false ≡ true = h ∙ ap not e in cc)
full_from (Some x) b h e = refl

pub loop-slot-init : goal.loop-slot-init
loop-slot-init c = record { granting = granting_none _ _ _ _ c.self.invariant.0; shown = refl; tracked = c.self.invariant.2; work = λ t n h. refl; room = c.self.invariant.1 }

pub loop-slot-preserved : goal.loop-slot-preserved
loop-slot-preserved c =
    let g = c.loop-slot.invariant.granting in
    let in' : c.loop-slot.slot < length c.loop-slot.self-inside.holders.items = omega (arith, g.sound.slots, c.loop-slot-test.true) in
    let long : c.len.result ≡ length c.loop-slot.self-inside.entries.items = c.len.ensures ∙ c.loop-slot.self-inside.entries.ok.0 in
    let waits : c.loop-slot.self-inside.first_waiting < length c.loop-slot.self-inside.entries.items = omega (arith, c.if-self-len.false, long) in
    elim c.if-is_none.branch [
      | then-is_none w ↦
          let free : holder_at c.loop-slot.self-inside.holders.items c.loop-slot.slot ≡ None = sym (c.index.ensures ∙ get_or_default _ _ c.index.result.now None in') ∙ empty_from c.index.result.now c.is_none.result c.is_none.ensures w.if-is_none.true in
          let here : w.index-entry.result.now ≡ entry_at c.loop-slot.self-inside.entries.items c.loop-slot.self-inside.first_waiting = w.index-entry.ensures ∙ get_or_default _ _ w.index-entry.result.now no_entry waits in
          rw w.self-inside-is (record {
            granting = subst (λ (x : Period). IsGranting c.self.inside.entries.items c.self.inside.holders.items c.self.inside.first_waiting c.self.inside.shown (set c.loop-slot.self-inside.entries.items c.loop-slot.self-inside.first_waiting (with_slot x c.loop-slot.slot)) (set c.loop-slot.self-inside.holders.items c.loop-slot.slot (Some x.n)) (c.loop-slot.self-inside.first_waiting + 1) (c.loop-slot.slot + 1)) (sym here)
                (granting_more _ _ _ _ c.self.invariant.0 _ _ _ _ g waits c.loop-slot-test.true free);
            shown = c.loop-slot.invariant.shown;
            tracked = rw w.set.ensures.value (tracked_grant c.loop-slot.self-inside.entries.items c.loop-slot.self-inside.first_waiting c.loop-slot.self-inside.work c.loop-slot.invariant.tracked waits c.loop-slot.slot _ refl refl);
            work = λ t n h.
                let apart : t ≢ c.loop-slot.slot = λ same. absurd (let e : Some n ≡ None = sym h ∙ ap (holder_at c.self.inside.holders.items) same ∙ sym (g.later c.loop-slot.slot (omega arith)) ∙ free in cc) in
                ap (λ w. has w t) w.set.ensures.value ∙ has-put_other true c.loop-slot.slot c.loop-slot.self-inside.work t apart ∙ c.loop-slot.invariant.work t n h;
            room = c.loop-slot.invariant.room;
          })
      | else-is_none w ↦ rw w.self-inside-is (record {
        granting = granting_held _ _ _ _ c.self.invariant.0 _ _ _ _ g (ap is_none (sym (c.index.ensures ∙ get_or_default _ _ c.index.result.now None in')) ∙ full_from c.index.result.now c.is_none.result c.is_none.ensures w.if-is_none.false);
        shown = c.loop-slot.invariant.shown;
        tracked = c.loop-slot.invariant.tracked;
        work = c.loop-slot.invariant.work;
        room = c.loop-slot.invariant.room;
      })
    ]

pub returns-then-self-len-clause-stands : goal.returns-then-self-len-clause-stands
returns-then-self-len-clause-stands c log stands =
    let old : Table = record { shown = c.self.inside.shown; entries = c.self.inside.entries.items; work = c.self.inside.work } in
    let before : StandsFor old log = subst (λ t. StandsFor t log) (sym c.self.view_is) stands in
    let long : c.len.result ≡ length c.loop-slot.self-inside.entries.items = c.len.ensures ∙ c.loop-slot.self-inside.entries.ok.0 in
    let full : length c.loop-slot.self-inside.entries.items ≤ c.loop-slot.self-inside.first_waiting = omega (arith, c.if-self-len.true, long) in
    let g = granting_rest _ _ _ _ c.self.invariant.0 _ _ _ _ c.loop-slot.invariant.granting full (256 - c.loop-slot.slot) in
    let all : c.loop-slot.slot + (256 - c.loop-slot.slot) ≡ 256 = omega (arith, c.loop-slot-test.true) in
    let h = subst (IsGranting c.self.inside.entries.items c.self.inside.holders.items c.self.inside.first_waiting c.self.inside.shown c.loop-slot.self-inside.entries.items c.loop-slot.self-inside.holders.items c.loop-slot.self-inside.first_waiting) all g in
    let after : Table = record { shown = c.self.inside.shown; entries = c.loop-slot.self-inside.entries.items; work = c.self.inside.work } in
    rw c.loop-slot.invariant.shown (with_work after c.loop-slot.self-inside.work (Grant ∷ log) (stands_grant old log before c.self.inside.holders.items c.self.inside.first_waiting c.self.invariant.0 c.loop-slot.self-inside.entries.items c.loop-slot.self-inside.holders.items c.loop-slot.self-inside.first_waiting h))

pub returns-then-self-len-clause-work : goal.returns-then-self-len-clause-work
returns-then-self-len-clause-work c n slot h =
    let old : slot_of (record { shown = c.self.inside.shown; entries = c.self.inside.entries.items; work = c.self.inside.work }) n ≡ Some slot = ap (λ (t : Table). slot_of t n) c.self.view_is ∙ h in
    c.loop-slot.invariant.work slot n (slot_held c.self.inside.entries.items c.self.inside.holders.items c.self.inside.first_waiting c.self.inside.shown c.self.invariant.0 n slot old) ∙ ap (λ (t : Table). has t.work slot) c.self.view_is

pub returns-clause-stands : goal.returns-clause-stands
returns-clause-stands c log stands =
    let old : Table = record { shown = c.self.inside.shown; entries = c.self.inside.entries.items; work = c.self.inside.work } in
    let before : StandsFor old log = subst (λ t. StandsFor t log) (sym c.self.view_is) stands in
    let all : c.loop-slot.slot ≡ 256 = omega (arith, c.loop-slot-test.false, c.loop-slot.auto.slot-end) in
    let g = subst (IsGranting c.self.inside.entries.items c.self.inside.holders.items c.self.inside.first_waiting c.self.inside.shown c.loop-slot.self-inside.entries.items c.loop-slot.self-inside.holders.items c.loop-slot.self-inside.first_waiting) all c.loop-slot.invariant.granting in
    let after : Table = record { shown = c.self.inside.shown; entries = c.loop-slot.self-inside.entries.items; work = c.self.inside.work } in
    rw c.loop-slot.invariant.shown (with_work after c.loop-slot.self-inside.work (Grant ∷ log) (stands_grant old log before c.self.inside.holders.items c.self.inside.first_waiting c.self.invariant.0 c.loop-slot.self-inside.entries.items c.loop-slot.self-inside.holders.items c.loop-slot.self-inside.first_waiting g))

pub returns-clause-work : goal.returns-clause-work
returns-clause-work c n slot h =
    let old : slot_of (record { shown = c.self.inside.shown; entries = c.self.inside.entries.items; work = c.self.inside.work }) n ≡ Some slot = ap (λ (t : Table). slot_of t n) c.self.view_is ∙ h in
    c.loop-slot.invariant.work slot n (slot_held c.self.inside.entries.items c.self.inside.holders.items c.self.inside.first_waiting c.self.inside.shown c.self.invariant.0 n slot old) ∙ ap (λ (t : Table). has t.work slot) c.self.view_is

pub returns-then-self-len-clause-places : goal.returns-then-self-len-clause-places
returns-then-self-len-clause-places c = granting_places _ _ _ _ _ _ _ _ c.loop-slot.invariant.granting ∙ ap (λ (t : Table). map (λ e. e.n) t.entries) c.self.view_is

pub returns-clause-places : goal.returns-clause-places
returns-clause-places c = granting_places _ _ _ _ _ _ _ _ c.loop-slot.invariant.granting ∙ ap (λ (t : Table). map (λ e. e.n) t.entries) c.self.view_is
