use Rattle.std.proofs.Common.{arith, ℕ, ◌+◌, ◌*◌, ◌<◌, ◌∙◌, sym, ap, subst, length}
use Rattle.dirty_lanes.specs.declared.rule.LaneSize.{LaneSize}
use Rattle.dirty_lanes.specs.declared.view.SimView.{SimView}
use Rattle.dirty_lanes.specs.Views.{newest}
use Rattle.dirty_lanes.specs.Words.{packed}
use Rattle.dirty_lanes.specs.Rule.{sim_of}
use Rattle.dirty_lanes.proofs.LaneWords.{any_default}
use Rattle.dirty_lanes.proofs.Plays.{writes_as}
use Rattle.dirty_lanes.proofs.seats.SimSeat.write.Goals as goal

pub overflow_add-version : goal.overflow_add-version
overflow_add-version g c =
    let i = c.self.invariant in
    let l = c.lanes.invariant in
    let o = ap (λ (z : LaneSize). z.objects) c.lanes.view_is in
    let inside : 16 * c.args.object + c.args.field < length c.self.inside.versions.items = omega (arith, l.size, i.long, c.requires.field, c.requires.object) in
    let n = c.index.ensures ∙ any_default c.self.inside.versions.items (16 * c.args.object + c.args.field) c.index.result.now 0 inside ∙ i.counts c.args.object c.args.field c.requires.field inside in
    let room = subst (λ (v : SimView). newest v.steps c.args.object c.args.field < 4294967295) (sym c.self.view_is) c.requires.not_worn in
    omega arith

pub store-requires : goal.store-requires
store-requires g c =
    let i = c.self.invariant in
    let l = c.lanes.invariant in
    let o = ap (λ (z : LaneSize). z.objects) c.lanes.view_is in
    let inside : 16 * c.args.object + c.args.field < length c.self.inside.versions.items = omega (arith, l.size, i.long, c.requires.field, c.requires.object) in
    let n = c.index.ensures ∙ any_default c.self.inside.versions.items (16 * c.args.object + c.args.field) c.index.result.now 0 inside ∙ i.counts c.args.object c.args.field c.requires.field inside in
    let words = ap (λ z. z.words) l.named in (
      i.named ∙ sym l.named,
      omega (arith, l.words, words, c.field_word.ensures),
      writes_as _ c.lanes.inside.objects _ _ c.self.inside.seat.me (sim_of c.self.inside.seat.me.0) c.args.object c.args.field c.args.value _ _ i.sits l.long c.field_word.ensures
          (c.packed-word.ensures ∙ ap (λ (k : ℕ). packed (k + 1) c.args.value) n) c.requires.field (omega arith) (omega arith),
    )
