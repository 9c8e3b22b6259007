use Rattle.std.proofs.Common.{◌≡◌, ◌<◌, ◌≤◌, ◌∷◌, length, take, Some, sym, subst, ◌∙◌, arith}
use Rattle.std.specs.Prelude.{slice_get, slice_set}
use Rattle.timeline.specs.Telling.{Told, Came, frame_of, frames_of}
use Rattle.timeline.specs.Keeping.{Kept, kept_of}
use Rattle.timeline.specs.Standing.{Drawing, SlotKept, SlotStandsFor, StandsFor, with_frame}
use Rattle.timeline.proofs.SlotFacts.{at_index, comes, told_stands, set_whole}
use Rattle.timeline.proofs.AnswerFacts.{is_packet}
use Rattle.std.specs.Int.{w32}
use Rattle.std.specs.Int.RustNames.{FitsSigned}
use Rattle.std.proofs.lemmas.Int.{to_z-of_z}
use Rattle.timeline.proofs.told.Timeline.came_checked.Goals as goal

pub come-requires-clause-life : goal.come-requires-clause-life
come-requires-clause-life c = is_packet c.args.self.now c.args.packet c.requires.packet

pub come-requires-clause-field : goal.come-requires-clause-field
come-requires-clause-field c =
    let less : c.args.slot < length c.self.inside.slots.items = subst (λ (d : Drawing). c.args.slot < length d.slots) (sym c.self.view_is) c.requires.slot in
    let here : slice_get c.self.inside.slots.items c.args.slot ≡ Some c.index_mut.result.now = at_index c.self.inside.slots.items c.args.slot c.index_mut.result.now less c.index_mut.ensures.value in
    let count = c.self.invariant.each c.args.slot c.index_mut.result.now here in
    let many : c.args.field < c.self.inside.fields = subst (λ (d : Drawing). c.args.field < d.fields) (sym c.self.view_is) c.requires.field in
    omega (arith, count, many)

pub invariant_of-self : goal.invariant_of-self
invariant_of-self c =
    let less : c.args.slot < length c.self.inside.slots.items = subst (λ (d : Drawing). c.args.slot < length d.slots) (sym c.self.view_is) c.requires.slot in
    let here : slice_get c.self.inside.slots.items c.args.slot ≡ Some c.index_mut.result.now = at_index c.self.inside.slots.items c.args.slot c.index_mut.result.now less c.index_mut.ensures.value in
    set_whole c.self.inside.fields c.self.inside.depth c.args.slot c.self.inside.slots.items c.come.new.self
    (c.come.ensures.count ∙ c.self.invariant.each c.args.slot c.index_mut.result.now here) c.self.invariant

pub returns-clause-log : goal.returns-clause-log
returns-clause-log c log h =
    let less : c.args.slot < length c.self.inside.slots.items = subst (λ (d : Drawing). c.args.slot < length d.slots) (sym c.self.view_is) c.requires.slot in
    let here : slice_get c.self.inside.slots.items c.args.slot ≡ Some c.index_mut.result.now = at_index c.self.inside.slots.items c.args.slot c.index_mut.result.now less c.index_mut.ensures.value in
    let t : Drawing = record { ways = c.self.inside.ways.items; fields = c.self.inside.fields; depth = c.self.inside.depth; latest = c.self.inside.latest; slots = c.self.inside.slots.items } in
    let told : Told = record { slot = c.args.slot; packet = c.args.packet; what = Came c.args.field c.args.value } in
    let x = c.index_mut.result.now in
    let fits : FitsSigned w32 c.args.value = c.ranges.value in
    let many : c.args.field < t.fields = subst (λ (d : Drawing). c.args.field < d.fields) (sym c.self.view_is) c.requires.field in
    told_stands t log told x c.come.new.self (subst (λ (d : Drawing). StandsFor d log) (sym c.self.view_is) h) here
    (λ l s.
    let k : Kept = kept_of t.depth (take t.depth (frames_of c.args.field l)) in
    let there : slice_get x.fields c.args.field ≡ Some k = s.frames_are c.args.field many in
    let is : c.come.new.self ≡ record x { fields = slice_set x.fields c.args.field (with_frame (frame_of c.args.packet c.args.value) k) } =
    cc (c.come.ensures.kept k there, to_z-of_z w32 c.args.value fits) in
    subst (λ (y : SlotKept). SlotStandsFor t.depth t.fields y (told ∷ l)) (sym is)
    (comes t.depth t.fields x l c.args.slot c.args.packet c.args.field c.args.value k c.self.invariant.some there s))
