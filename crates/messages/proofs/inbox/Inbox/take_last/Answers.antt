use Rattle.std.proofs.Common.{◌≡◌, ℕ, ◌-◌, ◌≤◌, List, ◌∷◌, length, sym, ◌∙◌, ap, subst, arith}
use Rattle.messages.specs.declared.form.ParcelKind.TheVariants.{Message}
use Rattle.messages.specs.declared.inbox.Stage.TheVariants.{Begun, Whole}
use Rattle.messages.specs.InboxState.{InboxState}
use Rattle.messages.specs.InboxStands.{Took, InboxStandsFor}
use Rattle.messages.proofs.Standing.{ends}
use Rattle.messages.proofs.inbox.Inbox.take_last.Goals as goal

pub returns-clause-stands : goal.returns-clause-stands
returns-clause-stands c log s =
    let t = subst (λ (w : InboxState). InboxStandsFor w log) (sym c.self.view_is) s in
    let begun : c.self.inside.stage ≡ Begun c.args.whole = ap (λ (w : InboxState). w.stage) c.self.view_is ∙ c.requires.begun in
    let few : length c.args.bytes.now ≤ 23 = c.requires.few in
    let left : length c.args.bytes.now ≡ c.args.whole - length c.self.inside.gathered.items = omega (arith, c.len.ensures.len) in
    subst (λ (g : List ℕ). InboxStandsFor (record { gathered = g; room = c.gather.new.gathered.capacity; stage = Whole Message; fault = c.self.inside.fault }) (Took (4 ∷ c.args.bytes.now) ∷ log)) (sym c.gather.ensures.items)
    (ends _ log c.args.whole c.gather.new.gathered.capacity c.args.bytes.now c.self.inside.fault t begun few left)
