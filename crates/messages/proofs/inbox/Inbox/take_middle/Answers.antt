use Rattle.std.proofs.Common.{◌≡◌, ℕ, ◌-◌, ◌<◌, List, ◌∷◌, length, sym, ◌∙◌, ap, subst, arith}
use Rattle.messages.specs.declared.inbox.Stage.{Stage}
use Rattle.messages.specs.declared.inbox.Stage.TheVariants.{Begun}
use Rattle.messages.specs.InboxState.{InboxState}
use Rattle.messages.specs.InboxStands.{Took, InboxStandsFor}
use Rattle.messages.proofs.Standing.{goes_on}
use Rattle.messages.proofs.inbox.Inbox.take_middle.Goals as goal

pub returns-clause-stands : goal.returns-clause-stands
returns-clause-stands c log s =
    let t = subst (λ (w : InboxState). InboxStandsFor w log) (sym c.self.view_is) s in
    let begun : c.self.inside.stage ≡ Begun c.args.whole = ap (λ (w : InboxState). w.stage) c.self.view_is ∙ c.requires.begun in
    let whole : length c.args.bytes.now ≡ 23 = omega (arith, c.requires.few) in
    let left : 23 < c.args.whole - length c.self.inside.gathered.items = omega (arith, c.len.ensures.len) in
    let N : List ℕ → Stage → Type 0 = λ g stage. InboxStandsFor (record { gathered = g; room = c.gather.new.gathered.capacity; stage = stage; fault = c.self.inside.fault }) (Took (3 ∷ c.args.bytes.now) ∷ log) in
    subst (N c.gather.new.gathered.items) (sym begun) (subst (λ (g : List ℕ). N g (Begun c.args.whole)) (sym c.gather.ensures.items)
    (goes_on _ log c.args.whole c.gather.new.gathered.capacity c.args.bytes.now c.self.inside.fault t begun whole left))
