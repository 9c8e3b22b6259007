use Rattle.std.proofs.Common.{◌≡◌, ℕ, ◌+◌, ◌*◌, ◌<◌, ◌≤◌, List, [], ◌∷◌, ◌++◌, length, sym, ◌∙◌, ap, subst, arith}
use Rattle.std.proofs.lemmas.List.{nil_from_length}
use Rattle.messages.specs.declared.inbox.Stage.{Stage}
use Rattle.messages.specs.declared.inbox.Stage.TheVariants.{Idle, Begun}
use Rattle.messages.specs.Pieces.{first_piece}
use Rattle.messages.specs.InboxState.{InboxState, IsInRoom}
use Rattle.messages.specs.InboxStands.{Took, InboxStandsFor}
use Rattle.messages.proofs.Standing.{begins, first-again}
use Rattle.messages.proofs.inbox.Inbox.take_first.Goals as goal

pub returns-clause-stands : goal.returns-clause-stands
returns-clause-stands c log s =
    let low : ℕ = c.in-Some.low in
    let high : ℕ = c.in-Some-parted.high in
    let first : List ℕ = c.in-Some-parted.first.now in
    let held : List ℕ = c.self.inside.gathered.items in
    let n : ℕ = c.from.result + 256 * c.from-2.result in
    let t = subst (λ (w : InboxState). InboxStandsFor w log) (sym c.self.view_is) s in
    let idle : c.self.inside.stage ≡ Idle = ap (λ (w : InboxState). w.stage) c.self.view_is ∙ c.requires.idle in
    let one : c.args.bytes.now ≡ low ∷ c.in-Some.rest.now = c.in-Some.ensures.some in
    let two : c.in-Some.rest.now ≡ high ∷ first = c.in-Some-parted.ensures.some in
    let bytes : c.args.bytes.now ≡ low ∷ high ∷ first = one ∙ ap (λ (r : List ℕ). low ∷ r) two in
    let few : length c.args.bytes.now ≤ 23 = c.requires.few in
    let fewer : length c.args.bytes.now ≡ length c.in-Some.rest.now + 1 = c.in-Some.ensures.fewer in
    let fewer2 : length c.in-Some.rest.now ≡ length first + 1 = c.in-Some-parted.ensures.fewer in
    let exact : length first ≡ 21 = omega arith in
    let long : 23 < n = omega arith in
    let below : low < 256 = c.in-Some.ensures.byte in
    let said : n ≡ low + 256 * high = omega (arith, c.from.ensures, c.from-2.ensures) in
    let none : length held ≡ 0 = subst (λ (stage : Stage). IsInRoom stage (length held) c.self.inside.gathered.capacity) idle c.self.invariant in
    let nil : held ≡ [] = nil_from_length held none in
    let gathered : first ≡ c.gather.new.gathered.items = sym (c.gather.ensures.items ∙ ap (λ (g : List ℕ). g ++ first) nil) in
    let N : List ℕ → List ℕ → Type 0 = λ g piece. InboxStandsFor (record { gathered = g; room = c.gather.new.gathered.capacity; stage = Begun n; fault = c.self.inside.fault }) (Took piece ∷ log) in
    let piece : first_piece n first ≡ 2 ∷ c.args.bytes.now = first-again n low high first said below exact ∙ ap (λ (b : List ℕ). 2 ∷ b) (sym bytes) in
    subst (λ (g : List ℕ). N g (2 ∷ c.args.bytes.now)) gathered (subst (N first) piece
    (begins _ log n c.gather.new.gathered.capacity first c.self.inside.fault t idle long exact))
