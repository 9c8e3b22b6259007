use Rattle.std.proofs.Common.{◌≡◌, ◌∙◌, ◌+◌, ◌++◌, ℕ, suc, List, [], None, ap, Option, arith}
use Rattle.std.specs.List.{flat_map}
use Rattle.std.proofs.lemmas.List.{flat_map_more, get_or_default}
use Rattle.ghost_model.specs.Words.{upto}
use Rattle.ghost_client.specs.declared.copy.GhostCopy.{GhostCopy}
use Rattle.ghost_client.specs.State.{copy_in}
use Rattle.relay_board.specs.declared.board.Change.{Change}
use Rattle.relay_board.specs.Changes.{changes_in}
use Rattle.relay_board.proofs.board.find_changed.Goals as goal

one_more : (f : ℕ → List Change) (k : ℕ) → flat_map f (upto k) ++ f k ≡ flat_map f (upto (k + 1))
unfolding upto
one_more f k = flat_map_more f [] (upto k) k ∙ ap (λ n. flat_map f (upto n)) (let e : suc k ≡ k + 1 = omega arith in e)

pub loop-slot-init : goal.loop-slot-init
unfolding upto
loop-slot-init c = c.clear.ensures.items

pub loop-slot-preserved : goal.loop-slot-preserved
loop-slot-preserved c =
    let kinds = c.args.copies.now.kinds in
    let old = c.args.old.now in
    let new = copy_in c.args.copies.now.slots in
    let at = c.loop-slot.slot in
    let f : ℕ → List Change = λ slot. changes_in kinds slot (copy_in old slot) (new slot) in
    let here : c.index-old-slot.result ≡ copy_in old at = c.index-old-slot.is ∙ get_or_default old at c.index-old-slot.result None (omega (arith, c.loop-slot-test.true, c.requires)) in
    c.in_ok-put_slot.ensures
    ∙ ap (λ (o : Option GhostCopy). c.loop-slot.changed.items ++ changes_in kinds at o (new at)) here
    ∙ ap (λ (l : List Change). l ++ f at) c.loop-slot.invariant ∙ one_more f at
