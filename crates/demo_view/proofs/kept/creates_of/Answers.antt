use Rattle.std.proofs.Common.{◌≡◌, ◌∙◌, ◌+◌, ◌<◌, ◌^◌, [], ◌∷◌, ◌++◌, List, Some, Vec, Global, sym, ap, subst}
use Rattle.std.specs.Prelude.{reverse}
use Rattle.std.specs.Option.{option_copied}
use Rattle.wire_format.specs.declared.ghosts.GhostItem.{GhostItem}
use Rattle.wire_format.specs.declared.ghosts.GhostItem.TheVariants.{Create}
use Rattle.ghost_client.specs.declared.copy.GhostCopy.{GhostCopy}
use Rattle.ghost_client.specs.State.{copy_in}
use Rattle.demo_view.proofs.Keeping.{AreKept, no-copy, one-copy, pushed-first, copy-small}
use Rattle.demo_view.proofs.kept.creates_of.Goals as goal
use Rattle.demo_view.proofs.kept.creates_of.Goals.{in-Some+in-Ok-push, in_default-get}

pub slots-preserved : goal.slots-preserved
slots-preserved c =
    let kinds = c.args.copies.now.kinds in
    let slots = c.args.copies.now.slots in
    let before : List GhostItem = reverse c.slots.all.items in
    let there = c.get.ensures.value in
    elim c.match-get.branch [
      | in-Some+in-Ok-push w ↦ (
          let copy : GhostCopy = w.in-Some.copy.now in
          let is : copy_in slots c.slots.slot ≡ Some copy = sym there ∙ ap option_copied w.in-Some.is in
          let small : copy.block < 2 ^ 6 = copy-small kinds c.slots.slot c.requires.came copy c.requires.ranges (sym (c.requires.stands.copies c.slots.slot c.slots-test.true) ∙ is) in
          let item : GhostItem = Create c.slots.slot copy.kind copy.block copy.levels in
          let pushed : w.push.new.self.items ≡ c.slots.all.items ++ item ∷ [] = w.in-Ok-push.ensures.items ∙ ap (λ (x : GhostItem). c.slots.all.items ++ x ∷ []) w.create_of.ensures in
          let first : reverse w.push.new.self.items ≡ item ∷ before = ap reverse pushed ∙ pushed-first c.slots.all.items item in
          let now : reverse c.match-get.all.items ≡ item ∷ before = ap (λ (v : Vec GhostItem Global). reverse v.items) w.all-is ∙ first in
          subst (λ (l : List GhostItem). AreKept kinds slots (c.slots.slot + 1) l) (sym now)
          (one-copy kinds slots c.slots.slot before c.slots.invariant copy is (w.in-Some.ensures.range.kind, small, w.in-Some.ensures.range.levels)))
      | in_default-get w ↦
          subst (λ (l : List GhostItem). AreKept kinds slots (c.slots.slot + 1) l) (sym (ap (λ (v : Vec GhostItem Global). reverse v.items) w.all-is))
          (no-copy kinds slots c.slots.slot before c.slots.invariant (sym w.in_default-get.ensures.value))
    ]
