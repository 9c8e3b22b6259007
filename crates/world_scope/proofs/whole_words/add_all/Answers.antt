use Rattle.std.proofs.Common.{◌≡◌, ◌+◌, ◌++◌, ◌∙◌, ℕ, ap, arith, List, length, take}
use Rattle.std.proofs.Math.Seq.{take-append-add}
use Rattle.world_scope.specs.declared.viewer.Seen.{Seen}
use Rattle.world_scope.specs.Rings.{entries}
use Rattle.world_scope.proofs.WholeWords.{take_entries}
use Rattle.world_scope.proofs.whole_words.add_all.Goals as goal

pub returns-clause-ok : goal.returns-clause-ok
returns-clause-ok g c =
    let old = c.args.list.items in
    let levels = c.args.levels.now in
    let count = c.args.count in
    let long : c.len.result ≡ length old = omega (arith, c.len.ensures) in
    c.first.ensures.items
    ∙ ap (λ (n : ℕ). take (n + count) c.in_ok-longer.longer.items) long
    ∙ ap (λ (ys : List Seen). take (length old + count) ys) c.in_ok-longer.ensures.ok
    ∙ take-append-add old (entries c.args.from levels) count
    ∙ ap (λ (ys : List Seen). old ++ ys) (take_entries count c.args.from levels)
