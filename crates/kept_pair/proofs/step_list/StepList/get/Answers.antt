use Rattle.std.proofs.Common.{◌≡◌, ◌<◌, Some, length, refl, ap, arith, subst}
use Rattle.std.specs.Prelude.{slice_get}
use Rattle.kept_pair.specs.StepLists.{kept_of, drains_at, reads_at}
use Rattle.kept_pair.proofs.Cutting.{cut-length, found, kept-at}
use Rattle.kept_pair.proofs.step_list.StepList.get.Goals as goal

pub returns-then-i-len-clause-none : goal.returns-then-i-len-clause-none
returns-then-i-len-clause-none c =
    let count = cut-length 0 0 c.self.inside.entries.items c.self.inside.drains.items c.self.inside.reads.items in
    let view = ap (λ s. length s.list) c.self.view_is in
    let own = c.len.ensures in let ok = c.self.inside.entries.ok in let out = c.if-i-len.true in
    ((λ e. omega arith), (λ le. refl))

pub returns-clause-none : goal.returns-clause-none
returns-clause-none c =
    let count = cut-length 0 0 c.self.inside.entries.items c.self.inside.drains.items c.self.inside.reads.items in
    let view = ap (λ s. length s.list) c.self.view_is in
    let own = c.len.ensures in let ok = c.self.inside.entries.ok in let out = c.if-i-len.false in
    ((λ e. absurd cc), (λ le. absurd (omega arith)))

pub returns-clause-value : goal.returns-clause-value
returns-clause-value c =
    let own = c.len.ensures in let ok = c.self.inside.entries.ok in let out = c.if-i-len.false in
    let here : c.args.i < length c.self.inside.entries.items = omega arith in
    subst (λ l. slice_get l c.args.i ≡ Some (kept_of c.index.result.now.step (drains_at l c.args.i) (reads_at l c.args.i))) (ap (λ s. s.list) c.self.view_is)
    (kept-at c.self.inside.entries.items c.self.inside.drains.items c.self.inside.reads.items c.args.i c.index.result.now (found c.self.inside.entries.items c.args.i c.index.result.now here c.index.ensures))
