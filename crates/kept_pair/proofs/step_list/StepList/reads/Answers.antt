use Rattle.std.proofs.Common.{◌≡◌, ◌∙◌, ◌<◌, ◌≤◌, Bool, cond, [], Some, length, sym, ap, arith}
use Rattle.std.specs.Prelude.{slice_get}
use Rattle.kept_pair.specs.StepLists.{is_pack, reads_at, drains_start, reads_start, part}
use Rattle.kept_pair.proofs.Cutting.{cut-length, found, read-at, rise-at}
use Rattle.kept_pair.proofs.step_list.StepList.reads.Goals as goal
use Rattle.kept_pair.proofs.step_list.StepList.reads.Goals.{After-index-entry}

pub index-entry-requires : goal.index-entry-requires
index-entry-requires c =
    let count = cut-length 0 0 c.self.inside.entries.items c.self.inside.drains.items c.self.inside.reads.items in
    let view = ap (λ s. length s.list) c.self.view_is in
    let ok = c.self.inside.entries.ok in let r = c.requires in
    omega arith

module _ (c : After-index-entry) where
  here : c.args.i < length c.self.inside.entries.items
  here =
      let count = cut-length 0 0 c.self.inside.entries.items c.self.inside.drains.items c.self.inside.reads.items in
      let view = ap (λ s. length s.list) c.self.view_is in
      let r = c.requires in
      omega arith

  own : slice_get c.self.inside.entries.items c.args.i ≡ Some c.index-entry.result.now
  own = found c.self.inside.entries.items c.args.i c.index-entry.result.now here c.index-entry.ensures

  told : reads_at c.args.self.now.list c.args.i ≡ cond (is_pack c.index-entry.result.now.step) (part (reads_start 0 c.self.inside.entries.items c.args.i) c.index-entry.result.now.reads_end c.self.inside.reads.items) []
  told = ap (λ s. reads_at s.list c.args.i) (sym c.self.view_is) ∙ read-at c.self.inside.entries.items c.self.inside.drains.items c.self.inside.reads.items c.args.i c.index-entry.result.now own

  rises : ((drains_start 0 c.self.inside.entries.items c.args.i ≤ c.index-entry.result.now.drains_end) × (c.index-entry.result.now.drains_end ≤ length c.self.inside.drains.items))
      × ((reads_start 0 c.self.inside.entries.items c.args.i ≤ c.index-entry.result.now.reads_end) × (c.index-entry.result.now.reads_end ≤ length c.self.inside.reads.items))
  rises = rise-at 0 0 c.self.inside.entries.items (length c.self.inside.drains.items) (length c.self.inside.reads.items) c.args.i c.index-entry.result.now c.self.invariant.0 own

pub starts-start-requires : goal.starts-start-requires
starts-start-requires c = let h = here (goal.at.starts-start-requires c).After-index-entry in let v = c.as_slice.ensures.len in let ok = c.self.inside.entries.ok in omega arith

pub reads_between-requires-clause-rise : goal.reads_between-requires-clause-rise
reads_between-requires-clause-rise c =
    let start : c.starts-start.result.1 ≡ reads_start 0 c.self.inside.entries.items c.args.i = c.starts-start.ensures.reads ∙ ap (λ l. reads_start 0 l c.args.i) c.as_slice.ensures.value in
    omega (arith, start, (rises (goal.at.reads_between-requires-clause-rise c).After-index-entry).1.0)

pub reads_between-requires-clause-there : goal.reads_between-requires-clause-there
reads_between-requires-clause-there c = omega (arith, ap length c.as_slice-then-is_pack.ensures.value, (rises (goal.at.reads_between-requires-clause-there c).After-index-entry).1.1)

pub returns-then-is_pack : goal.returns-then-is_pack
returns-then-is_pack c =
    let start : c.starts-start.result.1 ≡ reads_start 0 c.self.inside.entries.items c.args.i = c.starts-start.ensures.reads ∙ ap (λ l. reads_start 0 l c.args.i) c.as_slice.ensures.value in
    c.reads_between.ensures ∙ (λ j. part (start j) c.index-entry.result.now.reads_end (c.as_slice-then-is_pack.ensures.value j))
    ∙ sym (told (goal.at.returns-then-is_pack c).After-index-entry ∙ ap (λ (b : Bool). cond b (part (reads_start 0 c.self.inside.entries.items c.args.i) c.index-entry.result.now.reads_end c.self.inside.reads.items) []) (sym c.is_pack.ensures ∙ c.if-is_pack.true))

pub returns : goal.returns
returns c =
    sym (told (goal.at.returns c).After-index-entry ∙ ap (λ (b : Bool). cond b (part (reads_start 0 c.self.inside.entries.items c.args.i) c.index-entry.result.now.reads_end c.self.inside.reads.items) []) (sym c.is_pack.ensures ∙ c.if-is_pack.false))
