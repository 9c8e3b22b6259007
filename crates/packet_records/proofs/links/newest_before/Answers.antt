use Rattle.std.proofs.Common.{◌%◌, get_or, ap, sym, ◌∙◌, arith}
use Rattle.packet_records.specs.Ring.{no_node, offset_of}
use Rattle.packet_records.proofs.FoundFacts.{found_some, found_none}
use Rattle.packet_records.proofs.links.newest_before.Goals as goal
use Rattle.packet_records.proofs.links.newest_before.Goals.{else-at-below-via-then-at-below+else-nodes-from, else-at-below-via-else-at-below}

pub returns-then-nodes-from : goal.returns-then-nodes-from
returns-then-nodes-from c =
    let place = ap (λ p. p % 4096) c.from.ensures in
    let at = c.offset-at.ensures ∙ ap (offset_of c.args.start) place in
    found_some c.args.nodes.now c.args.start c.args.below c.args.slot c.args.place c.offset-at.result c.requires.start c.requires.below c.requires.leads at c.if-at-below.true
    (ap (λ p. (get_or c.args.nodes.now p no_node).slot) (sym (c.from-then-at-below.ensures ∙ place)) ∙ c.if-nodes-from.true)

pub returns-else-at-below : goal.returns-else-at-below
returns-else-at-below c =
    let place = ap (λ p. p % 4096) c.from.ensures in
    let at = c.offset-at.ensures ∙ ap (offset_of c.args.start) place in
    found_none c.args.nodes.now c.args.start c.args.below c.args.slot c.args.place c.offset-at.result c.requires.start c.requires.below c.requires.leads at
    (elim c.else-at-below.branch [
      | else-at-below-via-then-at-below+else-nodes-from w ↦ λ lt e. w.if-nodes-from.false (ap (λ p. (get_or c.args.nodes.now p no_node).slot) (w.from-then-at-below.ensures ∙ place) ∙ e)
      | else-at-below-via-else-at-below w ↦ λ lt e. (let f = w.if-at-below.false in absurd (omega (arith, f, lt)))
    ])
