use Rattle.std.proofs.Common.{◌∙◌}
use Rattle.match_engine.proofs.Draining.{others_stay}
use Rattle.match_engine.proofs.Drains.{as_first, cleared_more, rest_stays, taken, left_out}
use Rattle.match_engine.proofs.lanes.drain_all.Goals as goal
use Rattle.match_engine.proofs.lanes.drain_all.Goals.{then-bits-ne0+in_ok-push, else-bits-ne0}

pub loop-p-preserved : goal.loop-p-preserved
loop-p-preserved c =
    let ps = c.args.shown.now in
    let i = c.loop-p.p-index in
    let l = c.loop-p-test.true in
    let first = c.args.lanes.now in
    let so_far = c.loop-p.invariant in
    record {
      drains = elim c.if-bits-ne0.branch [
        | then-bits-ne0+in_ok-push w ↦ rw w.drains-is (w.in_ok-push.ensures.items
            ∙ taken ps i _ l c.args.client first _ _ (c.drain-bits.ensures.answer ∙ as_first ps i _ l c.args.client first _ so_far.rest) w.if-bits-ne0.true so_far.drains)
        | else-bits-ne0 w ↦ rw w.drains-is (left_out ps i _ l c.args.client first _ _
            (c.drain-bits.ensures.answer ∙ as_first ps i _ l c.args.client first _ so_far.rest) w.if-bits-ne0.false so_far.drains)
      ];
      cleared = cleared_more ps i _ l c.args.client first _ _ c.drain-bits.ensures.words c.drain-bits.ensures.mask so_far.cleared;
      rest = rest_stays ps i _ l c.args.client first c.requires.apart _ _ c.drain-bits.ensures.words so_far.rest;
      others = others_stay c.args.client _ _ _ _ so_far.others c.drain-bits.ensures.sizes c.drain-bits.ensures.masks;
    }
