use Rattle.std.proofs.Common.{◌∙◌}
use Rattle.match_engine.proofs.Draining.{others_stay, left_more}
use Rattle.match_engine.proofs.lanes.clear_all.Goals as goal

pub loop-s-preserved : goal.loop-s-preserved
loop-s-preserved c = record {
  masks = λ o. left_more c.args.shows.now c.loop-s.s-index _ c.loop-s-test.true c.args.client _ _ c.drain.ensures.words c.drain.ensures.mask o
      ∙ c.loop-s.invariant.masks o;
  others = others_stay c.args.client _ _ _ _ c.loop-s.invariant.others c.drain.ensures.sizes c.drain.ensures.masks;
}
