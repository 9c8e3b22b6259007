use Rattle.std.proofs.Common.{◌∙◌, ◌+◌, ◌<◌, ◌++◌, ◌∷◌, [], List, map, take, sym, ap, subst, arith}
use Rattle.std.proofs.lemmas.List.{map_more}
use Rattle.own_lists.specs.Own.{OwnShow as Told}
use Rattle.own_lists.specs.Kept.{Kept, all_begin, begins}
use Rattle.alone_server.specs.declared.periods.OwnPeriod.{OwnPeriod}
use Rattle.own_items.specs.Items.{show_of}
use Rattle.alone_server.specs.Periods.{Holds}
use Rattle.alone_server.proofs.Holding.{begin_on, holds_begun}
use Rattle.alone_server.proofs.periods.show_all.Goals as goal

pub loop-show-preserved : goal.loop-show-preserved
loop-show-preserved c =
    let shows = c.args.begins.now in
    let i = c.loop-show.show-index in
    let s = c.show-item.result in
    record {
      count = omega (arith, c.loop-show.invariant.count);
      holds = λ k h.
          let now = c.loop-show.invariant.holds k h in
          let front : List Told = map show_of (take i shows) in
          let few : c.loop-show.n < 4294967295 = omega (arith, c.loop-show.invariant.count, c.loop-show-test.true, c.requires.few) in
          let next = map_more show_of shows i s c.loop-show-test.true ∙ ap (λ x. front ++ show_of x ∷ []) (sym c.show-item.is) in
          let more = holds_begun (record { shows = c.loop-show.n; periods = c.loop-show.periods.items }) (all_begin front k) now (show_of s) c.begun.result
          c.begun.ensures.n c.begun.ensures.kind c.begun.ensures.values c.begun.ensures.written few in
          let pushed = subst (λ (ps : List OwnPeriod). Holds (record { shows = c.loop-show.n + 1; periods = ps }) (begins (show_of s) (all_begin front k))) (sym c.in_ok-push.ensures.items) more in
          subst (λ (j : Kept). Holds (record { shows = c.loop-show.n + 1; periods = c.push.new.self.items }) j)
          (sym (ap (λ ss. all_begin ss k) next ∙ begin_on front (show_of s) k)) pushed;
    }
