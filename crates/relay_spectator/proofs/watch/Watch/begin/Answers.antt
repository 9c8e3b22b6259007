use Rattle.std.proofs.Common.{◌≡◌, ◌∙◌, ℕ, suc, ◌+◌, ◌++◌, [], List, map, sym, ap, subst, arith}
use Rattle.std.specs.List.{cons_option}
use Rattle.own_lists.specs.Own.{OwnShow as Shown}
use Rattle.alone_server.specs.own_items.declared.items.OwnShow.{OwnShow}
use Rattle.alone_server.specs.own_items.Items.{show_of}
use Rattle.ghost_client.specs.State.{copy_in}
use Rattle.ghost_model.specs.Words.{upto}
use Rattle.relay_spectator.specs.Watches.{IsWatch}
use Rattle.relay_model.specs.Beginning.{begun_up_to, shown_in, shown_up_to}
use Rattle.relay_spectator.proofs.Watching.{upto_more, all_begun}
use Rattle.relay_spectator.proofs.watch.Watch.begin.Goals as goal

next : (k : ℕ) → suc k ≡ k + 1
next k = omega arith

pub loop-slot-init : goal.loop-slot-init
unfolding upto
loop-slot-init c = record {
  few = omega arith;
  watched = λ w h. h;
  shown = λ w h. ap (λ (l : List OwnShow). map show_of l) c.new-shows.ensures.items;
}

pub loop-slot-preserved : goal.loop-slot-preserved
loop-slot-preserved c =
    let copies = copy_in c.args.copies.now.slots in
    let kinds = c.args.copies.now.kinds in
    let at = c.loop-slot.slot in
    record {
      few = omega (arith, c.in_ok-begin_at.ensures.few, c.loop-slot.invariant.few);
      watched = λ w h. subst (λ (n : ℕ). IsWatch c.begin_at.new.self (begun_up_to copies w n)) (next at) (c.in_ok-begin_at.ensures.watched w (c.loop-slot.invariant.watched w h));
      shown = λ w h. c.in_ok-begin_at.ensures.shows w (c.loop-slot.invariant.watched w h)
          ∙ ap (λ (l : List Shown). l ++ cons_option (shown_in kinds copies w at) []) (c.loop-slot.invariant.shown w h)
          ∙ sym (upto_more (shown_in kinds copies w) at) ∙ ap (λ (n : ℕ). shown_up_to kinds copies w n) (next at);
    }

pub returns-clause-watched : goal.returns-clause-watched
returns-clause-watched c w h =
    let copies = copy_in c.args.copies.now.slots in
    let all : c.loop-slot.slot ≡ 256 = omega (arith, c.loop-slot-test.false, c.loop-slot.auto.slot-end) in
    all_begun copies w c.loop-slot.self c.none_beyond.ensures
    (subst (λ (n : ℕ). IsWatch c.loop-slot.self (begun_up_to copies w n)) all (c.loop-slot.invariant.watched w h))
