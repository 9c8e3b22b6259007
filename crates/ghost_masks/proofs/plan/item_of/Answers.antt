use Rattle.std.proofs.Common.{◌≡◌, ◌∙◌, ℕ, List, sym, ap}
use Rattle.std.specs.Option.{option_map}
use Rattle.ghost_model.specs.Ghosts.{GhostEvent}
use Rattle.ghost_model.specs.Candidates.{offer, priority}
use Rattle.ghost_model.proofs.Order.{offer_names}
use Rattle.ghost_order.specs.Ranks.{choice_of}
use Rattle.ghost_rows.specs.Kept.{row_at}
use Rattle.ghost_masks.specs.Plan.{setting}
use Rattle.ghost_masks.specs.Sources.{EntryFrom}
use Rattle.ghost_masks.proofs.plan.item_of.Goals as goal
use Rattle.ghost_masks.proofs.plan.item_of.Goals.{After-offer_of}

module _ (c : After-offer_of) (log : List GhostEvent) (from : EntryFrom c.args.period.now c.args.kinds.now c.args.rows.now log) where
  turned : c.standing-due.result.1 ≡ (row_at c.args.rows.now c.args.period.now.slot).turn
  turned = c.standing-due.ensures.1 ∙ ap (λ (t : ℕ). (row_at c.args.rows.now t).turn) (sym c.requires.slot)

  offered : c.offer_of.result ≡ offer (setting c.args.kinds.now c.args.received) log c.args.period.now.n c.args.period.now.slot c.args.period.now.phase
  offered = c.offer_of.ensures.offer log c.args.kinds.now c.args.rows.now from (record {
    all = c.brief-brief.ensures.whole;
    few = c.brief-brief.ensures.few;
    owed = c.standing-due.ensures.0 ∙ ap (λ (t : ℕ). (row_at c.args.rows.now t).due) (sym c.requires.slot);
  })

pub returns-in_err-choice-clause-offer : goal.returns-in_err-choice-clause-offer
returns-in_err-choice-clause-offer c log from =
    let d = (goal.at.returns-in_err-choice-clause-offer c).After-offer_of in
    ap (option_map choice_of) c.from_residual.ensures ∙ sym (sym (offered d log from) ∙ c.in_err-choice.was)

pub returns-clause-offer : goal.returns-clause-offer
returns-clause-offer c log from =
    let d = (goal.at.returns-clause-offer c).After-offer_of in
    sym c.in_ok-choice.was ∙ offered d log from

pub returns-clause-ranked : goal.returns-clause-ranked
returns-clause-ranked c log from sent =
    let o = setting c.args.kinds.now c.args.received in
    let e = c.args.period.now in
    let d = (goal.at.returns-clause-ranked c).After-offer_of in
    let names = offer_names o log e.n e.slot e.phase c.in_ok-choice.choice (sym (offered d log from) ∙ c.in_ok-choice.was) in
    c.rank-priority.ensures log c.args.received c.args.kinds.now c.args.rows.now from.told from.rows sent from.holds (record { weighs = c.brief-brief.ensures.weight; turned = turned d log from }) ∙ ap (priority o log) (sym names.number)
