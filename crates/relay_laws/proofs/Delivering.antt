-- What was delivered to a spectator is the first of what was delivered to the relay, and that the first of what the match posted to it.
use Rattle.std.proofs.Common.{◌≡◌, ◌∙◌, ℕ, ◌<◌, List, ◌++◌, sym, ap, subst, arith, append_assoc}
use Rattle.std.specs.Prelude.{reverse}
use Rattle.std.specs.List.{AllByRecursion}
use Rattle.tn_types.specs.Prefix.{IsPrefixOf}
use Rattle.event_manager.specs.Posted.{guaranteed_of}
use Rattle.stream_manager.specs.Limits.{Terms, AreTerms}
use Rattle.stream_manager.specs.Packets.{delivered_to}
use Rattle.stream_manager.specs.Server.{server_end}
use Rattle.stream_manager.proofs.Packets.{shows-alike}
use Rattle.pair_core.specs.History.{PairStep, history}
use Rattle.pair_core.specs.Answers.{client_delivered}
use Rattle.pair_core.specs.Conditions.{AreMet, IsHonest}
use Rattle.pair_core.specs.Conditions.{IsPayload, StepFits}
use Rattle.pair_copies.specs.pair_laws.Laws.{posted_at}
use Rattle.pair_copies.proofs.Below.pair_laws.Delivered.{good}
use Rattle.pair_copies.proofs.Below.pair_laws.InOrder.{delivers_down}
use Rattle.match_script.specs.declared.types.Head.{Head}
use Rattle.own_lists.specs.Kept.{journal}
use Rattle.own_lists.specs.Past.{client_terms, after}
use Rattle.own_lists.specs.Agreement.{OwnListsHold}
use Rattle.own_lists.proofs.Meeting.{are_met}
use Rattle.match_laws.specs.Laws.{EventsInOrder}
use Rattle.relay_script.specs.declared.entries.Entry.{Entry}
use Rattle.relay_model.specs.Watching.{WatchEvent}
use Rattle.relay_model.specs.Items.{items_of}
use Rattle.relay_report.specs.Met.{past_of, match_past, end_of, spectator_terms, met}
use Rattle.relay_laws.specs.Delivered.{SpectatorsDeliverWhatWasPosted}
use Rattle.relay_laws.proofs.Places.{AreEntries, are_entries}
use Rattle.relay_laws.proofs.Meeting.{table_none, met_packets, met_own, holds}
use Rattle.relay_laws.proofs.Fine.{came, are_honest, are_fit}
use Rattle.relay_laws.proofs.Match.{IsHonestAt, delivers, delivered_fit, spectator_limits}
use Rattle.relay_laws.proofs.Posted.{are_taken}

front_of_front : {X : Type 0} (xs ys zs : List X) → IsPrefixOf xs ys → IsPrefixOf ys zs → IsPrefixOf xs zs
front_of_front {X} xs ys zs a b =
    (a.0 ++ b.0, sym (append_assoc xs a.0 b.0) ∙ ap (λ (l : List X). l ++ b.0) a.1 ∙ b.1)

module _ (head : Head) (c s : ℕ) (below : c < head.clients) (few : s < 16) (past : List Entry) (h : AreEntries head past)
    (honest : IsHonestAt head c (match_past past)) where
  abbrev pub t : Terms
  t = spectator_terms head s

  abbrev pub events : List WatchEvent
  events = met head c s past

  abbrev pub steps : List PairStep
  steps = journal (spectator_terms head s) (items_of (spectator_terms head s) (met head c s past))

  abbrev relay_steps : List PairStep
  relay_steps = journal (client_terms head c) ((after head (match_past past)).own c)

  pub limits : AreTerms (spectator_terms head s)
  limits = spectator_limits head c s below few past h

  pub meet : AreMet (spectator_terms head s) (journal (spectator_terms head s) (items_of (spectator_terms head s) (met head c s past)))
  meet = are_met t table_none (items_of t events) (holds head c s past h).own

  came_is : came t events ≡ guaranteed_of (client_delivered (client_terms head c) relay_steps)
  came_is =
      ap guaranteed_of (ap delivered_to (met_packets head c s past) ∙ (shows-alike (end_of head c (match_past past))).delivered)

  module _ (in_order : EventsInOrder) (own : OwnListsHold) where
    came_fits : AllByRecursion IsPayload (came t events)
    came_fits = subst (AllByRecursion IsPayload) (sym came_is) (delivered_fit in_order own head c below past h honest)

    pub clean : IsHonest (journal (spectator_terms head s) (items_of (spectator_terms head s) (met head c s past)))
    clean = are_honest t events (met_own head c s past) came_fits

    pub fit : AllByRecursion StepFits (journal (spectator_terms head s) (items_of (spectator_terms head s) (met head c s past)))
    fit = are_fit t events (met_own head c s past) came_fits

    abbrev posted : List (List ℕ)
    posted = posted_at (server_end (history (client_terms head c) relay_steps).server)

    pub delivered_is_posted : IsPrefixOf (guaranteed_of (client_delivered t steps)) (posted_at (server_end (history (client_terms head c) relay_steps).server))
    delivered_is_posted =
        let here = delivers_down t steps limits (good t limits steps fit meet clean) in
        let there = (are_taken t events (met_own head c s past)).front in
        let relayed = delivers head c below past h in_order honest in
        let delivered = guaranteed_of (client_delivered t steps) in
        front_of_front delivered (came t events) posted
        (front_of_front delivered (posted_at (server_end (history t steps).server)) (came t events) here there)
        (subst (λ (l : List (List ℕ)). IsPrefixOf l posted) (sym came_is) relayed)

pub spectators_deliver : EventsInOrder → OwnListsHold → SpectatorsDeliverWhatWasPosted
spectators_deliver in_order own r before placed s ranges is lt honest =
    let few = ranges.spectators in
    delivered_is_posted r.script.head r.client s ranges.client (omega (arith, few, lt)) (past_of r.script.body placed.behind (reverse before))
    (are_entries r before placed ranges is) honest in_order own
