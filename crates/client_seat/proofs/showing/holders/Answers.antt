use Rattle.std.proofs.Common.{◌≡◌, ◌<◌, ◌≤◌, refl, ◌∙◌, ap, sym, subst, length, get_or, not, arith, List, length-set}
use Rattle.std.specs.Prelude.{Option, None}
use Rattle.std.proofs.lemmas.List.{get_or-replicate, take_all}
use Rattle.tn_types.specs.declared.choices.Drain.{Drain}
use Rattle.ghost_model.specs.Ghosts.{slot}
use Rattle.stream_manager.specs.Limits.{Terms}
use Rattle.stream_manager.specs.Stands.{ConnState, ConnStandsFor}
use Rattle.stream_manager.specs.Server.{ghost_log}
use Rattle.own_lists.specs.pair_core.History.{PairStep, history}
use Rattle.own_lists.specs.pair_core.Stands.{StandsFor}
use Rattle.client_seat.specs.Told.{holder_at}
use Rattle.client_seat.proofs.Copies.{no-slot, held-slot, free-slot}
use Rattle.client_seat.proofs.showing.holders.Goals as goal
use Rattle.client_seat.proofs.showing.holders.Goals.{in-Some+then-is_none, in-Some+else-is_none, in_default}

pub loop-d-init : goal.loop-d-init
loop-d-init c = record { long = refl; held = λ t steps s at lt. get_or-replicate 256 at None None lt }

pub loop-d-preserved : goal.loop-d-preserved
loop-d-preserved c =
    let written = c.args.written.now in
    let i = c.loop-d.d-index in
    let d : Drain = record { n = 0; bits = 0 } in
    let lt : i < length written = omega arith in
    let told : (t : Terms) (steps : List PairStep) → StandsFor c.args.pair.now t steps → c.slot.result ≡ slot (ghost_log (history t steps).server) (get_or written i d).n =
    λ t steps s. c.slot.ensures.told (history t steps).server (subst (λ (o : ConnState). ConnStandsFor o (history t steps).server) (sym c.conn.ensures) s.conn) in
    elim c.match-slot.branch [
      | in-Some+then-is_none w ↦ record {
        long = ap (λ (l : List (Option Drain)). length l) w.holders-is ∙ length-set c.loop-d.holders w.in-Some.slot _ ∙ c.loop-d.invariant.long;
        held = λ t steps s at within.
            ap (λ (l : List (Option Drain)). get_or l at None) w.holders-is
            ∙ free-slot (λ d. slot (ghost_log (history t steps).server) d.n) written i d lt c.loop-d.holders at (c.loop-d.invariant.held t steps s at within) w.in-Some.slot (omega (arith, c.loop-d.invariant.long))
            (sym (told t steps s) ∙ w.in-Some.is) (w.is_none.ensures ∙ ap not w.if-is_none.true);
      }
      | in-Some+else-is_none w ↦ record {
        long = ap (λ (l : List (Option Drain)). length l) w.holders-is ∙ c.loop-d.invariant.long;
        held = λ t steps s at within.
            ap (λ (l : List (Option Drain)). get_or l at None) w.holders-is
            ∙ held-slot (λ d. slot (ghost_log (history t steps).server) d.n) written i d lt c.loop-d.holders at (c.loop-d.invariant.held t steps s at within) w.in-Some.slot
            (sym (told t steps s) ∙ w.in-Some.is) (w.is_none.ensures ∙ ap not w.if-is_none.false);
      }
      | in_default w ↦ record {
        long = ap (λ (l : List (Option Drain)). length l) w.holders-is ∙ c.loop-d.invariant.long;
        held = λ t steps s at within.
            ap (λ (l : List (Option Drain)). get_or l at None) w.holders-is
            ∙ no-slot (λ d. slot (ghost_log (history t steps).server) d.n) written i d lt c.loop-d.holders at (c.loop-d.invariant.held t steps s at within) (sym (told t steps s) ∙ w.in_default.is);
      }
    ]

pub returns : goal.returns
returns c t steps s at lt =
    let all : length c.args.written.now ≤ c.loop-d.d-index = omega arith in
    c.loop-d.invariant.held t steps s at lt ∙ ap (λ (l : List Drain). holder_at t steps l at) (take_all c.loop-d.d-index c.args.written.now all)
