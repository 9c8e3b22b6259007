use Rattle.std.proofs.Common.{◌≡◌, ◌∙◌, ap, sym, subst, arith, []}
use Rattle.std.specs.Prelude.{None, Some}
use Rattle.ghost_model.specs.Ghosts.{slot}
use Rattle.ghost_scope.specs.Shown.{IsUp}
use Rattle.std.specs.Option.{option_copied, option_map}
use Rattle.ghost_client.specs.declared.copy.GhostCopy.{GhostCopy}
use Rattle.ghost_client.specs.Copies.{copy_of}
use Rattle.ghost_client.specs.State.{State}
use Rattle.ghost_client.specs.StandsFor.{StandsFor as CopiesStandFor}
use Rattle.ghost_masks.specs.Plan.{is_slot}
use Rattle.ghost_masks.proofs.Holders.{built_none, built_some, built_not}
use Rattle.stream_manager.specs.Client.{ghosts_came}
use Rattle.stream_manager.specs.Server.{ghost_log}
use Rattle.stream_manager.specs.Stands.{ClientState}
use Rattle.own_lists.specs.pair_core.History.{history}
use Rattle.match_report.specs.declared.copies.CopyTold.{CopyTold}
use Rattle.client_seat.specs.Told.{holder_at, fields_told, copy_told, slot_told}
use Rattle.client_seat.proofs.Copies.{found-of}
use Rattle.client_seat.proofs.showing.copies_of.Goals as goal
use Rattle.client_seat.proofs.showing.copies_of.Goals.{in-Some+in_ok-push, in_default}

pub loop-slot-init : goal.loop-slot-init
loop-slot-init c t steps s = c.new-copies.ensures ∙ built_none (slot_told t steps c.args.written.now) []

pub fields_of-requires : goal.fields_of-requires
fields_of-requires c =
    let r = c.requires.stands in
    record {
      up = λ d is.
          found-of (λ d. is_slot c.loop-slot.slot (slot (ghost_log (history r.0 r.1).server) d.n)) (λ d. IsUp c.args.pair.now.conn.masks.periods d.n) c.args.written.now d
          (sym (c.holders-holders.ensures r.0 r.1 r.2 c.loop-slot.slot (omega arith)) ∙ is) c.requires.up;
    }

pub loop-slot-preserved : goal.loop-slot-preserved
loop-slot-preserved c t steps s =
    let at = c.loop-slot.slot in
    let written = c.args.written.now in
    let items = ghosts_came (history t steps).client in
    let stood : CopiesStandFor c.copies.result.now items =
    subst (λ (x : State). CopiesStandFor x items) (sym (c.copies.ensures ∙ ap (λ (x : ClientState). x.copies) c.client.ensures)) s.client.copies in
    let got : option_copied c.get.result ≡ copy_of items at = c.get.ensures.told items stood in
    elim c.match-get.branch [
      | in-Some+in_ok-push w ↦
          (let copy : GhostCopy = w.in-Some.copy.now in
          let here : copy_of items at ≡ Some copy = sym got ∙ ap (λ o. option_copied o) w.in-Some.is in
          let fields : w.fields_of.result ≡ fields_told t steps (holder_at t steps written at) copy =
          w.fields_of.ensures t steps s copy here ∙ ap (λ h. fields_told t steps h copy) (c.holders-holders.ensures t steps s at (omega arith)) in
          let told : CopyTold = record { slot = at; kind = copy.kind; block = copy.block; fields = w.fields_of.result } in
          let is : slot_told t steps written at ≡ Some told =
          ap (option_map (copy_told t steps written at)) here ∙ (λ j. Some (record { slot = at; kind = copy.kind; block = copy.block; fields = sym fields j })) in
          built_some (slot_told t steps written) [] at c.loop-slot.copies c.match-get.copies told is (c.loop-slot.invariant t steps s) (w.copies-is ∙ w.in_ok-push.ensures.ok))
      | in_default w ↦
          (let here : copy_of items at ≡ None = sym got ∙ ap (λ o. option_copied o) w.in_default.is in
          built_not (slot_told t steps written) [] at c.loop-slot.copies c.match-get.copies (ap (option_map (copy_told t steps written at)) here) (c.loop-slot.invariant t steps s) w.copies-is)
    ]
