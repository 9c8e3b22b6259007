use Rattle.std.proofs.Common.{◌≡◌, ◌∙◌, sym, ap, ◌-◌, ◌+◌, ◌*◌, ◌∷◌, [], ℕ, subst, arith, length, length-append, get_or}
use Rattle.std.proofs.lemmas.List.{length-replicate}
use Rattle.dirty_lanes.specs.declared.view.SimView.{SimView}
use Rattle.dirty_lanes.specs.declared.view.View.TheVariants.{Sim, Packer}
use Rattle.dirty_lanes.specs.Rule.{one_less, new_packer}
use Rattle.dirty_lanes.specs.Named.{IsRow}
use Rattle.dirty_lanes.proofs.Plays.{Mine}
use Rattle.dirty_lanes.proofs.Moves.{opens}
use Rattle.dirty_lanes.proofs.Rows.{nought, zeros, gives_as, row_snoc}
use Rattle.dirty_lanes.proofs.fresh.FreshLanes.make.Goals as goal

pub of_words-requires : goal.of_words-requires
of_words-requires c =
    let e = c.as_slice.ensures.value ∙ c.in_ok-zeros.ensures in
    opens c.args.objects c.args.clients _ (ap (λ z. length z) e ∙ length-replicate (32 * c.args.objects + 1) nought) (λ i. ap (λ z. get_or z i 0) e ∙ zeros (32 * c.args.objects + 1) i)

pub split_seat-requires : goal.split_seat-requires
split_seat-requires c =
    let i = c.loop.invariant in
    let t = c.loop-test.true in
    let n = c.in_ok-table.ensures in
    let len = c.as_slice.ensures.len in
    let words : c.in_ok-table.table.shared.table_id.words ≡ 32 * c.args.objects + 1 = n.0 ∙ ap (λ z. length z) (c.as_slice.ensures.value ∙ c.in_ok-zeros.ensures) ∙ length-replicate (32 * c.args.objects + 1) nought in (
      i.0,
      omega arith,
      gives_as _ c.args.objects c.loop.sim.id c.loop.sim.me (record { left = c.args.clients - c.loop.counter; joined = []; steps = [] }) i.1 (omega arith),
    )

pub loop-preserved : goal.loop-preserved
loop-preserved c =
    let i = c.loop.invariant in
    let s = c.split_seat.ensures in
    let t = c.loop-test.true in
    let v : SimView = record { left = c.args.clients - c.loop.counter; joined = []; steps = [] } in
    let count = i.3 in
    let left : c.args.clients - c.loop.counter - 1 ≡ c.args.clients - (c.loop.counter + 1) = omega arith in
    let who : c.args.clients - c.loop.counter - 1 ≡ c.args.clients - length c.loop.packs.items - 1 = omega arith in
    let items = c.in_ok-push.ensures.items in (
      s.0 ∙ i.0,
      s.2 ∙ ap (λ (z : Mine). (one_less z.0, z.1)) i.1 ∙ ap (λ (n : ℕ). (Sim (record { left = n; joined = []; steps = [] }), [])) left,
      subst (λ z. IsRow c.in_ok-table.table.shared.table_id c.args.clients z) (sym items)
          (row_snoc c.in_ok-table.table.shared.table_id c.args.clients c.loop.packs.items c.split_seat.result i.2 (s.3 ∙ i.0) (s.4 ∙ ap (λ (z : Mine). (new_packer z.0, [])) i.1 ∙ ap (λ (n : ℕ). (Packer (record { client = n; steps = [] }), [])) who)),
      ap (λ z. length z) items ∙ length-append c.loop.packs.items (c.split_seat.result ∷ []) ∙ omega arith,
    )
