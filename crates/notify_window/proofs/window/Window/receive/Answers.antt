use Rattle.std.proofs.Common.{◌≡◌, ◌∙◌, ap, sym, subst, arith, not}
use Rattle.tn_types.specs.PacketKinds.{is_ping}
use Rattle.notify_window.specs.Bits.{moved_bit}
use Rattle.notify_window.specs.Log.{horizon_of, mask_of, arrival_of}
use Rattle.notify_window.specs.declared.Arrival.TheVariants.{Fresh}
use Rattle.notify_window.proofs.Horizons.{came_mask}
use Rattle.notify_window.proofs.window.Window.receive.Goals as goal

pub returns-in-Fresh-clause-fresh : goal.returns-in-Fresh-clause-fresh
returns-in-Fresh-clause-fresh c e log s =
    let was_horizon : c.self.inside.horizon ≡ horizon_of log = ap (λ w. w.horizon) c.self.view_is ∙ s.horizon in
    let was_mask : c.self.inside.mask ≡ mask_of log = ap (λ w. w.mask) c.self.view_is ∙ s.mask in
    let fresh : arrival_of (is_ping c.args.kind) c.args.seq c.self.inside.horizon ≡ Fresh =
    subst (λ n. arrival_of (is_ping c.args.kind) c.args.seq n ≡ Fresh) (sym (ap (λ w. w.horizon) c.self.view_is)) (sym c.in-Fresh.ensures) in
    record {
      bounded = record { positive = c.self.invariant.positive; judged = c.self.invariant.judged; few = c.self.invariant.few; living = c.self.invariant.living; short = c.self.invariant.short };
      sent = ap (λ w. w.sent) c.self.view_is ∙ s.sent;
      judged = ap (λ w. w.first_unjudged) c.self.view_is ∙ s.judged;
      horizon = omega (arith, c.max-self-inside.ensures, was_horizon);
      mask = came_mask c.self.inside.mask _ c.self.inside.horizon c.args.seq (is_ping c.args.kind) log was_mask was_horizon fresh c.moved-self-inside.type_inv
          (λ i l. c.moved-self-inside.ensures i l ∙ ap (λ n. moved_bit c.self.inside.mask n (not (is_ping c.args.kind)) i) c.saturating_sub.ensures);
    }
