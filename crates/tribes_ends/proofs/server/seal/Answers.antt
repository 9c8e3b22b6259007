use Rattle.std.proofs.Common.{◌≡◌, ◌∙◌, Bool, true, false, cond, Some, refl, sym, ap, length}
use Rattle.stream_manager.specs.declared.config.Config.{Config}
use Rattle.stream_manager.specs.Server.{ghost_log}
use Rattle.tribes_ends.specs.declared.refusal.Refusal.TheVariants.{BadValues, NoRoom}
use Rattle.tribes_ends.specs.Refusals.{room_refusal}
use Rattle.tribes_ends.proofs.Passing.{roomy, narrow}
use Rattle.tribes_ends.proofs.Sealing.{planned}
use Rattle.tribes_ends.proofs.server.seal.Goals as goal

pub returns-then-not-fits-clause-refused : goal.returns-then-not-fits-clause-refused
returns-then-not-fits-clause-refused c = λ log s.
    let conn = c.args.conn.now in let room = length c.args.place.now in
    ap (λ (b : Bool). cond b (room_refusal conn.common.config.size room) (Some BadValues)) (sym c.if-not-fits.true)
    ∙ planned c.args.values.now room conn log c.fits.result conn.masks.plan (c.is_planned.ensures.0 c.if-not-is_planned.false) (c.fits.ensures.told (ghost_log log) s.masks)

pub returns-in-Ok-clause-refused : goal.returns-in-Ok-clause-refused
returns-in-Ok-clause-refused c = λ log s.
    let conn = c.args.conn.now in let room = length c.args.place.now in
    roomy conn.common.config.size room (λ lt. let no : false ≡ true = c.in-Ok.ensures.small.1 lt in cc)
    ∙ ap (λ (b : Bool). cond b (room_refusal conn.common.config.size room) (Some BadValues)) (sym c.if-not-fits.false)
    ∙ planned c.args.values.now room conn log c.fits.result conn.masks.plan (c.is_planned.ensures.0 c.if-not-is_planned.false) (c.fits.ensures.told (ghost_log log) s.masks)

pub returns-in-Err-clause-refused : goal.returns-in-Err-clause-refused
returns-in-Err-clause-refused c = λ log s.
    let conn = c.args.conn.now in let room = length c.args.place.now in
    ap (λ (g : Config). Some (NoRoom g.size)) c.config.ensures.value
    ∙ narrow conn.common.config.size room (c.in-Err.ensures.small.0 refl)
    ∙ ap (λ (b : Bool). cond b (room_refusal conn.common.config.size room) (Some BadValues)) (sym c.if-not-fits.false)
    ∙ planned c.args.values.now room conn log c.fits.result conn.masks.plan (c.is_planned.ensures.0 c.if-not-is_planned.false) (c.fits.ensures.told (ghost_log log) s.masks)
