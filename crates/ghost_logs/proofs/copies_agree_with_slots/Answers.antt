use Rattle.std.proofs.Common.{sym, ◌∙◌}
use Rattle.stream_manager.specs.Stands.{terms_of}
use Rattle.ghost_logs.proofs.Agree.{agree}
use Rattle.ghost_logs.proofs.Fits.{packets-fit}
use Rattle.ghost_logs.proofs.copies_agree_with_slots.Goals as goal

pub returns-clause-copies : goal.returns-clause-copies
returns-clause-copies x conn s client c server stands j slot copy lt e =
    agree (terms_of conn) s c server.masks.legal j slot copy (sym (stands.copies.copies slot lt) ∙ e)

pub returns-clause-packets : goal.returns-clause-packets
returns-clause-packets x conn s client c server stands j = packets-fit (terms_of conn) s c server.masks.legal j
