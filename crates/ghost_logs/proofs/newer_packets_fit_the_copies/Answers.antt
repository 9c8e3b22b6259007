use Rattle.std.proofs.Common.{sym, ◌∙◌}
use Rattle.stream_manager.specs.Stands.{terms_of}
use Rattle.ghost_logs.proofs.Refused.{refuses-no-ghosts, block-held}
use Rattle.ghost_logs.proofs.newer_packets_fit_the_copies.Goals as goal

pub returns-clause-refusals : goal.returns-clause-refusals
returns-clause-refusals x conn s client c server stands j holds = refuses-no-ghosts (terms_of conn) s c server.masks.legal j holds

pub returns-clause-blocks : goal.returns-clause-blocks
returns-clause-blocks x conn s client c server stands j holds slot copy lt e =
    block-held (terms_of conn) s c server.masks.legal j holds slot copy (sym (stands.copies.copies slot lt) ∙ e)
