use Rattle.stream_manager.specs.Stands.{terms_of}
use Rattle.ghost_logs.proofs.Agree.{loses-nothing}
use Rattle.ghost_logs.proofs.no_change_is_lost.Goals as goal

pub returns : goal.returns
returns x conn s client c server stands j = loses-nothing (terms_of conn) s c server.masks.legal j
