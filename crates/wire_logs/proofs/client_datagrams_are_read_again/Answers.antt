use Rattle.wire_logs.proofs.Readable.{client-read}
use Rattle.wire_logs.proofs.client_datagrams_are_read_again.Goals as goal

pub returns : goal.returns
returns x = client-read
