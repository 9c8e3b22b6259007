use Rattle.std.proofs.Common.{◌+◌, arith}
use Rattle.match_script.specs.Text.{lines_of}
use Rattle.relay_script.proofs.Left.{left_is_script}
use Rattle.relay_script.proofs.reader.parse_relay.Goals as goal

pub returns-clause-left : goal.returns-clause-left
returns-clause-left c =
    left_is_script (lines_of c.args.bytes.now) (lines_of c.in_ok-asked.rest.now) (lines_of c.in_ok-head.rest.now) c.in_ok-asked.asked c.in_ok-head.head c.in_ok-body.body c.in_ok-body.lines (1 + c.header_length.result)
    c.in_ok-asked.ensures.value c.in_ok-head.ensures.value (omega (arith, c.header_length.ensures.value)) c.in_ok-body.ensures.value
