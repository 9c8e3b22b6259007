use Rattle.stream_manager.specs.Server.{server_end}
use Rattle.stream_manager.specs.Client.{client_end}
use Rattle.pair_core.specs.History.{history}
use Rattle.message_laws.proofs.InStep.{arrive}
use Rattle.message_laws.proofs.laws.messages_over_a_connection.Goals as goal

pub returns-clause-down : goal.returns-clause-down
returns-clause-down c t steps limits fit met honest = arrive (server_end (history t steps).server) _ (c.delivers_in_order.ensures.down t steps limits fit met honest) (c.acknowledged_is_delivered.ensures.down t steps limits fit met honest)

pub returns-clause-up : goal.returns-clause-up
returns-clause-up c t steps limits fit met honest = arrive (client_end (history t steps).client) _ (c.delivers_in_order.ensures.up t steps limits fit met honest) (c.acknowledged_is_delivered.ensures.up t steps limits fit met honest)
