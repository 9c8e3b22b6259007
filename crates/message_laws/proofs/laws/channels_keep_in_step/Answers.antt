use Rattle.std.proofs.Common.{refl}
use Rattle.tn_types.specs.declared.choices.Class.TheVariants.{Guaranteed}
use Rattle.messages.specs.OutboxStands.{HandedOn, handed_on, posted_of}
use Rattle.messages.specs.InboxStands.{Took, took_of, handed_out}
use Rattle.pair_laws.specs.Laws.{posted_at}
use Rattle.stream_manager.specs.Server as server
use Rattle.stream_manager.specs.Client as client
use Rattle.message_laws.proofs.InStep.{grows, stays}
use Rattle.message_laws.proofs.laws.channels_keep_in_step.Goals as goal

pub returns-clause-leave : goal.returns-clause-leave
returns-clause-leave c = grows HandedOn handed_on (λ p log. refl)

pub returns-clause-none_posted : goal.returns-clause-none_posted
returns-clause-none_posted c = stays HandedOn posted_of (λ p log. refl)

pub returns-clause-server : goal.returns-clause-server
returns-clause-server c = grows (server.Posted Guaranteed) (λ log. posted_at (server.server_end log)) (λ p log. refl)

pub returns-clause-client : goal.returns-clause-client
returns-clause-client c = grows (client.Posted Guaranteed) (λ log. posted_at (client.client_end log)) (λ p log. refl)

pub returns-clause-taken : goal.returns-clause-taken
returns-clause-taken c = grows Took took_of (λ p log. refl)

pub returns-clause-none_handed : goal.returns-clause-none_handed
returns-clause-none_handed c = stays Took handed_out (λ p log. refl)
