use Rattle.messages.proofs.InOrder.{handed-front, whole-front, all-whole}
use Rattle.messages.proofs.laws.messages_in_order.Goals as goal

pub returns-clause-front : goal.returns-clause-front
returns-clause-front c = handed-front

pub returns-clause-whole : goal.returns-clause-whole
returns-clause-whole c = whole-front

pub returns-clause-all : goal.returns-clause-all
returns-clause-all c = all-whole
