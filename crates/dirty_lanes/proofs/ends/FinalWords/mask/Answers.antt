use Rattle.std.proofs.Common.{◌<◌, subst, arith}
use Rattle.tn_types.specs.declared.limits.TheConstants.{MAX_CLIENTS}
use Rattle.dirty_lanes.specs.Words.{IsLaidOut}
use Rattle.dirty_lanes.proofs.Calls.{mask_read}
use Rattle.dirty_lanes.proofs.ends.FinalWords.mask.Goals as goal

pub returns-clause-answer : goal.returns-clause-answer
returns-clause-answer c = mask_read _ _ _ _ _ _ c.self.view_is c.self.invariant c.requires.client c.requires.object c.mask_word.ensures c.index.ensures

pub returns-clause-narrow : goal.returns-clause-narrow
returns-clause-narrow c =
    let laid : IsLaidOut c.args.self.now = subst IsLaidOut c.self.view_is c.self.invariant in
    let few : c.args.client < MAX_CLIENTS = omega (arith, laid.few_clients) in
    rw (returns-clause-answer c) (laid.narrow c.args.client c.args.object few)

pub overflow_cast-result : goal.overflow_cast-result
overflow_cast-result c = omega (arith, returns-clause-narrow c)
