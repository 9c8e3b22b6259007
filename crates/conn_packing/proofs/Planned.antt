-- What was planned, and the values that were read for it.
use Rattle.std.proofs.Common.{◌≡◌, List, ◌∷◌, Option, Some, None, sym, ap, subst}
use Rattle.std.specs.Prelude.{IfSome}
use Rattle.std.specs.List.{AllByRecursion}
use Rattle.tn_types.specs.declared.choices.Choice.{Choice}
use Rattle.tn_types.specs.declared.choices.Read.{Read}
use Rattle.quantised_fields.specs.declared.kind.Kind.{Kind}
use Rattle.ghost_model.specs.Ghosts.{GhostEvent, Grant}
use Rattle.stream_manager.specs.ghost_masks.Plan.{IsItem}
use Rattle.stream_manager.specs.ghost_masks.Carried.{all_carried, AreValues}
use Rattle.stream_manager.specs.ghost_masks.StandsFor.{StandsFor as MasksStandFor}
use Rattle.stream_manager.proofs.Below.ghost_masks.Items.{plan_items}
use Rattle.stream_manager.specs.Limits.{Terms}
use Rattle.stream_manager.specs.ConnCalls.{Planning}
use Rattle.stream_manager.specs.Stands.{ConnState, ConnStandsFor, IsPlanned, terms_of}
use Rattle.stream_manager.specs.Server.{ServerEvent, ghost_log, planned, choices_at, with_plan, received_at, ghost_room}
use Rattle.conn_packing.specs.Packs.{values_of}
use Rattle.conn_packing.specs.Reads.{AreReads}
use Rattle.conn_packing.proofs.ReadValues.{same-carried}

-- the items of a plan
pub planned-items : (conn : ConnState) (log : List ServerEvent) → ConnStandsFor conn log → AllByRecursion (IsItem conn.masks.kinds (Grant ∷ ghost_log log)) (choices_at (terms_of conn) log)
planned-items conn log s = plan_items conn.masks.kinds (received_at log) (Grant ∷ ghost_log log) (tt, s.masks.legal) s.masks.table conn.common.config.version (ghost_room (terms_of conn) log)

-- behind a plan, whatever the masks stand for, the values that were read for it are those of what was planned
pub plan-fits : (old new : ConnState) (log : List ServerEvent) (reads : List Read) → ConnStandsFor old log → Planning old new → AreReads (terms_of old) log reads
    → (g : List GhostEvent) → MasksStandFor new.masks g → IfSome new.masks.plan (λ cs. AreValues (all_carried new.masks.kinds g cs) (values_of reads))
plan-fits old new log reads s p read g sg = go new.masks.plan (p.stands log s).planned
  where
    kinds : new.masks.kinds ≡ old.masks.kinds
    kinds = ap (λ (t : Terms). t.kinds) p.keeps.terms

    values : AreValues (all_carried old.masks.kinds g (choices_at (terms_of old) log)) (values_of reads)
    values =
        subst (λ fs. AreValues fs (values_of reads))
        (same-carried new.masks.periods (p.stands log s).masks.ordered old.masks.kinds (Grant ∷ ghost_log log) g (p.stands log s).masks.periods sg.periods (choices_at (terms_of old) log) (planned-items old log s)) read.fit

    go : (o : Option (List Choice)) → IfSome o (IsPlanned (terms_of new) (with_plan (terms_of old) log)) → IfSome o (λ cs. AreValues (all_carried new.masks.kinds g cs) (values_of reads))
    go None h = tt
    go (Some cs) h =
        let same : choices_at (terms_of old) log ≡ cs = ap planned h.newest in
        subst (λ (x : List Kind × List Choice). AreValues (all_carried x.0 g x.1) (values_of reads)) (λ j. (sym kinds j, same j)) values
