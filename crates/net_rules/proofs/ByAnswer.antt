-- What follows by an answer: from what holds where a call worked, or where it failed.
use Rattle.std.proofs.Common.{Ok, Err, refl}
use Rattle.std.specs.Prelude.{Result, OnOk, OnErr}
use Rattle.tn_outside.specs.Causes.{Rose}
use Rattle.net_rules.specs.declared.fault.NetFault.{NetFault}
use Rattle.net_rules.specs.declared.fault.NetFault.TheVariants.{NoMemory, LinkFault, ClockFault, WriteFault}
use Rattle.net_rules.specs.Faults.{Counts, HandsOnEach, IsDoneOrFull}

pub on_ok : {T E : Type 0} (r : Result T E) {P Q : Type 0} → (P → Q) → OnOk r P → OnOk r Q
on_ok (Ok x) f p = f p
on_ok (Err e) f p = p

pub on_err : {T E : Type 0} (r : Result T E) {P Q : Type 0} → (P → Q) → OnErr r P → OnErr r Q
on_err (Ok x) f p = p
on_err (Err e) f p = f p

pub on_ok2 : {T E : Type 0} (r : Result T E) {P Q S : Type 0} → (P → Q → S) → OnOk r P → OnOk r Q → OnOk r S
on_ok2 (Ok x) f p q = f p q
on_ok2 (Err e) f p q = tt

pub on_ok3 : {T E : Type 0} (r : Result T E) {P Q R S : Type 0} → (P → Q → R → S) → OnOk r P → OnOk r Q → OnOk r R → OnOk r S
on_ok3 (Ok x) f p q r = f p q r
on_ok3 (Err e) f p q r = tt

pub on_err2 : {T E : Type 0} (r : Result T E) {P Q S : Type 0} → (P → Q → S) → OnErr r P → OnErr r Q → OnErr r S
on_err2 (Ok x) f p q = tt
on_err2 (Err e) f p q = f p q

pub always_ok : {T E : Type 0} (r : Result T E) {P : Type 0} → P → OnOk r P
always_ok (Ok x) p = p
always_ok (Err e) p = tt

pub always_err : {T E : Type 0} (r : Result T E) {P : Type 0} → P → OnErr r P
always_err (Ok x) p = tt
always_err (Err e) p = p

-- where nothing failed, no fault is the answer
pub done_or_full : {T : Type 0} (r : Result T NetFault) (old new : Counts) → HandsOnEach old new r → (Rose old.link new.link → ⊥) → (Rose old.clock new.clock → ⊥) → (Rose old.sink new.sink → ⊥) → IsDoneOrFull r
done_or_full (Ok x) old new h link clock sink = tt
done_or_full (Err NoMemory) old new h link clock sink = tt
done_or_full (Err LinkFault) old new h link clock sink = link (h.link.failed refl)
done_or_full (Err ClockFault) old new h link clock sink = clock (h.clock.failed refl)
done_or_full (Err WriteFault) old new h link clock sink = sink (h.sink.failed refl)
