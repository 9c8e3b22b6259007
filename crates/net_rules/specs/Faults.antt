-- How faults are told: each exactly where the count of what failed rose, of the link, of the clock or of the sink; and where all was done,
-- or memory was not to be had, none of the three rose.
use Rattle.std.specs.Prelude.{ℕ, ◌≡◌, Result, Ok, Err}
use Rattle.tn_outside.specs.Causes.{HandsOn}
use Rattle.net_rules.specs.declared.fault.NetFault.{NetFault}
use Rattle.net_rules.specs.declared.fault.NetFault.TheVariants.{NoMemory, LinkFault, ClockFault, WriteFault}

-- how often a link, a clock and a sink have failed
pub record Counts : Type 0 where
  pub link : ℕ
  pub clock : ℕ
  pub sink : ℕ

abbrev pub counts : ℕ → ℕ → ℕ → Counts
counts link clock sink = record { link = link; clock = clock; sink = sink }

-- each fault is answered exactly where that count rose in the call
pub record HandsOnEach {T : Type 0} (old new : Counts) (result : Result T NetFault) : Type 0 where
  pub link : HandsOn old.link new.link (result ≡ Err LinkFault)
  pub clock : HandsOn old.clock new.clock (result ≡ Err ClockFault)
  pub sink : HandsOn old.sink new.sink (result ≡ Err WriteFault)

-- all was done, or memory was not to be had
abbrev pub IsDoneOrFull : {T : Type 0} → Result T NetFault → Type 0
IsDoneOrFull (Ok x) = Unit {0}
IsDoneOrFull (Err NoMemory) = Unit {0}
IsDoneOrFull (Err fault) = ⊥
