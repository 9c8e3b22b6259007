-- A period that is shown and not hidden isn't Gone.
use Rattle.std.proofs.Common.{◌≡◌, ℕ, true, false, refl}
use Rattle.ghost_model.specs.declared.phase.Phase.{Phase}
use Rattle.ghost_model.specs.declared.phase.Phase.TheVariants.{Waiting, Wanted, Creating, Leaving, Live, KillDue, Killing, Gone}
use Rattle.ghost_model.specs.Phases.{is_up, is_gone}
use Rattle.ghost_scope.specs.Table.{Table}
use Rattle.ghost_scope.specs.Shown.{IsUp, IsAlive}

not-gone : (phase : Phase) → is_up phase ≡ true → is_gone phase ≡ false
not-gone Waiting up = refl
not-gone Wanted up = refl
not-gone Creating up = refl
not-gone Leaving up = refl
not-gone Live up = refl
not-gone KillDue up = refl
not-gone Killing up = refl
not-gone Gone up = cc

pub up-alive : (p : Table) (n : ℕ) → IsUp p n → IsAlive p n
up-alive p n up = record { shown = up.shown; alive = not-gone _ up.up }
