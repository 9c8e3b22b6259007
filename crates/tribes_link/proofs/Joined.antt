-- What a call did to a door behind its handle; and what was told to a rate of a caller's numbers.
use Rattle.std.proofs.Common.{◌≡◌, sym, subst, ℕ, List, Option, Some}
use Rattle.std.specs.Prelude.{ℤ}
use Rattle.tn_types.specs.Histories.{Does}
use Rattle.greeting.specs.Door.{DoorState}
use Rattle.greeting.specs.declared.words.Address.{Address}
use Rattle.pace.specs.Pacing.{Pacing, PaceEvent, StandsFor}
use Rattle.tribes_link.specs.Behind.{Behind}
use Rattle.tribes_link.specs.Doors.{IsHeard}

pub heard_behind : (from a : Address) (bytes : List ℕ) (code raw : ℤ) (number : ℕ) (reply : List ℕ) (old new : DoorState) (held held' : Option DoorState)
    → held ≡ Some old → held' ≡ Some new → a ≡ from → raw ≡ code → IsHeard from bytes code number reply old new
    → Behind (λ o n. IsHeard a bytes raw number reply o n) held held'
heard_behind from a bytes code raw number reply old new held held' e1 e2 e3 e4 h = rw (e1, e2, e3, e4) h

pub does_from : (old kept mid new : Pacing) (e : PaceEvent) → kept ≡ old → new ≡ mid → Does StandsFor kept e mid → Does StandsFor old e new
does_from old kept mid new e k n does =
    subst (λ (p : Pacing). Does StandsFor p e new) k (subst (λ (p : Pacing). Does StandsFor kept e p) (sym n) does)
