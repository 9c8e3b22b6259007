-- What a walk over steps finds at one place: nothing that is to be compared, or the item that is asked for next, or another.
use Rattle.std.specs.Prelude.{◌≡◌, Option, Some, None}
use Rattle.race_steps.specs.declared.fit.Fit.{Fit}
use Rattle.race_steps.specs.declared.fit.Fit.TheVariants.{Nothing, Next, Other}

-- the item at the place, if there is one, against the one that is asked for next, if there is one
abbrev pub Fits : {A : Type 0} → Option A → Option A → Fit → Type 0
Fits done asked Nothing = done ≡ None
Fits {A} done asked Next = (x : A) × (done ≡ Some x) × (asked ≡ Some x)
Fits {A} done asked Other = (x : A) × (done ≡ Some x) × (asked ≡ Some x → ⊥)
