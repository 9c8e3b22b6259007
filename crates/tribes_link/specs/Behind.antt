-- What an export did to the end behind its handle, and what it tells of it.
use Rattle.std.specs.declared.option.Option.{Option}
use Rattle.std.specs.declared.option.Option.TheVariants.{None, Some}

-- there was an end and there is one now, and `Did` holds between them
abbrev pub Behind : {T : Type 0} → (T → T → Type 0) → Option T → Option T → Type 0
Behind Did None new = ⊥
Behind Did (Some old) None = ⊥
Behind Did (Some old) (Some new) = Did old new

-- there is an end, and this holds of it
abbrev pub Tells : {T : Type 0} → (T → Type 0) → Option T → Type 0
Tells Holds None = ⊥
Tells Holds (Some end) = Holds end
