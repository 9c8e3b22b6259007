-- What an export answers by its handle: where nothing is behind it, it says so; else this holds of what is.
use Rattle.std.specs.Prelude.{◌≡◌, ◌⊎◌, ℕ, ℤ, pos, Option}
use Rattle.tribes_link.specs.declared.answering.TheConstants.{NO_MEMORY}
use Rattle.tribes_link.specs.Behind.{Tells}

pub record AnswersAt {T : Type 0} (opened state : ℕ) (none : ℤ) (held : Option T) (code : ℤ) (Holds : T → Type 0) : Type 0 where
  pub closed : (state ≡ opened → ⊥) → code ≡ none
  pub some : state ≡ opened → Tells Holds held

-- what a call that makes something with no condition answers
abbrev pub IsMadeIfRoom : ℤ → Type 0
IsMadeIfRoom code = (code ≡ pos 0) ⊎ (code ≡ NO_MEMORY)
