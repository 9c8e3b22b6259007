-- The step that a message of the simulation asks a connection for, and the objects of the connection's periods when it was made.
use Rattle.std.specs.Prelude.{◌≡◌, refl, ℕ, List, [], ◌∷◌, ◌++◌, false}
use Rattle.pair_core.specs.History.{PairStep, Show, Hide, Near, Post}
use Rattle.race_messages.specs.declared.message.Message.{Message}
use Rattle.race_messages.specs.declared.message.Message.TheVariants as message

abbrev pub step_for : Message → PairStep
step_for (message.Show object kind block level control) = Show kind block level control
step_for (message.Hide n) = Hide n
step_for (message.Near n level) = Near n level
step_for (message.Post class v) = Post class v

-- the object of each period, by its number: each show adds its own
abbrev pub objects_with : Message → List ℕ → List ℕ
objects_with (message.Show object kind block level control) objects = objects ++ object ∷ []
objects_with m objects = objects

-- ---- examples: a show of object 7 where one period began before

shown : step_for (message.Show 7 2 0 1 false) ≡ Show 2 0 1 false
shown = refl

added : objects_with (message.Show 7 2 0 1 false) (4 ∷ []) ≡ 4 ∷ 7 ∷ []
added = refl

a_hide_adds_none : objects_with (message.Hide 0) (4 ∷ []) ≡ 4 ∷ []
a_hide_adds_none = refl
