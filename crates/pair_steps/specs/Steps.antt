-- What a list of steps says of the periods of its connection, the newest step first. It looks at nothing but what was shown,
-- hidden and brought nearer.
use Rattle.std.specs.Prelude.{◌≡◌, refl, ℕ, ◌+◌, ◌==◌, Bool, true, false, not, ◌||◌, List, [], ◌∷◌, filter, if◌then◌else◌}
use Rattle.ghost_model.specs.Words.{upto}
use Rattle.ghost_model.specs.Scope.{Traits}
use Rattle.pair_core.specs.History.{PairStep, Show, Hide, Near, Pack, ClientPack}

-- how many periods were shown: they are numbered from 0
abbrev pub shows_in : List PairStep → ℕ
shows_in [] = 0
shows_in (Show kind block level control ∷ steps) = shows_in steps + 1
shows_in (_ ∷ steps) = shows_in steps

abbrev pub is_hidden_in : List PairStep → ℕ → Bool
is_hidden_in [] n = false
is_hidden_in (Hide m ∷ steps) n = (m == n) || is_hidden_in steps n
is_hidden_in (_ ∷ steps) n = is_hidden_in steps n

-- the periods that are shown and not hidden, rising
abbrev pub up_in : List PairStep → List ℕ
up_in steps = filter (λ n. not (is_hidden_in steps n)) (upto (shows_in steps))

-- what n was shown with, and the last level that it was brought to
abbrev pub traits_in : List PairStep → ℕ → Traits
traits_in [] n = record { kind = 0; block = 0; level = 0; control = false }
traits_in (Show k b l c ∷ steps) n =
    if n == shows_in steps then record { kind = k; block = b; level = l; control = c } else traits_in steps n
traits_in (Near m l ∷ steps) n = if m == n then record (traits_in steps n) { level = l } else traits_in steps n
traits_in (_ ∷ steps) n = traits_in steps n

-- no pack
abbrev pub IsNoPack : PairStep → Type 0
IsNoPack (Pack drains reads) = ⊥
IsNoPack step = Unit {0}

-- ---- an example: two periods are shown, the first is hidden

two_shown : List PairStep
two_shown = Hide 0 ∷ ClientPack ∷ Near 1 2 ∷ Show 4 0 3 false ∷ Show 0 0 0 true ∷ []

one_is_up : up_in two_shown ≡ 1 ∷ []
unfolding two_shown upto
one_is_up = refl

at_level_two : traits_in two_shown 1 ≡ record { kind = 4; block = 0; level = 2; control = false }
unfolding two_shown
at_level_two = refl
