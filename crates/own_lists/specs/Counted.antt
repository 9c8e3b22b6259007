-- Which lines are counted: those that make a tick, a scan or a datagram. A match does no more than so many of them, so that
-- what it numbers (ticks, periods, datagrams, taken moves) keeps a number; of all other lines it does any number.
use Rattle.std.specs.Prelude.{ℕ, ◌≡◌, ◌+◌, List, [], ◌∷◌, refl}
use Rattle.match_script.specs.declared.types.BodyLine.{BodyLine}
use Rattle.match_script.specs.declared.types.BodyLine.TheVariants as script

-- 1 for a line of those that are counted
abbrev pub counted : BodyLine → ℕ
counted script.Tick = 1
counted (script.Scan c) = 1
counted (script.Pack c) = 1
counted (script.ClientPack c) = 1
counted line = 0

-- how many of these lines are counted
abbrev pub counted_in : List BodyLine → ℕ
counted_in [] = 0
counted_in (line ∷ past) = counted line + counted_in past

-- ---- an example: of a server's lines for one arrival and one turn three are counted

abbrev one_turn : List BodyLine
one_turn = script.Pack 0 ∷ script.Scan 0 ∷ script.Tick ∷ script.Raw 0 (1 ∷ []) ∷ []

three_are_counted : counted_in one_turn ≡ 3
three_are_counted = refl
