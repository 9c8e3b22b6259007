-- A client is honest, over lines, where no line `raw` brings its server bytes; over the steps of its journal, where none of them brings
-- such bytes. It is one thing. And whoever a client is, no two of its periods hold one slot: so the period whose values a copy shows is one.
use Rattle.std.specs.Prelude.{ℕ, ◌≡◌, ◌<◌, ◌↔◌, take, Some}
use Rattle.ghost_model.specs.Ghosts.{slot}
use Rattle.pair_core.specs.Conditions.{IsHonest}
use Rattle.match_script.specs.declared.types.Script.{Script}
use Rattle.match_script.specs.Ranges.{HasRanges}
use Rattle.match_laws.specs.Laws.{journal_of}
use Rattle.match_laws.specs.Words.{HasNoRaw}
use Rattle.match_laws.specs.Values.{moment_of, ghosts_then}

-- none of the first n lines is a `raw` line of the client exactly where its journal after them has no step of the kind
abbrev pub HonestByLines : Type 0
HonestByLines = (s : Script) (c n : ℕ) → HasNoRaw c (take n s.body) ↔ IsHonest (journal_of s c n)

-- at every line, two periods of a client that hold one slot are one
abbrev pub OneHolder : Type 0
OneHolder = (s : Script) (c n : ℕ) → HasRanges s → c < s.head.clients
    → (p q at : ℕ) → slot (ghosts_then (moment_of s c n)) p ≡ Some at → slot (ghosts_then (moment_of s c n)) q ≡ Some at → p ≡ q
