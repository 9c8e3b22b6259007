-- The body of a made script: rounds, each a tick and then what every client and the server do for each other, with
-- datagrams that are brought once, twice, late or never.
use Rattle.std.specs.Prelude.{ℕ, ℤ, pos, ◌-ℤ◌, ◌-◌, ◌/◌, ◌%◌, ◌==◌, ◌&&◌, nat_lt, if◌then◌else◌, List, [], ◌∷◌, ◌++◌}
use Rattle.tn_types.specs.declared.choices.Class.TheVariants.{Guaranteed}
use Rattle.tn_types.specs.declared.choices.End.{End}
use Rattle.tn_types.specs.declared.choices.End.TheVariants.{Client, Server}
use Rattle.tn_types.specs.declared.moves.Move.{Move as PlayerMove}
use Rattle.match_script.specs.declared.types.BodyLine.{BodyLine}
use Rattle.match_script.specs.declared.types.BodyLine.TheVariants.{Tick, Scan, Post, Pack, ClientPack, Down, Up, Move}
use Rattle.tn_types.proofs.StepRanges.{step_of_four_bits}
use Rattle.script_maker.specs.declared.numbers.TheConstants.{STEPS, ACTS_ONCE_IN, POSTS_ONCE_IN, PAYLOADS, CHANCES}
use Rattle.script_maker.specs.Draws.{Drawn, just, ◌>>=◌, draw, each_below}

-- the step of a number below 16
abbrev pub step_drawn : ℕ → ℤ
step_drawn d = pos (d % 16) -ℤ pos 8

-- the move of four numbers
abbrev pub move_of : ℕ → ℕ → ℕ → ℕ → PlayerMove
move_of dx dy fire act = record {
  dx = step_drawn dx;
  dy = step_drawn dy;
  fire = fire == 0;
  act = act == 0;
  dx_range = step_of_four_bits dx;
  dy_range = step_of_four_bits dy;
}

-- a move by chance
unfoldable pub move_drawn : Drawn PlayerMove
move_drawn = do
  dx ← draw STEPS
  dy ← draw STEPS
  fire ← draw ACTS_ONCE_IN
  act ← draw ACTS_ONCE_IN
  just (move_of dx dy fire act)

-- client c samples one
unfoldable pub sample : ℕ → Drawn BodyLine
sample c = do
  m ← move_drawn
  just (Move c m)

-- the line that brings a datagram that an end of a client's connection made
abbrev pub way_line : End → ℕ → ℕ → BodyLine
way_line Client c = Up c
way_line Server c = Down c

-- the lines that bring datagram k, the last that was made, by what was drawn: none, twice the same, the one before it
-- behind it where there is one, or the line alone
abbrev pub brought : (ℕ → BodyLine) → ℕ → ℕ → List BodyLine
brought line k d =
    if d == 0 then []
    else if d == 1 then line k ∷ line k ∷ []
    else if (d == 2) && nat_lt 0 k then line k ∷ line (k - 1) ∷ []
    else line k ∷ []

-- a delivery by such lines, where k + 1 datagrams were made that way so far
unfoldable pub delivery : (ℕ → BodyLine) → ℕ → Drawn (List BodyLine)
delivery line k = do
  d ← draw CHANCES
  just (brought line k d)

-- a guaranteed event of two bytes for client c, the high byte first
unfoldable pub event : ℕ → Drawn (List BodyLine)
event c = do
  v ← draw PAYLOADS
  just (Post c Guaranteed (v / 256 ∷ v % 256 ∷ []) ∷ [])

-- a post to client c, now and then
unfoldable pub post : ℕ → Drawn (List BodyLine)
post c = do
  d ← draw POSTS_ONCE_IN
  if d == 0 then event c else just []

-- what client c and the server do for each other in round k. Each makes one datagram in a round, so that k + 1 were made
-- each way
unfoldable pub client_lines : ℕ → ℕ → Drawn (List BodyLine)
client_lines k c = do
  sampled ← sample c
  ups ← delivery (Up c) k
  posts ← post c
  downs ← delivery (Down c) k
  just (sampled ∷ ClientPack c ∷ (ups ++ Scan c ∷ (posts ++ Pack c ∷ downs)))

-- round k, counted from 0
unfoldable pub round : ℕ → ℕ → Drawn (List BodyLine)
round clients k = do
  lines ← each_below clients (client_lines k)
  just (Tick ∷ lines)
