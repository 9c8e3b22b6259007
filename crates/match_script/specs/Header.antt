-- What the lines of a header say: the format, the numbers of a match, its blocks, and what stands in its world at the start.
use Rattle.std.specs.Prelude.{ℕ, pos, ◌≡◌, ◌^◌, List, [], ◌∷◌, length, ◌&&◌, Bool, true, false, nat_lt, if◌then◌else◌, codes, Option, Some, None, Result, Ok, Err, refl}
use Rattle.std.specs.List.{list_all}
use Rattle.tn_types.specs.declared.limits.TheConstants.{MAX_CLIENTS, MAX_LIFE, MIN_DATAGRAM_BYTES, MAX_DATAGRAM_BYTES, MAX_BLOCKS, MAX_BLOCK_BYTES, MAX_OBJECTS}
use Rattle.match_script.specs.declared.limits.TheConstants.{MAX_RADIUS}
use Rattle.world_rules.specs.declared.limits.TheConstants.{MAX_COORDINATE}
use Rattle.world_rules.specs.declared.kinds.TheConstants.{PLAYER, MINE, DRONE, FLAG, CLOCK}
use Rattle.world_rules.specs.declared.setup.Spawn.{Spawn}
use Rattle.match_script.specs.declared.types.ScriptFault.{ScriptFault}
use Rattle.match_script.specs.declared.types.ScriptFault.TheVariants.{UnknownWord}
use Rattle.match_script.specs.declared.types.Head.{Head}
use Rattle.match_script.specs.Words.{◌>>=◌, number, number_from, hex}
use Rattle.match_script.specs.Lines.{is}

abbrev pub without_fault : {A : Type 0} → Result A ScriptFault → Option A
without_fault (Ok x) = Some x
without_fault (Err e) = None

-- the version that a word names
unfoldable pub version_named : List ℕ → Option ℕ
version_named word = if is word (codes "1") then Some 1 else if is word (codes "2") then Some 2 else None

-- `tribes VERSION`: the version
unfoldable pub version_line : List (List ℕ) → Option ℕ
version_line (kind ∷ version ∷ []) = if is kind (codes "tribes") then version_named version else None
version_line _ = None

-- the five numbers of `match SEED CLIENTS LIFE SIZE RADIUS`, as a header with no block and no object yet
unfoldable pub match_numbers : ℕ → List ℕ → List ℕ → List ℕ → List ℕ → List ℕ → Result Head ScriptFault
match_numbers version seed clients life size radius = do
  seed ← number (2 ^ 32) seed
  clients ← number_from 1 MAX_CLIENTS clients
  life ← number_from 1 MAX_LIFE life
  size ← number_from MIN_DATAGRAM_BYTES MAX_DATAGRAM_BYTES size
  radius ← number_from 0 MAX_RADIUS radius
  Ok (record {
    version = version;
    seed = seed;
    clients = clients;
    life = life;
    size = size;
    radius = radius;
    blocks = [];
    setup = record { clients = clients; radius = radius; spawns = [] };
  })

unfoldable pub match_line : ℕ → List (List ℕ) → Option Head
match_line version (kind ∷ seed ∷ clients ∷ life ∷ size ∷ radius ∷ []) =
    if is kind (codes "match") then without_fault (match_numbers version seed clients life size radius) else None
match_line version _ = None

-- `block HEX`: block k of the script, counted from 0
unfoldable pub block_line : ℕ → List (List ℕ) → Option (List ℕ)
block_line k (kind ∷ bytes ∷ []) =
    if is kind (codes "block") && nat_lt k MAX_BLOCKS then without_fault (hex MAX_BLOCK_BYTES bytes) else None
block_line k _ = None

-- `go` ends the header
unfoldable pub is_go : List (List ℕ) → Bool
is_go (kind ∷ []) = is kind (codes "go")
is_go _ = false

-- ---- players and what else is there from the start

-- an object is a player of a client below this one
abbrev pub is_earlier_player : ℕ → Option ℕ → Bool
is_earlier_player client None = false
is_earlier_player client (Some owner) = nat_lt owner client

-- an object with this owner may stand behind these: a player behind players of lesser clients alone
abbrev pub may_follow : List Spawn → Option ℕ → Bool
may_follow before None = true
may_follow before (Some client) = list_all (λ s. is_earlier_player client s.owner) before

-- the kind that a word names, of those that `spawn` makes
unfoldable pub kind_named : List ℕ → Result ℕ ScriptFault
kind_named word =
    if is word (codes "mine") then Ok MINE
    else if is word (codes "drone") then Ok DRONE
    else if is word (codes "flag") then Ok FLAG
    else if is word (codes "clock") then Ok CLOCK
    else Err UnknownWord

-- an object at a place: of this kind and owner, with its block, its team and its two coordinates
unfoldable pub placed : ℕ → ℕ → Option ℕ → List ℕ → List ℕ → List ℕ → List ℕ → Result Spawn ScriptFault
placed blocks kind owner block team x y = do
  block ← number blocks block
  team ← number 2 team
  x ← number_from 0 MAX_COORDINATE x
  y ← number_from 0 MAX_COORDINATE y
  Ok (record { kind = kind; block = block; team = team; x = pos x; y = pos y; owner = owner })

-- `player C BLOCK TEAM X Y`
unfoldable pub player_words : ℕ → ℕ → List ℕ → List ℕ → List ℕ → List ℕ → List ℕ → Result Spawn ScriptFault
player_words clients blocks c block team x y = do
  client ← number clients c
  placed blocks PLAYER (Some client) block team x y

-- `spawn KIND BLOCK TEAM X Y`
unfoldable pub spawn_words : ℕ → List ℕ → List ℕ → List ℕ → List ℕ → List ℕ → Result Spawn ScriptFault
spawn_words blocks kind block team x y = do
  kind ← kind_named kind
  placed blocks kind None block team x y

-- the object that a line of a header with so many clients and blocks names
unfoldable pub named : ℕ → ℕ → List (List ℕ) → Option Spawn
named clients blocks (kind ∷ what ∷ block ∷ team ∷ x ∷ y ∷ []) =
    if is kind (codes "player") then without_fault (player_words clients blocks what block team x y)
    else if is kind (codes "spawn") then without_fault (spawn_words blocks what block team x y)
    else None
named clients blocks _ = None

abbrev pub if_placed : List Spawn → Option Spawn → Option Spawn
if_placed before None = None
if_placed before (Some s) = if may_follow before s.owner && nat_lt (length before) MAX_OBJECTS then Some s else None

-- the object that a line gives behind these: one that may follow them, as long as there is a place
abbrev pub object_line : ℕ → ℕ → List Spawn → List (List ℕ) → Option Spawn
object_line clients blocks before words = if_placed before (named clients blocks words)

-- ---- examples

version_2 : version_line (codes "tribes" ∷ codes "2" ∷ []) ≡ Some 2
unfolding version_line version_named
version_2 = refl

no_version_3 : version_line (codes "tribes" ∷ codes "3" ∷ []) ≡ None
unfolding version_line version_named
no_version_3 = refl

a_player : object_line 2 1 [] (codes "player" ∷ codes "1" ∷ codes "0" ∷ codes "1" ∷ codes "5" ∷ codes "65535" ∷ [])
    ≡ Some (record { kind = PLAYER; block = 0; team = 1; x = pos 5; y = pos 65535; owner = Some 1 })
unfolding named player_words placed number number_from
a_player = refl

abbrev mine : Spawn
mine = record { kind = MINE; block = 0; team = 0; x = pos 0; y = pos 0; owner = None }

no_player_behind_a_mine : object_line 2 1 (mine ∷ []) (codes "player" ∷ codes "1" ∷ codes "0" ∷ codes "1" ∷ codes "5" ∷ codes "5" ∷ []) ≡ None
unfolding named player_words placed number number_from
no_player_behind_a_mine = refl

no_such_block : object_line 2 1 [] (codes "spawn" ∷ codes "flag" ∷ codes "1" ∷ codes "1" ∷ codes "5" ∷ codes "5" ∷ []) ≡ None
unfolding named spawn_words kind_named placed number
no_such_block = refl

no_block_after_the_last : block_line MAX_BLOCKS (codes "block" ∷ codes "61" ∷ []) ≡ None
unfolding block_line
no_block_after_the_last = refl
