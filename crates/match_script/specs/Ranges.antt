-- The ranges and counts of a script. What `parse` gives has them, and each call that takes a script may rely on
-- them. The steps of a move have theirs by the move's type.
use Rattle.std.specs.Prelude.{ℕ, ◌≡◌, ◌^◌, ◌<◌, ◌≤◌, List, length}
use Rattle.std.specs.List.{All}
use Rattle.tn_types.specs.Bytes.{AreBytes}
use Rattle.tn_types.specs.declared.limits.TheConstants.{MAX_CLIENTS, MAX_LIFE, MIN_DATAGRAM_BYTES, MAX_DATAGRAM_BYTES, MAX_EVENT_BYTES, MAX_BLOCKS, MAX_BLOCK_BYTES}
use Rattle.match_script.specs.declared.limits.TheConstants.{MAX_RADIUS, MAX_BODY_LINES}
use Rattle.world_rules.specs.Spawning.{SetupFits}
use Rattle.match_script.specs.declared.limits.TheConstants.{MIN_VERSION, MAX_VERSION}
use Rattle.match_script.specs.declared.types.BodyLine.{BodyLine}
use Rattle.match_script.specs.declared.types.BodyLine.TheVariants.{Tick, Scan, Post, ClientPost, Pack, ClientPack, Down, Up, Raw, Move, Show, World}
use Rattle.match_script.specs.declared.types.Head.{Head}
use Rattle.match_script.specs.declared.types.Script.{Script}

-- at most so many bytes
abbrev pub BytesFit : ℕ → List ℕ → Type 0
BytesFit most bytes = (length bytes ≤ most) × AreBytes bytes

-- the bytes of an event
abbrev pub PayloadFits : List ℕ → Type 0
PayloadFits bytes = BytesFit MAX_EVENT_BYTES bytes

-- the bytes of a block
abbrev pub BlockFits : List ℕ → Type 0
BlockFits bytes = BytesFit MAX_BLOCK_BYTES bytes

-- a line of a body for so many clients
abbrev pub LineFits : ℕ → BodyLine → Type 0
LineFits clients Tick = Unit {0}
LineFits clients (Scan c) = c < clients
LineFits clients (Post c class bytes) = (c < clients) × PayloadFits bytes
LineFits clients (ClientPost c class bytes) = (c < clients) × PayloadFits bytes
LineFits clients (Pack c) = c < clients
LineFits clients (ClientPack c) = c < clients
LineFits clients (Down c k) = (c < clients) × (k < 2 ^ 32)
LineFits clients (Up c k) = (c < clients) × (k < 2 ^ 32)
LineFits clients (Raw c bytes) = (c < clients) × BytesFit MAX_DATAGRAM_BYTES bytes
LineFits clients (Move c m) = c < clients
LineFits clients (Show c) = c < clients
LineFits clients World = Unit {0}

pub record HeadFits (h : Head) : Type 0 where
  pub version_least : MIN_VERSION ≤ h.version
  pub version : h.version ≤ MAX_VERSION
  pub seed : h.seed < 2 ^ 32
  pub clients_least : 1 ≤ h.clients
  pub clients : h.clients ≤ MAX_CLIENTS
  pub life_least : 1 ≤ h.life
  pub life : h.life ≤ MAX_LIFE
  pub size_least : MIN_DATAGRAM_BYTES ≤ h.size
  pub size : h.size ≤ MAX_DATAGRAM_BYTES
  pub radius : h.radius ≤ MAX_RADIUS
  pub blocks_few : length h.blocks ≤ MAX_BLOCKS
  pub blocks : All BlockFits h.blocks
  pub setup : SetupFits h.setup
  pub same_clients : h.setup.clients ≡ h.clients
  pub same_radius : h.setup.radius ≡ h.radius
  pub objects : All (λ s. s.block < length h.blocks) h.setup.spawns

pub record HasRanges (s : Script) : Type 0 where
  pub head : HeadFits s.head
  pub few : length s.body ≤ MAX_BODY_LINES
  pub lines : All (LineFits s.head.clients) s.body
