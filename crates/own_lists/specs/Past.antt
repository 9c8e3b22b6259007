-- What happened in a match: the world, what each client's scans saw, and each client's own list. A line is done on what the
-- lines before it left; lines, scans and items are listed newest first.
use Rattle.std.specs.Prelude.{ℕ, ◌==◌, false, List, [], ◌∷◌, map, filter_map, slice_get, is_some, if◌then◌else◌, Option, Some, None}
use Rattle.std.specs.Option.{unwrap_or, option_map_or}
use Rattle.std.specs.List.{flat_map, range_with_len}
use Rattle.tn_types.specs.declared.limits.TheConstants.{WORLD_MOVE_BITS}
use Rattle.tn_types.specs.declared.moves.MoveBits.{MoveBits}
use Rattle.match_script.specs.declared.types.BodyLine.{BodyLine}
use Rattle.match_script.specs.declared.types.BodyLine.TheVariants as script
use Rattle.match_script.specs.declared.types.Head.{Head}
use Rattle.pair_steps.specs.stream_manager.Limits.{Terms}
use Rattle.world_rules.specs.Flags.{is_player}
use Rattle.world_rules.specs.Kinds.{match_kinds}
use Rattle.world_sim.specs.declared.rows.Write.{Write}
use Rattle.world_sim.specs.Worlds.{Worlds, first_world, next, kind_at, block_at, values_at}
use Rattle.client_scope.specs.world_scope.declared.viewer.Seen.{Seen}
use Rattle.client_scope.specs.world_scope.Scope.{visible_list}
use Rattle.client_scope.specs.declared.period.ShownPeriod.{ShownPeriod}
use Rattle.client_scope.specs.Scans.{shown}
use Rattle.client_scope.specs.Changes.{hides, nears, shows}
use Rattle.own_lists.specs.declared.showing.Showing.{Showing}
use Rattle.own_lists.specs.Own.{OwnShow, OwnWrite, OwnItem, Line, Scan, Tick}
use Rattle.own_lists.specs.Course.{next_move}
use Rattle.own_lists.specs.Kept.{Kept, put, kept}

pub record Past : Type 0 where
  pub world : Worlds
  pub scans : ℕ → List (List Seen)
  pub own : ℕ → List OwnItem

-- what the header says of a client's connection
abbrev pub client_terms : Head → ℕ → Terms
client_terms head c = record {
  config = record { client = c; life = head.life; size = head.size; version = head.version; move_bits = WORLD_MOVE_BITS };
  kinds = match_kinds;
  blocks = head.blocks;
}

-- what a client's own list leaves
abbrev pub kept_by : Head → Past → ℕ → Kept
kept_by head p c = kept (client_terms head c) (p.own c)

-- ---- scans

-- how a period of an object that was seen begins: the client controls its own player
abbrev pub showing_of : Worlds → ℕ → Seen → Showing
showing_of w c s = record {
  kind = unwrap_or (kind_at w s.object) 0;
  block = unwrap_or (block_at w s.object) 0;
  level = s.level;
  control = option_map_or (is_player c) (slice_get w.objects s.object) false;
}

abbrev pub own_show : Worlds → ℕ → Seen → OwnShow
own_show w c s = record { how = showing_of w c s; values = unwrap_or (values_at w s.object) [] }

-- what the last of these scans changed
abbrev pub scan_item : Worlds → ℕ → List (List Seen) → OwnItem
scan_item w c scans = Scan (hides scans) (nears scans) (map (own_show w c) (shows scans))

-- ---- ticks

abbrev pub write_of : ShownPeriod → Write → Option OwnWrite
write_of p w = if w.object == p.object then Some (record { n = p.n; field = w.field; value = w.value }) else None

-- the writes of a world's last tick to objects of these periods, by period and field
abbrev pub own_writes : Worlds → List ShownPeriod → List OwnWrite
own_writes w periods = flat_map (λ p. filter_map (write_of p) w.writes) periods

-- the move that a tick takes from a client
abbrev pub move_of : Head → Past → ℕ → Option MoveBits
move_of head p c = next_move (client_terms head c) (kept_by head p c).course

abbrev pub moves_of : Head → Past → List (Option MoveBits)
moves_of head p = map (move_of head p) (range_with_len 0 head.clients)

abbrev pub taken_from : Head → Past → ℕ → ℕ
taken_from head p c = if is_some (move_of head p c) then 1 else 0

-- ---- lines

abbrev pub with_item : ℕ → OwnItem → Past → Past
with_item c item p = record { world = p.world; scans = p.scans; own = put p.own c (item ∷ p.own c) }

abbrev pub scanned : ℕ → List (List Seen) → Past → Past
scanned c scans p = record { world = p.world; scans = put p.scans c scans; own = put p.own c (scan_item p.world c scans ∷ p.own c) }

abbrev pub ticked : Head → Worlds → Past → Past
ticked head w p = record {
  world = w;
  scans = p.scans;
  own = λ c. Tick (own_writes w (shown (p.scans c))) (taken_from head p c) ∷ p.own c;
}

abbrev pub happens : Head → BodyLine → Past → Past
happens head script.Tick p = ticked head (next p.world (moves_of head p)) p
happens head (script.Scan c) p = scanned c (visible_list p.world c ∷ p.scans c) p
happens head (script.Post c class payload) p = with_item c (Line (script.Post c class payload)) p
happens head (script.ClientPost c class payload) p = with_item c (Line (script.ClientPost c class payload)) p
happens head (script.Pack c) p = with_item c (Line (script.Pack c)) p
happens head (script.ClientPack c) p = with_item c (Line (script.ClientPack c)) p
happens head (script.Down c k) p = with_item c (Line (script.Down c k)) p
happens head (script.Up c k) p = with_item c (Line (script.Up c k)) p
happens head (script.Raw c bytes) p = with_item c (Line (script.Raw c bytes)) p
happens head (script.Move c m) p = with_item c (Line (script.Move c m)) p
happens head (script.Show c) p = with_item c (Line (script.Show c)) p
happens head script.World p = p

-- before the first line
abbrev pub start : Head → Past
start head = record { world = first_world head.seed head.setup; scans = λ c. []; own = λ c. [] }

abbrev pub after : Head → List BodyLine → Past
after head [] = start head
after head (line ∷ lines) = happens head line (after head lines)
