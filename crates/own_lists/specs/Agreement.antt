-- What an own list says of the world is so: each shown period is that of a living object's number, with the object's kind, its
-- newest values, and control where it is the client's own player.
use Rattle.std.specs.Prelude.{◌≡◌, ℕ, ◌<◌, ◌≤◌, List, map, length, slice_get, Some}
use Rattle.std.specs.List.{All}
use Rattle.match_script.specs.declared.limits.TheConstants.{MAX_COUNTED_LINES}
use Rattle.match_script.specs.declared.types.BodyLine.{BodyLine}
use Rattle.match_script.specs.declared.types.Head.{Head}
use Rattle.match_script.specs.Ranges.{HeadFits, LineFits}
use Rattle.world_rules.specs.declared.object.Object.{Object}
use Rattle.world_rules.specs.Flags.{is_player}
use Rattle.world_rules.specs.Kinds.{kind_of}
use Rattle.world_sim.specs.Rows.{values_of}
use Rattle.world_sim.specs.Worlds.{Worlds}
use Rattle.client_scope.specs.world_scope.declared.viewer.Seen.{Seen}
use Rattle.client_scope.specs.declared.period.ShownPeriod.{ShownPeriod}
use Rattle.client_scope.specs.Scans.{periods, shown}
use Rattle.own_lists.specs.Counted.{counted_in}
use Rattle.pair_steps.specs.Steps.{shows_in, up_in, traits_in}
use Rattle.own_lists.specs.Kept.{Kept}
use Rattle.own_lists.specs.Conditions.{AreOwn}
use Rattle.own_lists.specs.Past.{client_terms, kept_by, after}

pub record IsPeriodOf (w : Worlds) (c : ℕ) (k : Kept) (p : ShownPeriod) : Type 0 where
  pub object : Object
  pub there : slice_get w.objects p.object ≡ Some object
  pub kind : (traits_in k.course.steps p.n).kind ≡ kind_of object.state
  pub control : (traits_in k.course.steps p.n).control ≡ is_player c object
  pub values : k.values p.n ≡ values_of object

pub record Agrees (w : Worlds) (c : ℕ) (scans : List (List Seen)) (k : Kept) : Type 0 where
  pub count : shows_in k.course.steps ≡ length (periods scans)
  pub up : up_in k.course.steps ≡ map (λ p. p.n) (shown scans)
  pub periods : All (IsPeriodOf w c k) (shown scans)

-- the lines are those of a match with this head, of which no more than so many are counted
pub record AreLines (head : Head) (past : List BodyLine) : Type 0 where
  pub fits : HeadFits head
  pub lines : All (LineFits head.clients) past
  pub few : counted_in past ≤ MAX_COUNTED_LINES

-- after any lines, each client's own list is one that its server may be fed, and agrees with the world
abbrev pub OwnListsHold : Type 0
OwnListsHold = (head : Head) (past : List BodyLine) (c : ℕ) → AreLines head past → c < head.clients
    → AreOwn (client_terms head c) ((after head past).own c) × Agrees (after head past).world c ((after head past).scans c) (kept_by head (after head past) c)
