-- A scan that has come up to a slot: what it shows so far, and what is watched then. At the last slot all are watched.
use Rattle.std.specs.Prelude.{ℕ, zero, suc, ◌+◌, ◌==◌, List, filter_map, if◌then◌else◌, Option, None, Some}
use Rattle.std.specs.Option.{option_map}
use Rattle.quantised_fields.specs.declared.kind.Kind.{Kind}
use Rattle.ghost_model.specs.Words.{upto}
use Rattle.ghost_client.specs.declared.copy.GhostCopy.{GhostCopy}
use Rattle.own_lists.specs.Own.{OwnShow}
use Rattle.relay_model.specs.Watching.{Watched, is_unwatched}
use Rattle.relay_model.specs.Items.{show_of}

-- the next period watches a slot
abbrev pub begun_at : ℕ → Watched → Watched
begun_at slot w = record { period = λ s. if s == slot then Some w.shows else w.period s; shows = w.shows + 1 }

-- the slots below this one have begun
abbrev pub begun_up_to : (ℕ → Option GhostCopy) → Watched → ℕ → Watched
begun_up_to copies w zero = w
begun_up_to copies w (suc k) = if is_unwatched copies w k then begun_at k (begun_up_to copies w k) else begun_up_to copies w k

-- what is shown of a slot
abbrev pub shown_in : List Kind → (ℕ → Option GhostCopy) → Watched → ℕ → Option OwnShow
shown_in kinds copies w slot = if is_unwatched copies w slot then option_map (show_of kinds) (copies slot) else None

abbrev pub shown_up_to : List Kind → (ℕ → Option GhostCopy) → Watched → ℕ → List OwnShow
shown_up_to kinds copies w k = filter_map (shown_in kinds copies w) (upto k)
