-- A slot more of a scan, as the parts of that call say it.
use Rattle.std.specs.Prelude.{◌≡◌, ℕ, suc, List, ◌++◌, [], map}
use Rattle.std.specs.List.{cons_option}
use Rattle.ghost_client.specs.State.{State, copy_in}
use Rattle.alone_server.specs.own_items.declared.items.OwnShow.{OwnShow}
use Rattle.alone_server.specs.own_items.Items.{show_of as show_told}
use Rattle.relay_model.specs.Watching.{Watched}
use Rattle.relay_model.specs.Beginning.{begun_up_to, shown_in}
use Rattle.relay_spectator.specs.Watches.{WatchState, IsWatch}

-- a slot more has begun
abbrev pub BeginsAt : WatchState → State → ℕ → WatchState → Type 0
BeginsAt old copies slot new =
    (w : Watched) → IsWatch old (begun_up_to (copy_in copies.slots) w slot) → IsWatch new (begun_up_to (copy_in copies.slots) w (suc slot))

abbrev pub ShowsAt : WatchState → State → ℕ → List OwnShow → List OwnShow → Type 0
ShowsAt old copies slot shows shows' =
    (w : Watched) → IsWatch old (begun_up_to (copy_in copies.slots) w slot)
    → map show_told shows' ≡ map show_told shows ++ cons_option (shown_in copies.kinds (copy_in copies.slots) w slot) []
