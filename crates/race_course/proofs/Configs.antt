-- A connection of a match has a configuration that fits, for each client of the script.
use Rattle.std.proofs.Common.{ℕ, ◌<◌, arith}
use Rattle.stream_manager.specs.Limits.{IsConfig}
use Rattle.match_script.specs.declared.types.Head.{Head}
use Rattle.match_script.specs.Ranges.{HeadFits}
use Rattle.own_lists.specs.Past.{client_terms}
use Rattle.own_lists.proofs.Configs.{config_fits as fits_below}

pub config_fits : (head : Head) (c : ℕ) → HeadFits head → c < head.clients → IsConfig (client_terms head c).config
config_fits head c h l = fits_below head c h (omega (arith, l, h.clients))
