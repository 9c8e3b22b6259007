-- How long a link may rest.
use Rattle.std.specs.Prelude.{ℕ, nat_lt, if◌then◌else◌, min}
use Rattle.net_rules.specs.declared.limits.TheConstants.{LARGE_BATCH, TURN_MILLISECONDS}

-- behind so many datagrams, where the turn is due in so many milliseconds: until then, and behind a large batch a millisecond
abbrev pub rest_for : ℕ → ℕ → ℕ
rest_for came left = min left (if nat_lt came LARGE_BATCH then TURN_MILLISECONDS else 1)
