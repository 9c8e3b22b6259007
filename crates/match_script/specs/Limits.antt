-- Each limit is the number that docs/wire.md, "Limits", tells.
use Rattle.std.specs.Prelude.{◌≡◌, pos, negsuc, refl}
use Rattle.match_script.specs.declared.limits.TheConstants.{MAX_RADIUS, MAX_BODY_LINES, MAX_THREAD_TICKS, MAX_COUNTED_LINES}

max_radius : MAX_RADIUS ≡ 65535
max_radius = refl

max_body_lines : MAX_BODY_LINES ≡ 100000
max_body_lines = refl

max_thread_ticks : MAX_THREAD_TICKS ≡ 4096
max_thread_ticks = refl

max_counted_lines : MAX_COUNTED_LINES ≡ 4000000
max_counted_lines = refl
