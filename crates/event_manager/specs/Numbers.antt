-- Each number is the one that docs/connection.md, "Low numbers", tells: who changes one of them changes what the theorems say, and has to say so
-- here as well.
use Rattle.std.specs.Prelude.{◌≡◌, refl}
use Rattle.event_manager.specs.declared.TheConstants.{MAX_READY_EVENTS, MAX_DELIVERED_BEFORE, MAX_DELIVERED_EVENTS}

max_ready_events : MAX_READY_EVENTS ≡ 95
max_ready_events = refl

max_delivered_before : MAX_DELIVERED_BEFORE ≡ 4000000000
max_delivered_before = refl

max_delivered_events : MAX_DELIVERED_EVENTS ≡ 4000000064
max_delivered_events = refl
