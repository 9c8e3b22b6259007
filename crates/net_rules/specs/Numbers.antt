-- Each number is the one that docs/serving.md tells: who changes one of them changes what the theorems say, and has to say so
-- here as well.
use Rattle.std.specs.Prelude.{◌≡◌, refl}
use Rattle.net_rules.specs.declared.limits.TheConstants.{MAX_RECEIVES, TURN_MILLISECONDS, MAX_TURNS, HELLO, HELLO_BYTES, WELCOME, WELCOME_BYTES, MAX_RECEIVED_BYTES}

max_receives : MAX_RECEIVES ≡ 10000
max_receives = refl

turn_milliseconds : TURN_MILLISECONDS ≡ 50
turn_milliseconds = refl

max_turns : MAX_TURNS ≡ 100000
max_turns = refl

hello : HELLO ≡ 2
hello = refl

hello_bytes : HELLO_BYTES ≡ 5
hello_bytes = refl

welcome : WELCOME ≡ 3
welcome = refl

welcome_bytes : WELCOME_BYTES ≡ 12
welcome_bytes = refl

max_received_bytes : MAX_RECEIVED_BYTES ≡ 1201
max_received_bytes = refl
