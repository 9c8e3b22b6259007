-- Each number of a made script is the one that docs/maker.md tells: who changes one of them changes what is made, and has to say
-- so here as well.
use Rattle.std.specs.Prelude.{◌≡◌, pos, refl}
use Rattle.script_maker.specs.declared.numbers.TheConstants.{MADE_VERSION, MADE_SIZE, MADE_RADIUS, MADE_BLOCKS, MADE_BLOCK_BYTES, MADE_OBJECTS, FLAG_NEAR, FLAG_FAR, COORDINATES, STEPS, ACTS_ONCE_IN, POSTS_ONCE_IN, PAYLOADS, CHANCES}

made_version : MADE_VERSION ≡ 1
made_version = refl

made_size : MADE_SIZE ≡ 400
made_size = refl

made_radius : MADE_RADIUS ≡ 16000
made_radius = refl

made_blocks : MADE_BLOCKS ≡ 4
made_blocks = refl

made_block_bytes : MADE_BLOCK_BYTES ≡ 8
made_block_bytes = refl

made_objects : MADE_OBJECTS ≡ 60
made_objects = refl

flag_near : FLAG_NEAR ≡ pos 8000
flag_near = refl

flag_far : FLAG_FAR ≡ pos 57535
flag_far = refl

coordinates : COORDINATES ≡ 65536
coordinates = refl

steps : STEPS ≡ 16
steps = refl

acts_once_in : ACTS_ONCE_IN ≡ 8
acts_once_in = refl

posts_once_in : POSTS_ONCE_IN ≡ 4
posts_once_in = refl

payloads : PAYLOADS ≡ 65536
payloads = refl

chances : CHANCES ≡ 10
chances = refl
