-- A clock, which each client sees at level 0: the first scan shows it, and a scan after a tick finds nothing new.
use Rattle.std.specs.Prelude.{◌≡◌, pos, refl, false, [], ◌∷◌, None}
use Rattle.tn_types.specs.declared.choices.Class.TheVariants.{Guaranteed}
use Rattle.match_script.specs.declared.types.BodyLine.TheVariants as script
use Rattle.world_rules.specs.Clocks.{clock_next}
use Rattle.world_rules.specs.Next.{discs_made}
use Rattle.world_rules.specs.declared.setup.Setup.{Setup}
use Rattle.world_sim.specs.Worlds.{Worlds, first_world, next}
use Rattle.world_scope.specs.Scope.{visible_list}
use Rattle.race_messages.specs.declared.message.Message.TheVariants as message
use Rattle.race_course.specs.Messages.{Ticks, messages}

abbrev setup : Setup
setup = record {
  clients = 2;
  radius = 100;
  spawns = record { kind = 5; owner = None; block = 7; team = 0; x = pos 0; y = pos 0 } ∷ [];
}

abbrev first : Worlds
first = first_world 1 setup

abbrev one_tick : Ticks
one_tick = (None ∷ None ∷ []) ∷ []

shown : messages first one_tick 0 (script.Scan 0 ∷ []) ≡ message.Show 0 5 7 0 false ∷ []
unfolding visible_list
shown = refl

to_itself_alone : messages first one_tick 1 (script.Scan 0 ∷ script.Post 0 Guaranteed [] ∷ []) ≡ []
to_itself_alone = refl

posted : messages first one_tick 0 (script.Post 0 Guaranteed (97 ∷ []) ∷ []) ≡ message.Post Guaranteed (97 ∷ []) ∷ []
posted = refl

nothing_new : messages first one_tick 0 (script.Scan 0 ∷ script.Tick ∷ script.Scan 0 ∷ []) ≡ message.Show 0 5 7 0 false ∷ []
unfolding visible_list next clock_next discs_made
nothing_new = refl
