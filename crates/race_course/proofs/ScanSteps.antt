-- The messages of a scan and its steps.
use Rattle.std.proofs.Common.{◌≡◌, ◌∙◌, ℕ, List, [], ◌∷◌, ◌++◌, map, refl, ap}
use Rattle.std.proofs.lemmas.List.{map-append}
use Rattle.world_sim.specs.Worlds.{Worlds}
use Rattle.world_scope.specs.declared.viewer.Seen.{Seen}
use Rattle.client_scope.specs.declared.period.Near.{Near as NearPeriod}
use Rattle.client_scope.specs.Changes.{hides, nears, shows}
use Rattle.own_lists.specs.pair_core.History.{PairStep}
use Rattle.own_lists.specs.Course.{scan_steps, hide_step, near_step, show_step}
use Rattle.own_lists.specs.Past.{showing_of}
use Rattle.race_messages.specs.Steps.{step_for}
use Rattle.race_course.specs.Messages.{scan_messages, hide_message, near_message, show_message}

hides_are : (ns : List ℕ) → map step_for (map hide_message ns) ≡ map hide_step ns
hides_are [] = refl
hides_are (n ∷ ns) = ap (λ (steps : List PairStep). hide_step n ∷ steps) (hides_are ns)

nears_are : (ps : List NearPeriod) → map step_for (map near_message ps) ≡ map near_step ps
nears_are [] = refl
nears_are (p ∷ ps) = ap (λ (steps : List PairStep). near_step p ∷ steps) (nears_are ps)

shows_are : (w : Worlds) (client : ℕ) (ss : List Seen) → map step_for (map (show_message w client) ss) ≡ map show_step (map (showing_of w client) ss)
shows_are w client [] = refl
shows_are w client (s ∷ ss) = ap (λ (steps : List PairStep). show_step (showing_of w client s) ∷ steps) (shows_are w client ss)

pub are_scan_steps : (w : Worlds) (client : ℕ) (scans : List (List Seen)) → map step_for (scan_messages w client scans) ≡ scan_steps (hides scans) (nears scans) (map (showing_of w client) (shows scans))
are_scan_steps w client scans =
    map-append step_for (map hide_message (hides scans)) (map near_message (nears scans) ++ map (show_message w client) (shows scans))
    ∙ (λ j. hides_are (hides scans) j ++ (map-append step_for (map near_message (nears scans)) (map (show_message w client) (shows scans)) ∙ (λ i. nears_are (nears scans) i ++ shows_are w client (shows scans) i)) j)
