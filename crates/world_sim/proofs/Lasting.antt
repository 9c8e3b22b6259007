-- What every client sees stays the same.
use Rattle.std.proofs.Common.{◌≡◌, ℕ, zero, suc, ◌-◌, Bool, true, false, cond, ◌&&◌, List, [], ◌∷◌, ◌++◌, length, map, take, refl, sym, ap, ◌∙◌, Option, Some, None}
use Rattle.std.specs.Prelude.{slice_get}
use Rattle.std.specs.List.{AllByRecursion, filter_map, cons_option}
use Rattle.std.specs.Option.{option_map_or}
use Rattle.std.proofs.Math.Bool.{and-false}
use Rattle.tn_types.specs.declared.moves.MoveBits.{MoveBits}
use Rattle.world_rules.specs.declared.object.Object.{Object}
use Rattle.world_rules.specs.declared.object.State.{State}
use Rattle.world_rules.specs.declared.object.State.TheVariants.{Player, Disc, Mine, Drone, Flag, Clock}
use Rattle.world_rules.specs.Kinds.{match_kinds}
use Rattle.world_rules.specs.Identity.{Identity, LivesOn, IsPeopled}
use Rattle.world_rules.specs.Players.{fired, fired_by, fired_part}
use Rattle.world_rules.specs.Next.{object_next, objects_next, discs_made, Moment}
use Rattle.world_rules.proofs.Identities.{stays_itself}
use Rattle.world_rules.proofs.Peopled.{peopled_next}
use Rattle.world_cells.specs.Grid.{numbers, lasts, is_always}

-- ---- what every client sees

abbrev always_kind : ℕ → Bool
always_kind k = option_map_or (λ kind. kind.always) (slice_get match_kinds k) false

always_stays : (os : List Object) (moves : List (Option MoveBits)) (t : Moment) (o : Object) → is_always (object_next os moves t o) ≡ is_always o
always_stays os moves t o = ap (λ (i : Identity). always_kind i.kind) (stays_itself os moves t o)

lives : (o : Object) (s : State) → o.state ≡ s → LivesOn o → (o.alive && is_always o) ≡ is_always o
lives o (Player p) e h = rw e (and-false o.alive)
lives o (Disc d) e h = rw e (and-false o.alive)
lives o (Mine m) e h = rw e (and-false o.alive)
lives o (Drone d) e h = rw e (and-false o.alive)
lives o (Flag f) e h = let a : o.alive ≡ true = (rw e at h) refl in rw (a, e) refl
lives o (Clock c) e h = let a : o.alive ≡ true = (rw e at h) refl in rw (a, e) refl

all_lasting : (k : ℕ) (os : List Object) → AllByRecursion LivesOn os → numbers lasts k os ≡ numbers is_always k os
all_lasting k [] a = refl
all_lasting k (o ∷ os) a = rw (lives o o.state refl a.0, all_lasting (suc k) os a.1) refl

-- a disc that is made isn't always seen
abbrev IsNot : Object → Type 0
IsNot d = is_always d ≡ false

abbrev IfMadeNot : Option Object → Type 0
IfMadeNot None = Unit {0}
IfMadeNot (Some d) = IsNot d

no_more : (made : Option Object) (ds : List Object) → IfMadeNot made → AllByRecursion IsNot ds → AllByRecursion IsNot (cons_option made ds)
no_more None ds h a = a
no_more (Some d) ds h a = (h, a)

chosen : (b : Bool) (d : Object) → IsNot d → IfMadeNot (cond b (Some d) None)
chosen true d h = h
chosen false d h = tt

fired_not : (moves : List (Option MoveBits)) (o : Object) (s : State) → IfMadeNot (fired_part moves o s)
unfolding fired_by
fired_not moves o (Player p) = chosen _ _ refl
fired_not moves o (Disc d) = tt
fired_not moves o (Mine m) = tt
fired_not moves o (Drone d) = tt
fired_not moves o (Flag f) = tt
fired_not moves o (Clock c) = tt

all_not : (moves : List (Option MoveBits)) (os : List Object) → AllByRecursion IsNot (filter_map (fired moves) os)
all_not moves [] = tt
all_not moves (o ∷ os) = no_more (fired moves o) (filter_map (fired moves) os) (fired_not moves o o.state) (all_not moves os)

take_not : (n : ℕ) (ds : List Object) → AllByRecursion IsNot ds → AllByRecursion IsNot (take n ds)
take_not zero ds a = tt
take_not (suc n) [] a = tt
take_not (suc n) (d ∷ ds) a = (a.0, take_not n ds a.1)

none_of : (k : ℕ) (ds : List Object) → AllByRecursion IsNot ds → numbers is_always k ds ≡ []
none_of k [] a = refl
none_of k (d ∷ ds) a = rw a.0 (none_of (suc k) ds a.1)

always_next : (os : List Object) (moves : List (Option MoveBits)) (t : Moment) (k : ℕ) (xs ds : List Object) → AllByRecursion IsNot ds → numbers is_always k (map (object_next os moves t) xs ++ ds) ≡ numbers is_always k xs
always_next os moves t k [] ds a = none_of k ds a
always_next os moves t k (o ∷ xs) ds a = rw (always_stays os moves t o, always_next os moves t (suc k) xs ds a) refl

pub lasting_next : (clients : ℕ) (os : List Object) (moves : List (Option MoveBits)) (t : Moment) → IsPeopled clients os → numbers lasts 0 (objects_next os moves t) ≡ numbers lasts 0 os
unfolding discs_made
lasting_next clients os moves t h =
    all_lasting 0 (objects_next os moves t) (peopled_next clients os moves t h).alive
    ∙ always_next os moves t 0 os (discs_made os moves) (take_not (1024 - length os) _ (all_not moves os))
    ∙ sym (all_lasting 0 os h.alive)
