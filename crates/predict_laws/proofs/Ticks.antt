-- What a tick makes of a client's player: one step, where it stands; and no step changes nothing.
use Rattle.std.proofs.Common.{◌≡◌, ℕ, zero, suc, ◌≤◌, Bool, true, false, cond, List, [], ◌∷◌, ◌++◌, map, take, Option, Some, None, refl, ap, ◌∙◌, subst, arith}
use Rattle.std.specs.Prelude.{ℤ, pos, ◌+ℤ◌, ◌*ℤ◌, min, find, option_map, option_and_then, IfSome}
use Rattle.std.specs.List.{AllByRecursion, filter_map}
use Rattle.std.proofs.lemmas.Int.{ints}
use Rattle.std.proofs.lemmas.Bool.Decides.{nat_tests}
use Rattle.tn_types.specs.declared.moves.Move.{Move}
use Rattle.tn_types.specs.declared.moves.MoveBits.{MoveBits}
use Rattle.world_rules.specs.declared.object.Object.{Object}
use Rattle.world_rules.specs.declared.object.State.{State}
use Rattle.world_rules.specs.declared.object.State.TheVariants.{Player, Disc, Mine, Drone, Flag, Clock}
use Rattle.world_rules.specs.Flags.{is_player, is_player_part}
use Rattle.world_rules.specs.Near.{is_standing}
use Rattle.world_rules.specs.Moves.{move_of, still}
use Rattle.world_rules.specs.Players.{player_next, fired, fired_part, fired_by, is_firing}
use Rattle.world_rules.specs.Next.{Moment, by_kind, object_next, discs_made}
use Rattle.world_rules.specs.declared.object.Place.{Place}
use Rattle.world_rules.specs.Places.{clamp}
use Rattle.world_rules.specs.Ranges.{PlaceFits, ObjectFits}
use Rattle.world_rules.proofs.Peopled.{same_player}
use Rattle.world_sim.specs.Worlds.{Worlds, next, coming, IsWorld}
use Rattle.client_predict.specs.Standing.{stepped_by}
use Rattle.predict_laws.specs.Players.{measured, measures_of, player_in, measures_in, stands_in}

-- ---- the player is found again

-- what a player fires is no player
fired_none : (client : ℕ) (moves : List (Option MoveBits)) (o d : Object) → fired moves o ≡ Some d → is_player client d ≡ false
unfolding fired_by
fired_none client moves o d e = by_state o.state e
  where
    by_fire : (b : Bool) (x : Object) → is_player client x ≡ false → cond b (Some x) None ≡ Some d → is_player client d ≡ false
    by_fire true x h e = let same : x ≡ d = cc in subst (λ (y : Object). is_player client y ≡ false) same h
    by_fire false x h e = absurd (cc)

    by_state : (s : State) → fired_part moves o s ≡ Some d → is_player client d ≡ false
    by_state (Player p) e = by_fire (is_firing p (move_of moves p.client)) _ refl e
    by_state (Disc x) e = absurd (cc)
    by_state (Mine x) e = absurd (cc)
    by_state (Drone x) e = absurd (cc)
    by_state (Flag x) e = absurd (cc)
    by_state (Clock x) e = absurd (cc)

no_player : (client : ℕ) (moves : List (Option MoveBits)) (n : ℕ) (xs : List Object) → find (is_player client) (take n (filter_map (fired moves) xs)) ≡ None
no_player client moves zero xs = refl
no_player client moves (suc n) [] = refl
no_player client moves (suc n) (o ∷ xs) = by_disc (fired moves o) refl (no_player client moves (suc n) xs) (no_player client moves n xs)
  where
    none_among : ℕ → Type 0
    none_among k = find (is_player client) (take k (filter_map (fired moves) xs)) ≡ None

    by_disc : (d : Option Object) → fired moves o ≡ d → none_among (suc n) → none_among n
        → find (is_player client) (take (suc n) (filter_map (fired moves) (o ∷ xs))) ≡ None
    by_disc None e same less = rw e same
    by_disc (Some d) e same less = rw (e, fired_none client moves o d e) less

found_next : (client : ℕ) (f : Object → Object) (xs ds : List Object) → ((o : Object) → is_player client (f o) ≡ is_player client o)
    → find (is_player client) ds ≡ None → find (is_player client) (map f xs ++ ds) ≡ option_map f (find (is_player client) xs)
found_next client f [] ds same none = none
found_next client f (o ∷ xs) ds same none = rw (same o) (by_test (is_player client o) (found_next client f xs ds same none))
  where
    by_test : (b : Bool) → find (is_player client) (map f xs ++ ds) ≡ option_map f (find (is_player client) xs)
        → cond b (Some (f o)) (find (is_player client) (map f xs ++ ds)) ≡ option_map f (cond b (Some o) (find (is_player client) xs))
    by_test true rest = refl
    by_test false rest = rest

pub player_next_in : (w : Worlds) (moves : List (Option MoveBits)) (client : ℕ)
    → player_in (next w moves) client ≡ option_map (object_next w.objects moves (coming w)) (player_in w client)
unfolding next discs_made
player_next_in w moves client =
    found_next client (object_next w.objects moves (coming w)) w.objects (discs_made w.objects moves)
    (same_player client w.objects moves (coming w)) (no_player client moves _ w.objects)

-- ---- one tick

-- which client's player this is
is_its : (client : ℕ) (os : List Object) (o : Object) → find (is_player client) os ≡ Some o → is_player client o ≡ true
is_its client [] o e = absurd (cc)
is_its client (x ∷ xs) o e = by_test (is_player client x) refl (is_its client xs o) e
  where
    by_test : (b : Bool) → is_player client x ≡ b → (find (is_player client) xs ≡ Some o → is_player client o ≡ true)
        → cond b (Some x) (find (is_player client) xs) ≡ Some o → is_player client o ≡ true
    by_test true h rest e = let same : x ≡ o = cc in subst (λ (y : Object). is_player client y ≡ true) same h
    by_test false h rest e = rest e

one_step : (os : List Object) (moves : List (Option MoveBits)) (t : Moment) (client : ℕ) (o : Object) (s : State) → is_player_part client s ≡ true
    → is_standing (record o { state = s }) ≡ true
    → measures_of (by_kind os moves t o s) ≡ option_map (λ at. stepped_by at (move_of moves client)) (measured o.place s)
unfolding player_next
one_step os moves t client o (Player p) mine stands =
    let same : p.client ≡ client = grind (arith, nat_tests) in
    rw (stands, same) refl
one_step os moves t client o (Disc d) mine stands = absurd (cc)
one_step os moves t client o (Mine m) mine stands = absurd (cc)
one_step os moves t client o (Drone d) mine stands = absurd (cc)
one_step os moves t client o (Flag f) mine stands = absurd (cc)
one_step os moves t client o (Clock c) mine stands = absurd (cc)

-- a tick is one step of a player that stands
pub tick_steps : (w : Worlds) (moves : List (Option MoveBits)) (client : ℕ) → stands_in w client ≡ true
    → measures_in (next w moves) client ≡ option_map (λ at. stepped_by at (move_of moves client)) (measures_in w client)
tick_steps w moves client stands = by_player (player_in w client) refl stands
  where
    by_player : (o : Option Object) → player_in w client ≡ o → stands_in w client ≡ true
        → measures_in (next w moves) client ≡ option_map (λ at. stepped_by at (move_of moves client)) (measures_in w client)
    by_player None e stands = absurd (let k = rw e at stands in cc)
    by_player (Some o) e stands =
        rw (player_next_in w moves client, e)
        (one_step w.objects moves (coming w) client o o.state (is_its client w.objects o e) (rw e at stands))

-- ---- no move

clamped : (n : ℕ) → n ≤ 65535 → clamp (pos n +ℤ pos 25 *ℤ pos 0) ≡ n
clamped n le =
    let same : (pos n +ℤ pos 25 *ℤ pos 0) ≡ pos n = omega (arith, ints) in
    let most : min n 65535 ≡ n = omega (arith, le) in
    ap clamp same ∙ most

unmoved : (place : Place) (ammo : ℕ) → PlaceFits place → stepped_by (pos place.x, pos place.y, pos ammo) still ≡ (pos place.x, pos place.y, pos ammo)
unmoved place ammo fits =
    ap (λ (x : ℕ). let at : ℤ × ℤ × ℤ = (pos x, pos (clamp (pos place.y +ℤ pos 25 *ℤ pos 0)), pos ammo) in at) (clamped place.x fits.0)
    ∙ ap (λ (y : ℕ). let at : ℤ × ℤ × ℤ = (pos place.x, pos y, pos ammo) in at) (clamped place.y fits.1)

still_measured : (place : Place) (s : State) → PlaceFits place → option_map (λ at. stepped_by at still) (measured place s) ≡ measured place s
still_measured place (Player p) fits = ap Some (unmoved place p.ammo fits)
still_measured place (Disc d) fits = refl
still_measured place (Mine m) fits = refl
still_measured place (Drone d) fits = refl
still_measured place (Flag f) fits = refl
still_measured place (Clock c) fits = refl

found_fits : (client : ℕ) (os : List Object) → AllByRecursion ObjectFits os → IfSome (find (is_player client) os) ObjectFits
found_fits client [] h = tt
found_fits client (o ∷ os) h = by_test (is_player client o) (found_fits client os h.1)
  where
    by_test : (b : Bool) → IfSome (find (is_player client) os) ObjectFits → IfSome (cond b (Some o) (find (is_player client) os)) ObjectFits
    by_test true rest = h.0
    by_test false rest = rest

stays_measured : (o : Option Object) → IfSome o ObjectFits → option_map (λ at. stepped_by at still) (option_and_then measures_of o) ≡ option_and_then measures_of o
stays_measured None h = refl
stays_measured (Some o) h = still_measured o.place o.state h.place

-- a tick without a move changes none of the three
pub tick_without_move : (w : Worlds) (moves : List (Option MoveBits)) (client : ℕ) → IsWorld w → stands_in w client ≡ true → move_of moves client ≡ still
    → measures_in (next w moves) client ≡ measures_in w client
tick_without_move w moves client world stands none =
    tick_steps w moves client stands
    ∙ ap (λ (m : Move). option_map (λ at. stepped_by at m) (measures_in w client)) none
    ∙ stays_measured (player_in w client) (found_fits client w.objects world.fits)
