-- What is counted or sought among all objects is counted or sought among those that pass a first test.
use Rattle.std.proofs.Common.{◌≡◌, ℕ, suc, ◌≤◌, ◌<◌, arith, ◌+◌, ◌-◌, ◌*◌, Bool, true, false, not, cond, ◌&&◌, ◌||◌, nat_lt, nat_eq, List, [], ◌∷◌, ◌++◌, length, take, get_or, set, replicate, zero, add-one, filter, map, count_by, Option, Some, None, refl, sym, ap, ◌∙◌}
use Rattle.std.specs.Prelude.{slice_get}
use Rattle.std.specs.List.{list_any, filter_map, cons_option}
use Rattle.std.proofs.Math.Bool.{and-false, or-false}
use Rattle.std.proofs.lemmas.Bool.Decides.{nat_tests}
use Rattle.std.proofs.lemmas.List.{take_more, length-map, get_or-map}
use Rattle.std.proofs.lemmas.List.Elements.{filter-append}
use Rattle.std.proofs.lemmas.List.Sums.{length-filter}
use Rattle.tn_types.specs.declared.moves.Move.{Move}
use Rattle.tn_types.specs.declared.moves.MoveBits.{MoveBits}
use Rattle.world_rules.specs.declared.measures.TheConstants.{DISC_REACH, MINE_REACH, DISC_HARM, MINE_HARM}
use Rattle.world_rules.specs.declared.object.Object.{Object}
use Rattle.world_rules.specs.declared.object.Place.{Place}
use Rattle.world_rules.specs.declared.object.State.{State}
use Rattle.world_rules.specs.declared.object.State.TheVariants.{Player, Disc, Mine, Drone, Flag, Clock}
use Rattle.world_rules.specs.declared.object.Player.{Player as PlayerPart}
use Rattle.world_rules.specs.declared.object.Disc.{Disc as DiscPart}
use Rattle.world_rules.specs.declared.object.Mine.{Mine as MinePart}
use Rattle.world_rules.specs.declared.object.Drone.{Drone as DronePart}
use Rattle.world_sim.specs.declared.found.Found.{Found}
use Rattle.world_sim.specs.Found.{is_triggered_by, is_ending, is_flag, is_flag_part, is_players, AreFound}
use Rattle.world_rules.specs.Places.{apart, is_within}
use Rattle.world_rules.specs.Near.{is_target, is_standing, is_standing_part, is_other_near, is_target_near, is_enemy_near}
use Rattle.world_rules.specs.Discs.{is_flying, is_harming, is_hitting, is_of, harm, hits, disc_next}
use Rattle.world_rules.specs.Mines.{is_armed, is_triggered, mine_next}
use Rattle.world_rules.specs.Players.{damage, fired, fired_part, fired_by, player_next}
use Rattle.world_rules.specs.Next.{discs_made}
use Rattle.world_rules.specs.Drones.{drone_next}
use Rattle.world_sim.proofs.Searches.{any_at}
use Rattle.world_rules.specs.Flags.{captures, is_captured, captured_part}

any_step : (v b c : Bool) (q : Object → Bool) (x : Object) (ys : List Object) → list_any q ys ≡ c → list_any q (cond v (x ∷ ys) ys) ≡ ((v && q x) || c)
any_step true b c q x ys e = ap (λ d. q x || d) e
any_step false b c q x ys e = e

any_filter : (p q : Object → Bool) (xs : List Object) → list_any q (filter p xs) ≡ list_any (λ x. p x && q x) xs
any_filter p q [] = refl
any_filter p q (x ∷ xs) = any_step (p x) true (list_any (λ x. p x && q x) xs) q x (filter p xs) (any_filter p q xs)

filter_step : (v : Bool) (q : Object → Bool) (x : Object) (ys zs : List Object) → filter q ys ≡ zs → filter q (cond v (x ∷ ys) ys) ≡ cond (v && q x) (x ∷ zs) zs
filter_step true q x ys zs e = ap (λ ws. cond (q x) (x ∷ ws) ws) e
filter_step false q x ys zs e = e

pub filter_filter : (p q : Object → Bool) (xs : List Object) → filter q (filter p xs) ≡ filter (λ x. p x && q x) xs
filter_filter p q [] = refl
filter_filter p q (x ∷ xs) = filter_step (p x) q x (filter p xs) (filter (λ x. p x && q x) xs) (filter_filter p q xs)

count_filter : (p q : Object → Bool) (xs : List Object) → count_by q (filter p xs) ≡ count_by (λ x. p x && q x) xs
count_filter p q xs = sym (length-filter q (filter p xs)) ∙ ap (λ (ys : List Object). length ys) (filter_filter p q xs) ∙ length-filter (λ x. p x && q x) xs

pub any_enemy : (o : Object) (os standing : List Object) → standing ≡ filter is_standing os → list_any (is_other_near MINE_REACH o) standing ≡ list_any (is_enemy_near MINE_REACH o) os
any_enemy o os standing e = rw e (any_filter is_standing (is_other_near MINE_REACH o) os)

pub triggered_is : (os standing : List Object) (o : Object) → standing ≡ filter is_standing os → (is_armed o && list_any (is_other_near MINE_REACH o) standing) ≡ is_triggered os o
unfolding is_triggered
triggered_is os standing o e = ap (λ b. is_armed o && b) (any_enemy o os standing e)

pub filter_same : (p q : Object → Bool) (xs : List Object) → ((x : Object) → p x ≡ q x) → filter p xs ≡ filter q xs
filter_same p q [] h = refl
filter_same p q (x ∷ xs) h = rw (h x, filter_same p q xs h) refl

length-filter_le : (p : Object → Bool) (xs : List Object) → length (filter p xs) ≤ length xs
length-filter_le p [] = omega arith
length-filter_le p (x ∷ xs) = step (p x) (length-filter_le p xs)
  where
    step : (v : Bool) → length (filter p xs) ≤ length xs → length (cond v (x ∷ filter p xs) (filter p xs)) ≤ suc (length xs)
    step true h = omega arith
    step false h = omega arith

pub filter_more : (p : Object → Bool) (now next xs : List Object) (i : ℕ) (x : Object) (b : Bool) → now ≡ filter p (take i xs) → i < length xs → b ≡ p (get_or xs i x) → next ≡ now ++ cond b (get_or xs i x ∷ []) [] → next ≡ filter p (take (i + 1) xs)
filter_more p now next xs i x b h l e f = rw (take_more xs i x l, filter-append) (f ∙ rw (h, e) refl)

map_same : (p q : Object → Bool) (xs : List Object) → ((x : Object) → p x ≡ q x) → map p xs ≡ map q xs
map_same p q [] h = refl
map_same p q (x ∷ xs) h = rw (h x, map_same p q xs h) refl

pub are_found : (os : List Object) (found : Found) (standing : List Object) → found.players.items ≡ filter is_players os → standing ≡ filter is_standing os → found.standing.items ≡ standing → found.picked.flags.items ≡ filter is_flag os → found.picked.hitting.items ≡ filter (is_hitting os) os → found.picked.triggered.items ≡ filter (is_triggered_by standing) os → found.picked.marks.items ≡ map (λ o. is_hitting os o || is_triggered_by standing o) os → AreFound os found
are_found os found standing players s kept flags h m marks =
    let triggered : (o : Object) → is_triggered_by standing o ≡ is_triggered os o = λ o. triggered_is os standing o s in
    record {
      players_are = players;
      standing_are = kept ∙ s;
      flags_are = flags;
      hitting_are = h;
      triggered_are = m ∙ filter_same (is_triggered_by standing) (is_triggered os) os triggered;
      marks_are = marks ∙ map_same (λ o. is_hitting os o || is_triggered_by standing o) (is_ending os) os (λ o. rw (triggered o) refl);
    }

-- ---- few

pub hitting_few : (os : List Object) (found : Found) → AreFound os found → length os ≤ 1024 → length found.picked.hitting.items ≤ 1024
hitting_few os found a few = omega (arith, ap (λ (xs : List Object). length xs) a.hitting_are, length-filter_le (is_hitting os) os)

pub triggered_few : (os : List Object) (found : Found) → AreFound os found → length os ≤ 1024 → length found.picked.triggered.items ≤ 1024
triggered_few os found a few = omega (arith, ap (λ (xs : List Object). length xs) a.triggered_are, length-filter_le (is_triggered os) os)

pub flags_few : (os : List Object) (found : Found) → AreFound os found → length os ≤ 1024 → length found.picked.flags.items ≤ 1024
flags_few os found a few = omega (arith, ap (λ (xs : List Object). length xs) a.flags_are, length-filter_le is_flag os)

pub as_many_marks : (os : List Object) (found : Found) → AreFound os found → length found.picked.marks.items ≡ length os
as_many_marks os found a = ap (λ (xs : List Bool). length xs) a.marks_are ∙ simp length-map

pub mark_at : (os : List Object) (found : Found) (i : ℕ) (b : Bool) (o : Object) → AreFound os found → i < length os → get_or found.picked.marks.items i b ≡ is_ending os (get_or os i o)
mark_at os found i b o a l = ap (λ (xs : List Bool). get_or xs i b) a.marks_are ∙ get_or-map (is_ending os) os i o b l

-- ---- captures

captured_flag : (os : List Object) (team : ℕ) (s : State) → (is_flag_part s && captured_part os team s) ≡ captured_part os team s
captured_flag os team (Player p) = refl
captured_flag os team (Disc d) = refl
captured_flag os team (Mine m) = refl
captured_flag os team (Drone d) = refl
captured_flag os team (Flag f) = refl
captured_flag os team (Clock c) = refl

count_same : (p q : Object → Bool) (xs : List Object) → ((x : Object) → p x ≡ q x) → count_by p xs ≡ count_by q xs
count_same p q xs h = sym (length-filter p xs) ∙ ap (λ (ys : List Object). length ys) (filter_same p q xs h) ∙ length-filter q xs

pub captures_are : (os flags : List Object) (team : ℕ) → flags ≡ filter is_flag os → count_by (is_captured os team) flags ≡ captures os team
unfolding captures
captures_are os flags team e =
    rw e (count_filter is_flag (is_captured os team) os)
    ∙ count_same (λ x. is_flag x && is_captured os team x) (is_captured os team) os (λ x. captured_flag os team x.state)

-- ---- discs that are made

fired_standing : (moves : List (Option MoveBits)) (o : Object) (s : State) → is_standing_part s ≡ false → fired_part moves o s ≡ None
unfolding fired_by
fired_standing moves o (Player p) e = rw e refl
fired_standing moves o (Disc d) e = refl
fired_standing moves o (Mine m) e = refl
fired_standing moves o (Drone d) e = refl
fired_standing moves o (Flag f) e = refl
fired_standing moves o (Clock c) e = refl

made_step : (v : Bool) (moves : List (Option MoveBits)) (o : Object) (os : List Object) → is_standing o ≡ v → filter_map (fired moves) (filter is_standing os) ≡ filter_map (fired moves) os → filter_map (fired moves) (cond v (o ∷ filter is_standing os) (filter is_standing os)) ≡ filter_map (fired moves) (o ∷ os)
made_step true moves o os e h = ap (cons_option (fired moves o)) h
made_step false moves o os e h = h ∙ sym (ap (λ made. cons_option made (filter_map (fired moves) os)) (fired_standing moves o o.state e))

made_by_standing : (moves : List (Option MoveBits)) (os : List Object) → filter_map (fired moves) (filter is_standing os) ≡ filter_map (fired moves) os
made_by_standing moves [] = refl
made_by_standing moves (o ∷ os) = made_step (is_standing o) moves o os refl (made_by_standing moves os)

pub made_are : (os : List Object) (found : Found) (moves : List (Option MoveBits)) → AreFound os found → filter_map (fired moves) found.standing.items ≡ filter_map (fired moves) os
made_are os found moves a = ap (filter_map (fired moves)) a.standing_are ∙ made_by_standing moves os

pub prepared : (os : List Object) (found : Found) (moves : List (Option MoveBits)) (room : ℕ) (standing made : List Object) → AreFound os found → standing ≡ found.standing.items → room ≡ 1024 - length os → made ≡ take room (filter_map (fired moves) standing) → made ≡ discs_made os moves
unfolding discs_made
prepared os found moves room standing made a s k e =
    e ∙ ap (λ (xs : List Object). take room (filter_map (fired moves) xs)) s ∙ ap (take room) (made_are os found moves a) ∙ ap (λ (n : ℕ). take n (filter_map (fired moves) os)) k

-- ---- harm

same_apart : (a b : ℕ) → apart a b ≡ apart b a
same_apart a b = omega arith

same_within : (reach : ℕ) (a b : Place) → is_within reach a b ≡ is_within reach b a
unfolding is_within
same_within reach a b = rw (same_apart a.x b.x, same_apart a.y b.y) refl

same_team : (a b : ℕ) → nat_eq a b ≡ nat_eq b a
same_team a b = grind (arith, nat_tests)

same_near : (reach : ℕ) (o t : Object) → is_other_near reach o t ≡ is_other_near reach t o
same_near reach o t = rw (same_team t.team o.team, same_within reach t.place o.place) refl

found_near : (flies any near : Bool) → (near ≡ true → any ≡ true) → ((flies && any) && near) ≡ (flies && near)
found_near false any near h = refl
found_near true any false h = and-false any
found_near true any true h = rw (h refl) refl

near_hits : (os : List Object) (i : ℕ) (o d : Object) → slice_get os i ≡ Some o → is_target o ≡ true → is_other_near DISC_REACH o d ≡ true → list_any (is_target_near DISC_REACH d) os ≡ true
near_hits os i o d at target near =
    any_at (is_target_near DISC_REACH d) os i o at (rw (target, same_near DISC_REACH d o, near) refl)

count_harm : (os : List Object) (i : ℕ) (o : Object) → slice_get os i ≡ Some o → is_target o ≡ true → count_by (is_other_near DISC_REACH o) (filter (is_hitting os) os) ≡ count_by (is_harming o) os
unfolding is_hitting
count_harm os i o at target =
    count_filter (is_hitting os) (is_other_near DISC_REACH o) os
    ∙ count_same (λ d. is_hitting os d && is_other_near DISC_REACH o d) (is_harming o) os
    (λ d. found_near (is_flying d) (list_any (is_target_near DISC_REACH d) os) (is_other_near DISC_REACH o d) (near_hits os i o d at target))

pub harm_is : (os : List Object) (found : Found) (i : ℕ) (o : Object) → AreFound os found → slice_get os i ≡ Some o → is_target o ≡ true → DISC_HARM * count_by (is_other_near DISC_REACH o) found.picked.hitting.items ≡ harm os o
unfolding harm
harm_is os found i o a at target = ap (λ n. DISC_HARM * n) (rw a.hitting_are (count_harm os i o at target))

pub damage_is : (os : List Object) (found : Found) (i : ℕ) (o : Object) → AreFound os found → slice_get os i ≡ Some o → is_target o ≡ true → DISC_HARM * count_by (is_other_near DISC_REACH o) found.picked.hitting.items + MINE_HARM * count_by (is_other_near MINE_REACH o) found.picked.triggered.items ≡ damage os o
unfolding damage
damage_is os found i o a at target =
    ap (λ n. n + MINE_HARM * count_by (is_other_near MINE_REACH o) found.picked.triggered.items) (harm_is os found i o a at target)
    ∙ ap (λ n. harm os o + MINE_HARM * n) (rw a.triggered_are (count_filter (is_triggered os) (is_other_near MINE_REACH o) os))

pub hits_is : (os : List Object) (found : Found) (client : ℕ) → AreFound os found → count_by (λ d. is_of client d.state) found.picked.hitting.items ≡ hits os client
unfolding hits
hits_is os found client a = rw a.hitting_are (count_filter (is_hitting os) (λ d. is_of client d.state) os)

-- ---- objects by what was found

by_life : (alive : Bool) (o x y : Object) → (alive ≡ true → x ≡ y) → cond (not alive) o x ≡ cond (not alive) o y
by_life true o x y h = h refl
by_life false o x y h = refl

stands : (hp : Bool) (x y z : Object) → (hp ≡ true → x ≡ y) → cond hp x z ≡ cond hp y z
stands true x y z h = h refl
stands false x y z h = refl

pub player_same : (harm whole scored : ℕ) (o : Object) (p : PlayerPart) (m : Move) → o.state ≡ Player p → (is_target o ≡ true → harm ≡ whole) → player_next harm scored o p m ≡ player_next whole scored o p m
unfolding player_next
player_same harm whole scored o p m e h =
    stands (nat_lt 0 p.hp) _ _ _ (λ t. let target : is_target o ≡ true = rw (e, t) refl in rw (h target) refl)

pub drone_same : (r harm whole : ℕ) (o : Object) (d : DronePart) → o.state ≡ Drone d → (is_target o ≡ true → harm ≡ whole) → drone_next r harm o d ≡ drone_next r whole o d
unfolding drone_next
drone_same r harm whole o d e h =
    by_life o.alive o _ _ (λ t. let target : is_target o ≡ true = rw (e, t) refl in rw (h target) refl)

no_mine : (os : List Object) (o : Object) (d : DiscPart) → o.state ≡ Disc d → is_triggered os o ≡ false
unfolding is_triggered
no_mine os o d e = rw (e, and-false o.alive) refl

no_disc : (os : List Object) (o : Object) (m : MinePart) → o.state ≡ Mine m → is_hitting os o ≡ false
unfolding is_hitting
no_disc os o m e = rw (e, and-false o.alive) refl

pub disc_same : (os : List Object) (o : Object) (d : DiscPart) (ending : Bool) → o.state ≡ Disc d → ending ≡ is_ending os o → disc_next ending o d ≡ disc_next (is_hitting os o) o d
disc_same os o d ending e f = ap (λ b. disc_next b o d) (f ∙ rw (no_mine os o d e, or-false (is_hitting os o)) refl)

pub mine_same : (os : List Object) (o : Object) (m : MinePart) (ending : Bool) → o.state ≡ Mine m → ending ≡ is_ending os o → mine_next ending o m ≡ mine_next (is_triggered os o) o m
mine_same os o m ending e f = ap (λ b. mine_next b o m) (f ∙ rw (no_disc os o m e) refl)

-- ---- marks

abbrev pub ending_now : List Object → List Object → Object → Bool
ending_now os standing o = is_hitting os o || is_triggered_by standing o

pub ends_by : (os standing : List Object) (o : Object) (a b : Bool) → a ≡ is_hitting os o → b ≡ is_triggered_by standing o → (a || b) ≡ ending_now os standing o
ends_by os standing o a b e f = rw (e, f) refl

-- the first objects are marked by a test, the others not at all
abbrev pub marked : ℕ → (Object → Bool) → List Object → List Bool
marked zero p os = replicate (length os) false
marked (suc n) p [] = []
marked (suc n) p (o ∷ os) = p o ∷ marked n p os

pub marked_length : (n : ℕ) (p : Object → Bool) (os : List Object) → length (marked n p os) ≡ length os
marked_length zero p [] = refl
marked_length zero p (o ∷ os) = ap suc (marked_length zero p os)
marked_length (suc n) p [] = refl
marked_length (suc n) p (o ∷ os) = ap suc (marked_length n p os)

pub marked_all : (p : Object → Bool) (os : List Object) → marked (length os) p os ≡ map p os
marked_all p [] = refl
marked_all p (o ∷ os) = ap (λ (bs : List Bool). p o ∷ bs) (marked_all p os)

marked_by : (b : Bool) (n : ℕ) (p : Object → Bool) (os : List Object) (o : Object) → n < length os → b ≡ p (get_or os n o) → cond b (set (marked n p os) n true) (marked n p os) ≡ marked (suc n) p os
marked_by b n p [] o l e = absurd (omega arith)
marked_by true zero p (x ∷ os) o l e = ap (λ (c : Bool). c ∷ replicate (length os) false) e
marked_by false zero p (x ∷ os) o l e = ap (λ (c : Bool). c ∷ replicate (length os) false) e
marked_by true (suc n) p (x ∷ os) o l e = ap (λ (bs : List Bool). p x ∷ bs) (marked_by true n p os o (omega arith) e)
marked_by false (suc n) p (x ∷ os) o l e = ap (λ (bs : List Bool). p x ∷ bs) (marked_by false n p os o (omega arith) e)

pub marked_more : (b : Bool) (n : ℕ) (p : Object → Bool) (os : List Object) (o : Object) (now next : List Bool) → now ≡ marked n p os → n < length os → b ≡ p (get_or os n o) → next ≡ cond b (set now n true) now → next ≡ marked (n + 1) p os
marked_more b n p os o now next e l f g = rw (g, e, add-one) (marked_by b n p os o l f)
