-- What holds of each list of visible objects.
use Rattle.std.proofs.Common.{◌≡◌, ℕ, zero, suc, ◌<◌, ◌≤◌, ◌+◌, ◌*◌, ◌/◌, Bool, true, false, cond, ◌||◌, List, [], ◌∷◌, length, map, get_or, refl, sym, ap, ◌∙◌, subst, arith, add-one, Option, Some, None}
use Rattle.std.specs.Prelude.{slice_get, option_map, option_and_then, nat_le, ◌↔◌}
use Rattle.std.specs.List.{All, AllByRecursion, Contains, filter_map, enumerate_from, cons_option}
use Rattle.std.specs.List.Sorted.{IsStrictlyIncreasing}
use Rattle.std.proofs.lemmas.Bool.{and_parts, leb-true}
use Rattle.std.proofs.lemmas.Nat.{div_below}
use Rattle.std.proofs.lemmas.List.Elements.{All-from_recursion, All-contains, Contains-append_right}
use Rattle.std.proofs.lemmas.Option.{slice_get_within}
use Rattle.world_rules.specs.declared.object.Object.{Object}
use Rattle.world_rules.specs.Flags.{is_player}
use Rattle.world_sim.specs.Worlds.{Worlds, alive_at}
use Rattle.world_scope.specs.declared.viewer.Seen.{Seen}
use Rattle.world_cells.specs.Grid.{is_always}
use Rattle.world_scope.specs.Sight.{distance}
use Rattle.world_scope.specs.Scope.{Look, player_sees, is_visible, quarter, level, seen, seen_at, look_of, visible_list}

-- ---- one object

chosen : {X : Type 0} (b : Bool) (x y : X) → cond b (Some x) None ≡ Some y → (b ≡ true) × (x ≡ y)
chosen true x y e = (refl, cc)
chosen false x y e = absurd (cc)

seen_is : (v : Look) (m : ℕ) (o : Object) (s : Seen) → seen v (m, o) ≡ Some s → (is_visible v o ≡ true) × (record { object = m; level = level v o } ≡ s)
seen_is v m o s e = chosen (is_visible v o) (record { object = m; level = level v o }) s e

pub quarter_few : (radius away : ℕ) → away ≤ radius → 4 * away / (radius + 1) ≤ 3
quarter_few radius away h = let q = div_below (4 * away) (radius + 1) 4 (omega arith) (omega arith) in omega (arith, q)

sight_few : (radius : ℕ) (player : Option Object) (o : Object) → player_sees radius player o ≡ true → quarter radius player o ≤ 3
sight_few radius None o e = omega arith
sight_few radius (Some p) o e =
    let near = (and_parts _ (nat_le (distance p.place o.place) radius) e).1 in
    quarter_few radius (distance p.place o.place) (leb-true _ _ near)

few_by : (anywhere sees : Bool) (q : ℕ) → (sees ≡ true → q ≤ 3) → (anywhere || sees) ≡ true → cond anywhere 0 q ≤ 3
few_by true sees q h e = omega arith
few_by false sees q h e = h e

level_few : (v : Look) (o : Object) → is_visible v o ≡ true → level v o ≤ 3
level_few v o e =
    few_by (is_player v.client o || is_always o) (player_sees v.radius v.player o) (quarter v.radius v.player o) (sight_few v.radius v.player o) (and_parts o.alive _ e).1

-- ---- each object of the list

first_of : {Y : Type 0} (P : Y → Type 0) (y : Option Y) (ys : List Y) → ((z : Y) → y ≡ Some z → P z) → AllByRecursion P ys → AllByRecursion P (cons_option y ys)
first_of P None ys h a = a
first_of P (Some y) ys h a = (h y refl, a)

each : {X Y : Type 0} (f : ℕ × X → Option Y) (P : Y → Type 0) (n : ℕ) (xs : List X) → ((k m : ℕ) (x : X) (y : Y) → m ≡ n + k → slice_get xs k ≡ Some x → f (m, x) ≡ Some y → P y) → AllByRecursion P (filter_map f (enumerate_from n xs))
each f P n [] h = tt
each f P n (x ∷ xs) h =
    first_of P (f (n, x)) (filter_map f (enumerate_from (n + 1) xs))
    (λ y e. h 0 n x y (omega arith) refl e)
    (each f P (n + 1) xs (λ k m z y i at e. h (suc k) m z y (omega arith) at e))

all_seen : (P : Seen → Type 0) (w : Worlds) (client : ℕ) → ((m : ℕ) (o : Object) (s : Seen) → slice_get w.objects m ≡ Some o → is_visible (look_of w client) o ≡ true → record { object = m; level = level (look_of w client) o } ≡ s → P s) → All P (visible_list w client)
unfolding visible_list
all_seen P w client h =
    All-from_recursion P _ (each (seen (look_of w client)) P 0 w.objects (λ k m o s i at e.
    let is = seen_is (look_of w client) m o s e in
    let here : slice_get w.objects m ≡ Some o = (let j : m ≡ k = omega arith in rw j at) in
    h m o s here is.0 is.1))

pub levels_few : (w : Worlds) (client : ℕ) → All (λ s. s.level ≤ 3) (visible_list w client)
levels_few w client =
    let P : Seen → Type 0 = λ s. s.level ≤ 3 in
    all_seen P w client (λ m o s at is e. subst P e (level_few (look_of w client) o is))

pub all_there : (w : Worlds) (client : ℕ) → All (λ s. s.object < length w.objects) (visible_list w client)
all_there w client =
    let P : Seen → Type 0 = λ s. s.object < length w.objects in
    all_seen P w client (λ m o s at is e. subst P e (slice_get_within w.objects m o at))

pub all_alive : (w : Worlds) (client : ℕ) → All (λ s. alive_at w s.object ≡ Some true) (visible_list w client)
all_alive w client =
    let P : Seen → Type 0 = λ s. alive_at w s.object ≡ Some true in
    all_seen P w client (λ m o s at is e. subst P e (ap (option_map (λ (x : Object). x.alive)) at ∙ ap Some (and_parts o.alive _ is).0))

-- ---- exactly those that are seen

head_in : {Y : Type 0} (y : Y) (ys : List Y) → Contains (y ∷ ys) y
head_in y ys = (0, omega arith, refl)

later_in : {Y : Type 0} (z : Option Y) (y : Y) (ys : List Y) → Contains ys y → Contains (cons_option z ys) y
later_in None y ys h = h
later_in (Some z) y ys h = Contains-append_right (z ∷ []) ys y h

first_in : {Y : Type 0} (z : Option Y) (y : Y) (ys : List Y) → z ≡ Some y → Contains (cons_option z ys) y
first_in z y ys e = rw e (head_in y ys)

listed_in : {X Y : Type 0} (f : ℕ × X → Option Y) (n : ℕ) (xs : List X) (k m : ℕ) (x : X) (y : Y) → m ≡ n + k → slice_get xs k ≡ Some x → f (m, x) ≡ Some y → Contains (filter_map f (enumerate_from n xs)) y
listed_in f n [] k m x y i at e = absurd (cc)
listed_in f n (z ∷ xs) zero m x y i at e =
    let same : z ≡ x = cc in
    let j : n ≡ m = omega arith in
    first_in (f (n, z)) y (filter_map f (enumerate_from (n + 1) xs)) (ap (λ a. f (n, a)) same ∙ ap (λ a. f (a, x)) j ∙ e)
listed_in f n (z ∷ xs) (suc k) m x y i at e =
    later_in (f (n, z)) y (filter_map f (enumerate_from (n + 1) xs)) (listed_in f (n + 1) xs k m x y (omega arith) at e)

told : (w : Worlds) (client : ℕ) → All (λ s. seen_at w client s.object ≡ Some s) (visible_list w client)
told w client =
    let P : Seen → Type 0 = λ s. seen_at w client s.object ≡ Some s in
    all_seen P w client (λ m o s at is e. subst P e (ap (option_and_then (λ (x : Object). seen (look_of w client) (m, x))) at ∙ ap (λ b. cond b (Some (seen_as w client m o)) None) is))
  where
    seen_as : Worlds → ℕ → ℕ → Object → Seen
    seen_as w client m o = record { object = m; level = level (look_of w client) o }

found : (w : Worlds) (client : ℕ) (s : Seen) (o : Option Object) → slice_get w.objects s.object ≡ o → option_and_then (λ (x : Object). seen (look_of w client) (s.object, x)) o ≡ Some s → Contains (visible_list w client) s
unfolding visible_list
found w client s None at e = absurd (cc)
found w client s (Some o) at e = listed_in (seen (look_of w client)) 0 w.objects s.object s.object o s (omega arith) at e

pub exactly_seen : (w : Worlds) (client : ℕ) (s : Seen) → Contains (visible_list w client) s ↔ (seen_at w client s.object ≡ Some s)
exactly_seen w client s =
    let P : Seen → Type 0 = λ t. seen_at w client t.object ≡ Some t in
    (All-contains P (visible_list w client) s (told w client), found w client s (slice_get w.objects s.object) refl)

-- ---- their order

-- numbers that rise, from this one on
abbrev Rises : ℕ → List ℕ → Type 0
Rises least [] = Unit {0}
Rises least (n ∷ ns) = (least ≤ n) × Rises (n + 1) ns

rises_sooner : (least n : ℕ) (ns : List ℕ) → least ≤ n → Rises n ns → Rises least ns
rises_sooner least n [] h r = tt
rises_sooner least n (m ∷ ns) h r = (omega (arith, r.0), r.1)

rises_next : (n m : ℕ) (ns : List ℕ) → n < m → ((k : ℕ) → k + 1 < length (m ∷ ns) → get_or (m ∷ ns) k 0 < get_or (m ∷ ns) (k + 1) 0) → (k : ℕ) → k + 1 < length (n ∷ m ∷ ns) → get_or (n ∷ m ∷ ns) k 0 < get_or (n ∷ m ∷ ns) (k + 1) 0
rises_next n m ns h t zero l = h
rises_next n m ns h t (suc k) l = rw add-one (let r = t k (omega arith) in rw add-one at r)

increasing : (least : ℕ) (ns : List ℕ) → Rises least ns → IsStrictlyIncreasing ns
increasing least [] r = λ k h. absurd (omega arith)
increasing least (n ∷ []) r = λ k h. absurd (omega arith)
increasing least (n ∷ m ∷ ns) r = rises_next n m ns (omega (arith, r.1.0)) (increasing (n + 1) (m ∷ ns) r.1)

numbers_by : (n : ℕ) (y : Option Seen) (ys : List Seen) → ((s : Seen) → y ≡ Some s → s.object ≡ n) → Rises (n + 1) (map (λ s. s.object) ys) → Rises n (map (λ s. s.object) (cons_option y ys))
numbers_by n None ys h r = rises_sooner n (n + 1) (map (λ s. s.object) ys) (omega arith) r
numbers_by n (Some s) ys h r = let e = h s refl in (omega (arith, e), rw e r)

numbers_rise : (v : Look) (n : ℕ) (os : List Object) → Rises n (map (λ s. s.object) (filter_map (seen v) (enumerate_from n os)))
numbers_rise v n [] = tt
numbers_rise v n (o ∷ os) =
    numbers_by n (seen v (n, o)) (filter_map (seen v) (enumerate_from (n + 1) os))
    (λ s e. sym (ap (λ (t : Seen). t.object) (seen_is v n o s e).1))
    (numbers_rise v (n + 1) os)

pub objects_rise : (w : Worlds) (client : ℕ) → IsStrictlyIncreasing (map (λ s. s.object) (visible_list w client))
unfolding visible_list
objects_rise w client = increasing 0 _ (numbers_rise (look_of w client) 0 w.objects)

-- ---- the list as the code has it
