-- The objects of a made script are in their ranges and in their order.
use Rattle.std.proofs.Common.{◌≡◌, ℕ, zero, suc, ◌+◌, ◌-◌, ◌%◌, ◌/◌, ◌<◌, ◌≤◌, ◌==◌, Bool, true, false, if◌then◌else◌, List, [], ◌∷◌, ◌++◌, length, map, refl, sym, ap, subst, ◌∙◌, arith, Option, Some, None}
use Rattle.std.specs.Prelude.{ℤ, pos, ◌≤ℤ◌}
use Rattle.std.specs.List.{All}
use Rattle.std.proofs.lemmas.Int.{ints}
use Rattle.std.proofs.lemmas.List.{length-append, map-append}
use Rattle.std.proofs.lemmas.List.Elements.{All-nil, All-cons, All-append, All-head, All-tail, All-from_recursion}
use Rattle.std.proofs.Math.Nat.{zero-add}
use Rattle.rand_pcg.specs.Lcg.{Lcg}
use Rattle.tn_types.specs.declared.limits.TheConstants.{MAX_CLIENTS}
use Rattle.world_rules.specs.declared.setup.Spawn.{Spawn}
use Rattle.world_rules.specs.Spawning.{SpawnFits}
use Rattle.world_rules.specs.Identity.{OwnersRise, HaveNoOwner}
use Rattle.script_maker.specs.Draws.{Drawn, draw, each_below}
use Rattle.script_maker.specs.Header.{player, fixed, other, objects}
use Rattle.script_maker.proofs.Drawing.{draw_below, all_drawn}

-- ---- one object

-- a spawn in its ranges, of one of the four blocks
abbrev pub Fits : ℕ → Spawn → Type 0
Fits clients s = SpawnFits clients s × (s.block < 4)

player_fits : (clients c : ℕ) (g : Lcg) → c < clients → All (Fits clients) (player c g).0
unfolding player
player_fits clients c g h =
    let x : (draw 65536 g).0 < 65536 = draw_below 65536 g (omega arith) in
    let y : (draw 65536 (draw 65536 g).1).0 < 65536 = draw_below 65536 (draw 65536 g).1 (omega arith) in
    All-cons (Fits clients) _ [] (
      record {
        owner = (refl, h);
        block = omega arith;
        team = omega arith;
        x_least = omega (arith, ints);
        x_most = omega (arith, ints);
        y_least = omega (arith, ints);
        y_most = omega (arith, ints);
      },
      omega arith,
    ) (All-nil (Fits clients))

other_fits : (clients i : ℕ) (g : Lcg) → All (Fits clients) (other i g).0
unfolding other
other_fits clients i g =
    by (i % 2 == 0) (draw 65536 g).0 (draw 65536 (draw 65536 g).1).0 (draw_below 65536 g (omega arith)) (draw_below 65536 (draw 65536 g).1 (omega arith))
  where
    by : (drone : Bool) (x y : ℕ) → x < 65536 → y < 65536 → All (Fits clients) (record {
      kind = if drone then 3 else 2;
      block = if drone then 2 else 3;
      team = (i / 2) % 2;
      x = pos x;
      y = pos y;
      owner = None;
    } ∷ [])
    by true x y h k = All-cons (Fits clients) _ [] (
      record {
        owner = (omega arith, omega arith);
        block = omega arith;
        team = omega arith;
        x_least = omega (arith, ints);
        x_most = omega (arith, ints);
        y_least = omega (arith, ints);
        y_most = omega (arith, ints);
      },
      omega arith,
    ) (All-nil (Fits clients))
    by false x y h k = All-cons (Fits clients) _ [] (
      record {
        owner = (omega arith, omega arith);
        block = omega arith;
        team = omega arith;
        x_least = omega (arith, ints);
        x_most = omega (arith, ints);
        y_least = omega (arith, ints);
        y_most = omega (arith, ints);
      },
      omega arith,
    ) (All-nil (Fits clients))

standing_fits : (clients kind block team : ℕ) (z : ℤ) → 2 ≤ kind → kind ≤ 5 → block < 4 → team < 2 → pos 0 ≤ℤ z → z ≤ℤ pos 65535
    → Fits clients (record { kind = kind; block = block; team = team; x = z; y = z; owner = None })
standing_fits clients kind block team z least most b t low high = (
  record {
    owner = (least, most);
    block = omega arith;
    team = t;
    x_least = low;
    x_most = high;
    y_least = low;
    y_most = high;
  },
  b,
)

fixed_fits : (clients : ℕ) → All (Fits clients) fixed
fixed_fits clients = All-from_recursion (Fits clients) fixed (
  standing_fits clients 5 0 0 (pos 0) (omega arith) (omega arith) (omega arith) (omega arith) (omega (arith, ints)) (omega (arith, ints)),
  (
    standing_fits clients 4 1 0 (pos 8000) (omega arith) (omega arith) (omega arith) (omega arith) (omega (arith, ints)) (omega (arith, ints)),
    (standing_fits clients 4 1 1 (pos 57535) (omega arith) (omega arith) (omega arith) (omega arith) (omega (arith, ints)) (omega (arith, ints)), tt),
  ),
)

-- ---- all objects

pub objects_fit : (clients : ℕ) (g : Lcg) → All (Fits clients) (objects clients g).0
unfolding objects
objects_fit clients g =
    let P = Fits clients in
    let players = each_below clients player g in
    let others = each_below (60 - (clients + 3)) other players.1 in
    All-append P players.0 (fixed ++ others.0) (all_drawn P player clients g (λ c h l. player_fits clients c h l))
    (All-append P fixed others.0 (fixed_fits clients) (all_drawn P other (60 - (clients + 3)) players.1 (λ i h l. other_fits clients i h)))

one_each : {A : Type 0} (f : ℕ → Drawn (List A)) (n : ℕ) (g : Lcg) → ((i : ℕ) (h : Lcg) → length (f i h).0 ≡ 1) → length (each_below n f g).0 ≡ n
unfolding each_below
one_each f zero g one = refl
one_each {A} f (suc n) g one = omega (arith, length-append {A = A}, one_each f n g one, one n (each_below n f g).1)

one_player : (c : ℕ) (g : Lcg) → length (player c g).0 ≡ 1
unfolding player
one_player c g = refl

one_other : (i : ℕ) (g : Lcg) → length (other i g).0 ≡ 1
unfolding other
one_other i g = refl

pub sixty_objects : (clients : ℕ) (g : Lcg) → clients ≤ MAX_CLIENTS → length (objects clients g).0 ≡ 60
unfolding objects
sixty_objects clients g few =
    let players = each_below clients player g in
    omega (arith, length-append {A = Spawn}, one_each player clients g one_player, one_each other (60 - (clients + 3)) players.1 one_other)

-- ---- who plays

abbrev owners_of : List Spawn → List (Option ℕ)
owners_of spawns = map (λ s. s.owner) spawns

-- so many clients, from this one on
abbrev clients_from : ℕ → ℕ → List (Option ℕ)
clients_from least zero = []
clients_from least (suc n) = Some least ∷ clients_from (suc least) n

one_client_more : (least n : ℕ) → clients_from least n ++ Some (least + n) ∷ [] ≡ clients_from least (suc n)
one_client_more least zero = ap (λ (c : ℕ). Some c ∷ []) (omega arith)
one_client_more least (suc n) =
    ap (λ (os : List (Option ℕ)). Some least ∷ os) (subst (λ (c : ℕ). clients_from (suc least) n ++ Some c ∷ [] ≡ clients_from (suc least) (suc n)) (omega arith) (one_client_more (suc least) n))

player_owner : (c : ℕ) (g : Lcg) → owners_of (player c g).0 ≡ Some c ∷ []
unfolding player
player_owner c g = refl

player_owners : (n : ℕ) (g : Lcg) → owners_of (each_below n player g).0 ≡ clients_from 0 n
unfolding each_below
player_owners zero g = refl
player_owners (suc n) g =
    let before = each_below n player g in
    map-append (λ (s : Spawn). s.owner) before.0 (player n before.1).0
    ∙ rw (player_owners n g, player_owner n before.1) (subst (λ (c : ℕ). clients_from 0 n ++ Some c ∷ [] ≡ clients_from 0 (suc n)) (zero-add n) (one_client_more 0 n))

-- nobody owns any of these
abbrev Unowned : List Spawn → Type 0
Unowned spawns = All (λ s. s.owner ≡ None) spawns

other_unowned : (i : ℕ) (g : Lcg) → Unowned (other i g).0
unfolding other
other_unowned i g = All-cons (λ s. s.owner ≡ None) _ [] refl (All-nil (λ s. s.owner ≡ None))

none_first : (owner : Option ℕ) (owners : List (Option ℕ)) → owner ≡ None → HaveNoOwner owners → HaveNoOwner (owner ∷ owners)
none_first None owners e rest = rest
none_first (Some c) owners e rest = absurd (cc)

have_no_owner : (spawns : List Spawn) → Unowned spawns → HaveNoOwner (owners_of spawns)
have_no_owner [] h = tt
have_no_owner (s ∷ spawns) h =
    none_first s.owner (owners_of spawns) (All-head (λ x. x.owner ≡ None) s spawns h) (have_no_owner spawns (All-tail (λ x. x.owner ≡ None) s spawns h))

rises : (clients least n : ℕ) (others : List (Option ℕ)) → least + n ≤ clients → HaveNoOwner others → OwnersRise clients least (clients_from least n ++ others)
rises clients least zero [] h none = tt
rises clients least zero (None ∷ others) h none = none
rises clients least zero (Some c ∷ others) h none = absurd none
rises clients least (suc n) others h none = (omega arith, omega arith, rises clients (suc least) n others (omega arith) none)

pub owners_rise : (clients : ℕ) (g : Lcg) → OwnersRise clients 0 (owners_of (objects clients g).0)
unfolding objects
owners_rise clients g =
    let players = each_below clients player g in
    let others = each_below (60 - (clients + 3)) other players.1 in
    let none : Unowned others.0 = all_drawn (λ s. s.owner ≡ None) other (60 - (clients + 3)) players.1 (λ i h l. other_unowned i h) in
    let parts : owners_of (objects clients g).0 ≡ clients_from 0 clients ++ owners_of (fixed ++ others.0) =
    map-append (λ (s : Spawn). s.owner) players.0 (fixed ++ others.0) ∙ ap (λ (os : List (Option ℕ)). os ++ owners_of (fixed ++ others.0)) (player_owners clients g) in
    subst (OwnersRise clients 0) (sym parts) (rises clients 0 clients (owners_of (fixed ++ others.0)) (omega arith) (have_no_owner others.0 none))
