-- Words of 64 objects that are all looked at and seen: their levels by how far quarters go, and the list of them.
use Rattle.std.proofs.Common.{◌≡◌, ℕ, zero, suc, ◌+◌, ◌-◌, ◌*◌, ◌/◌, ◌^◌, ◌<◌, ◌≤◌, ◌⊎◌, inl, inr, Bool, true, false, nat_lt, List, [], ◌∷◌, ◌++◌, length, drop, get_or, set, get_or-set_same, get_or-set_other, take, refl, sym, ap, subst, ◌∙◌, arith, Option, Some, None, count_by, length-append, max, min, bit_and, IfOk, OnErr, Result, Ok, Err}
use Rattle.std.specs.Prelude.{slice_get, option_and_then, option_map, map}
use Rattle.std.specs.Option.{option_map_or}
use Rattle.std.specs.Int.{bit_at}
use Rattle.std.specs.List.{cons_option, enumerate_from, filter_map}
use Rattle.std.proofs.lemmas.Nat.{div_below}
use Rattle.std.proofs.lemmas.Nat.Bits.{bit_at-zero, bit_at_ones, bit_at_and}
use Rattle.std.proofs.lemmas.Bool.{cases_lt}
use Rattle.std.proofs.lemmas.Bool.Decides.{nat_tests, eqb_tells}
use Rattle.std.proofs.lemmas.List.{drop_all, get_or-take, length-map, length-take-le}
use Rattle.std.proofs.lemmas.List.FromFn.{length-enumerate_from}
use Rattle.std.proofs.Math.Nat.{le-div_iff_mul-le}
use Rattle.world_rules.specs.declared.object.Object.{Object}
use Rattle.world_rules.specs.declared.object.Place.{Place}
use Rattle.world_cells.specs.Lines.{AreBits}
use Rattle.world_places.specs.declared.places.PlaceWord.{PlaceWord}
use Rattle.world_places.specs.Places.{ArePlaced, IsWordOf, PlaceLists, is_special, place_at}
use Rattle.world_sim.specs.Glances.{glance_of}
use Rattle.world_sim.specs.Worlds.{Worlds, alive_at}
use Rattle.world_sim.specs.declared.glance.Glance.{Glance}
use Rattle.world_scope.specs.declared.viewer.Seen.{Seen}
use Rattle.world_scope.specs.declared.viewer.Viewer.{Viewer}
use Rattle.world_scope.specs.declared.whole_words.Rings.{Rings}
use Rattle.world_scope.specs.Sight.{distance}
use Rattle.world_scope.specs.Scope.{Look, seen}
use Rattle.world_scope.specs.Views.{look, IsReady}
use Rattle.world_scope.specs.Rings.{AreLevels, AreRings, HasPlaces, center, entries, is_past, rings_out}
use Rattle.world_scope.specs.Candidates.{HasOnePlayer, may_see, seen_in, to_come}
use Rattle.world_scope.proofs.Sets.{passes}
use Rattle.world_scope.proofs.Sights.{lives, player_seen, plain_open, plain_other, seen_some}
use Rattle.world_scope.proofs.Walking.{bit_true, come_one, count_one}

-- ---- one more of a list

-- what holds of the first elements holds of one more that is put there
pub put_one : (P : ℕ → ℕ → Type 0) (xs : List ℕ) (k x : ℕ) → k < length xs → ((j : ℕ) → j < k → P j (get_or xs j 0)) → P k x → (j : ℕ) → j < k + 1 → P j (get_or (set xs k x) j 0)
put_one P xs k x l before here j m =
    elim (eqb_tells j k) [
      | inl w ↦ rw w.1 (subst (λ (y : ℕ). P k y) (sym (get_or-set_same xs k x 0 l)) here)
      | inr w ↦
          let other = w.1 in
          let less : j < k = elim (cases_lt j k) [
            | inl s ↦ s
            | inr s ↦ absurd (other (omega (arith, s, m)))
          ] in
          subst (λ (y : ℕ). P j y) (sym (get_or-set_other xs k j x 0 other)) (before j less)
    ]

-- no distance is more than the greatest yet
pub most_one : (d : ℕ → ℕ) (k most next : ℕ) → ((j : ℕ) → j < k → d j ≤ most) → most ≤ next → d k ≤ next → (j : ℕ) → j < k + 1 → d j ≤ next
most_one d k most next before more here j m =
    elim (cases_lt j k) [
      | inl s ↦ (let b = before j s in omega (arith, b, more))
      | inr s ↦ (let e : j ≡ k = omega (arith, s, m) in rw e here)
    ]

-- the greatest yet is no more than any bound on them
pub least_one : (d : ℕ → ℕ) (k most next : ℕ) → ((bound : ℕ) → ((j : ℕ) → j < k → d j ≤ bound) → most ≤ bound) → next ≡ max most (d k) → (bound : ℕ) → ((j : ℕ) → j < k + 1 → d j ≤ bound) → next ≤ bound
least_one d k most next before e bound all =
    let yet = before bound (λ j l. all j (omega (arith, l))) in
    let here = all k (omega arith) in
    omega (arith, yet, here, e)

-- ---- quarters by how far they go

quotient : (n k q : ℕ) → 0 < k → q * k ≤ n → n < (q + 1) * k → q ≡ n / k
quotient n k q some low high =
    let a = (le-div_iff_mul-le {k = k} {x = q} {y = n} some).1 low in
    let b = div_below n k (q + 1) some high in
    omega (arith, a, b)

-- whether a place lies past so many quarters of a reach
abbrev Tells : ℕ → ℕ → ℕ → Type 0
Tells quarters away past = ((past ≡ 1) × (quarters ≤ 4 * away)) ⊎ ((past ≡ 0) × (4 * away < quarters))

past_tells : (quarters away end : ℕ) → 0 < quarters → away ≤ 65535 → end ≡ min ((quarters - 1) / 4) 65535 → Tells quarters away (is_past end away)
past_tells quarters away end some field e =
    elim (cases_lt end away) [
      | inl l ↦ (let t : nat_lt end away ≡ true = grind (arith, nat_tests) in inl (rw t refl, omega (arith, l, e, field, some)))
      | inr l ↦ (let t : nat_lt end away ≡ false = grind (arith, nat_tests) in inr (rw t refl, omega (arith, l, e, some)))
    ]

by_tells : (reach away a b c : ℕ) → 0 < reach → away < reach → Tells (1 * reach) away a → Tells (2 * reach) away b → Tells (3 * reach) away c → a + b + c ≡ 4 * away / reach
by_tells reach away a b c some near (inr x) (inr y) (inr z) = let q = quotient (4 * away) reach 0 some (omega arith) (omega (arith, x.1)) in omega (arith, q, x.0, y.0, z.0)
by_tells reach away a b c some near (inl x) (inr y) (inr z) = let q = quotient (4 * away) reach 1 some (omega (arith, x.1)) (omega (arith, y.1)) in omega (arith, q, x.0, y.0, z.0)
by_tells reach away a b c some near (inl x) (inl y) (inr z) = let q = quotient (4 * away) reach 2 some (omega (arith, y.1)) (omega (arith, z.1)) in omega (arith, q, x.0, y.0, z.0)
by_tells reach away a b c some near (inl x) (inl y) (inl z) = let q = quotient (4 * away) reach 3 some (omega (arith, z.1)) (omega (arith, near)) in omega (arith, q, x.0, y.0, z.0)
by_tells reach away a b c some near (inr x) (inl y) z = absurd (omega (arith, x.1, y.1))
by_tells reach away a b c some near (inr x) (inr y) (inl z) = absurd (omega (arith, x.1, z.1))
by_tells reach away a b c some near (inl x) (inr y) (inl z) = absurd (omega (arith, y.1, z.1))

rings_quarter : (r : Rings) (v : Viewer) (away : ℕ) → AreRings r v → 0 < v.reach → away ≤ 65535 → away < v.reach → rings_out r away ≡ 4 * away / v.reach
rings_quarter r v away rings some field near =
    by_tells v.reach away (is_past r.first away) (is_past r.second away) (is_past r.third away) some near
    (past_tells (1 * v.reach) away r.first (omega (arith, some)) field rings.first)
    (past_tells (2 * v.reach) away r.second (omega (arith, some)) field rings.second)
    (past_tells (3 * v.reach) away r.third (omega (arith, some)) field rings.third)

-- ---- each of 64 objects

pub all_pass : (word from count : ℕ) (p : Object → Bool) (os : List Object) → AreBits word from 64 p os → count ≤ 64 → word ≡ 2 ^ count - 1 → (k : ℕ) → k < count → passes p os (from + k) ≡ true
all_pass word from count p os bits few e k l = bit_true _ (sym (bits k (omega (arith, few, l))) ∙ ap (λ w. bit_at w k) e ∙ bit_at_ones count k l)

apart : false ≡ true → ⊥
apart e = absurd (cc)

past_end : (os : List Object) (n : ℕ) → n < length os → slice_get os n ≡ None → ⊥
past_end [] n l e = absurd (omega (arith, l))
past_end (o ∷ os) zero l e = absurd (cc)
past_end (o ∷ os) (suc n) l e = past_end os n (omega (arith, l)) e

-- an object that is there is seen as it is made
pub sight_is : (v : Look) (os : List Object) (n : ℕ) (made : Option Seen) (x : Option Object) → slice_get os n ≡ x → n < length os → ((o : Object) → slice_get os n ≡ Some o → made ≡ seen v (n, o)) → made ≡ seen_in v os n
sight_is v os n made None at l h = absurd (past_end os n l at)
sight_is v os n made (Some o) at l h = h o at ∙ sym (ap (option_and_then (λ (y : Object). seen v (n, y))) at)

passing_is : (v : Look) (os : List Object) (n : ℕ) (made : Option Seen) (x : Option Object) → slice_get os n ≡ x → option_map_or (may_see v) x false ≡ true → ((o : Object) → slice_get os n ≡ Some o → may_see v o ≡ true → seen v (n, o) ≡ made) → seen_in v os n ≡ made
passing_is v os n made None at e h = absurd (apart e)
passing_is v os n made (Some o) at e h = ap (option_and_then (λ (y : Object). seen v (n, y))) at ∙ h o at e

-- where the furthest is within reach, the quarters that end before each are its level
pub near_levels : (v : Viewer) (r : Rings) (places : PlaceWord) (levels : List ℕ) (most : ℕ) → AreRings r v → 0 < v.reach → ((k : ℕ) → k < 64 → get_or levels k 0 ≡ rings_out r (distance (center r) (place_at places k))) → ((k : ℕ) → k < 64 → distance (center r) (place_at places k) ≤ most) → most ≤ r.reach → AreLevels levels v places
near_levels v r places levels most rings some told furthest near k l =
    let same : distance (center r) (place_at places k) ≡ distance v.place (place_at places k) = ap (λ (p : Place). distance p (place_at places k)) rings.center in
    let d = furthest k l in
    let field : distance v.place (place_at places k) ≤ 65535 = omega (arith, same, d, near, rings.reach) in
    let reached : distance v.place (place_at places k) < v.reach = omega (arith, same, d, near, rings.reach, some) in
    (reached, told k l ∙ ap (rings_out r) same ∙ rings_quarter r v (distance v.place (place_at places k)) rings some field reached)

-- where all lie within reach, so does the furthest
pub furthest_near : (v : Viewer) (r : Rings) (places : PlaceWord) (most : ℕ) → AreRings r v → 0 < v.reach → most ≤ 65535 → ((bound : ℕ) → ((k : ℕ) → k < 64 → distance (center r) (place_at places k) ≤ bound) → most ≤ bound) → ((k : ℕ) → k < 64 → distance v.place (place_at places k) < v.reach) → most ≤ r.reach
furthest_near v r places most rings some field least near =
    let reached = least (v.reach - 1) (λ k l.
    let same : distance (center r) (place_at places k) ≡ distance v.place (place_at places k) = ap (λ (p : Place). distance p (place_at places k)) rings.center in
    let d = near k l in
    omega (arith, same, d)) in
    omega (arith, reached, field, some, rings.reach)

-- what is known of a word whose levels are found at once
pub record IsWhole (v : Viewer) (places : PlaceWord) (word from count : ℕ) (levels : List ℕ) (os : List Object) : Type 0 where
  pub few : count ≤ 64
  pub full : word ≡ 2 ^ count - 1
  pub ready : IsReady v
  pub has : HasPlaces places from os
  pub plain : (k : ℕ) → k < 64 → bit_at word k ≡ 1 → bit_at places.special k ≡ 0
  pub owned : HasOnePlayer (look v) os
  pub bits : AreBits word from 64 (may_see (look v)) os
  pub near : AreLevels levels v places

one_seen : (v : Viewer) (places : PlaceWord) (word from count k : ℕ) (levels : List ℕ) (os : List Object) (o : Object) → IsWhole v places word from count levels os → k < count → slice_get os (from + k) ≡ Some o → may_see (look v) o ≡ true → seen (look v) (from + k, o) ≡ Some (record { object = from + k; level = get_or levels k 0 })
one_seen v places word from count k levels os o w m at may =
    let l : k < 64 = omega (arith, m, w.few) in
    let bit : bit_at word k ≡ 1 = ap (λ x. bit_at x k) w.full ∙ bit_at_ones count k m in
    let same : distance v.place (place_at places k) ≡ distance v.place o.place = ap (distance v.place) (w.has.places k o l at) in
    let here = w.near k l in
    let near : distance v.place o.place < v.reach = let h = here.0 in omega (arith, same, h) in
    let plain : is_special o ≡ true → false ≡ true = λ s. absurd (let one = w.has.marks k o l at s in let none = w.plain k l bit in omega (arith, one, none)) in
    let level : get_or levels k 0 ≡ 4 * distance v.place o.place / v.reach = here.1 ∙ ap (λ (d : ℕ). 4 * d / v.reach) same in
    player_seen (look v) (from + k) o (lives (look v) o may) (plain_other o false plain refl) (λ own. w.owned (from + k) o at own)
    ∙ sym (seen_some v (from + k) (get_or levels k 0) o w.ready (plain_open o false v.team plain refl) near level)

-- each is seen as its level tells
pub whole_seen : (v : Viewer) (places : PlaceWord) (word from count : ℕ) (levels : List ℕ) (os : List Object) → IsWhole v places word from count levels os → (k : ℕ) → k < count → seen_in (look v) os (from + k) ≡ Some (record { object = from + k; level = get_or levels k 0 })
whole_seen v places word from count levels os w k l =
    passing_is (look v) os (from + k) (Some (record { object = from + k; level = get_or levels k 0 })) (slice_get os (from + k)) refl
    (all_pass word from count (may_see (look v)) os w.bits w.few w.full k l)
    (λ o at may. one_seen v places word from count k levels os o w l at may)

pub levels_few : (v : Viewer) (places : PlaceWord) (levels : List ℕ) → 0 < v.reach → AreLevels levels v places → (k : ℕ) → k < 64 → get_or levels k 0 ≤ 3
levels_few v places levels some all k l =
    let here = all k l in
    let few = div_below (4 * distance v.place (place_at places k)) v.reach 4 some (let h = here.0 in omega (arith, h)) in
    let e = here.1 in
    omega (arith, e, few)

pub apart_bits : (word special k : ℕ) → bit_and word special ≡ 0 → bit_at word k ≡ 1 → bit_at special k ≡ 0
apart_bits word special k e bit =
    let both = bit_at_and word special k in
    let none : bit_at (bit_and word special) k ≡ 0 = ap (λ x. bit_at x k) e ∙ bit_at-zero k in
    omega (arith, both, none, bit)

-- ---- all of them

come_whole : (v : Look) (os : List Object) (i : ℕ) (levels : List ℕ) → ((k : ℕ) → k < length levels → seen_in v os (i + k) ≡ Some (record { object = i + k; level = get_or levels k 0 })) → to_come v os i ≡ entries i levels ++ to_come v os (i + length levels)
come_whole v os i [] h = let e : i ≡ i + 0 = omega arith in ap (to_come v os) e
come_whole v os i (l ∷ levels) h =
    let z : i + 0 ≡ i = omega arith in
    let first : seen_in v os i ≡ Some (record { object = i; level = l }) = rw z at (h 0 (omega arith)) in
    let later : to_come v os (i + 1) ≡ entries (i + 1) levels ++ to_come v os (i + 1 + length levels) =
    come_whole v os (i + 1) levels (λ k m. let f : i + 1 + k ≡ i + suc k = omega arith in rw f (h (suc k) (omega (arith, m)))) in
    let end : i + 1 + length levels ≡ i + suc (length levels) = omega arith in
    come_one v os i
    ∙ ap (λ (s : Option Seen). cons_option s (to_come v os (i + 1))) first
    ∙ ap (λ (ys : List Seen). record { object = i; level = l } ∷ ys) (later ∙ ap (λ (n : ℕ). entries (i + 1) levels ++ to_come v os n) end)

pub count_whole : (p : Object → Bool) (os : List Object) (i many : ℕ) → ((k : ℕ) → k < many → passes p os (i + k) ≡ true) → count_by p (drop i os) ≡ many + count_by p (drop (i + many) os)
count_whole p os i zero h =
    let e : i ≡ i + 0 = omega arith in
    let same : count_by p (drop i os) ≡ count_by p (drop (i + 0) os) = ap (λ (n : ℕ). count_by p (drop n os)) e in
    omega (arith, same)
count_whole p os i (suc many) h =
    let z : i + 0 ≡ i = omega arith in
    let first = count_one p os i (ap (passes p os) (sym z) ∙ h 0 (omega arith)) in
    let later = count_whole p os (suc i) many (λ k m. let f : suc i + k ≡ i + suc k = omega arith in ap (passes p os) f ∙ h (suc k) (omega (arith, m))) in
    let end : suc i + many ≡ i + suc many = omega arith in
    let e : count_by p (drop (suc i + many) os) ≡ count_by p (drop (i + suc many) os) = ap (λ (n : ℕ). count_by p (drop n os)) end in
    omega (arith, first, later, e)

-- behind all that are there nothing comes
end_same : {C : Type 0} (f : List Object → ℕ → C) (none : C) → ((n : ℕ) → f [] n ≡ none) → (os : List Object) (from count : ℕ) → count ≡ min 64 (length os - from) → f (drop (from + count) os) (from + count) ≡ f (drop (from + 64) os) (from + 64)
end_same f none h os from count e =
    elim (cases_lt count 64) [
      | inl l ↦
          ap (λ (ds : List Object). f ds (from + count)) (drop_all (from + count) os (omega (arith, e, l)))
          ∙ h (from + count)
          ∙ sym (h (from + 64))
          ∙ sym (ap (λ (ds : List Object). f ds (from + 64)) (drop_all (from + 64) os (omega (arith, e, l))))
      | inr l ↦ (let same : count ≡ 64 = omega (arith, e, l) in ap (λ (n : ℕ). f (drop (from + n) os) (from + n)) same)
    ]

pub come_same : (v : Look) (os : List Object) (from count : ℕ) → count ≡ min 64 (length os - from) → to_come v os (from + count) ≡ to_come v os (from + 64)
come_same v os from count e = end_same (λ (ds : List Object) (n : ℕ). filter_map (seen v) (enumerate_from n ds)) [] (λ n. refl) os from count e

pub count_same : (p : Object → Bool) (os : List Object) (from count : ℕ) → count ≡ min 64 (length os - from) → count_by p (drop (from + count) os) ≡ count_by p (drop (from + 64) os)
count_same p os from count e = end_same (λ (ds : List Object) (n : ℕ). count_by p ds) 0 (λ n. refl) os from count e

pub come_all : (v : Look) (os : List Object) (i count : ℕ) (levels : List ℕ) → length levels ≡ 64 → count ≡ min 64 (length os - i) → ((k : ℕ) → k < count → seen_in v os (i + k) ≡ Some (record { object = i + k; level = get_or levels k 0 })) → to_come v os i ≡ entries i (take count levels) ++ to_come v os (i + 64)
come_all v os i count levels many e h =
    let long : length (take count levels) ≡ count = length-take-le count levels (omega (arith, many, e)) in
    come_whole v os i (take count levels) (λ k l.
    let m : k < count = omega (arith, long, l) in
    h k m ∙ ap (λ (x : ℕ). Some (record { object = i + k; level = x })) (sym (get_or-take count levels k 0 m)))
    ∙ ap (λ (n : ℕ). entries i (take count levels) ++ to_come v os (i + n)) long
    ∙ ap (λ (ys : List Seen). entries i (take count levels) ++ ys) (come_same v os i count e)

pub take_entries : (n from : ℕ) (levels : List ℕ) → take n (entries from levels) ≡ entries from (take n levels)
take_entries zero from levels = refl
take_entries (suc n) from [] = refl
take_entries (suc n) from (l ∷ levels) = ap (λ (ys : List Seen). record { object = from; level = l } ∷ ys) (take_entries n (from + 1) levels)

entries_many : (from : ℕ) (levels : List ℕ) → length (entries from levels) ≡ length levels
entries_many from levels = length-map (enumerate_from from levels) (λ (e : ℕ × ℕ). record { object = e.0; level = e.1 }) ∙ length-enumerate_from from levels

-- a list that has no room for so many more has none for all that comes
pub room_all : {room : ℕ} → (front : List Seen) (levels : List ℕ) (from count : ℕ) (come later : List Seen) → count ≤ length levels → come ≡ entries from (take count levels) ++ later → room < length front + count → room < length (front ++ come)
room_all front levels from count come later many e l =
    let long = length-take-le count levels many in
    let a = length-append front come in
    let b : length come ≡ length (entries from (take count levels) ++ later) = ap (λ (ys : List Seen). length ys) e in
    let c = length-append (entries from (take count levels)) later in
    let d = entries_many from (take count levels) in
    omega (arith, a, b, c, d, long, l)

glance_by : (os : List Object) (n : ℕ) (d : Glance) (o : Object) → slice_get os n ≡ Some o → get_or (map glance_of os) n d ≡ glance_of o
glance_by [] n d o at = absurd (cc)
glance_by (x ∷ os) zero d o at = let same : x ≡ o = cc in ap glance_of same
glance_by (x ∷ os) (suc n) d o at = glance_by os n d o at

pub glance_at : (os : List Object) (glances : List Glance) (n : ℕ) (d : Glance) (o : Object) → glances ≡ map glance_of os → slice_get os n ≡ Some o → get_or glances n d ≡ glance_of o
glance_at os glances n d o e at = ap (λ (gs : List Glance). get_or gs n d) e ∙ glance_by os n d o at

pub alive_by : (w : Worlds) (n : ℕ) (o : Object) → alive_at w n ≡ Some true → slice_get w.objects n ≡ Some o → o.alive ≡ true
alive_by w n o alive at =
    let e : Some o.alive ≡ Some true = sym (ap (option_map (λ (x : Object). x.alive)) at) ∙ alive in
    cc

pub if_ok : {A E : Type 0} {P Q : A → Type 0} → (r : Result A E) → IfOk r P → ((a : A) → P a → Q a) → IfOk r Q
if_ok (Ok a) p f = f a p
if_ok (Err e) p f = tt

pub on_err : {A E P Q : Type 0} → (r : Result A E) → OnErr r P → (P → Q) → OnErr r Q
on_err (Ok a) p f = tt
on_err (Err e) p f = f p

-- ---- the places of a word

pub word_places : (lists : PlaceLists) (word : PlaceWord) (os : List Object) (w : ℕ) → ArePlaced lists os → IsWordOf lists w word → HasPlaces word (64 * w) os
word_places lists word os w placed is = record {
  many = is.many;
  places = λ k o l at. is.places k l ∙ placed.places (64 * w + k) o at;
  marks = λ k o l at s. is.special k l ∙ placed.marks (64 * w + k) o at s;
}
