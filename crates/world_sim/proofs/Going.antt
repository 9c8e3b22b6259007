-- What is over stays as it is, so a tick may pass over it: what is found, and the turns of all objects.
use Rattle.std.proofs.Common.{◌≡◌, ℕ, zero, suc, ◌+◌, ◌-◌, ◌<◌, ◌≤◌, Bool, true, false, cond, not, nat_eq, List, [], ◌∷◌, ◌++◌, length, map, take, filter, replicate, get_or, set, Option, Some, None, refl, sym, ap, ◌∙◌, subst, arith, inl, inr}
use Rattle.std.specs.Prelude.{slice_get}
use Rattle.std.specs.Option.{option_map_or}
use Rattle.std.specs.List.{AllByRecursion}
use Rattle.std.proofs.lemmas.Bool.Decides.{eqb_tells, leb_tells}
use Rattle.std.proofs.lemmas.List.{length-map, get_or-map}
use Rattle.std.proofs.lemmas.Option.{slice_get_cases}
use Rattle.tn_types.specs.declared.moves.MoveBits.{MoveBits}
use Rattle.world_rules.specs.declared.object.Object.{Object}
use Rattle.world_rules.specs.declared.object.State.{State}
use Rattle.world_rules.specs.declared.object.State.TheVariants.{Player, Disc, Mine, Drone, Flag, Clock}
use Rattle.world_rules.specs.Discs.{is_hitting}
use Rattle.world_rules.specs.Next.{Moment, object_next}
use Rattle.world_cells.specs.NumberSet.{bit_of}
use Rattle.world_sim.specs.declared.rows.Row.{Row}
use Rattle.world_sim.specs.declared.rows.Write.{Write}
use Rattle.world_sim.specs.Rows.{values_of, row_writes}
use Rattle.world_sim.specs.RowsNext.{row_next, row_values, rows_updated, rows_writes, IsSoundRow}
use Rattle.world_sim.specs.declared.found.Found.{Found}
use Rattle.world_sim.specs.declared.glance.Glance.{Glance}
use Rattle.world_sim.specs.Glances.{glance_of}
use Rattle.world_sim.specs.Found.{AreFound, is_ending}
use Rattle.world_sim.specs.Turns.{ArePassed, is_quiet, is_quiet_part, is_over, is_over_part, stepped_to, HasGoing}
use Rattle.world_sim.proofs.RowFields.{row_stays, writes_nothing}
use Rattle.world_sim.proofs.RowLoops.{row_writes_from, row_writes_at, sound_at}
use Rattle.world_sim.proofs.Gathered.{marked, ending_now, mark_at}
use Rattle.world_sim.proofs.Glancing.{MattersNot, as_many_glances, glance_is}
use Rattle.world_sim.proofs.Turns.{quiet_stays, same_values}

-- ---- one that is over

over_quiet : (b alive : Bool) (s : State) → is_over_part alive s ≡ true → is_quiet_part b alive s ≡ true
over_quiet b alive (Player p) e = absurd (cc)
over_quiet b alive (Disc d) e = e
over_quiet b alive (Mine m) e = rw e refl
over_quiet b alive (Drone d) e = e
over_quiet b alive (Flag f) e = absurd (cc)
over_quiet b alive (Clock c) e = absurd (cc)

pub over_stays : (os : List Object) (moves : List (Option MoveBits)) (t : Moment) (o : Object) → is_over o ≡ true → o ≡ object_next os moves t o
over_stays os moves t o e = quiet_stays os moves t o (is_ending os o) (over_quiet (is_ending os o) o.alive o.state e) refl

pub over_for_good : (os : List Object) (moves : List (Option MoveBits)) (t : Moment) (o now : Object) (place : Option Object) → place ≡ Some o → now ≡ object_next os moves t o → option_map_or is_over place false ≡ true → is_over now ≡ true
over_for_good os moves t o now place at e h =
    let over : is_over o ≡ true = ap (λ (x : Option Object). option_map_or is_over x false) (sym at) ∙ h in
    ap is_over (e ∙ sym (over_stays os moves t o over)) ∙ over

dead_by : (alive : Bool) → not alive ≡ true → alive ≡ false
dead_by false e = refl
dead_by true e = absurd (cc)

over_by : (os standing : List Object) (o : Object) (s : State) → o.state ≡ s → is_over_part o.alive s ≡ true → MattersNot os standing o
unfolding is_hitting
over_by os standing o (Player p) e m = absurd (cc)
over_by os standing o (Disc d) e m = let dead = dead_by o.alive m in record { flag = rw e refl; hit = rw dead refl; trigger = rw dead refl }
over_by os standing o (Mine k) e m = let dead = dead_by o.alive m in record { flag = rw e refl; hit = rw dead refl; trigger = rw dead refl }
over_by os standing o (Drone d) e m = let dead = dead_by o.alive m in record { flag = rw e refl; hit = rw dead refl; trigger = rw dead refl }
over_by os standing o (Flag f) e m = absurd (cc)
over_by os standing o (Clock k) e m = absurd (cc)

pub over_matters_not : (os standing : List Object) (o : Object) → is_over o ≡ true → MattersNot os standing o
over_matters_not os standing o m = over_by os standing o o.state refl m

pub over_ends_not : (os standing : List Object) (o : Object) → is_over o ≡ true → ending_now os standing o ≡ false
over_ends_not os standing o m = let not = over_matters_not os standing o m in rw (not.hit, not.trigger) refl

-- ---- by the set

abbrev pub AreOver : ℕ → ℕ → List Object → Type 0
AreOver from to os = (n : ℕ) (o : Object) → from ≤ n → n < to → slice_get os n ≡ Some o → is_over o ≡ true

pub over_between : (set : List ℕ) (os : List Object) (from to : ℕ) → to ≤ 1024 → HasGoing set os → ((n : ℕ) → from ≤ n → n < to → bit_of set n ≡ 0) → AreOver from to os
over_between set os from to l going none = λ n o a b at.
    sym (ap (λ (x : Option Object). option_map_or is_over x false) at) ∙ going n (omega (arith, b, l)) (none n a b)

pub all_going : (set : List ℕ) (os : List Object) → ((n : ℕ) → n < 1024 → bit_of set n ≡ 1) → HasGoing set os
all_going set os all = λ n l z. absurd (let one = all n l in omega (arith, one, z))

there_by : (os made : List Object) (n : ℕ) (o : Option Object) → slice_get os n ≡ o → option_map_or is_over o false ≡ true → option_map_or is_over (slice_get (os ++ made) n) false ≡ true
there_by [] made n None at e = absurd (cc)
there_by [] made n (Some o) at e = absurd (cc)
there_by (x ∷ os) made zero o at e = rw (sym at) at e
there_by (x ∷ os) made (suc n) o at e = there_by os made n o at e

pub going_more : (set : List ℕ) (os made all : List Object) → all ≡ os ++ made → HasGoing set os → HasGoing set all
going_more set os made all e going = λ n l z. rw e (there_by os made n (slice_get os n) refl (going n l z))

slice_set_same : (os : List Object) (n : ℕ) (o : Object) → n < length os → slice_get (set os n o) n ≡ Some o
slice_set_same [] n o l = absurd (omega (arith, l))
slice_set_same (x ∷ os) zero o l = refl
slice_set_same (x ∷ os) (suc n) o l = slice_set_same os n o (omega (arith, l))

slice_set_other : (os : List Object) (k n : ℕ) (o : Object) → (n ≡ k → ⊥) → slice_get (set os k o) n ≡ slice_get os n
slice_set_other [] k n o h = refl
slice_set_other (x ∷ os) zero zero o h = absurd (h refl)
slice_set_other (x ∷ os) zero (suc n) o h = refl
slice_set_other (x ∷ os) (suc k) zero o h = refl
slice_set_other (x ∷ os) (suc k) (suc n) o h = slice_set_other os k n o (λ e. h (ap suc e))

pub going_left : (was now : List ℕ) (number : ℕ) (os : List Object) (o : Object) → is_over o ≡ true → number < length os → ((n : ℕ) → bit_of now n ≡ cond (nat_eq n number) 0 (bit_of was n)) → HasGoing was os → HasGoing now (set os number o)
going_left was now number os o over l taken going = λ n few z.
    elim (eqb_tells n number) [
      | inl w ↦ ap (λ (x : Option Object). option_map_or is_over x false) (ap (slice_get (set os number o)) w.1 ∙ slice_set_same os number o l) ∙ over
      | inr w ↦
          let bit : bit_of was n ≡ 0 = sym (taken n ∙ ap (λ b. cond b 0 (bit_of was n)) w.0) ∙ z in
          ap (λ (x : Option Object). option_map_or is_over x false) (slice_set_other os number n o w.1) ∙ going n few bit
    ]

pub going_on : (was : List ℕ) (number : ℕ) (os : List Object) (o : Object) → number < length os → (option_map_or is_over (slice_get os number) false ≡ true → is_over o ≡ true) → HasGoing was os → HasGoing was (set os number o)
going_on was number os o l stays going = λ n few z.
    elim (eqb_tells n number) [
      | inl w ↦
          let over : option_map_or is_over (slice_get os number) false ≡ true = ap (λ j. option_map_or is_over (slice_get os j) false) (sym w.1) ∙ going n few z in
          ap (λ (x : Option Object). option_map_or is_over x false) (ap (slice_get (set os number o)) w.1 ∙ slice_set_same os number o l) ∙ stays over
      | inr w ↦ ap (λ (x : Option Object). option_map_or is_over x false) (slice_set_other os number n o w.1) ∙ going n few z
    ]

-- ---- what is found

filter_still : (p : Object → Bool) (os : List Object) (n : ℕ) (o : Object) → slice_get os n ≡ Some o → p o ≡ false → filter p (take n os) ≡ filter p (take (suc n) os)
filter_still p [] n o at e = absurd (cc)
filter_still p (x ∷ os) zero o at e = let same : x ≡ o = cc in rw (same, e) refl
filter_still p (x ∷ os) (suc n) o at e = ap (λ (xs : List Object). cond (p x) (x ∷ xs) xs) (filter_still p os n o at e)

marked_still : (p : Object → Bool) (os : List Object) (n : ℕ) (o : Object) → slice_get os n ≡ Some o → p o ≡ false → marked n p os ≡ marked (suc n) p os
marked_still p [] n o at e = absurd (cc)
marked_still p (x ∷ os) zero o at e = let same : x ≡ o = cc in rw (same, e) refl
marked_still p (x ∷ os) (suc n) o at e = ap (λ (bs : List Bool). p x ∷ bs) (marked_still p os n o at e)

pub none_marked : (n len : ℕ) (was now : List Bool) → was ≡ [] → len ≡ 0 → now ≡ take n was ++ replicate (n - len) false → now ≡ replicate n false
none_marked n len was now e z h =
    let left : n - len ≡ n = omega (arith, z) in
    h ∙ rw (e, left) (ap (λ (bs : List Bool). bs ++ replicate n false) (nothing n))
  where
    nothing : (n : ℕ) → (let none : List Bool = [] in take n none ≡ none)
    nothing zero = refl
    nothing (suc n) = refl

-- ---- from place to place

along : (P : ℕ → Type 0) (os : List Object) (from k : ℕ) → from + k ≤ length os → ((n : ℕ) (o : Object) → from ≤ n → n < from + k → slice_get os n ≡ Some o → P n → P (suc n)) → P from → P (from + k)
along P os from zero l step h = let e : from ≡ from + 0 = omega arith in subst P e h
along P os from (suc k) l step h =
    let e : suc from + k ≡ from + suc k = omega arith in
    let next : P (suc from) = elim (slice_get_cases os from).1 [
      | inl w ↦ step from w.0 (omega arith) (omega arith) w.2 h
      | inr w ↦ absurd (omega (arith, w.0, l))
    ] in
    subst P e (along P os (suc from) k (omega (arith, l)) (λ n o a b at was. step n o (omega (arith, a)) (omega (arith, b)) at was) next)

-- what each step over one that is over keeps, holds still where the set has the next number
pub passed : (P : ℕ → Type 0) (Q : Object → Type 0) (os : List Object) (from to : ℕ) → from ≤ to → to ≤ length os → ((n : ℕ) (o : Object) → from ≤ n → n < to → slice_get os n ≡ Some o → Q o) → ((n : ℕ) (o : Object) → n < length os → slice_get os n ≡ Some o → Q o → P n → P (suc n)) → P from → P to
passed P Q os from to order l over step h =
    let e : from + (to - from) ≡ to = omega (arith, order) in
    subst P e (along P os from (to - from) (omega (arith, e, l)) (λ n o a b at was. step n o (omega (arith, b, e, l)) at (over n o a (omega (arith, b, e)) at) was) h)

pub filter_passed : (p : Object → Bool) (now : List Object) (os : List Object) (from to : ℕ) → from ≤ to → to ≤ length os → AreOver from to os → ((o : Object) → is_over o ≡ true → p o ≡ false) → now ≡ filter p (take from os) → now ≡ filter p (take to os)
filter_passed p now os from to order l over none e =
    passed (λ n. now ≡ filter p (take n os)) (λ o. is_over o ≡ true) os from to order l over (λ n o m at dead was. was ∙ filter_still p os n o at (none o dead)) e

pub marked_passed : (p : Object → Bool) (now : List Bool) (os : List Object) (from to : ℕ) → from ≤ to → to ≤ length os → AreOver from to os → ((o : Object) → is_over o ≡ true → p o ≡ false) → now ≡ marked from p os → now ≡ marked to p os
marked_passed p now os from to order l over none e =
    passed (λ n. now ≡ marked n p os) (λ o. is_over o ≡ true) os from to order l over (λ n o m at dead was. was ∙ marked_still p os n o at (none o dead)) e

-- ---- turns

-- a tick leaves these as they are
abbrev pub AreQuiet : ℕ → ℕ → List Object → Type 0
AreQuiet from to os = (n : ℕ) (o : Object) → from ≤ n → n < to → slice_get os n ≡ Some o → is_quiet (is_ending os o) o ≡ true

stepped_still : (n : ℕ) (f : Object → Object) (os : List Object) (o : Object) → slice_get os n ≡ Some o → o ≡ f o → stepped_to n f os ≡ stepped_to (suc n) f os
stepped_still n f [] o at e = absurd (cc)
stepped_still zero f (x ∷ os) o at e = let same : x ≡ o = cc in ap (λ (y : Object). y ∷ os) (same ∙ e ∙ ap f (sym same))
stepped_still (suc n) f (x ∷ os) o at e = ap (λ (xs : List Object). f x ∷ xs) (stepped_still n f os o at e)

rows_still : (n : ℕ) (rows : List Row) (after : List Object) (r : Row) (o : Object) → n < length rows → n < length after → r ≡ get_or rows n r → o ≡ get_or after n o → r ≡ row_next r o → rows_updated n rows after ≡ rows_updated (suc n) rows after
rows_still n [] after r o l m at_r at_o e = absurd (omega arith)
rows_still n (x ∷ rows) [] r o l m at_r at_o e = absurd (omega arith)
rows_still zero (x ∷ rows) (p ∷ after) r o l m at_r at_o e =
    let new : r ≡ row_next x p = e ∙ ap (λ (y : Object). row_next r y) at_o ∙ ap (λ (y : Row). row_next y p) at_r in
    ap (λ (y : Row). y ∷ rows) (sym at_r ∙ new)
rows_still (suc n) (x ∷ rows) (p ∷ after) r o l m at_r at_o e = ap (λ (xs : List Row). row_next x p ∷ xs) (rows_still n rows after r o (omega arith) (omega arith) at_r at_o e)

-- the first objects had their turn
pub record Turned (os : List Object) (f : Object → Object) (first : List Row) (i : ℕ) (objects : List Object) (rows : List Row) (writes : List Write) : Type 0 where
  pub objects_are : objects ≡ stepped_to i f os
  pub rows_are : rows ≡ rows_updated i first (map f os)
  pub writes_are : rows_writes 0 first (map f os) ≡ row_writes_from writes i first (map f os)

same_at : (os : List Object) (n : ℕ) (o : Object) → slice_get os n ≡ Some o → o ≡ get_or os n o
same_at [] n o at = absurd (cc)
same_at (x ∷ os) zero o at = let same : x ≡ o = cc in sym same
same_at (x ∷ os) (suc n) o at = same_at os n o at

row_here : (rows : List Row) (n : ℕ) (d : Row) → n < length rows → (let r = get_or rows n d in r ≡ get_or rows n r)
row_here [] n d l = absurd (omega arith)
row_here (x ∷ rows) zero d l = refl
row_here (x ∷ rows) (suc n) d l = row_here rows n d (omega arith)

abbrev no_row : Row
no_row = record { values = record { items = [] }; versions = record { items = [] } }

turned_one : (os : List Object) (moves : List (Option MoveBits)) (t : Moment) (first : List Row) (n : ℕ) (objects : List Object) (rows : List Row) (writes : List Write) (o : Object) → map row_values first ≡ map values_of os → AllByRecursion IsSoundRow first → n < length os → n < length first → slice_get os n ≡ Some o → is_quiet (is_ending os o) o ≡ true → Turned os (object_next os moves t) first n objects rows writes → Turned os (object_next os moves t) first (suc n) objects rows writes
turned_one os moves t first n objects rows writes o values sound l m at dead is =
    let f = object_next os moves t in
    let r = get_or first n no_row in
    let stays : o ≡ f o = quiet_stays os moves t o (is_ending os o) dead refl in
    let long : n < length (map f os) = (let k : length (map f os) ≡ length os = simp length-map in omega (arith, l, k)) in
    let at_o : o ≡ get_or (map f os) n o = stays ∙ ap f (same_at os n o at) ∙ sym (get_or-map f os n o o l) in
    let at_r : r ≡ get_or first n r = row_here first n no_row m in
    let told : row_values r ≡ values_of o = same_values row_values values_of first os n no_row o values m ∙ sym (ap values_of (same_at os n o at)) in
    let good : IsSoundRow r = sound_at first n no_row sound m in
    let e : n + 1 ≡ suc n = omega arith in
    let none : writes ≡ writes ++ row_writes n 0 r.values.items (values_of (get_or (map f os) n o)) r.versions.items =
    writes_nothing writes n r.values.items (values_of (get_or (map f os) n o)) r.versions.items (told ∙ ap values_of at_o) in
    record {
      objects_are = is.objects_are ∙ stepped_still n f os o at stays;
      rows_are = is.rows_are ∙ rows_still n first (map f os) r o m long at_r at_o (row_stays r o (sym told) good.1);
      writes_are = is.writes_are ∙ row_writes_at writes writes n first (map f os) r o none at_r m long ∙ ap (λ (j : ℕ). row_writes_from writes j first (map f os)) e;
    }

pub turned_passed : (os : List Object) (moves : List (Option MoveBits)) (t : Moment) (first : List Row) (from to : ℕ) (objects : List Object) (rows : List Row) (writes : List Write) → map row_values first ≡ map values_of os → AllByRecursion IsSoundRow first → length first ≡ length os → from ≤ to → to ≤ length os → AreQuiet from to os → Turned os (object_next os moves t) first from objects rows writes → Turned os (object_next os moves t) first to objects rows writes
turned_passed os moves t first from to objects rows writes values sound many order l over is =
    passed (λ n. Turned os (object_next os moves t) first n objects rows writes) (λ o. is_quiet (is_ending os o) o ≡ true) os from to order l over
    (λ n o m at dead was. turned_one os moves t first n objects rows writes o values sound m (omega (arith, m, many)) at dead was) is

pub none_turned : (os : List Object) (f : Object → Object) (first : List Row) (writes : List Write) → writes ≡ [] → Turned os f first 0 os first writes
none_turned os f first writes e = record { objects_are = refl; rows_are = refl; writes_are = rw e refl }

-- those behind this place are as they were
behind : (i : ℕ) (f : Object → Object) (os : List Object) (n : ℕ) → i ≤ n → slice_get (stepped_to i f os) n ≡ slice_get os n
behind zero f os n l = refl
behind (suc i) f [] n l = refl
behind (suc i) f (x ∷ os) zero l = absurd (omega arith)
behind (suc i) f (x ∷ os) (suc n) l = behind i f os n (omega arith)

pub quiet_before : (os objects : List Object) (f : Object → Object) (found : Found) (marks : List Bool) (i from to : ℕ) → objects ≡ stepped_to i f os → i ≤ from → to ≤ length os → AreFound os found → marks ≡ found.picked.marks.items → ((n : ℕ) (o : Object) → from ≤ n → n < to → slice_get objects n ≡ Some o → is_quiet (get_or marks n false) o ≡ true) → AreQuiet from to os
quiet_before os objects f found marks i from to e l most is told quiet = λ n o a b at.
    let there : slice_get objects n ≡ Some o = ap (λ (xs : List Object). slice_get xs n) e ∙ behind i f os n (omega (arith, a, l)) ∙ at in
    let mark : get_or marks n false ≡ is_ending os o = ap (λ (xs : List Bool). get_or xs n false) told ∙ mark_at os found n false o is (omega (arith, b, most)) ∙ ap (is_ending os) (sym (same_at os n o at)) in
    ap (λ (b : Bool). is_quiet b o) (sym mark) ∙ quiet n o a b there

-- ---- what is passed over

pub passed_gap : (set : List ℕ) (glances : List Glance) (marks : List Bool) (from to : ℕ) → to ≤ 1024 → ((n : ℕ) → from ≤ n → n < to → bit_of set n ≡ 0) → ArePassed set glances marks from to
passed_gap set glances marks from to l none = λ os e going n o a b at.
    over_quiet (get_or marks n false) o.alive o.state (over_between set os from to l going none n o a b at)

pub passed_more : (set : List ℕ) (glances : List Glance) (marks : List Bool) (from at to : ℕ) (g : Glance) (b : Bool) → to ≤ 1024 → at < length glances → at < length marks → ((o : Object) → get_or glances at g ≡ glance_of o → is_quiet (get_or marks at b) o ≡ true) → ((n : ℕ) → at + 1 ≤ n → n < to → bit_of set n ≡ 0) → ArePassed set glances marks from at → ArePassed set glances marks from to
passed_more set glances marks from at to g d few many marked quiet none before = λ os e going n o a b is.
    elim (leb_tells at n) [
      | inr less ↦ before os e going n o a less.1 is
      | inl more ↦ elim (eqb_tells n at) [
        | inl same ↦
            let there : slice_get os at ≡ Some o = ap (λ k. slice_get os k) (sym same.1) ∙ is in
            let long : at < length os = omega (arith, many, as_many_glances os glances e) in
            let seen : get_or glances at g ≡ glance_of o = glance_is os glances at o g e long ∙ ap glance_of (sym (same_at os at o there)) in
            let its : get_or marks n false ≡ get_or marks at d = ap (λ k. get_or marks k false) same.1 ∙ got_same marks at false d marked in
            ap (λ (x : Bool). is_quiet x o) its ∙ quiet o seen
        | inr other ↦ passed_gap set glances marks (at + 1) to few none os e going n o (after at n more.1 other.1) b is
      ]
    ]
  where
    got_same : (marks : List Bool) (n : ℕ) (a b : Bool) → n < length marks → get_or marks n a ≡ get_or marks n b
    got_same [] n a b l = absurd (omega arith)
    got_same (x ∷ marks) zero a b l = refl
    got_same (x ∷ marks) (suc n) a b l = got_same marks n a b (omega arith)

    after : (at n : ℕ) → at ≤ n → (n ≡ at → ⊥) → at + 1 ≤ n
    after at n l other = elim (leb_tells (at + 1) n) [
      | inl more ↦ more.1
      | inr less ↦ absurd (other (omega (arith, l, less.1)))
    ]
