-- What the lines of a match keep of its world: it stays one, its objects stay what they are, and a tick's writes make the new values
-- of the old ones. And of its scans: what a match says of periods.
use Rattle.std.proofs.Common.{◌≡◌, ◌≢◌, ℕ, zero, suc, ◌+◌, ◌*◌, ◌<◌, ◌≤◌, Bool, true, false, cond, nat_eq, List, [], ◌∷◌, ◌++◌, length, map, Option, Some, None, refl, sym, ap, ◌∙◌, subst, arith, append_assoc, length-append, zero-add}
use Rattle.std.specs.Prelude.{ℤ, ◌≤ℤ◌, slice_get, slice_set}
use Rattle.std.specs.List.{AllByRecursion}
use Rattle.std.proofs.lemmas.Bool.{ne_eqb, eqb-true, eq-eqb}
use Rattle.std.proofs.lemmas.List.Elements.{All-weaker}
use Rattle.std.proofs.Math.Seq.{set-append_seam}
use Rattle.tn_types.specs.declared.limits.TheConstants.{MAX_OBJECTS}
use Rattle.tn_types.specs.declared.moves.MoveBits.{MoveBits}
use Rattle.quantised_fields.specs.declared.field.FieldSpec.{FieldSpec}
use Rattle.pair_steps.specs.ghost_masks.Plan.{fields_of}
use Rattle.pair_steps.specs.ghost_masks.Carried.{AreValues}
use Rattle.match_script.specs.declared.types.BodyLine.{BodyLine}
use Rattle.match_script.specs.declared.types.BodyLine.TheVariants as script
use Rattle.match_script.specs.declared.types.Head.{Head}
use Rattle.match_script.specs.Ranges.{HeadFits}
use Rattle.world_rules.specs.declared.object.Object.{Object}
use Rattle.world_rules.specs.declared.object.State.{State}
use Rattle.world_rules.specs.declared.object.State.TheVariants.{Player, Disc, Mine, Drone, Flag, Clock}
use Rattle.world_rules.specs.declared.setup.Spawn.{Spawn}
use Rattle.world_rules.specs.Spawning.{first_objects}
use Rattle.world_rules.specs.Kinds.{kind_of, match_kinds}
use Rattle.world_rules.specs.Ranges.{ObjectFits, StateFits, PlaceFits}
use Rattle.world_rules.specs.Flags.{is_player}
use Rattle.world_rules.specs.Next.{object_next, discs_made, Moment}
use Rattle.world_rules.specs.Identity.{Identity, identity_of, owner_in, is_owner, owners, OwnersRise, HaveNoOwner, IsPeopled}
use Rattle.world_rules.proofs.Identities.{stays_itself}
use Rattle.world_rules.proofs.Peopled.{peopled_first, player_by_owner}
use Rattle.world_rules.proofs.Ranging.{first_objects_fit, objects_fit}
use Rattle.world_sim.specs.declared.rows.Write.{Write}
use Rattle.world_sim.specs.Rows.{values_of, part_values, differs, field_writes, row_writes, world_writes}
use Rattle.world_sim.specs.Worlds.{Worlds, AreOfFields, IsWorld, first_world, next, coming}
use Rattle.world_sim.specs.Worlds as worlds
use Rattle.world_sim.specs.Facts.{AreInRange}
use Rattle.world_sim.proofs.Histories.{HaveSameFields, of_fields_fresh, same_fields_next, same_value}
use Rattle.world_sim.proofs.InRange.{fit}
use Rattle.world_sim.proofs.WorldLaws.{world_next, fresh_counted}
use Rattle.client_scope.specs.world_scope.declared.viewer.Seen.{Seen}
use Rattle.client_scope.specs.world_scope.Scope.{visible_list}
use Rattle.client_scope.proofs.Below.world_scope.SeenList.{levels_few, all_there, objects_rise}
use Rattle.client_scope.specs.Scans.{periods}
use Rattle.own_lists.specs.Counted.{counted, counted_in}
use Rattle.own_lists.specs.Past.{Past, happens, after, moves_of}
use Rattle.own_lists.proofs.ScanFacts.{IsSight, AreSights, periods_few}

-- ---- the world

many_first : (number : ℕ) (spawns : List Spawn) → length (first_objects number spawns) ≡ length spawns
many_first number [] = refl
many_first number (s ∷ spawns) = ap suc (many_first (suc number) spawns)

pub first_is_world : (head : Head) → HeadFits head → IsWorld (first_world head.seed head.setup)
first_is_world head h =
    let setup = head.setup in
    let few = h.setup.few in
    let many = many_first 0 setup.spawns in
    record {
      few = omega (arith, few, many);
      versions = of_fields_fresh (first_objects 0 setup.spawns);
      counted = fresh_counted 0 (first_objects 0 setup.spawns);
      fits = first_objects_fit setup.clients setup.spawns h.setup.clients h.setup.spawns;
      peopled = peopled_first setup.clients setup.spawns h.setup.owners;
    }

world_happens : (head : Head) (line : BodyLine) (p : Past) → IsWorld p.world → IsWorld (happens head line p).world
world_happens head script.Tick p h = world_next p.world (moves_of head p) h
world_happens head (script.Scan c) p h = h
world_happens head (script.Post c class payload) p h = h
world_happens head (script.ClientPost c class payload) p h = h
world_happens head (script.Pack c) p h = h
world_happens head (script.ClientPack c) p h = h
world_happens head (script.Down c k) p h = h
world_happens head (script.Up c k) p h = h
world_happens head (script.Raw c bytes) p h = h
world_happens head (script.Move c m) p h = h
world_happens head (script.Show c) p h = h
world_happens head script.World p h = h

-- after any lines
pub world_after : (head : Head) (past : List BodyLine) → HeadFits head → IsWorld (after head past).world
world_after head [] h = first_is_world head h
world_after head (line ∷ past) h = world_happens head line (after head past) (world_after head past h)

-- ---- its scans

pub visible_is_sight : (w : Worlds) (c : ℕ) → IsWorld w → IsSight (visible_list w c)
visible_is_sight w c h = record {
  rising = objects_rise w c;
  below = All-weaker (λ (s : Seen). s.object < length w.objects) (λ (s : Seen). s.object < MAX_OBJECTS)
      (λ s l. let few = h.few in omega (arith, l, few)) (visible_list w c) (all_there w c);
  levels = levels_few w c;
}

either : {X : Type 0} (P : X → Type 0) (b : Bool) (x y : X) → P x → P y → P (cond b x y)
either P true x y p q = p
either P false x y p q = q

sights_happen : (head : Head) (line : BodyLine) (p : Past) → IsWorld p.world → ((c : ℕ) → AreSights (p.scans c)) → (c : ℕ)
    → AreSights ((happens head line p).scans c)
sights_happen head script.Tick p w h c = h c
sights_happen head (script.Scan d) p w h c =
    either AreSights (nat_eq c d) (visible_list p.world d ∷ p.scans d) (p.scans c) (visible_is_sight p.world d w, h d) (h c)
sights_happen head (script.Post d class payload) p w h c = h c
sights_happen head (script.ClientPost d class payload) p w h c = h c
sights_happen head (script.Pack d) p w h c = h c
sights_happen head (script.ClientPack d) p w h c = h c
sights_happen head (script.Down d k) p w h c = h c
sights_happen head (script.Up d k) p w h c = h c
sights_happen head (script.Raw d bytes) p w h c = h c
sights_happen head (script.Move d m) p w h c = h c
sights_happen head (script.Show d) p w h c = h c
sights_happen head script.World p w h c = h c

pub scans_are_sights : (head : Head) (past : List BodyLine) (c : ℕ) → HeadFits head → AreSights ((after head past).scans c)
scans_are_sights head [] c h = tt
scans_are_sights head (line ∷ past) c h =
    sights_happen head line (after head past) (world_after head past h) (λ d. scans_are_sights head past d h) c

scans_happen : (head : Head) (line : BodyLine) (p : Past) (most : ℕ) → ((c : ℕ) → length (p.scans c) ≤ most) → (c : ℕ)
    → length ((happens head line p).scans c) ≤ counted line + most
scans_happen head script.Tick p most h c = let l = h c in omega (arith, l)
scans_happen head (script.Scan d) p most h c =
    let l = h c in
    let m = h d in
    either (λ (scans : List (List Seen)). length scans ≤ 1 + most) (nat_eq c d) (visible_list p.world d ∷ p.scans d) (p.scans c)
    (omega (arith, m)) (omega (arith, l))
scans_happen head (script.Post d class payload) p most h c = let l = h c in omega (arith, l)
scans_happen head (script.ClientPost d class payload) p most h c = let l = h c in omega (arith, l)
scans_happen head (script.Pack d) p most h c = let l = h c in omega (arith, l)
scans_happen head (script.ClientPack d) p most h c = let l = h c in omega (arith, l)
scans_happen head (script.Down d k) p most h c = let l = h c in omega (arith, l)
scans_happen head (script.Up d k) p most h c = let l = h c in omega (arith, l)
scans_happen head (script.Raw d bytes) p most h c = let l = h c in omega (arith, l)
scans_happen head (script.Move d m) p most h c = let l = h c in omega (arith, l)
scans_happen head (script.Show d) p most h c = let l = h c in omega (arith, l)
scans_happen head script.World p most h c = let l = h c in omega (arith, l)

pub scans_few : (head : Head) (past : List BodyLine) (c : ℕ) → length ((after head past).scans c) ≤ counted_in past
scans_few head [] c = omega arith
scans_few head (line ∷ past) c = scans_happen head line (after head past) (counted_in past) (λ d. scans_few head past d) c

-- a client has no more periods than there are objects for each counted line
pub match_periods_few : (head : Head) (past : List BodyLine) (c : ℕ) → HeadFits head
    → length (periods ((after head past).scans c)) ≤ MAX_OBJECTS * counted_in past
match_periods_few head past c h =
    let few = periods_few ((after head past).scans c) (scans_are_sights head past c h) in
    let scans = scans_few head past c in
    omega (arith, few, scans)

-- ---- values in their ranges

in_range : (fields : List FieldSpec) (values : List ℤ) → AreInRange fields values → AreValues fields values
in_range [] [] h = tt
in_range [] (v ∷ values) h = absurd h
in_range (f ∷ fields) [] h = absurd h
in_range (f ∷ fields) (v ∷ values) h = (h.0, h.1, in_range fields values h.2)

part_fits : (o : Object) (s : State) → PlaceFits o.place → StateFits s → AreValues (fields_of match_kinds (kind_of s)) (part_values o s)
part_fits o (Player p) place h = in_range (fields_of match_kinds (kind_of (Player p))) (part_values o (Player p)) (fit o (Player p) place h)
part_fits o (Disc d) place h = in_range (fields_of match_kinds (kind_of (Disc d))) (part_values o (Disc d)) (fit o (Disc d) place h)
part_fits o (Mine m) place h = in_range (fields_of match_kinds (kind_of (Mine m))) (part_values o (Mine m)) (fit o (Mine m) place h)
part_fits o (Drone d) place h = in_range (fields_of match_kinds (kind_of (Drone d))) (part_values o (Drone d)) (fit o (Drone d) place h)
part_fits o (Flag f) place h = in_range (fields_of match_kinds (kind_of (Flag f))) (part_values o (Flag f)) (fit o (Flag f) place h)
part_fits o (Clock c) place h = in_range (fields_of match_kinds (kind_of (Clock c))) (part_values o (Clock c)) (fit o (Clock c) place h)

-- an object has a value for each field of its kind, each in its range
pub object_values_fit : (o : Object) → ObjectFits o → AreValues (fields_of match_kinds (kind_of o.state)) (values_of o)
object_values_fit o h = part_fits o o.state h.place h.state

pub kind_below : (s : State) → kind_of s < length match_kinds
kind_below (Player p) = omega arith
kind_below (Disc d) = omega arith
kind_below (Mine m) = omega arith
kind_below (Drone d) = omega arith
kind_below (Flag f) = omega arith
kind_below (Clock c) = omega arith

-- what holds of each object holds of the one at a number
pub object_at : (P : Object → Type 0) (os : List Object) (k : ℕ) (o : Object) → AllByRecursion P os → slice_get os k ≡ Some o → P o
object_at P [] k o a e = absurd (cc)
object_at P (x ∷ os) zero o a e = let same : x ≡ o = cc in subst P same a.0
object_at P (x ∷ os) (suc k) o a e = object_at P os k o a.1 e

-- ---- the writes of a tick

-- the values of an object with the writes to it put in
abbrev pub put_in : ℕ → List Write → List ℤ → List ℤ
put_in object [] values = values
put_in object (w ∷ writes) values = put_in object writes (cond (nat_eq w.object object) (slice_set values w.field w.value) values)

-- of a field of this kind, in its range
pub record IsFieldWrite (kind : ℕ) (w : Write) : Type 0 where
  pub spec : FieldSpec
  pub field : slice_get (fields_of match_kinds kind) w.field ≡ Some spec
  pub least : spec.lo ≤ℤ w.value
  pub most : w.value ≤ℤ spec.hi

put_on : (object : ℕ) (xs ys : List Write) (values : List ℤ) → put_in object (xs ++ ys) values ≡ put_in object ys (put_in object xs values)
put_on object [] ys values = refl
put_on object (x ∷ xs) ys values = put_on object xs ys _

put_none : (object : ℕ) (ws : List Write) (values : List ℤ) → AllByRecursion (λ (w : Write). w.object ≢ object) ws
    → put_in object ws values ≡ values
put_none object [] values a = refl
put_none object (w ∷ ws) values a = let t : nat_eq w.object object ≡ false = ne_eqb w.object object a.0 in
    rw t (put_none object ws values a.1)

abbrev AreBy : ℕ → List Write → Type 0
AreBy object ws = AllByRecursion (λ (w : Write). w.object ≡ object) ws

writes_on : (P : Write → Type 0) (xs ys : List Write) → AllByRecursion P xs → AllByRecursion P ys → AllByRecursion P (xs ++ ys)
writes_on P [] ys h k = k
writes_on P (x ∷ xs) ys h k = (h.0, writes_on P xs ys h.1 k)

writes_all : (P Q : Write → Type 0) → ((w : Write) → P w → Q w) → (ws : List Write) → AllByRecursion P ws → AllByRecursion Q ws
writes_all P Q f [] a = tt
writes_all P Q f (w ∷ ws) a = (f w a.0, writes_all P Q f ws a.1)

row_by : (object field : ℕ) (xs ys : List ℤ) (vs : List ℕ) → AreBy object (row_writes object field xs ys vs)
unfolding row_writes
row_by object field [] ys vs = tt
row_by object field (x ∷ xs) [] vs = tt
row_by object field (x ∷ xs) (y ∷ ys) [] = tt
row_by object field (x ∷ xs) (y ∷ ys) (v ∷ vs) = by (differs x y) (row_by object (suc field) xs ys vs)
  where
    by : (b : Bool) → AreBy object (row_writes object (suc field) xs ys vs)
        → AreBy object (cond b ((record { object = object; field = field; version = v + 1; value = y }) ∷ []) [] ++ row_writes object
        (suc field) xs ys vs)
    by true a = (refl, a)
    by false a = a

world_by : (i : ℕ) (os after : List Object) (vs : List (List ℕ)) → AllByRecursion (λ (w : Write). i ≤ w.object) (world_writes i os after vs)
unfolding world_writes
world_by i [] after vs = tt
world_by i (o ∷ os) [] vs = tt
world_by i (o ∷ os) (p ∷ after) [] = tt
world_by i (o ∷ os) (p ∷ after) (v ∷ vs) =
    let here = row_by i 0 (values_of o) (values_of p) v in
    let ws = row_writes i 0 (values_of o) (values_of p) v in
    writes_on (λ (w : Write). i ≤ w.object) ws (world_writes (suc i) os after vs)
    (writes_all (λ (w : Write). w.object ≡ i) (λ (w : Write). i ≤ w.object) (λ w e. omega (arith, e)) ws here)
    (writes_all (λ (w : Write). suc i ≤ w.object) (λ (w : Write). i ≤ w.object) (λ w e. omega (arith, e)) (world_writes (suc i) os after vs)
    (world_by (suc i) os after vs))

-- ---- the new values

-- one field's write, if there is one
one_put : (object field : ℕ) (front : List ℤ) (x y : ℤ) (xs : List ℤ) (v : ℕ) → length front ≡ field
    → put_in object (field_writes object field x y v) (front ++ x ∷ xs) ≡ front ++ y ∷ xs
one_put object field front x y xs v l = by (differs x y) refl
  where
    by : (b : Bool) → differs x y ≡ b
        → put_in object (cond b ((record { object = object; field = field; version = v + 1; value = y }) ∷ []) [])
        (front ++ x ∷ xs) ≡ front ++ y ∷ xs
    by true e = let t : nat_eq object object ≡ true = eq-eqb object object refl in rw (t, ← l) (set-append_seam front x xs y)
    by false e = ap (λ z. front ++ z ∷ xs) (same_value x y e)

row_put : (object field : ℕ) (front xs ys : List ℤ) (vs : List ℕ) → length front ≡ field → length xs ≡ length ys → length xs ≡ length vs
    → put_in object (row_writes object field xs ys vs) (front ++ xs) ≡ front ++ ys
unfolding row_writes
row_put object field front [] [] vs l e h = refl
row_put object field front [] (y ∷ ys) vs l e h = absurd (omega (arith, e))
row_put object field front (x ∷ xs) [] vs l e h = absurd (omega (arith, e))
row_put object field front (x ∷ xs) (y ∷ ys) [] l e h = absurd (omega (arith, h))
row_put object field front (x ∷ xs) (y ∷ ys) (v ∷ vs) l e h =
    let longer : length (front ++ y ∷ []) ≡ suc field = (let a = length-append front (y ∷ []) in omega (arith, a, l)) in
    let rest = row_put object (suc field) (front ++ y ∷ []) xs ys vs longer (omega (arith, e)) (omega (arith, h)) in
    put_on object (field_writes object field x y v) (row_writes object (suc field) xs ys vs) (front ++ x ∷ xs)
    ∙ ap (put_in object (row_writes object (suc field) xs ys vs))
    (one_put object field front x y xs v l ∙ sym (append_assoc front (y ∷ []) xs))
    ∙ rest ∙ append_assoc front (y ∷ []) ys

world_put : (i : ℕ) (os after : List Object) (vs : List (List ℕ)) → HaveSameFields os after → AreOfFields os vs → (k : ℕ) (o p : Object)
    → slice_get os k ≡ Some o → slice_get after k ≡ Some p
    → put_in (i + k) (world_writes i os after vs) (values_of o) ≡ values_of p
unfolding world_writes
world_put i [] after vs s f k o p e h = absurd (cc)
world_put i (x ∷ os) [] vs s f k o p e h = absurd (cc)
world_put i (x ∷ os) (y ∷ after) [] s f k o p e h = absurd f
world_put i (x ∷ os) (y ∷ after) (v ∷ vs) s f zero o p e h =
    let ws = row_writes i 0 (values_of x) (values_of y) v in
    let later = world_writes (suc i) os after vs in
    let place : i + 0 ≡ i = omega arith in
    let a : x ≡ o = cc in
    let b : y ≡ p = cc in
    let none = writes_all (λ (w : Write). suc i ≤ w.object) (λ (w : Write). w.object ≢ i) (λ w l q. absurd (omega (arith, l, q))) later
    (world_by (suc i) os after vs) in
    rw (place, ← a, ← b)
    (put_on i ws later (values_of x) ∙ put_none i later _ none ∙ row_put i 0 [] (values_of x) (values_of y) v refl s.0 f.0)
world_put i (x ∷ os) (y ∷ after) (v ∷ vs) s f (suc k) o p e h =
    let ws = row_writes i 0 (values_of x) (values_of y) v in
    let later = world_writes (suc i) os after vs in
    let place : i + suc k ≡ suc i + k = omega arith in
    let none = writes_all (λ (w : Write). w.object ≡ i) (λ (w : Write). w.object ≢ suc i + k) (λ w l q. absurd (omega (arith, l, q))) ws
    (row_by i 0 (values_of x) (values_of y) v) in
    rw place (put_on (suc i + k) ws later (values_of o) ∙ ap (put_in (suc i + k) later) (put_none (suc i + k) ws (values_of o) none)
    ∙ world_put (suc i) os after vs s.1 f.1 k o p e h)

-- ---- writes of fields

at_seam : (front : List FieldSpec) (f : FieldSpec) (fs : List FieldSpec) → slice_get (front ++ f ∷ fs) (length front) ≡ Some f
at_seam [] f fs = refl
at_seam (x ∷ front) f fs = at_seam front f fs

row_fits : (kind object field : ℕ) (front fs : List FieldSpec) (xs ys : List ℤ) (vs : List ℕ) → fields_of match_kinds kind ≡ front ++ fs
    → length front ≡ field → AreValues fs ys
    → AllByRecursion (IsFieldWrite kind) (row_writes object field xs ys vs)
unfolding row_writes
row_fits kind object field front fs [] ys vs e l h = tt
row_fits kind object field front fs (x ∷ xs) [] vs e l h = tt
row_fits kind object field front fs (x ∷ xs) (y ∷ ys) [] e l h = tt
row_fits kind object field front [] (x ∷ xs) (y ∷ ys) (v ∷ vs) e l h = absurd h
row_fits kind object field front (f ∷ fs) (x ∷ xs) (y ∷ ys) (v ∷ vs) e l h =
    let longer : length (front ++ f ∷ []) ≡ suc field = (let a = length-append front (f ∷ []) in omega (arith, a, l)) in
    by (differs x y) (row_fits kind object (suc field) (front ++ f ∷ []) fs xs ys vs (e ∙ sym (append_assoc front (f ∷ []) fs)) longer h.2)
  where
    by : (b : Bool) → AllByRecursion (IsFieldWrite kind) (row_writes object (suc field) xs ys vs)
        → AllByRecursion (IsFieldWrite kind)
        (cond b ((record { object = object; field = field; version = v + 1; value = y }) ∷ []) [] ++ row_writes object (suc field) xs ys vs)
    by true a = (record { spec = f; field = rw (e, ← l) (at_seam front f fs); least = h.0; most = h.1 }, a)
    by false a = a

abbrev AreAlike : List Object → List Object → Type 0
AreAlike [] after = Unit {0}
AreAlike (o ∷ os) [] = ⊥
AreAlike (o ∷ os) (p ∷ after) = (kind_of o.state ≡ kind_of p.state) × AreAlike os after

-- the write is of a field of the object that has its number, the first of these having number i
abbrev IsWriteFrom : ℕ → List Object → Write → Type 0
IsWriteFrom i os w = (k : ℕ) (o : Object) → w.object ≡ i + k → slice_get os k ≡ Some o → IsFieldWrite (kind_of o.state) w

of_first : (i : ℕ) (x : Object) (os : List Object) (w : Write) → w.object ≡ i → IsFieldWrite (kind_of x.state) w → IsWriteFrom i (x ∷ os) w
of_first i x os w e f zero o q at = let same : x ≡ o = cc in subst (λ (y : Object). IsFieldWrite (kind_of y.state) w) same f
of_first i x os w e f (suc k) o q at = absurd (omega (arith, e, q))

of_later : (i : ℕ) (x : Object) (os : List Object) (w : Write) → suc i ≤ w.object → IsWriteFrom (suc i) os w → IsWriteFrom i (x ∷ os) w
of_later i x os w l f zero o q at = absurd (omega (arith, l, q))
of_later i x os w l f (suc k) o q at = f k o (omega (arith, q)) at

both : (P Q : Write → Type 0) (ws : List Write) → AllByRecursion P ws → AllByRecursion Q ws → AllByRecursion (λ w. P w × Q w) ws
both P Q [] a b = tt
both P Q (w ∷ ws) a b = ((a.0, b.0), both P Q ws a.1 b.1)

world_fits : (i : ℕ) (os after : List Object) (vs : List (List ℕ)) → AreAlike os after → AllByRecursion ObjectFits after
    → AllByRecursion (IsWriteFrom i os) (world_writes i os after vs)
unfolding world_writes
world_fits i [] after vs s f = tt
world_fits i (o ∷ os) [] vs s f = tt
world_fits i (o ∷ os) (p ∷ after) [] s f = tt
world_fits i (o ∷ os) (p ∷ after) (v ∷ vs) s f =
    let ws = row_writes i 0 (values_of o) (values_of p) v in
    let later = world_writes (suc i) os after vs in
    let fields = fields_of match_kinds (kind_of o.state) in
    let values : AreValues fields (values_of p) =
    subst (λ kind. AreValues (fields_of match_kinds kind) (values_of p)) (sym s.0) (object_values_fit p f.0) in
    let row = row_fits (kind_of o.state) i 0 [] fields (values_of o) (values_of p) v refl refl values in
    let first = both (λ (w : Write). w.object ≡ i) (IsFieldWrite (kind_of o.state)) ws (row_by i 0 (values_of o) (values_of p) v) row in
    let behind = both (λ (w : Write). suc i ≤ w.object) (IsWriteFrom (suc i) os) later (world_by (suc i) os after vs)
    (world_fits (suc i) os after vs s.1 f.1) in
    writes_on (IsWriteFrom i (o ∷ os)) ws later
    (writes_all (λ (w : Write). (w.object ≡ i) × IsFieldWrite (kind_of o.state) w) (IsWriteFrom i (o ∷ os))
    (λ w h. of_first i o os w h.0 h.1) ws first)
    (writes_all (λ (w : Write). (suc i ≤ w.object) × IsWriteFrom (suc i) os w) (IsWriteFrom i (o ∷ os)) (λ w h. of_later i o os w h.0 h.1)
    later behind)

-- ---- a tick

each_alike : (os : List Object) (moves : List (Option MoveBits)) (t : Moment) (xs made : List Object)
    → AreAlike xs (map (object_next os moves t) xs ++ made)
each_alike os moves t [] made = tt
each_alike os moves t (o ∷ xs) made = (sym (ap (λ (i : Identity). i.kind) (stays_itself os moves t o)), each_alike os moves t xs made)

-- each write of a tick is of a field of an object that was there, in the field's range
pub tick_writes_fit : (w : Worlds) (moves : List (Option MoveBits)) → IsWorld w
    → AllByRecursion (λ (x : Write). (o : Object) → slice_get w.objects x.object ≡ Some o → IsFieldWrite (kind_of o.state) x)
    (next w moves).writes
unfolding next
tick_writes_fit w moves h =
    let all = world_fits 0 w.objects (worlds.after w moves) w.versions
    (each_alike w.objects moves (coming w) w.objects (discs_made w.objects moves)) (objects_fit w.objects moves (coming w) h.fits) in
    writes_all (IsWriteFrom 0 w.objects)
    (λ (x : Write). (o : Object) → slice_get w.objects x.object ≡ Some o → IsFieldWrite (kind_of o.state) x)
    (λ x f o at. f x.object o (omega arith) at) (world_writes 0 w.objects (worlds.after w moves) w.versions) all

-- an object after a tick: the same, with the values that the writes make of the old ones
pub record GoesOn (before now : Worlds) (k : ℕ) (o : Object) : Type 0 where
  pub object : Object
  pub there : slice_get now.objects k ≡ Some object
  pub same : identity_of object ≡ identity_of o
  pub values : put_in k now.writes (values_of o) ≡ values_of object

there_next : (f : Object → Object) (xs ys : List Object) (k : ℕ) (o : Object) → slice_get xs k ≡ Some o
    → slice_get (map f xs ++ ys) k ≡ Some (f o)
there_next f [] ys k o e = absurd (cc)
there_next f (x ∷ xs) ys zero o e = let same : x ≡ o = cc in ap (λ y. Some (f y)) same
there_next f (x ∷ xs) ys (suc k) o e = there_next f xs ys k o e

pub object_goes_on : (w : Worlds) (moves : List (Option MoveBits)) (k : ℕ) (o : Object) → IsWorld w → slice_get w.objects k ≡ Some o
    → GoesOn w (next w moves) k o
unfolding next
object_goes_on w moves k o h at =
    let now = object_next w.objects moves (coming w) o in
    let there : slice_get (worlds.after w moves) k ≡ Some now =
    there_next (object_next w.objects moves (coming w)) w.objects (discs_made w.objects moves) k o at in
    record {
      object = now;
      there = there;
      same = stays_itself w.objects moves (coming w) o;
      values = subst (λ i. put_in i (world_writes 0 w.objects (worlds.after w moves) w.versions) (values_of o) ≡ values_of now) (zero-add k)
          (world_put 0 w.objects (worlds.after w moves) w.versions (same_fields_next w.objects moves (coming w))
          h.versions k o now at there);
    }

-- ---- whose player

pub same_player : (client : ℕ) (o p : Object) → identity_of o ≡ identity_of p → is_player client o ≡ is_player client p
same_player client o p e =
    player_by_owner client o.state ∙ ap (λ (i : Identity). is_owner client i.owner) e ∙ sym (player_by_owner client p.state)

owner_is : (client : ℕ) (w : Option ℕ) → is_owner client w ≡ true → w ≡ Some client
owner_is client None e = absurd (cc)
owner_is client (Some c) e = ap Some (eqb-true c client e)

player_owner : (client : ℕ) (o : Object) → is_player client o ≡ true → owner_in o.state ≡ Some client
player_owner client o e = owner_is client (owner_in o.state) (sym (player_by_owner client o.state) ∙ e)

owner_at : (os : List Object) (k : ℕ) (o : Object) → slice_get os k ≡ Some o → slice_get (owners os) k ≡ Some (owner_in o.state)
owner_at [] k o e = absurd (cc)
owner_at (x ∷ os) zero o e = let same : x ≡ o = cc in ap (λ (y : Object). Some (owner_in y.state)) same
owner_at (x ∷ os) (suc k) o e = owner_at os k o e

none_owned : (ws : List (Option ℕ)) (k client : ℕ) → HaveNoOwner ws → slice_get ws k ≡ Some (Some client) → ⊥
none_owned [] k client h e = absurd (cc)
none_owned (Some c ∷ ws) k client h e = h
none_owned (None ∷ ws) zero client h e = cc
none_owned (None ∷ ws) (suc k) client h e = none_owned ws k client h e

owned_from : (clients least : ℕ) (ws : List (Option ℕ)) (k client : ℕ) → OwnersRise clients least ws → slice_get ws k ≡ Some (Some client)
    → least ≤ client
owned_from clients least [] k client h e = absurd (cc)
owned_from clients least (None ∷ ws) zero client h e = absurd (cc)
owned_from clients least (None ∷ ws) (suc k) client h e = absurd (none_owned ws k client h e)
owned_from clients least (Some c ∷ ws) zero client h e = let same : c ≡ client = cc in omega (arith, same, h.0)
owned_from clients least (Some c ∷ ws) (suc k) client h e = let l = owned_from clients (suc c) ws k client h.2 e in omega (arith, l, h.0)

owned_once : (clients least : ℕ) (ws : List (Option ℕ)) (m n client : ℕ) → OwnersRise clients least ws → slice_get ws m ≡ Some (Some client)
    → slice_get ws n ≡ Some (Some client) → m ≡ n
owned_once clients least [] m n client h e f = absurd (cc)
owned_once clients least (None ∷ ws) zero n client h e f = absurd (cc)
owned_once clients least (None ∷ ws) (suc m) n client h e f = absurd (none_owned ws m client h e)
owned_once clients least (Some c ∷ ws) zero zero client h e f = refl
owned_once clients least (Some c ∷ ws) zero (suc n) client h e f =
    let same : c ≡ client = cc in
    let l = owned_from clients (suc c) ws n client h.2 f in
    absurd (omega (arith, same, l))
owned_once clients least (Some c ∷ ws) (suc m) zero client h e f =
    let same : c ≡ client = cc in
    let l = owned_from clients (suc c) ws m client h.2 e in
    absurd (omega (arith, same, l))
owned_once clients least (Some c ∷ ws) (suc m) (suc n) client h e f = ap suc (owned_once clients (suc c) ws m n client h.2 e f)

-- a client has one player at the most
pub one_player : (clients : ℕ) (os : List Object) (client m n : ℕ) (a b : Object) → IsPeopled clients os → slice_get os m ≡ Some a
    → slice_get os n ≡ Some b
    → is_player client a ≡ true → is_player client b ≡ true → m ≡ n
one_player clients os client m n a b h e f p q =
    owned_once clients 0 (owners os) m n client h.owned (owner_at os m a e ∙ ap Some (player_owner client a p))
    (owner_at os n b f ∙ ap Some (player_owner client b q))
