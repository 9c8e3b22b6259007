-- What stays for good: the kind of each object; and what a row tells of its object.
use Rattle.std.proofs.Common.{◌≡◌, ℕ, zero, suc, ◌<◌, List, [], ◌∷◌, ◌++◌, length, map, get_or, Option, Some, refl, sym, ap, subst, ◌∙◌, arith}
use Rattle.std.specs.Prelude.{ℤ, ◌≤◌, IfSome, slice_get, option_map, option_and_then}
use Rattle.std.specs.List.{AllByRecursion}
use Rattle.tn_types.specs.declared.moves.MoveBits.{MoveBits}
use Rattle.world_rules.specs.declared.object.Object.{Object}
use Rattle.world_rules.specs.Kinds.{kind_of}
use Rattle.world_rules.specs.Identity.{Identity, identity_of}
use Rattle.std.proofs.lemmas.Iterator.Adapters.{position_from-zero}
use Rattle.world_rules.specs.Flags.{is_player}
use Rattle.world_rules.specs.Next.{object_next, objects_next, Moment, discs_made}
use Rattle.world_rules.proofs.Identities.{stays_itself}
use Rattle.world_rules.proofs.Peopled.{player_stays as owners_stay}
use Rattle.world_sim.specs.declared.rows.Row.{Row}
use Rattle.world_sim.specs.Rows.{values_of}
use Rattle.world_sim.specs.RowsNext.{row_values, row_counts}
use Rattle.world_sim.specs.Worlds.{Worlds, WasCounted, next, coming, kind_at, identity_at, player_of, values_at, version_at}

identities_next : (os : List Object) (moves : List (Option MoveBits)) (t : Moment) (xs ys : List Object) (k : ℕ) → k < length xs → option_map identity_of (slice_get (map (object_next os moves t) xs ++ ys) k) ≡ option_map identity_of (slice_get xs k)
identities_next os moves t [] ys k l = absurd (omega arith)
identities_next os moves t (o ∷ xs) ys zero l = ap Some (stays_itself os moves t o)
identities_next os moves t (o ∷ xs) ys (suc k) l = identities_next os moves t xs ys k (omega arith)

pub identity_stays : (w : Worlds) (moves : List (Option MoveBits)) (object : ℕ) → object < length w.objects → identity_at (next w moves) object ≡ identity_at w object
unfolding next
identity_stays w moves object l = identities_next w.objects moves (coming w) w.objects (discs_made w.objects moves) object l

kind_told : (os : List Object) (k : ℕ) → option_map (λ (o : Object). kind_of o.state) (slice_get os k) ≡ option_map (λ (i : Identity). i.kind) (option_map identity_of (slice_get os k))
kind_told [] k = refl
kind_told (o ∷ os) zero = refl
kind_told (o ∷ os) (suc k) = kind_told os k

pub player_stays : (w : Worlds) (moves : List (Option MoveBits)) (client : ℕ) → player_of (next w moves) client ≡ player_of w client
unfolding next
player_stays w moves client =
    position_from-zero (is_player client) (objects_next w.objects moves (coming w))
    ∙ owners_stay client w.objects moves (coming w)
    ∙ sym (position_from-zero (is_player client) w.objects)

pub kind_stays : (w : Worlds) (moves : List (Option MoveBits)) (object : ℕ) → object < length w.objects → kind_at (next w moves) object ≡ kind_at w object
kind_stays w moves object l =
    kind_told (next w moves).objects object
    ∙ ap (option_map (λ (i : Identity). i.kind)) (identity_stays w moves object l)
    ∙ sym (kind_told w.objects object)

mapped : {A B C : Type 0} (f : A → C) (g : B → C) (xs : List A) (ys : List B) (k : ℕ) → map f xs ≡ map g ys → option_map f (slice_get xs k) ≡ option_map g (slice_get ys k)
mapped f g [] [] k e = refl
mapped f g [] (y ∷ ys) k e = absurd (cc)
mapped f g (x ∷ xs) [] k e = absurd (cc)
mapped f g (x ∷ xs) (y ∷ ys) zero e = let h : f x ≡ g y = cc in ap Some h
mapped f g (x ∷ xs) (y ∷ ys) (suc k) e = let t : map f xs ≡ map g ys = cc in mapped f g xs ys k t

pub row_tells : (rows : List Row) (os : List Object) (k : ℕ) → map row_values rows ≡ map values_of os → option_map row_values (slice_get rows k) ≡ option_map values_of (slice_get os k)
row_tells rows os k e = mapped row_values values_of rows os k e

pub got : {A : Type 0} (xs : List A) (k : ℕ) (x : A) → k < length xs → x ≡ get_or xs k x → slice_get xs k ≡ Some x
got [] k x l e = absurd (omega arith)
got (y ∷ ys) zero x l e = ap Some (sym e)
got (y ∷ ys) (suc k) x l e = got ys k x (omega arith) e

pub values_told : (w v : Worlds) (rows : List Row) (k : ℕ) (r : Row) (values : List ℤ) → w ≡ v → map row_values rows ≡ map values_of w.objects → k < length rows → r ≡ get_or rows k r → values ≡ row_values r → Some values ≡ values_at v k
values_told w v rows k r values same told l at e =
    ap Some e ∙ sym (ap (option_map row_values) (got rows k r l at)) ∙ row_tells rows w.objects k told ∙ ap (λ (u : Worlds). values_at u k) same

counts_at : (rows : List Row) (k : ℕ) (r : Row) → k < length rows → r ≡ get_or rows k r → slice_get (map row_counts rows) k ≡ Some (row_counts r)
counts_at [] k r l e = absurd (omega arith)
counts_at (x ∷ rows) zero r l e = ap (λ (y : Row). Some (row_counts y)) (sym e)
counts_at (x ∷ rows) (suc k) r l e = counts_at rows k r (omega arith) e

pub version_told : (w v : Worlds) (rows : List Row) (k field : ℕ) (r : Row) (version : Option ℕ) → w ≡ v → map row_counts rows ≡ w.versions → k < length rows → r ≡ get_or rows k r → version ≡ slice_get (row_counts r) field → version ≡ version_at v k field
version_told w v rows k field r version same told l at e =
    e ∙ sym (ap (option_and_then (λ versions. slice_get versions field)) (counts_at rows k r l at))
    ∙ ap (λ (vs : List (List ℕ)). option_and_then (λ versions. slice_get versions field) (slice_get vs k)) told
    ∙ ap (λ (u : Worlds). version_at u k field) same

-- ---- versions

row_most : (t : ℕ) (versions : List ℕ) (field : ℕ) → WasCounted t versions → IfSome (slice_get versions field) (λ v. v ≤ t)
row_most t [] field a = tt
row_most t (v ∷ versions) zero a = a.0
row_most t (v ∷ versions) (suc field) a = row_most t versions field a.1

all_most : (t : ℕ) (all : List (List ℕ)) (object field : ℕ) → AllByRecursion (WasCounted t) all → IfSome (option_and_then (λ versions. slice_get versions field) (slice_get all object)) (λ v. v ≤ t)
all_most t [] object field a = tt
all_most t (versions ∷ all) zero field a = row_most t versions field a.0
all_most t (versions ∷ all) (suc object) field a = all_most t all object field a.1

pub version_most : (w : Worlds) (object field : ℕ) (version : Option ℕ) → AllByRecursion (WasCounted w.ticks) w.versions → version ≡ version_at w object field → IfSome version (λ v. v ≤ w.ticks)
version_most w object field version counted e = subst (λ (r : Option ℕ). IfSome r (λ v. v ≤ w.ticks)) (sym e) (all_most w.ticks w.versions object field counted)
