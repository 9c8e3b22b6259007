-- A scan by rising number sees no object twice.
use Rattle.std.proofs.Common.{◌≡◌, ◌≢◌, ℕ, zero, suc, ◌<◌, List, [], ◌∷◌, ◌++◌, length, get_or, take, map, Bool, true, false, cond, Option, Some, None, refl, sym, arith, nat_eq}
use Rattle.std.proofs.lemmas.List.{length-map, length-take, get_or-take}
use Rattle.std.specs.List.Sorted.{IsStrictlyIncreasing}
use Rattle.std.proofs.lemmas.List.Kept.{AllPairs-from_increasing}
use Rattle.std.proofs.lemmas.Bool.Decides.{nat_tests}
use Rattle.world_scope.specs.declared.viewer.Seen.{Seen}
use Rattle.client_scope.specs.Scans.{level_in}

abbrev pub nobody : Seen
nobody = record { object = 0; level = 0 }

-- the sights of a scan are of different objects
abbrev pub AreApart : List Seen → Type 0
AreApart [] = Unit {0}
AreApart (s ∷ seen) = (level_in seen s.object ≡ None) × AreApart seen

pub absent : (o : ℕ) (seen : List Seen) → ((k : ℕ) → k < length seen → (get_or seen k nobody).object ≢ o) → level_in seen o ≡ None
absent o [] h = refl
absent o (s ∷ seen) h =
    let other : s.object ≢ o = h 0 (omega arith) in
    let t : nat_eq s.object o ≡ false = grind (arith, nat_tests) in
    rw t (absent o seen (λ k w. h (suc k) (omega (arith, w))))

object_at : (seen : List Seen) (k : ℕ) → get_or (map (λ s. s.object) seen) k 0 ≡ (get_or seen k nobody).object
object_at [] k = refl
object_at (s ∷ seen) zero = refl
object_at (s ∷ seen) (suc k) = object_at seen k

pairs_apart : (seen : List Seen) → ((i j : ℕ) → i < j → j < length seen → (get_or seen i nobody).object < (get_or seen j nobody).object) → AreApart seen
pairs_apart [] h = tt
pairs_apart (s ∷ seen) h = (
  absent s.object seen (λ k w. let l = h 0 (suc k) (omega arith) (omega (arith, w)) in omega (arith, l)),
  pairs_apart seen (λ i j l w. h (suc i) (suc j) (omega (arith, l)) (omega (arith, w))),
)

in_order : (seen : List Seen) → IsStrictlyIncreasing (map (λ s. s.object) seen) → (i j : ℕ) → i < j → j < length seen → (get_or seen i nobody).object < (get_or seen j nobody).object
in_order seen h i j l w =
    let many : length (map (λ s. s.object) seen) ≡ length seen = length-map seen _ in
    let below = AllPairs-from_increasing (map (λ s. s.object) seen) h i j 0 l (omega (arith, many, w)) in
    rw (sym (object_at seen i), sym (object_at seen j)) below

pub rising_apart : (seen : List Seen) → IsStrictlyIncreasing (map (λ s. s.object) seen) → AreApart seen
rising_apart seen h = pairs_apart seen (in_order seen h)

-- what stands before a sight is of other objects
pub not_before : (seen : List Seen) (i : ℕ) → IsStrictlyIncreasing (map (λ s. s.object) seen) → i < length seen → level_in (take i seen) (get_or seen i nobody).object ≡ None
not_before seen i h l = absent (get_or seen i nobody).object (take i seen) (λ k w.
    let short = length-take i seen in
    let before : k < i = omega (arith, w, short) in
    let same : get_or (take i seen) k nobody ≡ get_or seen k nobody = get_or-take i seen k nobody before in
    let below = in_order seen h k i before l in
    rw same (omega (arith, below)))

pub skipped : {X : Type 0} (b : Bool) (x : X) (y : Option X) → cond b (Some x) y ≡ None → (b ≡ false) × (y ≡ None)
skipped true x y e = absurd (cc)
skipped false x y e = (refl, e)

-- a further sight, of an object that stands nowhere before
pub level_more : (seen : List Seen) (s : Seen) (o : ℕ) → level_in seen s.object ≡ None → level_in (seen ++ s ∷ []) o ≡ cond (nat_eq s.object o) (Some s.level) (level_in seen o)
level_more [] s o h = refl
level_more (t ∷ seen) s o h =
    let apart = skipped (nat_eq t.object s.object) t.level (level_in seen s.object) h in
    by apart.0 (level_more seen s o apart.1) (nat_eq t.object o) refl
  where
    by : nat_eq t.object s.object ≡ false → level_in (seen ++ s ∷ []) o ≡ cond (nat_eq s.object o) (Some s.level) (level_in seen o) → (b : Bool) → nat_eq t.object o ≡ b
        → cond (nat_eq t.object o) (Some t.level) (level_in (seen ++ s ∷ []) o) ≡ cond (nat_eq s.object o) (Some s.level) (cond (nat_eq t.object o) (Some t.level) (level_in seen o))
    by apart more true e = let f : nat_eq s.object o ≡ false = grind (arith, nat_tests) in rw (e, f) refl
    by apart more false e = rw e more
