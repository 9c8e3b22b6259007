-- Where the lanes lack one version of each field at most, a field that was stored is stored for good: to choose it again does nothing.
use Rattle.std.proofs.Common.{◌≡◌, ℕ, ◌+◌, Bool, true, false, not, ◌&&◌, ◌||◌, if◌then◌else◌, List, Option, Some, None, ◌∙◌, refl, ap, arith, nat_le}
use Rattle.std.specs.Prelude.{is_some}
use Rattle.std.proofs.lemmas.Bool.Decides.{nat_tests}
use Rattle.dirty_lanes.specs.declared.view.SimStep.{SimStep}
use Rattle.dirty_lanes.specs.Views.{newest}
use Rattle.world_sim.specs.Worlds.{Worlds, value_at, version_at}
use Rattle.world_lanes.specs.Behind.{is_unwritten, is_behind, Brings}
use Rattle.world_lanes.specs.Storing.{is_near, IsNear}
use Rattle.world_lanes.proofs.Bringing.{brings_by, brings_more}

written_once : (is : Bool) (v n m : ℕ) → nat_le v n ≡ true → nat_le n v ≡ is → m ≡ (if is then n + 1 else n) → nat_le m v ≡ false
written_once true v n m near e many = grind (arith, nat_tests)
written_once false v n m near e many = rw many e

left : (c p : Bool) (v : Option ℕ) (n m : ℕ) → is_near n v ≡ true → m ≡ (if c && (p && is_unwritten n v) then n + 1 else n)
    → (p && is_unwritten m v) ≡ (not c && (p && is_unwritten n v))
left true false v n m near many = refl
left false false v n m near many = refl
left false true v n m near many = ap (λ (k : ℕ). is_unwritten k v) many
left true true None n m near many = refl
left true true (Some v) n m near many = written_once (nat_le n v) v n m near refl many

-- what the lanes are behind in after it
pub still_behind : (w : Worlds) (chosen : ℕ → ℕ → Bool) (a b : List SimStep) → IsNear w a → Brings w chosen a b
    → (o f : ℕ) → is_behind w b o f ≡ (not (chosen o f) && is_behind w a o f)
still_behind w chosen a b near x o f =
    left (chosen o f) (is_some (value_at w o f)) (version_at w o f) (newest a o f) (newest b o f) (near o f) (x.versions o f)

others_alone : (d n x y : Bool) → y ≡ (not d && x) → (n && y) ≡ ((not d && n) && y)
others_alone true true x y e = e
others_alone true false x y e = refl
others_alone false n x y e = refl

apart_from : (d n : Bool) → (d && (not d && n)) ≡ false
apart_from true n = refl
apart_from false n = refl

either_or : (d n : Bool) → (d || n) ≡ (d || (not d && n))
either_or true n = refl
either_or false n = refl

pub brings_again : (w : Worlds) (first second both : ℕ → ℕ → Bool) (a b c : List SimStep) → IsNear w a → Brings w first a b → Brings w second b c
    → ((o f : ℕ) → both o f ≡ (first o f || second o f)) → Brings w both a c
brings_again w first second both a b c near x y all =
    brings_more w first (λ o f. not (first o f) && second o f) both a b c x
    (brings_by w second (λ o f. not (first o f) && second o f) b c
    (λ o f. others_alone (first o f) (second o f) (is_behind w a o f) (is_behind w b o f) (still_behind w first a b near x o f)) y)
    (λ o f. apart_from (first o f) (second o f)) (λ o f. all o f ∙ either_or (first o f) (second o f))

listed_both : (d n x y : Bool) → y ≡ (not d && x) → ((d && x) || (n && y)) ≡ ((d || n) && x)
listed_both true true true y e = refl
listed_both true false true y e = refl
listed_both true true false y e = e
listed_both true false false y e = refl
listed_both false n x y e = ap (λ (t : Bool). n && t) e

-- the fields that were stored first, and those that were stored then
pub told_again : (w : Worlds) (first second : ℕ → ℕ → Bool) (a b : List SimStep) → IsNear w a → Brings w first a b
    → (o f : ℕ) → ((first o f && is_behind w a o f) || (second o f && is_behind w b o f)) ≡ ((first o f || second o f) && is_behind w a o f)
told_again w first second a b near x o f =
    listed_both (first o f) (second o f) (is_behind w a o f) (is_behind w b o f) (still_behind w first a b near x o f)
