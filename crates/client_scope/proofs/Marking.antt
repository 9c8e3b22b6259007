-- What marks tell, as they are set one by one.
use Rattle.std.proofs.Common.{◌≡◌, ◌≢◌, ℕ, zero, suc, replicate, ◌+◌, ◌-◌, ◌<◌, List, [], length, get_or, set, take, map, Bool, true, false, cond, Some, refl, ap, ◌∙◌, arith, nat_eq, get_or-set_same, get_or-set_other}
use Rattle.std.specs.List.Sorted.{IsStrictlyIncreasing}
use Rattle.std.proofs.lemmas.List.{take_more}
use Rattle.std.proofs.lemmas.Bool.Decides.{nat_tests}
use Rattle.world_scope.specs.declared.viewer.Seen.{Seen}
use Rattle.client_scope.specs.Marks.{told, marked, AreOf}
use Rattle.client_scope.proofs.Apart.{nobody, level_more, not_before}

told_level : (level : ℕ) → told (level + 1) ≡ Some level
told_level level =
    let t : nat_eq (level + 1) 0 ≡ false = grind (arith, nat_tests) in
    let e : level + 1 - 1 ≡ level = omega arith in
    rw (t, e) refl

marked_set : (marks : List ℕ) (at level o : ℕ) → at < length marks → marked (set marks at (level + 1)) o ≡ cond (nat_eq at o) (Some level) (marked marks o)
marked_set marks at level o l = by (nat_eq at o) refl
  where
    by : (b : Bool) → nat_eq at o ≡ b → marked (set marks at (level + 1)) o ≡ cond (nat_eq at o) (Some level) (marked marks o)
    by true e =
        let same : o ≡ at = grind (arith, nat_tests) in
        rw (e, same) (ap told (get_or-set_same marks at (level + 1) 0 l) ∙ told_level level)
    by false e =
        let other : o ≢ at = grind (arith, nat_tests) in
        rw e (ap told (get_or-set_other marks at o (level + 1) 0 other))

pub one_more_mark : (seen : List Seen) (marks : List ℕ) (i : ℕ) → IsStrictlyIncreasing (map (λ s. s.object) seen) → i < length seen → (get_or seen i nobody).object < length marks → AreOf (take i seen) marks
    → AreOf (take (i + 1) seen) (set marks (get_or seen i nobody).object ((get_or seen i nobody).level + 1))
one_more_mark seen marks i h l w are = λ o.
    let s = get_or seen i nobody in
    rw (take_more seen i nobody l, level_more (take i seen) s o (not_before seen i h l), marked_set marks s.object s.level o w, are o) refl

zeros : (n o : ℕ) → get_or {A = ℕ} (replicate n 0) o 0 ≡ 0
zeros zero o = refl
zeros (suc n) zero = refl
zeros (suc n) (suc o) = zeros n o

pub none_marked : (marks : List ℕ) (n : ℕ) → marks ≡ replicate n 0 → AreOf [] marks
none_marked marks n e = λ o. rw (e, zeros n o) refl
