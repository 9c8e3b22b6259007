-- How the shown periods change by one more scan: those whose object it sees go on at the level that it sees, and a period
-- begins with each object that is new.
use Rattle.std.proofs.Common.{◌≡◌, ℕ, suc, ◌+◌, List, [], ◌∷◌, ◌++◌, length, map, filter, drop, Bool, true, false, ◌&&◌, ◌||◌, not, cond, Option, Some, None, refl, sym, ap, ◌∙◌, arith, nat_eq, append_assoc, length-append, subst}
use Rattle.std.specs.Prelude.{is_some, option_map, option_and_then}
use Rattle.std.specs.List.{filter_map, enumerate_from, cons_option, list_any}
use Rattle.std.proofs.lemmas.Bool.Decides.{nat_tests}
use Rattle.std.proofs.lemmas.List.Elements.{filter_map-append}
use Rattle.world_scope.specs.declared.viewer.Seen.{Seen}
use Rattle.client_scope.specs.Scans.{level_in, last, is_new, new_ones, periods, comes_again, at_level, lasting, shown}
use Rattle.client_scope.specs.Marks.{goes_on, begun}
use Rattle.client_scope.proofs.Apart.{AreApart, skipped}

abbrev pub objects : List Seen → List ℕ
objects seen = map (λ s. s.object) seen

abbrev pub has : ℕ → List ℕ → Bool
has o os = list_any (λ x. nat_eq x o) os

-- ---- which objects are new

has_sight : (o : ℕ) (seen : List Seen) → has o (objects seen) ≡ is_some (level_in seen o)
has_sight o [] = refl
has_sight o (s ∷ seen) = by (has_sight o seen) (nat_eq s.object o)
  where
    by : has o (objects seen) ≡ is_some (level_in seen o) → (b : Bool) → (b || has o (objects seen)) ≡ is_some (cond b (Some s.level) (level_in seen o))
    by h true = refl
    by h false = h

none_new : (b c : Bool) → c ≡ false → (b && c) ≡ c
none_new true c e = refl
none_new false c e = sym e

has_new : (before : ℕ → Option ℕ) (o : ℕ) (seen : List Seen) → has o (objects (filter (is_new before) seen)) ≡ (is_some (level_in seen o) && not (is_some (before o)))
has_new before o [] = refl
has_new before o (s ∷ seen) = by (has_new before o seen) (nat_eq s.object o) refl (is_new before s) refl
  where
    by : has o (objects (filter (is_new before) seen)) ≡ (is_some (level_in seen o) && not (is_some (before o))) → (b : Bool) → nat_eq s.object o ≡ b → (c : Bool) → is_new before s ≡ c
        → has o (objects (cond c (s ∷ filter (is_new before) seen) (filter (is_new before) seen))) ≡ (is_some (cond b (Some s.level) (level_in seen o)) && not (is_some (before o)))
    by h true e true f = let same : s.object ≡ o = grind (arith, nat_tests) in rw e (sym (rw same at f))
    by h true e false f =
        let same : s.object ≡ o = grind (arith, nat_tests) in
        let old : not (is_some (before o)) ≡ false = rw same at f in
        h ∙ none_new (is_some (level_in seen o)) (not (is_some (before o))) old
    by h false e true f = rw e h
    by h false e false f = h

-- ---- the periods that lasted

enumerated : {X : Type 0} (n : ℕ) (xs ys : List X) → enumerate_from n (xs ++ ys) ≡ enumerate_from n xs ++ enumerate_from (n + length xs) ys
enumerated n [] ys = let e : n + 0 ≡ n = omega arith in rw e refl
enumerated n (x ∷ xs) ys = ap (λ zs. (n, x) ∷ zs) (let e : n + 1 + length xs ≡ n + suc (length xs) = omega arith in rw (sym e) (enumerated (n + 1) xs ys))

has_more : (o : ℕ) (xs ys : List ℕ) → has o (xs ++ ys) ≡ (has o xs || has o ys)
has_more o [] ys = refl
has_more o (x ∷ xs) ys = by (nat_eq x o) (has_more o xs ys)
  where
    by : (b : Bool) → has o (xs ++ ys) ≡ (has o xs || has o ys) → (b || has o (xs ++ ys)) ≡ ((b || has o xs) || has o ys)
    by true e = refl
    by false e = e

-- what stands behind one place of a list
behind : (n : ℕ) (front : List ℕ) (x : ℕ) (rest : List ℕ) → n ≡ length front → drop (n + 1) (front ++ x ∷ rest) ≡ rest
behind n [] x rest e = rw e refl
behind n (y ∷ front) x rest e = let m : n + 1 ≡ suc (length front + 1) = omega (arith, e) in rw m (behind (length front) front x rest refl)

-- one period that there was, after a further scan: by whether it came again before, whether it comes again now, and whether
-- the scan and the one before saw it
goes_by : (again later : Bool) (e : ℕ × ℕ) (now : ℕ → Option ℕ) (level before : Option ℕ) → now e.1 ≡ level → later ≡ (is_some level && not (is_some before))
    → cond (again || later) None (option_map (at_level e) level) ≡ option_and_then (goes_on now) (cond again None (option_map (at_level e) before))
goes_by true later e now level before q h = refl
goes_by false later e now None None q h = rw h refl
goes_by false later e now None (Some b) q h = rw (h, q) refl
goes_by false later e now (Some a) None q h = rw h refl
goes_by false later e now (Some a) (Some b) q h = rw (h, q) refl

mapped_on : {X Y : Type 0} (f : X → Option Y) (x : Option X) (xs : List X) → filter_map f (cons_option x xs) ≡ cons_option (option_and_then f x) (filter_map f xs)
mapped_on f None xs = refl
mapped_on f (Some x) xs = refl

-- ended: what another list of periods behind these does to them
lasted : (now before : ℕ → Option ℕ) (more : List ℕ) → ((o : ℕ) → has o more ≡ (is_some (now o) && not (is_some (before o)))) → (whole front xs : List ℕ) (n : ℕ) → whole ≡ front ++ xs → n ≡ length front
    → filter_map (lasting (whole ++ more) now) (enumerate_from n xs) ≡ filter_map (goes_on now) (filter_map (lasting whole before) (enumerate_from n xs))
lasted now before more h whole front [] n w e = refl
lasted now before more h whole front (x ∷ xs) n w e =
    let again : comes_again whole n x ≡ has x xs = ap (has x) (rw w (behind n front x xs e)) in
    let later : comes_again (whole ++ more) n x ≡ (has x xs || has x more) = ap (has x) (rw (w, append_assoc) (behind n front x (xs ++ more) e)) ∙ has_more x xs more in
    let rest = lasted now before more h whole (front ++ x ∷ []) xs (n + 1) (rw append_assoc w) (let l = length-append front (x ∷ []) in omega (arith, e, l)) in
    let here : lasting (whole ++ more) now (n, x) ≡ option_and_then (goes_on now) (lasting whole before (n, x)) = (rw (again, later) (goes_by (has x xs) (has x more) (n, x) now (now x) (before x) refl (h x))) in
    rw (here, rest, mapped_on (goes_on now) (lasting whole before (n, x))) refl

-- ---- the periods that begin

-- a scan's own sights are at the levels that it tells
abbrev AreTold : (ℕ → Option ℕ) → List Seen → Type 0
AreTold level [] = Unit {0}
AreTold level (s ∷ seen) = (level s.object ≡ Some s.level) × AreTold level seen

absent_filtered : (p : Seen → Bool) (o : ℕ) (seen : List Seen) → level_in seen o ≡ None → level_in (filter p seen) o ≡ None
absent_filtered p o [] h = refl
absent_filtered p o (s ∷ seen) h =
    let apart = skipped (nat_eq s.object o) s.level (level_in seen o) h in
    by apart.0 (absent_filtered p o seen apart.1) (p s)
  where
    by : nat_eq s.object o ≡ false → level_in (filter p seen) o ≡ None → (b : Bool) → level_in (cond b (s ∷ filter p seen) (filter p seen)) o ≡ None
    by e h true = rw e h
    by e h false = h

apart_filtered : (p : Seen → Bool) (seen : List Seen) → AreApart seen → AreApart (filter p seen)
apart_filtered p [] h = tt
apart_filtered p (s ∷ seen) h = by (absent_filtered p s.object seen h.0) (apart_filtered p seen h.1) (p s)
  where
    by : level_in (filter p seen) s.object ≡ None → AreApart (filter p seen) → (b : Bool) → AreApart (cond b (s ∷ filter p seen) (filter p seen))
    by a h true = (a, h)
    by a h false = h

told_filtered : (p : Seen → Bool) (level : ℕ → Option ℕ) (seen : List Seen) → AreTold level seen → AreTold level (filter p seen)
told_filtered p level [] h = tt
told_filtered p level (s ∷ seen) h = by h.0 (told_filtered p level seen h.1) (p s)
  where
    by : level s.object ≡ Some s.level → AreTold level (filter p seen) → (b : Bool) → AreTold level (cond b (s ∷ filter p seen) (filter p seen))
    by a h true = (a, h)
    by a h false = h

-- a sight in front of others, of another object
told_behind : (s : Seen) (level : ℕ → Option ℕ) (seen : List Seen) → level s.object ≡ None → AreTold level seen → AreTold (λ o. cond (nat_eq s.object o) (Some s.level) (level o)) seen
told_behind s level [] a h = tt
told_behind s level (t ∷ seen) a h =
    let other : nat_eq s.object t.object ≡ false = by (nat_eq s.object t.object) refl in
    (rw other h.0, told_behind s level seen a h.1)
  where
    by : (b : Bool) → nat_eq s.object t.object ≡ b → b ≡ false
    by true e = let same : s.object ≡ t.object = grind (arith, nat_tests) in absurd (let f : level t.object ≡ None = rw (sym same) a in let g = h.0 in cc)
    by false e = refl

tells_own : (seen : List Seen) → AreApart seen → AreTold (level_in seen) seen
tells_own [] h = tt
tells_own (s ∷ seen) h =
    let self : nat_eq s.object s.object ≡ true = grind (arith, nat_tests) in
    (rw self refl, told_behind s (level_in seen) seen h.0 (tells_own seen h.1))

begins : (now : ℕ → Option ℕ) (front : List ℕ) (seen : List Seen) (n : ℕ) → n ≡ length front → AreApart seen → AreTold now seen
    → filter_map (lasting (front ++ objects seen) now) (enumerate_from n (objects seen)) ≡ begun n seen
begins now front [] n e a t = refl
begins now front (s ∷ seen) n e a t =
    let once : comes_again (front ++ objects (s ∷ seen)) n s.object ≡ false = ap (has s.object) (behind n front s.object (objects seen) e) ∙ has_sight s.object seen ∙ ap is_some a.0 in
    let same : front ++ objects (s ∷ seen) ≡ (front ++ s.object ∷ []) ++ objects seen = rw append_assoc refl in
    let rest = begins now (front ++ s.object ∷ []) seen (n + 1) (let l = length-append front (s.object ∷ []) in omega (arith, e, l)) a.1 t.1 in
    let all : filter_map (lasting (front ++ objects (s ∷ seen)) now) (enumerate_from (n + 1) (objects seen)) ≡ begun (n + 1) seen = subst (λ w. filter_map (lasting w now) (enumerate_from (n + 1) (objects seen)) ≡ begun (n + 1) seen) (sym same) rest in
    rw (once, t.0) (ap (λ ps. at_level (n, s.object) s.level ∷ ps) all)

-- ---- one more scan

pub shown_by_step : (seen : List Seen) (scans : List (List Seen)) → AreApart seen → shown (seen ∷ scans) ≡ filter_map (goes_on (level_in seen)) (shown scans) ++ begun (length (periods scans)) (new_ones (last scans) seen)
shown_by_step seen scans a =
    let before = level_in (last scans) in
    let now = level_in seen in
    let new = filter (is_new before) seen in
    let ps = periods scans in
    let f = lasting (ps ++ objects new) now in
    let front : filter_map f (enumerate_from 0 ps) ≡ filter_map (goes_on now) (shown scans) = lasted now before (objects new) (λ o. has_new before o seen) ps [] ps 0 refl refl in
    let back : filter_map f (enumerate_from (length ps) (objects new)) ≡ begun (length ps) new = begins now ps new (length ps) refl (apart_filtered (is_new before) seen a) (told_filtered (is_new before) now seen (tells_own seen a)) in
    let l : 0 + length ps ≡ length ps = omega arith in
    ap (filter_map f) (enumerated 0 ps (objects new)) ∙ filter_map-append f (enumerate_from 0 ps) _ ∙ rw (l, front, back) refl
