-- Lists that grow by one at the end.
use Rattle.std.proofs.Common.{◌≡◌, ℕ, ◌+◌, ◌<◌, ◌≤◌, List, [], ◌∷◌, ◌++◌, length, get_or, set, take, drop, map, filter, ap, Bool, true, false, Option, Some, None, refl, ◌∙◌, arith, append_assoc, length-append, sym}
use Rattle.std.specs.List.{filter_map, cons_option}
use Rattle.std.proofs.lemmas.List.{take_more, take_more_set, get_or-drop, drop-drop, map-append, take_all, drop_all, append-nil}
use Rattle.std.proofs.lemmas.List.Elements.{filter_map-append, filter-append}
use Rattle.world_scope.specs.declared.viewer.Seen.{Seen}
use Rattle.client_scope.specs.declared.period.ShownPeriod.{ShownPeriod}
use Rattle.client_scope.specs.Marks.{begun}

pub mapped_more : {X Y : Type 0} (f : X → Option Y) (xs : List X) (i : ℕ) (d : X) → i < length xs → filter_map f (take (i + 1) xs) ≡ filter_map f (take i xs) ++ filter_map f (get_or xs i d ∷ [])
mapped_more f xs i d l = rw (take_more xs i d l) (filter_map-append f (take i xs) (get_or xs i d ∷ []))

few_by : {Y : Type 0} (y : Option Y) (ys : List Y) → length (cons_option y ys) ≤ length ys + 1
few_by None ys = omega arith
few_by (Some y) ys = omega arith

pub mapped_few : {X Y : Type 0} (f : X → Option Y) (ys : List Y) (x : X) (i : ℕ) → length ys ≤ i → length (ys ++ filter_map f (x ∷ [])) ≤ i + 1
mapped_few f ys x i l = let a = length-append ys (filter_map f (x ∷ [])) in let b = few_by (f x) [] in omega (arith, a, b)

pub filtered_more : {X : Type 0} (p : X → Bool) (xs : List X) (i : ℕ) (d : X) → i < length xs → filter p (take (i + 1) xs) ≡ filter p (take i xs) ++ filter p (get_or xs i d ∷ [])
filtered_more p xs i d l = rw (take_more xs i d l) (filter-append p (take i xs) (get_or xs i d ∷ []))

pub begun_more : (n : ℕ) (seen : List Seen) (s : Seen) → begun n (seen ++ s ∷ []) ≡ begun n seen ++ record { n = n + length seen; object = s.object; level = s.level } ∷ []
begun_more n [] s = grind arith
begun_more n (t ∷ seen) s = let h = begun_more (n + 1) seen s in grind (arith, h)

-- a walk that adds what one more item gives
pub one_more : {X Y : Type 0} (f : X → Option Y) (xs : List X) (i : ℕ) (d : X) (old new : List Y) → i < length xs → old ≡ filter_map f (take i xs) → new ≡ old ++ filter_map f (get_or xs i d ∷ []) → new ≡ filter_map f (take (i + 1) xs)
one_more f xs i d old new l e h = rw (h, e, mapped_more f xs i d l) refl

pub few_more : {X Y : Type 0} (f : X → Option Y) (old new : List Y) (x : X) (i : ℕ) → length old ≤ i → new ≡ old ++ filter_map f (x ∷ []) → length new ≤ i + 1
few_more f old new x i l h = rw h (mapped_few f old x i l)

-- a walk that keeps what passes and numbers it
pub passed : {X : Type 0} (p : X → Bool) (xs : List X) (i : ℕ) (d : X) (old new : List X) → i < length xs → old ≡ filter p (take i xs) → p (get_or xs i d) ≡ true → new ≡ old ++ get_or xs i d ∷ [] → new ≡ filter p (take (i + 1) xs)
passed p xs i d old new l e t h = let m = filtered_more p xs i d l in rw (h, e, m, t) refl

pub passed_over : {X : Type 0} (p : X → Bool) (xs : List X) (i : ℕ) (d : X) (old : List X) → i < length xs → old ≡ filter p (take i xs) → p (get_or xs i d) ≡ false → old ≡ filter p (take (i + 1) xs)
passed_over p xs i d old l e t = let m = filtered_more p xs i d l in e ∙ rw (m, t) (sym (append-nil _))

pub kept_more : (first old new : List ShownPeriod) (count n : ℕ) (shows more : List Seen) (s : Seen) → old ≡ first ++ begun count shows → n ≡ count + length shows → more ≡ shows ++ s ∷ [] → new ≡ old ++ record { n = n; object = s.object; level = s.level } ∷ [] → new ≡ first ++ begun count more
kept_more first old new count n shows more s o k m h = let b = begun_more count shows s in rw (h, o, m, b, k, append_assoc) refl

-- what a vector holds once all of it was lent and changed
pub written_back : {X : Type 0} (now before : List X) (len n : ℕ) → len ≡ length before → length before ≡ n → length now ≡ n → take len (now ++ drop (length now) before) ≡ now
written_back now before len n l b w =
    let none : drop (length now) before ≡ [] = drop_all (length now) before (omega (arith, b, w)) in
    let all : length now ≤ len = omega (arith, l, b, w) in
    rw (none, append-nil) (take_all len now all)

-- two lists that are the same from a place on
pub same_there : {X : Type 0} (xs ys : List X) (i : ℕ) (d : X) → drop i xs ≡ drop i ys → get_or xs i d ≡ get_or ys i d
same_there xs ys i d e =
    let n : i + 0 ≡ i = omega arith in
    let a : get_or (drop i xs) 0 d ≡ get_or xs i d = get_or-drop i xs 0 d ∙ rw n refl in
    let b : get_or (drop i ys) 0 d ≡ get_or ys i d = get_or-drop i ys 0 d ∙ rw n refl in
    sym a ∙ ap (λ zs. get_or zs 0 d) e ∙ b

pub same_behind : {X : Type 0} (xs ys : List X) (i : ℕ) → drop i xs ≡ drop i ys → drop (i + 1) xs ≡ drop (i + 1) ys
same_behind xs ys i e = sym (drop-drop 1 i xs) ∙ ap (drop 1) e ∙ drop-drop 1 i ys

-- a walk that changes each item where it stands
pub changed_more : {X : Type 0} (f : X → X) (xs ys : List X) (i : ℕ) (d x : X) → i < length xs → i < length ys → take i xs ≡ map f (take i ys) → x ≡ f (get_or ys i d) → take (i + 1) (set xs i x) ≡ map f (take (i + 1) ys)
changed_more f xs ys i d x l m e h = rw (take_more_set xs i x l, e, take_more ys i d m, map-append f (take i ys) (get_or ys i d ∷ []), h) refl
