-- A walk over a list that compares what it picks out of it with what is asked for, and stops at the first that is another: what is
-- asked of all is asked of what is left.
use Rattle.std.proofs.Common.{◌≡◌, ℕ, zero, suc, ◌<◌, ◌≤◌, ◌+◌, List, [], ◌∷◌, ◌++◌, length, drop, get_or, refl, sym, ap, ◌∙◌, subst, arith, add-one, ◌⊎◌, inl, inr}
use Rattle.std.specs.Prelude.{◌↔◌, Bool, true, false, Option, Some, None, slice_get, is_some, not, IfSome}
use Rattle.std.specs.List.{filter_map, cons_option}
use Rattle.std.specs.Option.{option_and_then}
use Rattle.std.proofs.Math.Dec.{leb}
use Rattle.std.proofs.lemmas.List.{drop_all}
use Rattle.std.proofs.lemmas.Bool.Decides.{leb_tells}
use Rattle.std.proofs.lemmas.Option.{slice_get_cases, slice_get_read}
use Rattle.race_history.specs.Deciding.{Decides}
use Rattle.race_steps.specs.Asked.{AreAllOrFirst}
use Rattle.race_steps.specs.declared.fit.Fit.{Fit}
use Rattle.race_steps.specs.declared.fit.Fit.TheVariants.{Nothing, Next, Other}
use Rattle.race_steps.specs.Walking.{Fits}

-- what is asked of all is asked of what is left
abbrev pub IsLeft : {A : Type 0} → Type 0 → Bool → List A → List A → Type 0
IsLeft W full done rest = W ↔ AreAllOrFirst full done rest

-- the same where k items of a list were met at i places
pub record IsLeftOf {A : Type 0} (W : Type 0) (full : Bool) (done asked : List A) (k i : ℕ) : Type 0 where
  pub few : k ≤ i
  pub left : IsLeft W full done (drop k asked)

-- ---- what a place gives

picked_suc : {X A : Type 0} (f : X → Option A) (xs : List X) (i : ℕ) → filter_map f (drop i xs) ≡ cons_option (option_and_then f (slice_get xs i)) (filter_map f (drop (suc i) xs))
picked_suc f [] zero = refl
picked_suc f [] (suc i) = refl
picked_suc f (x ∷ xs) zero = refl
picked_suc f (x ∷ xs) (suc i) = picked_suc f xs i

-- what is picked out of a list from a place on is what this place gives, and what is picked out behind it
pub picked : {X A : Type 0} (f : X → Option A) (xs : List X) (i : ℕ) (found : Option A) → option_and_then f (slice_get xs i) ≡ found → filter_map f (drop i xs) ≡ cons_option found (filter_map f (drop (i + 1) xs))
picked {X} {A} f xs i found e =
    picked_suc f xs i ∙ ap (λ (o : Option A). cons_option o (filter_map f (drop (suc i) xs))) e
    ∙ ap (λ (j : ℕ). cons_option found (filter_map f (drop j xs))) (sym (add-one i))

left_suc : {X : Type 0} (xs : List X) (i : ℕ) (x : X) → slice_get xs i ≡ Some x → drop i xs ≡ x ∷ drop (suc i) xs
left_suc {X} [] i x e = absurd (let h : None ≡ Some x = e in cc)
left_suc {X} (y ∷ xs) zero x e = let h : Some y ≡ Some x = e in let g : y ≡ x = cc in ap (λ (z : X). z ∷ xs) g
left_suc {X} (y ∷ xs) (suc i) x e = left_suc xs i x e

-- what is left from a place on begins with the item of the place
left_at : {X : Type 0} (xs : List X) (i : ℕ) (x : X) → slice_get xs i ≡ Some x → drop i xs ≡ x ∷ drop (i + 1) xs
left_at {X} xs i x e = left_suc xs i x e ∙ ap (λ (j : ℕ). x ∷ drop j xs) (sym (add-one i))

head_of : {A : Type 0} (ys : List A) (k : ℕ) → slice_get (drop k ys) 0 ≡ slice_get ys k
head_of [] zero = refl
head_of [] (suc k) = refl
head_of (y ∷ ys) zero = refl
head_of (y ∷ ys) (suc k) = head_of ys k

-- by the item that was read there
pub item_fits : {X A : Type 0} (f : X → Option A) (xs : List X) (i : ℕ) (x : X) (asked : Option A) (fit : Fit) → i < length xs → x ≡ get_or xs i x → Fits (f x) asked fit → Fits (option_and_then f (slice_get xs i)) asked fit
item_fits {X} {A} f xs i x asked fit l e h = rw (slice_get_read xs (length xs) i x refl l e) h

-- by what is said of the item there, since there is one
pub found_there : {X A : Type 0} (f : X → Option A) (xs : List X) (i : ℕ) (found : Option A) → i < length xs → IfSome (slice_get xs i) (λ x. found ≡ f x) → found ≡ option_and_then f (slice_get xs i)
found_there {X} {A} f [] i found l h = absurd (omega (arith, l))
found_there {X} {A} f (x ∷ xs) zero found l h = h
found_there {X} {A} f (x ∷ xs) (suc i) found l h = found_there f xs i found (omega (arith, l)) h

-- ---- one item more, of whatever is left

same_first : {A : Type 0} (full : Bool) (x : A) (done rest : List A) → AreAllOrFirst full (x ∷ done) (x ∷ rest) ↔ AreAllOrFirst full done rest
same_first true x done rest = (λ p. (p.0, let h : x ∷ (done ++ p.0) ≡ x ∷ rest = p.1 in cc), λ p. (p.0, let h : done ++ p.0 ≡ rest = p.1 in cc))
same_first false x done rest = (λ h. let g : x ∷ done ≡ x ∷ rest = h in cc, λ h. let g : done ≡ rest = h in cc)

other_first : {A : Type 0} (full : Bool) (x : A) (done rest : List A) → (slice_get rest 0 ≡ Some x → ⊥) → AreAllOrFirst full (x ∷ done) rest → ⊥
other_first true x done [] n p = let h : x ∷ (done ++ p.0) ≡ [] = p.1 in cc
other_first true x done (y ∷ rest) n p = let h : x ∷ (done ++ p.0) ≡ y ∷ rest = p.1 in n (cc)
other_first false x done [] n p = let h : x ∷ done ≡ [] = p in cc
other_first false x done (y ∷ rest) n p = let h : x ∷ done ≡ y ∷ rest = p in n (cc)

pub passes_nothing : {X A : Type 0} (W : Type 0) (full : Bool) (f : X → Option A) (xs : List X) (rest : List A) (i : ℕ) → IsLeft W full (filter_map f (drop i xs)) rest → option_and_then f (slice_get xs i) ≡ None → IsLeft W full (filter_map f (drop (i + 1) xs)) rest
passes_nothing {X} {A} W full f xs rest i h n = let P : List A → Type 0 = λ ds. IsLeft W full ds rest in subst P (picked f xs i None n) h

pub passes_next : {X A : Type 0} (W : Type 0) (full : Bool) (f : X → Option A) (xs : List X) (rest more : List A) (i : ℕ) (x : A) → IsLeft W full (filter_map f (drop i xs)) rest → option_and_then f (slice_get xs i) ≡ Some x → rest ≡ x ∷ more → IsLeft W full (filter_map f (drop (i + 1) xs)) more
passes_next {X} {A} W full f xs rest more i x h d a =
    let done : filter_map f (drop i xs) ≡ x ∷ filter_map f (drop (i + 1) xs) = picked f xs i (Some x) d in
    let P : List A → List A → Type 0 = λ ds rs. AreAllOrFirst full ds rs in
    let go = same_first full x (filter_map f (drop (i + 1) xs)) more in (
      λ w. go.0 (subst (λ rs. P (x ∷ filter_map f (drop (i + 1) xs)) rs) a (subst (λ ds. P ds rest) done (h.0 w))),
      λ p. h.1 (subst (λ ds. P ds rest) (sym done) (subst (λ rs. P (x ∷ filter_map f (drop (i + 1) xs)) rs) (sym a) (go.1 p))),
    )

pub stops : {X A : Type 0} (W : Type 0) (full : Bool) (f : X → Option A) (xs : List X) (rest : List A) (i : ℕ) (x : A) → IsLeft W full (filter_map f (drop i xs)) rest → option_and_then f (slice_get xs i) ≡ Some x → (slice_get rest 0 ≡ Some x → ⊥) → W → ⊥
stops {X} {A} W full f xs rest i x h d n w =
    let done : filter_map f (drop i xs) ≡ x ∷ filter_map f (drop (i + 1) xs) = picked f xs i (Some x) d in
    let P : List A → Type 0 = λ ds. AreAllOrFirst full ds rest in
    other_first full x (filter_map f (drop (i + 1) xs)) rest n (subst P done (h.0 w))

-- ---- the end

none_left : (A : Type 0) (full : Bool) (none : List A) → none ≡ [] → AreAllOrFirst full none none
none_left A true none e = (none, rw e refl)
none_left A false none e = refl

all_met : {X A : Type 0} (W : Type 0) (full : Bool) (f : X → Option A) (xs : List X) (rest : List A) (i : ℕ) → IsLeft W full (filter_map f (drop i xs)) rest → length xs ≤ i → rest ≡ [] → W
all_met {X} {A} W full f xs rest i h l m =
    let P : List A → List A → Type 0 = λ ds rs. AreAllOrFirst full ds rs in
    let e : filter_map f (drop i xs) ≡ [] = rw (drop_all i xs l) refl in
    h.1 (subst (λ ds. P ds rest) (sym e) (subst (λ rs. P [] rs) (sym m) (none_left A full [] refl)))

more_asked : {X A : Type 0} (W : Type 0) (f : X → Option A) (xs : List X) (rest : List A) (i : ℕ) → IsLeft W false (filter_map f (drop i xs)) rest → length xs ≤ i → (rest ≡ [] → ⊥) → W → ⊥
more_asked {X} {A} W f xs rest i h l m w =
    let e : filter_map f (drop i xs) ≡ [] = rw (drop_all i xs l) refl in
    let g : filter_map f (drop i xs) ≡ rest = h.0 w in
    m (sym g ∙ e)

-- where the client isn't full, whether all was met decides it
pub ends : {X A : Type 0} (W : Type 0) (full : Bool) (f : X → Option A) (xs : List X) (rest : List A) (i : ℕ) (b : Bool) → IsLeft W full (filter_map f (drop i xs)) rest → length xs ≤ i → full ≡ false → (b ≡ true → rest ≡ []) → (b ≡ false → rest ≡ [] → ⊥) → Decides b W
ends {X} {A} W true f xs rest i b h l e y n = absurd (cc)
ends {X} {A} W false f xs rest i true h l e y n = all_met W false f xs rest i h l (y refl)
ends {X} {A} W false f xs rest i false h l e y n = more_asked W f xs rest i h l (n refl)

-- where it is full, all that was done was met
pub ends_first : {X A : Type 0} (W : Type 0) (full : Bool) (f : X → Option A) (xs : List X) (rest : List A) (i : ℕ) → IsLeft W full (filter_map f (drop i xs)) rest → length xs ≤ i → full ≡ true → Decides full W
ends_first {X} {A} W true f xs rest i h l e =
    let P : List A → Type 0 = λ ds. AreAllOrFirst true ds rest in
    let d : filter_map f (drop i xs) ≡ [] = rw (drop_all i xs l) refl in
    h.1 (subst P (sym d) (rest, refl))
ends_first {X} {A} W false f xs rest i h l e = absurd (cc)

-- ---- what is asked for is a list

pub nothing_more : {X A : Type 0} (W : Type 0) (full : Bool) (f : X → Option A) (xs : List X) (ys : List A) (k i : ℕ) → IsLeftOf W full (filter_map f (drop i xs)) ys k i → Fits (option_and_then f (slice_get xs i)) (slice_get ys k) Nothing → IsLeftOf W full (filter_map f (drop (i + 1) xs)) ys k (i + 1)
nothing_more W full f xs ys k i h n = record { few = omega (arith, h.few); left = passes_nothing W full f xs (drop k ys) i h.left n }

pub next_more : {X A : Type 0} (W : Type 0) (full : Bool) (f : X → Option A) (xs : List X) (ys : List A) (k i : ℕ) → IsLeftOf W full (filter_map f (drop i xs)) ys k i → Fits (option_and_then f (slice_get xs i)) (slice_get ys k) Next → IsLeftOf W full (filter_map f (drop (i + 1) xs)) ys (k + 1) (i + 1)
next_more W full f xs ys k i h (x, d, a) = record { few = omega (arith, h.few); left = passes_next W full f xs (drop k ys) (drop (k + 1) ys) i x h.left d (left_at ys k x a) }

pub other_stops : {X A : Type 0} (W : Type 0) (full : Bool) (f : X → Option A) (xs : List X) (ys : List A) (k i : ℕ) → IsLeftOf W full (filter_map f (drop i xs)) ys k i → Fits (option_and_then f (slice_get xs i)) (slice_get ys k) Other → W → ⊥
other_stops W full f xs ys k i h (x, d, n) = stops W full f xs (drop k ys) i x h.left d (λ e. n (sym (head_of ys k) ∙ e))

some_left : {A : Type 0} (ys : List A) (k : ℕ) → k < length ys → drop k ys ≡ [] → ⊥
some_left [] k l e = omega (arith, l)
some_left (y ∷ ys) zero l e = let h : y ∷ ys ≡ [] = e in cc
some_left (y ∷ ys) (suc k) l e = some_left ys k (omega (arith, l)) e

pub list_ends : {X A : Type 0} (W : Type 0) (full : Bool) (f : X → Option A) (xs : List X) (ys : List A) (n k i : ℕ) → IsLeftOf W full (filter_map f (drop i xs)) ys k i → length xs ≤ i → length ys ≡ n → full ≡ false → Decides (leb n k) W
list_ends {X} {A} W full f xs ys n k i h l m e = by (leb_tells n k)
  where
    by : ((leb n k ≡ true) × (n ≤ k)) ⊎ ((leb n k ≡ false) × (k < n)) → Decides (leb n k) W
    by (inl (b, r)) = ends W full f xs (drop k ys) i (leb n k) h.left l e (λ t. drop_all k ys (omega (arith, m, r))) (λ t. absurd (cc))
    by (inr (b, r)) = ends W full f xs (drop k ys) i (leb n k) h.left l e (λ t. absurd (cc)) (λ t. some_left ys k (omega (arith, m, r)))

pub list_ends_none : {X A : Type 0} (W : Type 0) (f : X → Option A) (xs : List X) (ys : List A) (k i : ℕ) (b : Bool) → IsLeftOf W false (filter_map f (drop i xs)) ys k i → length xs ≤ i → is_some (slice_get ys k) ≡ not b → Decides b W
list_ends_none {X} {A} W f xs ys k i b h l e = by (slice_get_cases ys k).1
  where
    none : (o : Option A) → slice_get ys k ≡ o → is_some o ≡ true → b ≡ true → ⊥
    none o g s t = cc

    by : ((y : A) × (k < length ys) × (slice_get ys k ≡ Some y) × (get_or ys k y ≡ y)) ⊎ ((length ys ≤ k) × (slice_get ys k ≡ None)) → Decides b W
    by (inl (y, r, g, at)) = ends W false f xs (drop k ys) i b h.left l refl (λ t. absurd (let s : true ≡ not b = ap is_some (sym g) ∙ e in let u : true ≡ not true = s ∙ ap not t in cc)) (λ t. some_left ys k r)
    by (inr (r, g)) = ends W false f xs (drop k ys) i b h.left l refl (λ t. drop_all k ys r) (λ t. absurd (let s : false ≡ not b = ap is_some (sym g) ∙ e in let u : false ≡ not false = s ∙ ap not t in cc))

-- ---- what is asked for is picked out of a list too

-- the place k gives what is asked for next, if it is in the list
abbrev pub IsNext : {Y A : Type 0} → (Y → Option A) → List Y → ℕ → Type 0
IsNext g ys k = k < length ys → is_some (option_and_then g (slice_get ys k)) ≡ true

pub there : {Y A : Type 0} (g : Y → Option A) (ys : List Y) (k : ℕ) (x : A) → option_and_then g (slice_get ys k) ≡ Some x → k < length ys
there g [] k x e = absurd (let h : None ≡ Some x = e in cc)
there g (y ∷ ys) zero x e = omega arith
there g (y ∷ ys) (suc k) x e = let h = there g ys k x e in omega (arith, h)

next_head : {Y A : Type 0} (g : Y → Option A) (ys : List Y) (k : ℕ) → IsNext g ys k → slice_get (filter_map g (drop k ys)) 0 ≡ option_and_then g (slice_get ys k)
next_head {Y} {A} g ys k h = by (option_and_then g (slice_get ys k)) refl
  where
    by : (found : Option A) → option_and_then g (slice_get ys k) ≡ found → slice_get (filter_map g (drop k ys)) 0 ≡ option_and_then g (slice_get ys k)
    by (Some x) e = ap (λ (zs : List A). slice_get zs 0) (picked g ys k (Some x) e) ∙ sym e
    by None e = none (slice_get_cases ys k).1
      where
        none : ((y : Y) × (k < length ys) × (slice_get ys k ≡ Some y) × (get_or ys k y ≡ y)) ⊎ ((length ys ≤ k) × (slice_get ys k ≡ None)) → slice_get (filter_map g (drop k ys)) 0 ≡ option_and_then g (slice_get ys k)
        none (inl (y, r, s, at)) = absurd (let t : is_some (option_and_then g (slice_get ys k)) ≡ true = h r in let u : false ≡ true = ap is_some (sym e) ∙ t in cc)
        none (inr (r, s)) = ap (λ (zs : List Y). slice_get (filter_map g zs) 0) (drop_all k ys r) ∙ sym e

pub next_picked : {X Y A : Type 0} (W : Type 0) (full : Bool) (f : X → Option A) (xs : List X) (g : Y → Option A) (ys : List Y) (k j i : ℕ) → IsLeft W full (filter_map f (drop i xs)) (filter_map g (drop k ys)) → Fits (option_and_then f (slice_get xs i)) (option_and_then g (slice_get ys k)) Next → filter_map g (drop j ys) ≡ filter_map g (drop (k + 1) ys) → IsLeft W full (filter_map f (drop (i + 1) xs)) (filter_map g (drop j ys))
next_picked {X} {Y} {A} W full f xs g ys k j i h (x, d, a) s =
    passes_next W full f xs (filter_map g (drop k ys)) (filter_map g (drop j ys)) i x h d (picked g ys k (Some x) a ∙ ap (λ (zs : List A). x ∷ zs) (sym s))

pub other_picked : {X Y A : Type 0} (W : Type 0) (full : Bool) (f : X → Option A) (xs : List X) (g : Y → Option A) (ys : List Y) (k i : ℕ) → IsNext g ys k → IsLeft W full (filter_map f (drop i xs)) (filter_map g (drop k ys)) → Fits (option_and_then f (slice_get xs i)) (option_and_then g (slice_get ys k)) Other → W → ⊥
other_picked W full f xs g ys k i at h (x, d, n) = stops W full f xs (filter_map g (drop k ys)) i x h d (λ e. n (sym (next_head g ys k at) ∙ e))

pub picked_ends : {X Y A : Type 0} (W : Type 0) (full : Bool) (f : X → Option A) (xs : List X) (g : Y → Option A) (ys : List Y) (k i : ℕ) → IsNext g ys k → IsLeft W full (filter_map f (drop i xs)) (filter_map g (drop k ys)) → length xs ≤ i → full ≡ false → Decides (leb (length ys) k) W
picked_ends {X} {Y} {A} W full f xs g ys k i at h l e = by (leb_tells (length ys) k)
  where
    none : length ys ≤ k → filter_map g (drop k ys) ≡ []
    none r = rw (drop_all k ys r) refl

    some : k < length ys → filter_map g (drop k ys) ≡ [] → ⊥
    some r z =
        let head : None ≡ option_and_then g (slice_get ys k) = ap (λ (zs : List A). slice_get zs 0) (sym z) ∙ next_head g ys k at in
        let s : false ≡ true = ap is_some head ∙ at r in cc

    by : ((leb (length ys) k ≡ true) × (length ys ≤ k)) ⊎ ((leb (length ys) k ≡ false) × (k < length ys)) → Decides (leb (length ys) k) W
    by (inl (b, r)) = ends W full f xs (filter_map g (drop k ys)) i (leb (length ys) k) h l e (λ t. none r) (λ t. absurd (cc))
    by (inr (b, r)) = ends W full f xs (filter_map g (drop k ys)) i (leb (length ys) k) h l e (λ t. absurd (cc)) (λ t. some r)
