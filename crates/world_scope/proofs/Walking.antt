-- A walk over the bits of a word: how many objects are looked at, and what is seen of them.
use Rattle.std.proofs.Common.{◌≡◌, ℕ, zero, suc, ◌+◌, ◌-◌, ◌^◌, ◌<◌, ◌≤◌, inl, inr, Bool, true, false, List, [], ◌∷◌, ◌++◌, length, drop, refl, sym, ap, ◌∙◌, arith, Option, Some, None, count_by, append_assoc, length-append, ◌*◌, ◌/◌, ◌%◌, get_or}
use Rattle.std.specs.Prelude.{slice_get, option_map}
use Rattle.std.specs.Option.{option_map_or}
use Rattle.std.specs.Int.{bit_at, trailing_zeros, w64}
use Rattle.std.specs.List.{cons_option}
use Rattle.std.proofs.lemmas.Nat.Bits.{bit_at-zero}
use Rattle.std.proofs.lemmas.Bool.{cases_lt}
use Rattle.std.proofs.lemmas.List.{drop_more, drop_all, append-nil}
use Rattle.std.proofs.lemmas.Option.{slice_get_cases, slice_get_within}
use Rattle.world_rules.specs.declared.object.Object.{Object}
use Rattle.world_cells.specs.Lines.{AreBits}
use Rattle.world_cells.specs.NumberSet.{bit_of}
use Rattle.world_sim.specs.Worlds.{Worlds, alive_at}
use Rattle.world_scope.specs.declared.viewer.Seen.{Seen}
use Rattle.world_scope.specs.Scope.{Look}
use Rattle.world_scope.specs.Candidates.{AreThose, HasOnePlayer, may_see, seen_in, to_come}
use Rattle.world_scope.proofs.Numbers.{one, count_cons}
use Rattle.world_scope.proofs.Sets.{passes}
use Rattle.world_scope.proofs.Rests.{IsRest, lowest, none_left}
use Rattle.world_scope.proofs.Sights.{nobody_else, lives}

-- ---- which objects have a bit

apart : false ≡ true → ⊥
apart e = absurd (cc)

pub bit_true : (b : Bool) → one b ≡ 1 → b ≡ true
bit_true true e = refl
bit_true false e = absurd (omega (arith, e))

bit_false : (b : Bool) → one b ≡ 0 → b ≡ false
bit_false true e = absurd (omega (arith, e))
bit_false false e = refl

pub there_by : (p : Object → Bool) (os : List Object) (n : ℕ) (o : Option Object) → slice_get os n ≡ o → option_map_or p o false ≡ true → n < length os
there_by p os n None at e = absurd (apart e)
there_by p os n (Some o) at e = slice_get_within os n o at

here : (word from rest next : ℕ) (p : Object → Bool) (os : List Object) → 0 < rest → rest < 2 ^ 64 → IsRest word from rest next → AreBits word from 64 p os → passes p os (from + trailing_zeros w64 rest) ≡ true
here word from rest next p os some range r bits =
    let low = lowest word from rest next some range r in
    bit_true _ (sym (bits (trailing_zeros w64 rest) low.within) ∙ low.here)

pub there : (word from rest next : ℕ) (p : Object → Bool) (os : List Object) → 0 < rest → rest < 2 ^ 64 → IsRest word from rest next → AreBits word from 64 p os → from + trailing_zeros w64 rest < length os
there word from rest next p os some range r bits =
    there_by p os (from + trailing_zeros w64 rest) (slice_get os (from + trailing_zeros w64 rest)) refl (here word from rest next p os some range r bits)

alive_by : (v : Look) (os : List Object) (n : ℕ) (x : Option Object) → slice_get os n ≡ x → option_map_or (may_see v) x false ≡ true → option_map (λ (o : Object). o.alive) (slice_get os n) ≡ Some true
alive_by v os n None at e = absurd (apart e)
alive_by v os n (Some o) at e = rw (at, lives v o e) refl

pub alive_there : (word from rest next : ℕ) (v : Look) (w : Worlds) → 0 < rest → rest < 2 ^ 64 → IsRest word from rest next → AreBits word from 64 (may_see v) w.objects → alive_at w (from + trailing_zeros w64 rest) ≡ Some true
alive_there word from rest next v w some range r bits =
    alive_by v w.objects (from + trailing_zeros w64 rest) (slice_get w.objects (from + trailing_zeros w64 rest)) refl (here word from rest next (may_see v) w.objects some range r bits)

-- none passes before the lowest bit that is left
none_before : (word from rest next : ℕ) (p : Object → Bool) (os : List Object) → 0 < rest → rest < 2 ^ 64 → IsRest word from rest next → AreBits word from 64 p os → (j : ℕ) → j < from + trailing_zeros w64 rest - next → passes p os (next + j) ≡ false
none_before word from rest next p os some range r bits j l =
    let low = lowest word from rest next some range r in
    let start = r.start in
    let k = next - from + j in
    let i : from + k ≡ next + j = omega (arith, start) in
    let none : bit_at word k ≡ 0 = low.none k (omega (arith, start)) (omega (arith, start, l)) in
    ap (passes p os) (sym i) ∙ bit_false _ (sym (bits k (omega (arith, low.within, start, l))) ∙ none)

-- and none passes where no bit is left
none_behind : (word from rest next : ℕ) (p : Object → Bool) (os : List Object) → rest ≡ 0 → IsRest word from rest next → AreBits word from 64 p os → (j : ℕ) → j < from + 64 - next → passes p os (next + j) ≡ false
none_behind word from rest next p os z r bits j l =
    let start = r.start in
    let k = next - from + j in
    let few : k < 64 = omega (arith, start, l) in
    let i : from + k ≡ next + j = omega (arith, start) in
    let none : bit_at word k ≡ 0 = none_left word from rest next k z r few (omega (arith, start)) in
    ap (passes p os) (sym i) ∙ bit_false _ (sym (bits k few) ∙ none)

-- ---- how many pass

pub count_one : (p : Object → Bool) (os : List Object) (n : ℕ) → passes p os n ≡ true → count_by p (drop n os) ≡ 1 + count_by p (drop (suc n) os)
count_one p [] n e = absurd (apart e)
count_one p (o ∷ os) zero e = count_cons p o os ∙ ap (λ b. one b + count_by p os) e
count_one p (o ∷ os) (suc n) e = count_one p os n e

missed : (p : Object → Bool) (o : Object) (os : List Object) → p o ≡ false → count_by p (o ∷ os) ≡ count_by p os
missed p o os e = let a : count_by p (o ∷ os) ≡ 0 + count_by p os = count_cons p o os ∙ ap (λ b. one b + count_by p os) e in omega (arith, a)

count_miss : (p : Object → Bool) (os : List Object) (n : ℕ) → passes p os n ≡ false → count_by p (drop n os) ≡ count_by p (drop (suc n) os)
count_miss p [] zero e = refl
count_miss p [] (suc n) e = refl
count_miss p (o ∷ os) zero e = missed p o os e
count_miss p (o ∷ os) (suc n) e = count_miss p os n e

count_skip : (p : Object → Bool) (os : List Object) (i k : ℕ) → ((j : ℕ) → j < k → passes p os (i + j) ≡ false) → count_by p (drop i os) ≡ count_by p (drop (i + k) os)
count_skip p os i zero h = let e : i ≡ i + 0 = omega arith in ap (λ j. count_by p (drop j os)) e
count_skip p os i (suc k) h =
    let z : i + 0 ≡ i = omega arith in
    let first : passes p os i ≡ false = ap (passes p os) (sym z) ∙ h 0 (omega arith) in
    let e : suc i + k ≡ i + suc k = omega arith in
    count_miss p os i first
    ∙ count_skip p os (suc i) k (λ j l. let f : suc i + j ≡ i + suc j = omega arith in ap (passes p os) f ∙ h (suc j) (omega (arith, l)))
    ∙ ap (λ j. count_by p (drop j os)) e

pub count_next : (word from rest next : ℕ) (p : Object → Bool) (os : List Object) → 0 < rest → rest < 2 ^ 64 → IsRest word from rest next → AreBits word from 64 p os → count_by p (drop next os) ≡ 1 + count_by p (drop (from + trailing_zeros w64 rest + 1) os)
count_next word from rest next p os some range r bits =
    let s = trailing_zeros w64 rest in
    let low = lowest word from rest next some range r in
    let e : next + (from + s - next) ≡ from + s = omega (arith, low.reached) in
    let f : suc (from + s) ≡ from + s + 1 = omega arith in
    count_skip p os next (from + s - next) (none_before word from rest next p os some range r bits)
    ∙ ap (λ j. count_by p (drop j os)) e
    ∙ count_one p os (from + s) (here word from rest next p os some range r bits)
    ∙ ap (λ j. 1 + count_by p (drop j os)) f

pub count_end : (word from rest next : ℕ) (p : Object → Bool) (os : List Object) → rest ≡ 0 → IsRest word from rest next → AreBits word from 64 p os → count_by p (drop next os) ≡ count_by p (drop (from + 64) os)
count_end word from rest next p os z r bits =
    let e : next + (from + 64 - next) ≡ from + 64 = omega (arith, r.order) in
    count_skip p os next (from + 64 - next) (none_behind word from rest next p os z r bits) ∙ ap (λ j. count_by p (drop j os)) e

fewer_by_one : (p : Object → Bool) (os : List Object) (i : ℕ) (b : Bool) → passes p os i ≡ b → count_by p (drop (suc i) os) ≤ count_by p (drop i os)
fewer_by_one p os i true e = omega (arith, count_one p os i e)
fewer_by_one p os i false e = omega (arith, count_miss p os i e)

fewer : (p : Object → Bool) (os : List Object) (i k : ℕ) → count_by p (drop (i + k) os) ≤ count_by p (drop i os)
fewer p os i zero = let e : i + 0 ≡ i = omega arith in rw e (omega arith)
fewer p os i (suc k) =
    let e : i + suc k ≡ suc (i + k) = omega arith in
    let a : count_by p (drop (i + suc k) os) ≡ count_by p (drop (suc (i + k)) os) = ap (λ j. count_by p (drop j os)) e in
    let b = fewer_by_one p os (i + k) (passes p os (i + k)) refl in
    let c = fewer p os i k in
    omega (arith, a, b, c)

-- from a later number on no more pass
pub later_fewer : (p : Object → Bool) (os : List Object) (i j : ℕ) → i ≤ j → count_by p (drop j os) ≤ count_by p (drop i os)
later_fewer p os i j l =
    let e : i + (j - i) ≡ j = omega (arith, l) in
    let a : count_by p (drop j os) ≡ count_by p (drop (i + (j - i)) os) = ap (λ k. count_by p (drop k os)) (sym e) in
    let b = fewer p os i (j - i) in
    omega (arith, a, b)

-- ---- what is seen

-- what is seen of one object, and behind it what is still to come; past the end nothing comes
pub come_one : (v : Look) (os : List Object) (i : ℕ) → to_come v os i ≡ cons_option (seen_in v os i) (to_come v os (i + 1))
come_one v os i =
    elim (slice_get_cases os i).1 [
      | inl c ↦ rw (drop_more os i c.0 c.1, c.2, c.3) refl
      | inr c ↦
          let later : drop (i + 1) os ≡ [] = drop_all (i + 1) os (let l = c.0 in omega (arith, l)) in
          rw (drop_all i os c.0, later, c.1) refl
    ]

unseen_by : (v : Look) (os : List Object) (n : ℕ) (x : Option Object) → HasOnePlayer v os → slice_get os n ≡ x → option_map_or (may_see v) x false ≡ false → seen_in v os n ≡ None
unseen_by v os n None owned at e = rw at refl
unseen_by v os n (Some o) owned at e = rw (at, nobody_else v os n o owned at e) refl

come_miss : (v : Look) (os : List Object) (i : ℕ) → HasOnePlayer v os → passes (may_see v) os i ≡ false → to_come v os i ≡ to_come v os (i + 1)
come_miss v os i owned e = come_one v os i ∙ ap (λ (s : Option Seen). cons_option s (to_come v os (i + 1))) (unseen_by v os i (slice_get os i) owned refl e)

come_skip : (v : Look) (os : List Object) (i k : ℕ) → HasOnePlayer v os → ((j : ℕ) → j < k → passes (may_see v) os (i + j) ≡ false) → to_come v os i ≡ to_come v os (i + k)
come_skip v os i zero owned h = let e : i ≡ i + 0 = omega arith in ap (λ j. to_come v os j) e
come_skip v os i (suc k) owned h =
    let z : i + 0 ≡ i = omega arith in
    let first : passes (may_see v) os i ≡ false = ap (passes (may_see v) os) (sym z) ∙ h 0 (omega arith) in
    let e : i + 1 + k ≡ i + suc k = omega arith in
    come_miss v os i owned first
    ∙ come_skip v os (i + 1) k owned (λ j l. let f : i + 1 + j ≡ i + suc j = omega arith in ap (passes (may_see v) os) f ∙ h (suc j) (omega (arith, l)))
    ∙ ap (λ j. to_come v os j) e

pub come_next : (word from rest next : ℕ) (v : Look) (os : List Object) (made : Option Seen) → 0 < rest → rest < 2 ^ 64 → IsRest word from rest next → AreBits word from 64 (may_see v) os → HasOnePlayer v os → made ≡ seen_in v os (from + trailing_zeros w64 rest) → to_come v os next ≡ cons_option made (to_come v os (from + trailing_zeros w64 rest + 1))
come_next word from rest next v os made some range r bits owned is =
    let s = trailing_zeros w64 rest in
    let low = lowest word from rest next some range r in
    let e : next + (from + s - next) ≡ from + s = omega (arith, low.reached) in
    come_skip v os next (from + s - next) owned (none_before word from rest next (may_see v) os some range r bits)
    ∙ ap (λ j. to_come v os j) e ∙ come_one v os (from + s)
    ∙ ap (λ (x : Option Seen). cons_option x (to_come v os (from + s + 1))) (sym is)

pub come_end : (word from rest next : ℕ) (v : Look) (os : List Object) → rest ≡ 0 → IsRest word from rest next → AreBits word from 64 (may_see v) os → HasOnePlayer v os → to_come v os next ≡ to_come v os (from + 64)
come_end word from rest next v os z r bits owned =
    let e : next + (from + 64 - next) ≡ from + 64 = omega (arith, r.order) in
    come_skip v os next (from + 64 - next) owned (none_behind word from rest next (may_see v) os z r bits) ∙ ap (λ j. to_come v os j) e

-- what is seen behind a list, and then what is still to come
pub added_on : (front more : List Seen) (made : Option Seen) → (front ++ cons_option made []) ++ more ≡ front ++ cons_option made more
added_on front more None = ap (λ (xs : List Seen). xs ++ more) (append-nil front)
added_on front more (Some s) = append_assoc front (s ∷ []) more

-- a front of the list is no longer than the whole
pub front_most : (front more : List Seen) (made : Option Seen) → length (front ++ cons_option made []) ≤ length (front ++ cons_option made more)
front_most front more made =
    let e : length ((front ++ cons_option made []) ++ more) ≡ length (front ++ cons_option made more) = ap (λ (xs : List Seen). length xs) (added_on front more made) in
    let l = length-append (front ++ cons_option made []) more in
    omega (arith, e, l)

-- ---- a walk over words

-- no number of an empty word passes
empty_fails : (words : List ℕ) (p : Object → Bool) (os : List Object) (n : ℕ) → AreThose words p os → n < 1024 → get_or words (n / 64) 0 ≡ 0 → passes p os n ≡ false
empty_fails words p os n those l e =
    let none : bit_of words n ≡ 0 = ap (λ (w : ℕ). bit_at w (n % 64)) e ∙ bit_at-zero (n % 64) in
    bit_false _ (sym (those n l) ∙ none)

abbrev pub AreEmpty : List ℕ → ℕ → ℕ → Type 0
AreEmpty words from to = (w : ℕ) → from ≤ w → w < to → get_or words w 0 ≡ 0

all_fail : (words : List ℕ) (p : Object → Bool) (os : List Object) (from to j : ℕ) → AreThose words p os → to ≤ 16 → AreEmpty words from to → j < 64 * to - 64 * from → passes p os (64 * from + j) ≡ false
all_fail words p os from to j those l empty m =
    let w : from ≤ (64 * from + j) / 64 = omega arith in
    let v : (64 * from + j) / 64 < to = omega (arith, m) in
    empty_fails words p os (64 * from + j) those (omega (arith, l, m)) (empty ((64 * from + j) / 64) w v)

pub count_words : (words : List ℕ) (p : Object → Bool) (os : List Object) (from to : ℕ) → AreThose words p os → from ≤ to → to ≤ 16 → AreEmpty words from to → count_by p (drop (64 * from) os) ≡ count_by p (drop (64 * to) os)
count_words words p os from to those order l empty =
    let e : 64 * from + (64 * to - 64 * from) ≡ 64 * to = omega (arith, order) in
    count_skip p os (64 * from) (64 * to - 64 * from) (λ j m. all_fail words p os from to j those l empty m)
    ∙ ap (λ j. count_by p (drop j os)) e

pub come_words : (words : List ℕ) (v : Look) (os : List Object) (from to : ℕ) → AreThose words (may_see v) os → HasOnePlayer v os → from ≤ to → to ≤ 16 → AreEmpty words from to → to_come v os (64 * from) ≡ to_come v os (64 * to)
come_words words v os from to those owned order l empty =
    let e : 64 * from + (64 * to - 64 * from) ≡ 64 * to = omega (arith, order) in
    come_skip v os (64 * from) (64 * to - 64 * from) owned (λ j m. all_fail words (may_see v) os from to j those l empty m)
    ∙ ap (λ j. to_come v os j) e

-- nothing comes behind all objects
pub come_none : (v : Look) (os : List Object) → length os ≤ 1024 → to_come v os 1024 ≡ []
come_none v os l =
    let none : drop 1024 os ≡ [] = drop_all 1024 os l in
    rw none refl

-- the words from one on and before the next mark are empty, and so are those behind the last
pub empty_before : (words : List ℕ) (marks rest next : ℕ) → 0 < rest → rest < 2 ^ 64 → IsRest marks 0 rest next → ((w : ℕ) → bit_at marks w ≡ 0 → get_or words w 0 ≡ 0) → AreEmpty words next (trailing_zeros w64 rest)
empty_before words marks rest next some range r none w l m =
    let low = lowest marks 0 rest next some range r in
    none w (low.none w (omega (arith, l)) m)

pub empty_behind : (words : List ℕ) (marks rest next : ℕ) → rest ≡ 0 → IsRest marks 0 rest next → ((w : ℕ) → bit_at marks w ≡ 0 → get_or words w 0 ≡ 0) → AreEmpty words next 16
empty_behind words marks rest next z r none w l m = none w (none_left marks 0 rest next w z r (omega (arith, m)) (omega (arith, l)))

-- a mark is that of one of 16 words
pub mark_few : (marks rest next : ℕ) → 0 < rest → rest < 2 ^ 64 → IsRest marks 0 rest next → ((w : ℕ) → 16 ≤ w → bit_at marks w ≡ 0) → trailing_zeros w64 rest < 16
mark_few marks rest next some range r few =
    let low = lowest marks 0 rest next some range r in
    elim (cases_lt (trailing_zeros w64 rest) 16) [
      | inl l ↦ l
      | inr l ↦ let none = few (trailing_zeros w64 rest) l in absurd (omega (arith, none, low.here))
    ]

pub word_bits : (words : List ℕ) (p : Object → Bool) (os : List Object) (w : ℕ) → AreThose words p os → w < 16 → AreBits (get_or words w 0) (64 * w) 64 p os
word_bits words p os w those l = λ k m.
    let i : (64 * w + k) / 64 ≡ w = omega (arith, m) in
    let j : (64 * w + k) % 64 ≡ k = omega (arith, m) in
    ap (λ (x : ℕ). bit_at (get_or words x 0) k) (sym i)
    ∙ ap (λ (y : ℕ). bit_at (get_or words ((64 * w + k) / 64) 0) y) (sym j)
    ∙ those (64 * w + k) (omega (arith, l, m))
