-- Values between two, at a packet's own moment, after the newest, and with the newest alone.
use Rattle.std.proofs.Common.{◌≡◌, ℕ, zero, suc, ◌+◌, ◌-◌, ◌*◌, ◌/◌, ◌%◌, ◌<◌, ◌≤◌, inl, inr, Bool, true, false, cond, ◌&&◌, nat_le, List, [], ◌∷◌, length, take, get_or, Option, Some, None, refl, ap, sym, ◌∙◌, arith, subst}
use Rattle.std.specs.Prelude.{ℤ, pos, negsuc, ◌+ℤ◌, ◌-ℤ◌, ◌≤ℤ◌, MatchBool, IfSome, slice_get}
use Rattle.std.specs.Int.{int_gap}
use Rattle.std.specs.Int.RustNames.{int_le}
use Rattle.std.specs.List.{prefix_len}
use Rattle.std.proofs.Math.Nat.{mod-eq_of_lt, add-mod_right, div-le_of_le-mul, mul-le-mul_left, mul-zero, zero-div}
use Rattle.std.proofs.lemmas.Int.{ints}
use Rattle.std.proofs.lemmas.Bool.{leb-true, leb-false, le-ltb, and_parts}
use Rattle.std.proofs.lemmas.Option.{get_or_from_slice_get, slice_get_within, same_Some, none-some}
use Rattle.timeline.specs.declared.between.Keyframe.{Keyframe}
use Rattle.timeline.specs.declared.between.Interpolation.{Interpolation}
use Rattle.timeline.specs.declared.between.Interpolation.TheVariants.{Stepped, Linear, Turning}
use Rattle.timeline.specs.Lines.{moment_of, share, size_of, way_up, above, below, on_circle, is_inside}
use Rattle.timeline.specs.Between.{part_of, whole_of, part_way, between}
use Rattle.timeline.specs.Keeping.{is_ahead, ahead_of, reached_of, one_before, next_of, value_from, value_in}
use Rattle.timeline.specs.Laws.{IsBetween, IsOnShortWay, LiesOnWay}
use Rattle.timeline.proofs.FrameFacts.{by_count, is_still_ahead}

-- ---- numbers

share_le : (distance part whole : ℕ) → part ≤ whole → share distance part whole ≤ distance
share_le distance part whole h = div-le_of_le-mul whole (omega (arith, mul-le-mul_left distance h))

share_none : (distance whole : ℕ) → share distance 0 whole ≡ 0
share_none distance whole = ap (λ k. k / whole) (mul-zero distance) ∙ zero-div whole

le_true : (a b : ℤ) → int_le a b ≡ true → a ≤ℤ b
le_true a b e = grind (arith, ints)

le_false : (a b : ℤ) → int_le a b ≡ false → b ≤ℤ a
le_false a b e = grind (arith, ints)

plus_gap : (lo x : ℤ) → lo ≤ℤ x → x ≡ lo +ℤ pos (int_gap lo x)
plus_gap (pos a) (pos b) h = omega (arith, ints)
plus_gap (pos a) (negsuc b) h = omega (arith, ints)
plus_gap (negsuc a) (pos b) h = omega (arith, ints)
plus_gap (negsuc a) (negsuc b) h = omega (arith, ints)

gap_grows : (lo x hi : ℤ) → lo ≤ℤ x → x ≤ℤ hi → int_gap lo x ≤ int_gap lo hi
gap_grows lo x hi p q =
    let a = plus_gap lo x p in
    let b = plus_gap lo hi (omega (arith, ints)) in
    omega (arith, ints)

-- ---- on a line

up_between : (from to : ℤ) (s : ℕ) → from ≤ℤ to → s ≤ int_gap from to → (from ≤ℤ (from +ℤ pos s)) × ((from +ℤ pos s) ≤ℤ to)
up_between from to s h few = let e = plus_gap from to h in (omega (arith, ints), omega (arith, ints))

down_between : (from to : ℤ) (s : ℕ) → to ≤ℤ from → s ≤ int_gap to from → (to ≤ℤ (from -ℤ pos s)) × ((from -ℤ pos s) ≤ℤ from)
down_between from to s h few = let e = plus_gap to from h in (omega (arith, ints), omega (arith, ints))

line_by : (b : Bool) (from to : ℤ) (part whole : ℕ) → int_le from to ≡ b → part ≤ whole
    → IsBetween from to (cond b (from +ℤ pos (share (int_gap from to) part whole)) (from -ℤ pos (share (int_gap to from) part whole)))
line_by true from to part whole e h = inl (up_between from to (share (int_gap from to) part whole) (le_true from to e) (share_le (int_gap from to) part whole h))
line_by false from to part whole e h = inr (down_between from to (share (int_gap to from) part whole) (le_false from to e) (share_le (int_gap to from) part whole h))

start_line : (b : Bool) (from : ℤ) (x y : ℕ) → x ≡ 0 → y ≡ 0 → cond b (from +ℤ pos x) (from -ℤ pos y) ≡ from
start_line true from x y e f = omega (arith, ints)
start_line false from x y e f = omega (arith, ints)

-- ---- on a circle

circle_by : (b : Bool) (least most from to : ℤ) (part whole : ℕ) → nat_le (2 * way_up least most from to) (size_of least most) ≡ b → part ≤ whole
    → IsOnShortWay least most from to (cond b (above least most from (share (way_up least most from to) part whole))
    (below least most from (share (size_of least most - way_up least most from to) part whole)))
circle_by true least most from to part whole e h =
    inl (share (way_up least most from to) part whole, share_le (way_up least most from to) part whole h, leb-true (2 * way_up least most from to) (size_of least most) e, refl)
circle_by false least most from to part whole e h =
    inr (
      share (size_of least most - way_up least most from to) part whole,
      share_le (size_of least most - way_up least most from to) part whole h,
      leb-false (2 * way_up least most from to) (size_of least most) e,
      refl,
    )

turned_by : (b : Bool) (least most from to : ℤ) (part whole : ℕ) → part ≤ whole
    → MatchBool b (IsOnShortWay least most from to (cond b (on_circle least most from to part whole) from)) (cond b (on_circle least most from to part whole) from ≡ from)
turned_by true least most from to part whole h = circle_by (nat_le (2 * way_up least most from to) (size_of least most)) least most from to part whole refl h
turned_by false least most from to part whole h = refl

start_at : (least most from : ℤ) (steps : ℕ) → least ≤ℤ from → from ≤ℤ most → steps ≡ int_gap least from → least +ℤ pos (steps % size_of least most) ≡ from
start_at least most from steps low high is =
    let few = gap_grows least from most low high in
    let less : steps < size_of least most = omega arith in
    let e : steps % size_of least most ≡ steps = mod-eq_of_lt less in
    rw (e, is) (sym (plus_gap least from low))

start_above : (least most from : ℤ) (x : ℕ) → least ≤ℤ from → from ≤ℤ most → x ≡ 0 → above least most from x ≡ from
start_above least most from x low high e =
    let z : int_gap least from + x ≡ int_gap least from = omega arith in
    start_at least most from (int_gap least from + x) low high z

start_below : (least most from : ℤ) (x : ℕ) → least ≤ℤ from → from ≤ℤ most → x ≡ 0 → below least most from x ≡ from
start_below least most from x low high e =
    let z : int_gap least from + size_of least most - x ≡ int_gap least from + size_of least most = omega arith in
    ap (λ k. least +ℤ pos (k % size_of least most)) z ∙ ap (λ k. least +ℤ pos k) (add-mod_right (int_gap least from) (size_of least most))
    ∙ start_at least most from (int_gap least from) low high refl

start_circle : (b : Bool) (least most from : ℤ) (x y : ℕ) → least ≤ℤ from → from ≤ℤ most → x ≡ 0 → y ≡ 0 → cond b (above least most from x) (below least most from y) ≡ from
start_circle true least most from x y low high e f = start_above least most from x low high e
start_circle false least most from x y low high e f = start_below least most from y low high f

start_turned : (b c : Bool) (least most from to : ℤ) (whole : ℕ) → is_inside least most from ≡ b → is_inside least most to ≡ c
    → cond (b && c) (on_circle least most from to 0 whole) from ≡ from
start_turned true true least most from to whole e f =
    let parts = and_parts (int_le least from) (int_le from most) e in
    start_circle (nat_le (2 * way_up least most from to) (size_of least most)) least most from
    (share (way_up least most from to) 0 whole) (share (size_of least most - way_up least most from to) 0 whole)
    (le_true least from parts.0) (le_true from most parts.1) (share_none (way_up least most from to) whole) (share_none (size_of least most - way_up least most from to) whole)
start_turned true false least most from to whole e f = refl
start_turned false c least most from to whole e f = refl

-- ---- part of the way, and none of it

lies : (how : Interpolation) (from to : ℤ) (part whole : ℕ) → part ≤ whole → LiesOnWay how from to (part_way how from to part whole)
lies Stepped from to part whole h = refl
lies Linear from to part whole h = line_by (int_le from to) from to part whole refl h
lies (Turning least most) from to part whole h = turned_by (is_inside least most from && is_inside least most to) least most from to part whole h

starts : (how : Interpolation) (from to : ℤ) (whole : ℕ) → part_way how from to 0 whole ≡ from
starts Stepped from to whole = refl
starts Linear from to whole =
    start_line (int_le from to) from (share (int_gap from to) 0 whole) (share (int_gap to from) 0 whole) (share_none (int_gap from to) whole) (share_none (int_gap to from) whole)
starts (Turning least most) from to whole = start_turned (is_inside least most from) (is_inside least most to) least most from to whole refl refl

-- ---- the laws

next_is_ahead : (at : ℕ) (frames : List Keyframe) (n : ℕ) (after : Keyframe) → n ≡ ahead_of at frames → one_before frames n ≡ Some after → at < moment_of after.packet
next_is_ahead at frames zero after e is = absurd (none-some after is)
next_is_ahead at frames (suc n) after e is =
    let i : n ≡ suc n - 1 = omega arith in
    let here : after ≡ get_or frames (suc n - 1) after = sym (get_or_from_slice_get frames n after after is) ∙ ap (λ k. get_or frames k after) i in
    is_still_ahead at frames (suc n) after e (omega arith) here

pub between_law : (how : Interpolation) (at : ℕ) (frames : List Keyframe) (before after : Keyframe) → reached_of at frames ≡ Some before → next_of at frames ≡ Some after
    → IfSome (value_in how at frames) (LiesOnWay how before.value after.value)
between_law how at frames before after r n =
    let e : value_in how at frames ≡ Some (between how before after at) = ap (λ o. value_from how at o (next_of at frames)) r ∙ ap (value_from how at (Some before)) n in
    let less = next_is_ahead at frames (ahead_of at frames) after refl n in
    let part : part_of before at ≤ whole_of before after = omega arith in
    subst (λ (o : Option ℤ). IfSome o (LiesOnWay how before.value after.value)) (sym e) (lies how before.value after.value (part_of before at) (whole_of before after) part)

own_by : (how : Interpolation) (at : ℕ) (frame : Keyframe) (next : Option Keyframe) → at ≡ moment_of frame.packet → value_from how at (Some frame) next ≡ Some frame.value
own_by how at frame None e = refl
own_by how at frame (Some after) e =
    let none : part_of frame at ≡ 0 = omega arith in
    ap (λ k. Some (part_way how frame.value after.value k (whole_of frame after))) none ∙ ap Some (starts how frame.value after.value (whole_of frame after))

pub own_law : (how : Interpolation) (at : ℕ) (frames : List Keyframe) (frame : Keyframe) → reached_of at frames ≡ Some frame → at ≡ moment_of frame.packet
    → value_in how at frames ≡ Some frame.value
own_law how at frames frame r e = ap (λ o. value_from how at o (next_of at frames)) r ∙ own_by how at frame (next_of at frames) e

pub newest_law : (how : Interpolation) (at : ℕ) (frames : List Keyframe) (newest : Keyframe) → slice_get frames 0 ≡ Some newest → moment_of newest.packet ≤ at
    → value_in how at frames ≡ Some newest.value
newest_law how at [] newest is reached = absurd (none-some newest is)
newest_law how at (x ∷ xs) newest is reached =
    let same : x ≡ newest = same_Some x newest is in
    let t : is_ahead at x ≡ false = ap (is_ahead at) same ∙ le-ltb at (moment_of newest.packet) reached in
    let e : ahead_of at (x ∷ xs) ≡ 0 = ap (λ b. cond b (1 + prefix_len (is_ahead at) xs) 0) t in
    sym (by_count how at (x ∷ xs) 0 (sym e)) ∙ ap (λ (k : Keyframe). Some k.value) same

-- one keyframe more at the head
window_case : (b : Bool) (n m len : ℕ) → (n < len → n ≡ m) → cond b (1 + n) 0 < suc len → cond b (1 + n) 0 ≡ cond b (1 + m) 0
window_case true n m len same h = ap (λ k. 1 + k) (same (omega arith))
window_case false n m len same h = refl

window_len : (at d : ℕ) (xs : List Keyframe) → ahead_of at (take d xs) < length (take d xs) → ahead_of at (take d xs) ≡ ahead_of at xs
window_len at zero xs h = absurd (omega arith)
window_len at (suc d) [] h = absurd (omega arith)
window_len at (suc d) (x ∷ xs) h =
    window_case (is_ahead at x) (ahead_of at (take d xs)) (ahead_of at xs) (length (take d xs)) (window_len at d xs) (omega arith)

window_get : (d : ℕ) (xs : List Keyframe) (n : ℕ) → n < length (take d xs) → slice_get (take d xs) n ≡ slice_get xs n
window_get zero xs n h = absurd (omega arith)
window_get (suc d) [] n h = absurd (omega arith)
window_get (suc d) (x ∷ xs) zero h = refl
window_get (suc d) (x ∷ xs) (suc n) h = window_get d xs n (omega arith)

window_one_before : (d : ℕ) (xs : List Keyframe) (n : ℕ) → n < length (take d xs) → one_before (take d xs) n ≡ one_before xs n
window_one_before d xs zero h = refl
window_one_before d xs (suc n) h = window_get d xs n (omega arith)

pub window_law : (how : Interpolation) (at d : ℕ) (frames : List Keyframe) (frame : Keyframe) → reached_of at (take d frames) ≡ Some frame
    → value_in how at (take d frames) ≡ value_in how at frames
window_law how at d frames frame r =
    let n = ahead_of at (take d frames) in
    let less : n < length (take d frames) = slice_get_within (take d frames) n frame r in
    ap (λ o. value_from how at o (one_before (take d frames) n)) (window_get d frames n less)
    ∙ ap (value_from how at (slice_get frames n)) (window_one_before d frames n less)
    ∙ by_count how at frames n (window_len at d frames less)
