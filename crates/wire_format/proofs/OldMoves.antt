-- In versions 1 and 2 a move is spelled and read as the four parts that it always had.
use Rattle.std.proofs.Common.{Err, ◌≡◌, ℕ, ◌+◌, ◌*◌, ◌^◌, ◌<◌, true, List, [], ◌∷◌, ◌++◌, Bool, Result, Ok, refl, sym, ap, ◌∙◌, arith}
use Rattle.std.specs.Prelude.{nat_lt}
use Rattle.std.proofs.lemmas.List.{append-nil}
use Rattle.std.proofs.lemmas.Bool.{lt-ltb}
use Rattle.tn_types.specs.declared.moves.Move.{Move}
use Rattle.bit_stream.specs.Bits.{number}
use Rattle.bit_stream.specs.Reading.{Unread}
use Rattle.bit_stream.specs.WorldMoves.{raised, flag_of, number_of, bits_of, move_from}
use Rattle.bit_stream.proofs.Numbers.{number-join}
use Rattle.bit_stream.proofs.MovesAsNumbers.{raised_below, raised-step_of, flag_below, flag_of-is}
use Rattle.wire_format.specs.declared.fault.BitsFault.{BitsFault}
use Rattle.wire_format.specs.OldMoves.{spell_world_move, world_move_at, as_number}
use Rattle.wire_format.specs.Moves.{old_wire, world_parts, spell_move, side_by_side_at, move_at}
use Rattle.wire_format.specs.Reading.{◌>>=◌, part_at}
use Rattle.wire_format.proofs.Formats.{a_number}

-- ---- the four parts of a move side by side are one number

joined_bits : (dx dy fire act n : ℕ) → dx < 16 → dy < 16 → fire < 2 → act < 2 → n ≡ dx + 16 * (dy + 16 * (fire + 2 * act))
    → number 10 n ≡ number 4 dx ++ (number 4 dy ++ (number 1 fire ++ (number 1 act ++ [])))
joined_bits dx dy fire act n x y f a e =
    let flags : number 2 (fire + 2 * act) ≡ number 1 fire ++ number 1 act = number-join 1 1 2 fire act (fire + 2 * act) refl refl f in
    let behind : number 6 (dy + 16 * (fire + 2 * act)) ≡ number 4 dy ++ number 2 (fire + 2 * act) = number-join 4 2 6 dy (fire + 2 * act) (dy + 16 * (fire + 2 * act)) refl refl y in
    let whole : number 10 n ≡ number 4 dx ++ number 6 (dy + 16 * (fire + 2 * act)) = number-join 4 6 10 dx (dy + 16 * (fire + 2 * act)) n refl e x in
    whole ∙ ap (λ (t : List Bool). number 4 dx ++ t) (behind ∙ ap (λ (t : List Bool). number 4 dy ++ t) (flags ∙ ap (λ (t : List Bool). number 1 fire ++ t) (sym (append-nil (number 1 act)))))

is_old : (version : ℕ) → version < 3 → nat_lt version 3 ≡ true
is_old version h = lt-ltb _ _ h

pub spelled : (version : ℕ) (m : Move) → version < 3 → spell_move (old_wire version) (bits_of m) ≡ spell_world_move m
spelled version m h =
    let old = is_old version h in
    rw old (joined_bits (raised m.dx) (raised m.dy) (flag_of m.fire) (flag_of m.act) (number_of m) (raised_below m.dx m.dx_range) (raised_below m.dy m.dy_range) (flag_below m.fire) (flag_below m.act) refl)

-- ---- read part by part

abbrev Part : Type 0
Part = ℕ × Unread

abbrev as_bits : Result (Move × Unread) BitsFault → Result Part BitsFault
as_bits (Ok x) = Ok (number_of x.0, x.1)
as_bits (Err e) = Err e

under : {A B : Type 0} (m : Result A BitsFault) (f g : A → Result B BitsFault) → ((x : A) → f x ≡ g x) → (m >>= f) ≡ (m >>= g)
under (Ok x) f g same = same x
under (Err e) f g same = refl

-- the four parts, and what is made of them
abbrev four : {B : Type 0} → (ℕ → ℕ → ℕ → ℕ → B) → Unread → Result (B × Unread) BitsFault
four make s =
    part_at 4 s >>= λ dx. (part_at 4 dx.1 >>= λ dy. (part_at 1 dy.1 >>= λ fire. (part_at 1 fire.1 >>= λ act. Ok (make dx.0 dy.0 fire.0 act.0, act.1))))

chain : {A B C : Type 0} (m : Result A BitsFault) (f : A → Result B BitsFault) (g : B → Result C BitsFault) (h : A → Result C BitsFault) → ((x : A) → (f x >>= g) ≡ h x) → ((m >>= f) >>= g) ≡ (m >>= h)
chain (Ok x) f g h same = same x
chain (Err e) f g h same = refl

-- the number that is made of what was read
abbrev made_with : (ℕ → ℕ) → Part → Result Part BitsFault
made_with k x = Ok (k x.0, x.1)

-- the first part, and then the others
onward : (w : ℕ) (ws : List ℕ) (s : Unread) (k : ℕ → ℕ) → (side_by_side_at (w ∷ ws) s >>= made_with k)
    ≡ (part_at w s >>= λ low. (side_by_side_at ws low.1 >>= made_with (λ n. k (low.0 + 2 ^ w * n))))
unfolding side_by_side_at
onward w ws s k =
    chain (part_at w s) (λ low. side_by_side_at ws low.1 >>= made_with (λ n. low.0 + 2 ^ w * n)) (made_with k) (λ low. side_by_side_at ws low.1 >>= made_with (λ n. k (low.0 + 2 ^ w * n))) (λ low.
    chain (side_by_side_at ws low.1) (made_with (λ n. low.0 + 2 ^ w * n)) (made_with k) (made_with (λ n. k (low.0 + 2 ^ w * n))) (λ high. refl))

flat : (s : Unread) → side_by_side_at world_parts s ≡ four (λ dx dy fire act. dx + 16 * (dy + 16 * (fire + 2 * (act + 2 * 0)))) s
unfolding side_by_side_at
flat s =
    under (part_at 4 s) (λ dx. side_by_side_at (4 ∷ 1 ∷ 1 ∷ []) dx.1 >>= made_with (λ n. dx.0 + 16 * n)) _ (λ dx.
    onward 4 (1 ∷ 1 ∷ []) dx.1 (λ n. dx.0 + 16 * n)
    ∙ under (part_at 4 dx.1) (λ dy. side_by_side_at (1 ∷ 1 ∷ []) dy.1 >>= made_with (λ n. dx.0 + 16 * (dy.0 + 16 * n))) _ (λ dy.
    onward 1 (1 ∷ []) dy.1 (λ n. dx.0 + 16 * (dy.0 + 16 * n))
    ∙ under (part_at 1 dy.1) (λ fire. side_by_side_at (1 ∷ []) fire.1 >>= made_with (λ n. dx.0 + 16 * (dy.0 + 16 * (fire.0 + 2 * n)))) _ (λ fire.
    onward 1 [] fire.1 (λ n. dx.0 + 16 * (dy.0 + 16 * (fire.0 + 2 * n))))))

-- numbers that were read fit their parts
fits : (w n : ℕ) (s t : Unread) → part_at w s ≡ Ok (n, t) → n < 2 ^ w
fits w n s t e = ((a_number w).takes s (n, t) e).1

same_bits : (s : Unread) → four (λ dx dy fire act. dx + 16 * (dy + 16 * (fire + 2 * (act + 2 * 0)))) s ≡ (as_bits (four move_from s))
same_bits s = first (part_at 4 s) refl
  where
    last : (dx dy fire : ℕ) (s : Unread) (r : Result Part BitsFault) → dx < 16 → dy < 16 → fire < 2 → part_at 1 s ≡ r
        → (r >>= λ act. Ok (dx + 16 * (dy + 16 * (fire + 2 * (act.0 + 2 * 0))), act.1)) ≡ as_bits (r >>= λ act. Ok (move_from dx dy fire act.0, act.1))
    last dx dy fire s (Err e) x y f read = refl
    last dx dy fire s (Ok act) x y f read =
        let a = fits 1 act.0 s act.1 read in
        ap (λ (k : ℕ). Ok (k, act.1)) (omega (arith, raised-step_of dx x, raised-step_of dy y, flag_of-is fire f, flag_of-is act.0 a))

    third : (dx dy : ℕ) (s : Unread) (r : Result Part BitsFault) → dx < 16 → dy < 16 → part_at 1 s ≡ r
        → (r >>= λ fire. (part_at 1 fire.1 >>= λ act. Ok (dx + 16 * (dy + 16 * (fire.0 + 2 * (act.0 + 2 * 0))), act.1)))
        ≡ as_bits (r >>= λ fire. (part_at 1 fire.1 >>= λ act. Ok (move_from dx dy fire.0 act.0, act.1)))
    third dx dy s (Err e) x y read = refl
    third dx dy s (Ok fire) x y read = last dx dy fire.0 fire.1 (part_at 1 fire.1) x y (fits 1 fire.0 s fire.1 read) refl

    second : (dx : ℕ) (s : Unread) (r : Result Part BitsFault) → dx < 16 → part_at 4 s ≡ r
        → (r >>= λ dy. (part_at 1 dy.1 >>= λ fire. (part_at 1 fire.1 >>= λ act. Ok (dx + 16 * (dy.0 + 16 * (fire.0 + 2 * (act.0 + 2 * 0))), act.1))))
        ≡ as_bits (r >>= λ dy. (part_at 1 dy.1 >>= λ fire. (part_at 1 fire.1 >>= λ act. Ok (move_from dx dy.0 fire.0 act.0, act.1))))
    second dx s (Err e) x read = refl
    second dx s (Ok dy) x read = third dx dy.0 dy.1 (part_at 1 dy.1) x (fits 4 dy.0 s dy.1 read) refl

    first : (r : Result Part BitsFault) → part_at 4 s ≡ r
        → (r >>= λ dx. (part_at 4 dx.1 >>= λ dy. (part_at 1 dy.1 >>= λ fire. (part_at 1 fire.1 >>= λ act. Ok (dx.0 + 16 * (dy.0 + 16 * (fire.0 + 2 * (act.0 + 2 * 0))), act.1)))))
        ≡ as_bits (r >>= λ dx. (part_at 4 dx.1 >>= λ dy. (part_at 1 dy.1 >>= λ fire. (part_at 1 fire.1 >>= λ act. Ok (move_from dx.0 dy.0 fire.0 act.0, act.1)))))
    first (Err e) read = refl
    first (Ok dx) read = second dx.0 dx.1 (part_at 4 dx.1) (fits 4 dx.0 s dx.1 read) refl

pub read_so : (version : ℕ) (s : Unread) → version < 3 → move_at (old_wire version) s ≡ as_number (world_move_at s)
unfolding move_at world_move_at
read_so version s h =
    let old = is_old version h in
    let bits : side_by_side_at world_parts s ≡ as_bits (four move_from s) = flat s ∙ same_bits s in
    rw (old, bits) (numbered (four move_from s))
  where
    numbered : (r : Result (Move × Unread) BitsFault) → (as_bits r >>= λ bits. Ok (record { bits = bits.0 }, bits.1)) ≡ as_number r
    numbered (Ok x) = refl
    numbered (Err e) = refl
