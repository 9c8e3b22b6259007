-- What a reader keeps, and the laws of reading.
use Rattle.std.proofs.Common.{◌≡◌, ℕ, zero, suc, ◌+◌, ◌-◌, ◌*◌, ◌/◌, ◌%◌, ◌^◌, ◌<◌, ◌≤◌, Bool, true, false, List, [], ◌∷◌, ◌++◌, length, take, drop, get_or, inl, inr, Ok, Err, refl, sym, ap, subst, ◌∙◌, arith, append_assoc, length-append}
use Rattle.std.specs.Prelude.{nat_lt, nat_eq, cond, not, ◌⊎◌}
use Rattle.std.proofs.lemmas.Bool.{ltb-false, le-ltb, lt-ltb}
use Rattle.std.proofs.lemmas.Nat.{pow_pos, mod_below}
use Rattle.std.proofs.lemmas.List.{append-nil, nil_from_length, take_at, drop_at, take-append-drop, length-take}
use Rattle.bit_stream.specs.Bits.{number, number_from, bits_of, low_bytes}
use Rattle.bit_stream.specs.Reading.{number_at, is_padding, end_at, Unread}
use Rattle.bit_stream.proofs.Numbers.{number-split, length-number, number_from-number, number-number_from, number_from_below, all_clear-number}
use Rattle.std.specs.List.{list_all}
use Rattle.bit_stream.specs.Reader.{unread, IsReader}
use Rattle.bit_stream.specs.declared.reader.BitReader.TheInside.{Inside}
use Rattle.bit_stream.proofs.Datagrams.{length-bits_of, bits_of-low_bytes}
use Rattle.std.specs.Int.{w32, to_le_bytes, from_le_bytes}
use Rattle.std.proofs.lemmas.Nat.{le_bytes_4}
use Rattle.std.proofs.lemmas.Grind.{flat_map-append}

guard_ok : {A E : Type 0} (b : Bool) (d : E) (x y : A) → cond b (Err d) (Ok x) ≡ Ok y → (b ≡ false) × (x ≡ y)
guard_ok true d x y e = absurd cc
guard_ok false d x y e = (refl, cc)

-- a number that was written is read again
pub number_at-again : (w n place : ℕ) (rest : List Bool) → n < 2 ^ w → number_at w (record { place = place; rest = number w n ++ rest }) ≡ Ok (n, record { place = place + w; rest = rest })
unfolding number_at
number_at-again w n place rest lt =
    let long : nat_lt (length (number w n ++ rest)) w ≡ false = le-ltb _ _ (omega (arith, length-append (number w n) rest, length-number w n)) in
    rw (long, take_at (number w n) rest w (length-number w n), drop_at (number w n) rest w (length-number w n), number_from-number w n lt) refl

pub number_at-short : (w : ℕ) (s : Unread) → length s.rest < w → number_at w s ≡ Err (record { place = s.place })
unfolding number_at
number_at-short w s h =
    let short : nat_lt (length s.rest) w ≡ true = lt-ltb _ _ h in
    rw short refl

-- a number that was read stands there
pub record Takes (s : Unread) (bits : List Bool) (t : Unread) : Type 0 where
  pub rest : s.rest ≡ bits ++ t.rest
  pub place : t.place ≡ s.place + length bits

pub number_at-takes : (w n : ℕ) (s t : Unread) → number_at w s ≡ Ok (n, t) → Takes s (number w n) t × (n < 2 ^ w)
unfolding number_at
number_at-takes w n s t e =
    let g = guard_ok (nat_lt (length s.rest) w) (record { place = s.place }) (number_from (take w s.rest), record { place = s.place + w; rest = drop w s.rest }) (n, t) e in
    let long : w ≤ length s.rest = ltb-false _ _ g.0 in
    let len : length (take w s.rest) ≡ w = omega (arith, length-take w s.rest) in
    let front : number w (number_from (take w s.rest)) ≡ take w s.rest = number-number_from (take w s.rest) w len in
    let below : number_from (take w s.rest) < 2 ^ w = rw len at (number_from_below (take w s.rest)) in
    let made : Takes s (number w (number_from (take w s.rest))) (record { place = s.place + w; rest = drop w s.rest }) = record {
      rest = rw front (sym (take-append-drop w s.rest));
      place = rw length-number refl;
    } in
    subst (λ (y : ℕ × Unread). Takes s (number w y.0) y.1 × (y.0 < 2 ^ w)) g.1 (made, below)

-- the next bits of those that are pending
pub number_at-pending : (w count pending place : ℕ) (more : List Bool) → w ≤ count → number_at w (record { place = place; rest = number count pending ++ more }) ≡ Ok (pending % 2 ^ w, record { place = place + w; rest = number (count - w) (pending / 2 ^ w) ++ more })
number_at-pending w count pending place more h =
    let parted : number count pending ++ more ≡ number w (pending % 2 ^ w) ++ (number (count - w) (pending / 2 ^ w) ++ more) = ap (λ (t : List Bool). t ++ more) (number-split w (count - w) count pending (omega arith)) ∙ append_assoc (number w (pending % 2 ^ w)) (number (count - w) (pending / 2 ^ w)) more in
    ap (λ (t : List Bool). number_at w (record { place = place; rest = t })) parted ∙ number_at-again w (pending % 2 ^ w) place (number (count - w) (pending / 2 ^ w) ++ more) (mod_below pending (2 ^ w) (pow_pos w))

pub length-unread : (r : Inside) → length (unread r).rest ≡ r.count + 8 * length r.rest.now
length-unread r = omega (arith, length-append (number r.count r.pending) (bits_of r.rest.now), length-bits_of r.rest.now, length-number r.count r.pending)

pub end_at-even : (r : Inside) → IsReader r → r.count + 8 * length r.rest.now < 8 → r.pending ≡ 0 → end_at (unread r) ≡ Ok tt
unfolding end_at is_padding bits_of
end_at-even r inv few clear =
    let short : nat_lt (length (number r.count r.pending)) 8 ≡ true = lt-ltb _ _ (omega (arith, length-number r.count r.pending)) in
    let empty : r.rest.now ≡ [] = nil_from_length r.rest.now (omega arith) in
    let all : list_all not (number r.count r.pending) ≡ true = all_clear-number r.count r.pending inv.below ∙ rw clear refl in
    rw (empty, append-nil, short, all) refl

not_zero : (n : ℕ) → 0 < n → nat_eq n 0 ≡ false
not_zero zero h = absurd (omega arith)
not_zero (suc n) h = grind arith

odd_part : (r : Inside) → r.rest.now ≡ [] → nat_lt (length (number r.count r.pending)) 8 ≡ true → list_all not (number r.count r.pending) ≡ false → end_at (unread r) ≡ Err (record { place = r.place })
unfolding end_at is_padding bits_of
odd_part r empty short set = rw (empty, append-nil, short, set) refl

pub end_at-odd : (r : Inside) → IsReader r → (8 ≤ r.count + 8 * length r.rest.now) ⊎ ((0 < r.pending) × (r.count + 8 * length r.rest.now < 8)) → end_at (unread r) ≡ Err (record { place = r.place })
unfolding end_at is_padding
end_at-odd r inv (inl many) =
    let long : nat_lt (length (unread r).rest) 8 ≡ false = le-ltb _ _ (omega (arith, length-unread r)) in
    rw long refl
end_at-odd r inv (inr both) =
    let few : r.count + 8 * length r.rest.now < 8 = both.1 in
    let empty : r.rest.now ≡ [] = nil_from_length r.rest.now (omega arith) in
    let set : list_all not (number r.count r.pending) ≡ false = all_clear-number r.count r.pending inv.below ∙ not_zero r.pending both.0 in
    let short : nat_lt (length (number r.count r.pending)) 8 ≡ true = lt-ltb _ _ (omega (arith, few, length-number r.count r.pending)) in
    odd_part r empty short set

pub filled_from : (pending count b joined : ℕ) (rest front back : List ℕ) → pending < 2 ^ count → 0 < length rest → front ≡ take 1 rest → back ≡ drop 1 rest → b ≡ get_or front 0 0 → number (count + 8) joined ≡ number count pending ++ number 8 b → number (count + 8) joined ++ bits_of back ≡ number count pending ++ bits_of rest
unfolding bits_of
filled_from pending count b joined [] front back lt some ef eb e j = absurd (omega arith)
filled_from pending count b joined (x ∷ rest) front back lt some ef eb e j =
    let first : b ≡ x = e ∙ ap (λ (t : List ℕ). get_or t 0 0) ef in
    ap (λ (t : List Bool). t ++ bits_of back) j ∙ append_assoc (number count pending) (number 8 b) (bits_of back)
    ∙ ap (λ n. number count pending ++ (number 8 n ++ bits_of back)) first ∙ ap (λ (t : List ℕ). number count pending ++ (number 8 x ++ bits_of t)) eb

-- four bytes are the 32 bits of the number that they are
low_four : (n : ℕ) → to_le_bytes w32 n ≡ low_bytes 4 n
unfolding low_bytes
low_four n =
    let second : n / 256 / 256 ≡ n / 65536 = omega arith in
    let third : n / 65536 / 256 ≡ n / 16777216 = omega arith in
    rw (second, third) refl

bits_of-append : (bytes more : List ℕ) → bits_of (bytes ++ more) ≡ bits_of bytes ++ bits_of more
unfolding bits_of
bits_of-append bytes more = flat_map-append (number 8) bytes more

pub word_bits : (bytes : List ℕ) (n : ℕ) → length bytes ≡ 4 → ((i : ℕ) → get_or bytes i 0 < 256) → n ≡ from_le_bytes w32 bytes → number 32 n ≡ bits_of bytes
word_bits bytes n four fits e = sym (bits_of-low_bytes 4 32 n refl) ∙ ap bits_of (sym (low_four n) ∙ le_bytes_4 bytes n four fits e)

-- a word behind the pending bits
pub filled_word : (pending count joined n : ℕ) (rest front back : List ℕ) → front ≡ take 4 rest → back ≡ drop 4 rest → number 32 n ≡ bits_of front → number (count + 32) joined ≡ number count pending ++ number 32 n
    → number (count + 32) joined ++ bits_of back ≡ number count pending ++ bits_of rest
filled_word pending count joined n rest front back ef eb word j =
    ap (λ (t : List Bool). t ++ bits_of back) j ∙ append_assoc (number count pending) (number 32 n) (bits_of back)
    ∙ ap (λ (t : List Bool). number count pending ++ (t ++ bits_of back)) word
    ∙ ap (λ (t : List Bool). number count pending ++ t) (sym (bits_of-append front back) ∙ ap bits_of (rw (ef, eb) (take-append-drop 4 rest)))
