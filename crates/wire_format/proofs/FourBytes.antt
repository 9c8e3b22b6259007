-- Four bytes that are read as one number.
use Rattle.std.proofs.Common.{◌≡◌, ℕ, suc, ◌-◌, ◌/◌, ◌%◌, ◌^◌, ◌<◌, ◌≤◌, List, [], ◌∷◌, ◌++◌, length, Result, Ok, Err, refl, sym, subst, ◌∙◌, append_assoc, arith}
use Rattle.bit_stream.specs.Bits.{low_bytes}
use Rattle.bit_stream.specs.Reading.{Unread, number_at}
use Rattle.bit_stream.proofs.Reading.{number_at-takes}
use Rattle.wire_format.specs.declared.fault.BitsFault.{BitsFault}
use Rattle.wire_format.specs.Reading.{counted_at, part_at}
use Rattle.wire_format.proofs.AtOnce.{in_two}
use Rattle.wire_format.proofs.Counted.{with_front, regroup, goes_on, ends, is_done}

-- one byte more
one_more : (front : List ℕ) (left x : ℕ) (s t : Unread) (total : Result (List ℕ × Unread) BitsFault) → number_at 8 s ≡ Ok (x, t)
    → with_front front (counted_at (part_at 8) (suc left) s) ≡ total → with_front (front ++ x ∷ []) (counted_at (part_at 8) left t) ≡ total
unfolding counted_at part_at
one_more front left x s t total read so_far =
    let one : with_front front (counted_at (part_at 8) (suc left) s) ≡ with_front (front ++ x ∷ []) (counted_at (part_at 8) left t) = rw read (regroup front x (counted_at (part_at 8) left t)) in
    sym one ∙ so_far

pub four_more : (front : List ℕ) (left n : ℕ) (s t : Unread) (total : Result (List ℕ × Unread) BitsFault) → 4 ≤ left → number_at 32 s ≡ Ok (n, t)
    → with_front front (counted_at (part_at 8) left s) ≡ total → with_front (front ++ low_bytes 4 n) (counted_at (part_at 8) (left - 4) t) ≡ total
unfolding low_bytes
four_more front left n s t total four read so_far =
    let rest = left - 4 in
    let e : left ≡ suc (suc (suc (suc rest))) = omega arith in
    let start = subst (λ (k : ℕ). with_front front (counted_at (part_at 8) k s) ≡ total) e so_far in
    let a = in_two 8 24 32 n s t refl read in
    let b = in_two 8 16 24 (n / 256) a.between t refl a.high in
    let d = in_two 8 8 16 (n / 256 / 256) b.between t refl b.high in
    let below : n < 2 ^ 32 = (number_at-takes 32 n s t read).1 in
    let last : n / 256 / 256 / 256 % 256 ≡ n / 256 / 256 / 256 = omega arith in
    let first_of = one_more front (suc (suc (suc rest))) (n % 256) s a.between total a.low start in
    let second_of = one_more (front ++ (n % 256) ∷ []) (suc (suc rest)) (n / 256 % 256) a.between b.between total b.low first_of in
    let third_of = one_more ((front ++ (n % 256) ∷ []) ++ (n / 256 % 256) ∷ []) (suc rest) (n / 256 / 256 % 256) b.between d.between total d.low second_of in
    let fourth_of = one_more (((front ++ (n % 256) ∷ []) ++ (n / 256 % 256) ∷ []) ++ (n / 256 / 256 % 256) ∷ []) rest (n / 256 / 256 / 256) d.between t total d.high third_of in
    let same : front ++ low_bytes 4 n ≡ (((front ++ (n % 256) ∷ []) ++ (n / 256 % 256) ∷ []) ++ (n / 256 / 256 % 256) ∷ []) ++ (n / 256 / 256 / 256) ∷ [] = rw last (simp append_assoc) in
    rw same fourth_of

pub length-low_bytes_4 : (n : ℕ) → length (low_bytes 4 n) ≡ 4
unfolding low_bytes
length-low_bytes_4 n = refl

-- the same words for one byte
from_first : (front : List ℕ) (left : ℕ) (s : Unread) (total : Result (List ℕ × Unread) BitsFault)
    → with_front front (counted_at (part_at 8) left s) ≡ total → with_front front (counted_at (part_at 8) (left - 0) s) ≡ total
from_first front left s total so_far =
    let same : left ≡ left - 0 = omega arith in
    subst (λ (k : ℕ). with_front front (counted_at (part_at 8) k s) ≡ total) same so_far

pub byte_more : (front : List ℕ) (left x : ℕ) (s t : Unread) (total : Result (List ℕ × Unread) BitsFault) → 0 < left → part_at 8 s ≡ Ok (x, t)
    → with_front front (counted_at (part_at 8) left s) ≡ total → with_front (front ++ x ∷ []) (counted_at (part_at 8) (left - 1) t) ≡ total
byte_more front left x s t total some read so_far = goes_on (part_at 8) front left 0 s x t total some read (from_first front left s total so_far)

pub byte_ends : (front : List ℕ) (left : ℕ) (s : Unread) (total : Result (List ℕ × Unread) BitsFault) (e : BitsFault) → 0 < left → part_at 8 s ≡ Err e
    → with_front front (counted_at (part_at 8) left s) ≡ total → total ≡ Err e
byte_ends front left s total e some read so_far = ends (part_at 8) e front left 0 s total some read (from_first front left s total so_far)

pub all_read : (front : List ℕ) (left : ℕ) (s : Unread) (total : Result (List ℕ × Unread) BitsFault) → left ≤ 0
    → with_front front (counted_at (part_at 8) left s) ≡ total → total ≡ Ok (front, s)
all_read front left s total none so_far = is_done (part_at 8) front left 0 s total none (from_first front left s total so_far)
