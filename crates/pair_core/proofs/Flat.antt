-- Datagrams that lie one behind another: each by its place, and one more.
use Rattle.std.proofs.Common.{◌≡◌, ℕ, zero, suc, ◌+◌, ◌-◌, ◌<◌, ◌≤◌, List, [], ◌∷◌, ◌++◌, length, take, drop, get_or, Some, None, refl, sym, ap, ◌∙◌, subst, arith, length-append, length-drop, append-nil}
use Rattle.std.specs.Prelude.{slice_get}
use Rattle.std.specs.List.{AllByRecursion}
use Rattle.std.proofs.lemmas.List.{take-append-le, drop-append-le}
use Rattle.std.proofs.Math.Seq.{take-length, drop-append_seam}
use Rattle.conn_packing.specs.declared.made.Made.{Made}
use Rattle.conn_packing.specs.declared.made.Made.TheVariants as made
use Rattle.pair_core.specs.Flat.{cut, Rise, IsShort, AreFlat, with_made}
use Rattle.conn_packing.proofs.Lists.{all-append, all-at}

pub cut-length : (start : ℕ) (stops bytes : List ℕ) → length (cut start stops bytes) ≡ length stops
cut-length start [] bytes = refl
cut-length start (x ∷ stops) bytes = ap suc (cut-length x stops bytes)

pub cut-none : (start : ℕ) (stops bytes : List ℕ) (k : ℕ) → length stops ≤ k → slice_get (cut start stops bytes) k ≡ None
cut-none start [] bytes k le = refl
cut-none start (x ∷ stops) bytes zero le = absurd (omega arith)
cut-none start (x ∷ stops) bytes (suc k) le = cut-none x stops bytes k (omega arith)

-- the first begins at the start, each other where the one before it ends
pub cut-first : (start : ℕ) (stops bytes : List ℕ) (d : ℕ) → 0 < length stops → slice_get (cut start stops bytes) 0 ≡ Some (take (get_or stops 0 d - start) (drop start bytes))
cut-first start [] bytes d lt = absurd (omega arith)
cut-first start (x ∷ stops) bytes d lt = refl

pub cut-later : (start : ℕ) (stops bytes : List ℕ) (k d e : ℕ) → suc k < length stops → slice_get (cut start stops bytes) (suc k) ≡ Some (take (get_or stops (suc k) d - get_or stops k e) (drop (get_or stops k e) bytes))
cut-later start [] bytes k d e lt = absurd (omega arith)
cut-later start (x ∷ stops) bytes zero d e lt = cut-first x stops bytes d (omega arith)
cut-later start (x ∷ stops) bytes (suc k) d e lt = cut-later x stops bytes k d e (omega arith)

-- ---- ends rise

pub rise-most : (start : ℕ) (stops : List ℕ) (most : ℕ) → Rise start stops most → start ≤ most
rise-most start [] most h = omega arith
rise-most start (x ∷ stops) most h = omega (arith, rise-most x stops most h.1, h.0)

pub rise-first : (start : ℕ) (stops : List ℕ) (most d : ℕ) → 0 < length stops → Rise start stops most → (start ≤ get_or stops 0 d) × (get_or stops 0 d ≤ most)
rise-first start [] most d lt h = absurd (omega arith)
rise-first start (x ∷ stops) most d lt h = (h.0, rise-most x stops most h.1)

pub rise-later : (start : ℕ) (stops : List ℕ) (most k d e : ℕ) → suc k < length stops → Rise start stops most → (get_or stops k e ≤ get_or stops (suc k) d) × (get_or stops (suc k) d ≤ most)
rise-later start [] most k d e lt h = absurd (omega arith)
rise-later start (x ∷ stops) most zero d e lt h = rise-first x stops most d (omega arith) h.1
rise-later start (x ∷ stops) most (suc k) d e lt h = rise-later x stops most k d e (omega arith) h.1

rise-more : (start : ℕ) (stops : List ℕ) (most stop : ℕ) → most ≤ stop → Rise start stops most → Rise start (stops ++ stop ∷ []) stop
rise-more start [] most stop le h = (omega (arith, h), refl)
rise-more start (x ∷ stops) most stop le h = (h.0, rise-more x stops most stop le h.1)

-- ---- one more

part : (xs ys : List ℕ) (a b : ℕ) → a ≤ b → b ≤ length xs → take (b - a) (drop a (xs ++ ys)) ≡ take (b - a) (drop a xs)
part xs ys a b le lt = let h : a ≤ length xs = omega arith in let k : b - a ≤ length (drop a xs) = omega (arith, length-drop a xs) in rw drop-append-le (rw take-append-le refl)

pub cut-more : (start : ℕ) (stops xs ys : List ℕ) (stop : ℕ) → stop ≡ length xs + length ys → Rise start stops (length xs) → cut start (stops ++ stop ∷ []) (xs ++ ys) ≡ cut start stops xs ++ ys ∷ []
cut-more start [] xs ys stop is h =
    let n : stop - start ≡ length ys = omega (arith, h) in
    ap (λ (l : List ℕ). l ∷ []) ((λ j. take (n j) (drop (h j) (xs ++ ys))) ∙ ap (λ (l : List ℕ). take (length ys) l) (drop-append_seam xs ys) ∙ take-length ys)
cut-more start (x ∷ stops) xs ys stop is h =
    let m = rise-most x stops (length xs) h.1 in
    λ j. part xs ys start x h.0 m j ∷ cut-more x stops xs ys stop is h.1 j

pub flat-more : (stops xs ys : List ℕ) (stop : ℕ) → stop ≡ length xs + length ys → length stops < 4294967295 → IsShort ys → AreFlat stops xs → AreFlat (stops ++ stop ∷ []) (xs ++ ys)
flat-more stops xs ys stop is few short h = record {
  rise = subst (Rise 0 (stops ++ stop ∷ [])) (omega (arith, is, length-append xs ys)) (rise-more 0 stops (length xs) stop (omega arith) h.rise);
  few = omega (arith, length-append stops (stop ∷ []));
  short = subst (AllByRecursion IsShort) (sym (cut-more 0 stops xs ys stop is h.rise)) (all-append IsShort (cut 0 stops xs) (ys ∷ []) h.short (short, tt));
}

pub short-at : (stops bytes : List ℕ) (k : ℕ) (v : List ℕ) → AreFlat stops bytes → slice_get (cut 0 stops bytes) k ≡ Some v → length v ≤ 1200
short-at stops bytes k v h e = all-at IsShort (cut 0 stops bytes) k v h.short e

-- ---- what a pack made, if it made anything

-- where nothing was made there are no bytes
abbrev pub IsNoneWhereWorn : Made → List ℕ → Type 0
IsNoneWhereWorn (made.Ping len) bytes = Unit {0}
IsNoneWhereWorn (made.Body len) bytes = Unit {0}
IsNoneWhereWorn (made.Worn life) bytes = bytes ≡ []

pub flat-made : (m : Made) (stops xs ys : List ℕ) (stop : ℕ) → IsNoneWhereWorn m ys → stop ≡ length xs + length ys → length stops < 4294967295 → IsShort ys → AreFlat stops xs
    → AreFlat (with_made m stop stops) (xs ++ ys)
flat-made (made.Ping len) stops xs ys stop none is few short h = flat-more stops xs ys stop is few short h
flat-made (made.Body len) stops xs ys stop none is few short h = flat-more stops xs ys stop is few short h
flat-made (made.Worn life) stops xs ys stop none is few short h = subst (AreFlat stops) (sym (ap (λ (l : List ℕ). xs ++ l) none ∙ append-nil xs)) h

pub cut-made : (m : Made) (stops xs ys : List ℕ) (stop : ℕ) → IsNoneWhereWorn m ys → stop ≡ length xs + length ys → Rise 0 stops (length xs)
    → cut 0 (with_made m stop stops) (xs ++ ys) ≡ with_made m ys (cut 0 stops xs)
cut-made (made.Ping len) stops xs ys stop none is h = cut-more 0 stops xs ys stop is h
cut-made (made.Body len) stops xs ys stop none is h = cut-more 0 stops xs ys stop is h
cut-made (made.Worn life) stops xs ys stop none is h = ap (cut 0 stops) (ap (λ (l : List ℕ). xs ++ l) none ∙ append-nil xs)

-- the same of lists that are known by what they are
module _ (m : Made) (stops xs ys ends bytes : List ℕ) (stop : ℕ) (none : IsNoneWhereWorn m ys) (is : bytes ≡ xs ++ ys) (so : ends ≡ with_made m stop stops) (at : stop ≡ length bytes) where
  sum : stop ≡ length xs + length ys
  sum = omega (arith, at, ap (λ (l : List ℕ). length l) is, length-append xs ys)

  pub made-flat : length bytes ≤ length xs + 1200 → length stops < 4294967295 → AreFlat stops xs → AreFlat ends bytes
  made-flat short few h =
      subst (λ (x : List ℕ × List ℕ). AreFlat x.0 x.1) (λ j. (sym so j, sym is j))
      (flat-made m stops xs ys stop none sum few (omega (arith, short, ap (λ (l : List ℕ). length l) is, length-append xs ys)) h)

  pub made-cut : Rise 0 stops (length xs) → cut 0 ends bytes ≡ with_made m ys (cut 0 stops xs)
  made-cut h = (λ j. cut 0 (so j) (is j)) ∙ cut-made m stops xs ys stop none sum h
