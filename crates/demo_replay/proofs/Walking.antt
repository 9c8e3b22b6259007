-- Walking over the records of a demo with a viewer.
use Rattle.std.proofs.Common.{◌≡◌, ℕ, zero, suc, ◌+◌, ◌≤◌, List, [], ◌∷◌, ◌++◌, length, take, drop, Option, Some, None, refl, sym, ◌∙◌, ap, subst, arith, length-drop}
use Rattle.std.specs.Prelude.{IfNone}
use Rattle.std.proofs.lemmas.List.{drop-drop, take_all}
use Rattle.demo_view.specs.wire_format.declared.server.ServerPacket.{ServerPacket}
use Rattle.demo_format.specs.Records.{front_length, records_of, rest_of}
use Rattle.demo_format.proofs.Recording.{first-record, first-rest, no-record, no-more}
use Rattle.demo_view.specs.Viewing.{ViewTerms, taking, viewed}
use Rattle.demo_view.specs.Stands.{ViewerState, StandsFor, terms_of}
use Rattle.demo_view.specs.Calls.{Becomes}
use Rattle.demo_view.proofs.Views.{viewing-append}
use Rattle.demo_replay.specs.Replaying.{terms_in}
use Rattle.demo_replay.specs.Walking.{DemoState, IsViewerAfter, IsNext, Begins}

pub when-none : {A P : Type 0} (o : Option A) → o ≡ None → IfNone o P → P
when-none None is p = p
when-none (Some x) is p = cc

-- ---- lists

take-next : {A : Type 0} (n : ℕ) (xs : List A) (x : A) (ys : List A) → drop n xs ≡ x ∷ ys → take (suc n) xs ≡ take n xs ++ x ∷ []
take-next zero [] x ys e = cc
take-next zero (y ∷ xs) x ys e = let same : y ≡ x = cc in rw same refl
take-next (suc n) [] x ys e = cc
take-next {A} (suc n) (y ∷ xs) x ys e = ap (λ (l : List A). y ∷ l) (take-next n xs x ys e)

drop-next : {A : Type 0} (n : ℕ) (xs : List A) (x : A) (ys : List A) → drop n xs ≡ x ∷ ys → drop (suc n) xs ≡ ys
drop-next zero [] x ys e = cc
drop-next zero (y ∷ xs) x ys e = cc
drop-next (suc n) [] x ys e = cc
drop-next (suc n) (y ∷ xs) x ys e = drop-next n xs x ys e

one-more : {A : Type 0} (n : ℕ) (xs : List A) (x : A) (ys : List A) → drop n xs ≡ x ∷ ys → suc n ≤ length xs
one-more zero [] x ys e = cc
one-more zero (y ∷ xs) x ys e = omega arith
one-more (suc n) [] x ys e = cc
one-more (suc n) (y ∷ xs) x ys e = omega (arith, one-more n xs x ys e)

-- ---- the records

module _ (bytes : List ℕ) (n start : ℕ) (b : Begins bytes n start) where
  -- no record stands where they end
  pub at-end : front_length (drop start bytes) ≡ None → n ≡ length (records_of bytes)
  at-end e =
      let none : drop n (records_of bytes) ≡ [] = sym b.records ∙ no-record (drop start bytes) e in
      omega (arith, ap length none, length-drop n (records_of bytes), b.few)

  pub rest-there : front_length (drop start bytes) ≡ None → rest_of bytes ≡ drop start bytes
  rest-there e = sym b.rest ∙ no-more (drop start bytes) e

  module _ (next : List ℕ) (is : IsNext bytes start next) where
    split : drop n (records_of bytes) ≡ next ∷ records_of (drop (start + (2 + length next)) bytes)
    split =
        sym b.records
        ∙ first-record (drop start bytes) (length next) is.front
        ∙ ap (λ (l : List ℕ). l ∷ records_of (drop (2 + length next) (drop start bytes))) (sym is.value)
        ∙ ap (λ (l : List ℕ). next ∷ records_of l) (drop-drop (2 + length next) start bytes)

    pub next-taken : take (n + 1) (records_of bytes) ≡ take n (records_of bytes) ++ next ∷ []
    next-taken = let e : n + 1 ≡ suc n = omega arith in rw e (take-next n (records_of bytes) next (records_of (drop (start + (2 + length next)) bytes)) split)

    pub next-begins : Begins bytes (n + 1) (start + (2 + length next))
    next-begins = record {
      within = is.fits;
      few = omega (arith, one-more n (records_of bytes) next (records_of (drop (start + (2 + length next)) bytes)) split);
      records = let e : n + 1 ≡ suc n = omega arith in rw e (sym (drop-next n (records_of bytes) next (records_of (drop (start + (2 + length next)) bytes)) split));
      rest = ap rest_of (sym (drop-drop (2 + length next) start bytes)) ∙ sym (first-rest (drop start bytes) (length next) is.front) ∙ b.rest;
    }

-- ---- the viewer

pub first-viewer : (d : DemoState) (v : ViewerState) → StandsFor v [] → terms_of v ≡ terms_in d.head → v.events.ready ≡ [] → IsViewerAfter d 0 v
first-viewer d v stands terms quiet = record { stands = stands; terms = terms; quiet = quiet }

pub next-viewer : (d : DemoState) (n : ℕ) (v w : ViewerState) (next : List ℕ) → IsViewerAfter d n v → Becomes v (taking (terms_of v) next) w → terms_of w ≡ terms_of v → w.events.ready ≡ []
    → take (n + 1) d.records ≡ take n d.records ++ next ∷ [] → IsViewerAfter d (n + 1) w
next-viewer d n v w next is becomes terms quiet more =
    let t = terms_in d.head in
    let now : StandsFor w (taking t next (viewed t (take n d.records))) = subst (λ (x : ViewTerms). StandsFor w (taking x next (viewed t (take n d.records)))) is.terms (becomes (viewed t (take n d.records)) is.stands) in
    record {
      stands = subst (λ (l : List ServerPacket). StandsFor w l) (sym (ap (λ (l : List (List ℕ)). viewed t l) more ∙ viewing-append t (take n d.records) (next ∷ []) [])) now;
      terms = terms ∙ is.terms;
      quiet = quiet;
    }

-- behind all records there are no more
pub after-all : (d : DemoState) (i k : ℕ) (v : ViewerState) → IsViewerAfter d i v → i ≡ length d.records → i ≤ k → IsViewerAfter d k v
after-all d i k v is all l =
    let same : take i d.records ≡ take k d.records = take_all i d.records (omega (arith, all)) ∙ sym (take_all k d.records (omega (arith, all, l))) in
    record { stands = subst (λ (r : List (List ℕ)). StandsFor v (viewed (terms_in d.head) r)) same is.stands; terms = is.terms; quiet = is.quiet }

pub first-begins : (bytes : List ℕ) → Begins bytes 0 0
first-begins bytes = record { within = omega arith; few = omega arith; records = refl; rest = refl }
