-- Where words make nothing, the place is the least at which they stop beginning something that is made.
use Rattle.std.proofs.Common.{◌≡◌, ℕ, suc, ◌+◌, ◌^◌, ◌<◌, ◌≤◌, List, [], ◌∷◌, ◌++◌, length, take, Option, Some, None, Result, Ok, Err, arith, refl, sym, ap, ◌∙◌, subst}
use Rattle.std.specs.Fmt.{decimal}
use Rattle.match_script.proofs.Printing.{number_from_decimal}
use Rattle.commands.specs.declared.command.Command.{Command}
use Rattle.commands.specs.Said.{number_said}
use Rattle.commands.specs.Grammar.{end_with, further, after, number_then, made_as}

pub record Stops {A : Type 0} (made : List (List ℕ) → Result A ℕ) (words : List (List ℕ)) (place : ℕ) : Type 0 where
  pub within : place ≤ length words
  pub begun : (a : A) × (more : List (List ℕ)) × (made (take place words ++ more) ≡ Ok a)
  pub stops : place < length words → (a : A) (more : List (List ℕ)) → made (take (suc place) words ++ more) ≡ Ok a → ⊥

abbrev pub Faults : {A : Type 0} → (List (List ℕ) → Result A ℕ) → Type 0
Faults made = (words : List (List ℕ)) (place : ℕ) → made words ≡ Err place → Stops made words place

-- ---- results

pub further_ok : {A : Type 0} (r : Result A ℕ) (a : A) → further r ≡ Ok a → r ≡ Ok a
further_ok (Ok b) a e = e
further_ok (Err k) a e = absurd cc

pub further_err : {A : Type 0} (r : Result A ℕ) (place : ℕ) → further r ≡ Err place → (k : ℕ) × (r ≡ Err k) × (suc k ≡ place)
further_err (Ok b) place e = absurd cc
further_err (Err k) place e = let is : suc k ≡ place = cc in (k, refl, is)

pub as_ok : {A : Type 0} (make : A → Command) (r : Result A ℕ) (c : Command) → made_as make r ≡ Ok c → (a : A) × (r ≡ Ok a) × (make a ≡ c)
as_ok make (Ok a) c e = let is : make a ≡ c = cc in (a, refl, is)
as_ok make (Err k) c e = absurd cc

pub as_err : {A : Type 0} (make : A → Command) (r : Result A ℕ) (place : ℕ) → made_as make r ≡ Err place → r ≡ Err place
as_err make (Ok a) place e = absurd cc
as_err make (Err k) place e = let is : k ≡ place = cc in ap (λ (n : ℕ). Err n) is

-- ---- forms

pub end_faults : {A : Type 0} (a : A) → Faults (end_with a)
end_faults {A} a [] place e = absurd cc
end_faults {A} a (w ∷ ws) place e =
    let is : 0 ≡ place = cc in
    subst (λ (k : ℕ). Stops (end_with a) (w ∷ ws) k) is (record {
      within = omega arith;
      begun = (a, [], refl);
      stops = λ lt b more q. (let no : Err 0 ≡ Ok b = q in cc no);
    })

-- a number in a range, and then words that make something
module _ {A : Type 0} (least most : ℕ) (rest : ℕ → List (List ℕ) → Result A ℕ) (le : least ≤ most) (small : most < 2 ^ 64)
    (faults : (n : ℕ) → Faults (rest n)) (some : (a : A) × (more : List (List ℕ)) × (rest least more ≡ Ok a)) where
  abbrev made : List (List ℕ) → Result A ℕ
  made = number_then least most rest

  least_said : made (decimal least ∷ some.1) ≡ Ok some.0
  least_said = rw (number_from_decimal least most least (omega arith) le small, some.2) refl

  -- no word begins it here
  none_begins : (words : List (List ℕ)) → (0 < length words → (a : A) (more : List (List ℕ)) → made (take 1 words ++ more) ≡ Ok a → ⊥) → Stops made words 0
  none_begins words h = record { within = omega arith; begun = (some.0, decimal least ∷ some.1, least_said); stops = h }

  one_behind : (w : List ℕ) (ws : List (List ℕ)) (n k : ℕ) → number_said least most w ≡ Some n → Stops (rest n) ws k → Stops made (w ∷ ws) (suc k)
  one_behind w ws n k said s = record {
    within = omega (arith, s.within);
    begun = (s.begun.0, s.begun.1, rw said (ap further s.begun.2));
    stops = λ lt a more q. s.stops (omega (arith, lt)) a more (further_ok (rest n (take (suc k) ws ++ more)) a (let r = rw said at q in r));
  }

  pub number_faults : Faults made
  number_faults [] place e =
      let is : 0 ≡ place = cc in
      subst (λ (k : ℕ). Stops made [] k) is (none_begins [] (λ lt. absurd (omega (arith, lt))))
  number_faults (w ∷ ws) place e = by_number (number_said least most w) refl
    where
      by_number : (o : Option ℕ) → number_said least most w ≡ o → Stops made (w ∷ ws) place
      by_number None q =
          let r = rw q at e in
          let is : 0 ≡ place = cc in
          subst (λ (k : ℕ). Stops made (w ∷ ws) k) is (none_begins (w ∷ ws) (λ lt a more h. (let no = rw q at h in cc no)))
      by_number (Some n) q =
          let f = further_err (rest n ws) place (let r = rw q at e in r) in
          subst (λ (k : ℕ). Stops made (w ∷ ws) k) f.2 (one_behind w ws n f.0 q (faults n ws f.0 f.1))

pub as_faults : {A : Type 0} (make : A → Command) (reads : List (List ℕ) → Result A ℕ) → Faults reads → Faults (λ words. made_as make (reads words))
as_faults {A} make reads faults words place e =
    let s = faults words place (as_err make (reads words) place e) in record {
      within = s.within;
      begun = (make s.begun.0, s.begun.1, ap (made_as make) s.begun.2);
      stops = λ lt c more q. (let p = as_ok make (reads (take (suc place) words ++ more)) c q in s.stops lt p.0 more p.1);
    }
