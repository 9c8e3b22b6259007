-- What loops over pieces of a text keep.
use Rattle.std.proofs.Common.{◌≡◌, ℕ, zero, suc, ◌+◌, ◌-◌, ◌<◌, ◌≤◌, List, [], ◌∷◌, ◌++◌, length, take, drop, get_or, refl, sym, ap, ◌∙◌, append_assoc, arith}
use Rattle.std.proofs.lemmas.List.{append-nil, drop_all, length-drop}
use Rattle.quantised_fields.specs.declared.kind.Kind.{Kind}
use Rattle.packet_parts.specs.declared.part.Part.{Part}
use Rattle.packet_text.specs.Table.{field_text, fields_text, part_text, parts_text}
use Rattle.packet_text.specs.Brief.{brief_of, briefs_of}

-- a piece of what is left was added
moved : (before piece rest now whole : List ℕ) → now ≡ before ++ piece → before ++ (piece ++ rest) ≡ whole → now ++ rest ≡ whole
moved before piece rest now whole e h = ap (λ (l : List ℕ). l ++ rest) e ∙ append_assoc before piece rest ∙ h

module _ {A : Type 0} where
  drop_next : (xs : List A) (i : ℕ) (d : A) → i < length xs → drop i xs ≡ get_or xs i d ∷ drop (suc i) xs
  drop_next [] i d h = absurd (omega (arith, h))
  drop_next (x ∷ xs) zero d h = refl
  drop_next (x ∷ xs) (suc i) d h = drop_next xs i d (omega (arith, h))

  pub drop_first : (xs : List A) (i : ℕ) (d x : A) → i < length xs → x ≡ get_or xs i d → drop i xs ≡ x ∷ drop (i + 1) xs
  drop_first xs i d x h is =
      let k : suc i ≡ i + 1 = omega arith in
      drop_next xs i d h ∙ ap (λ (n : ℕ). get_or xs i d ∷ drop n xs) k ∙ ap (λ (y : A). y ∷ drop (i + 1) xs) (sym is)

-- ---- fields of a mask

pub next_field : (kind mask count i : ℕ) (before now whole : List ℕ) → i < count → now ≡ before ++ field_text kind mask i → before ++ fields_text kind mask i (count - i) ≡ whole
    → now ++ fields_text kind mask (i + 1) (count - (i + 1)) ≡ whole
unfolding fields_text
next_field kind mask count i before now whole lt e h =
    let k : count - i ≡ suc (count - (i + 1)) = omega arith in
    moved before (field_text kind mask i) (fields_text kind mask (i + 1) (count - (i + 1))) now whole e (ap (λ (n : ℕ). before ++ fields_text kind mask i n) (sym k) ∙ h)

pub last_field : (kind mask count i : ℕ) (now whole : List ℕ) → count ≤ i → now ++ fields_text kind mask i (count - i) ≡ whole → now ≡ whole
unfolding fields_text
last_field kind mask count i now whole le h =
    let k : count - i ≡ 0 = omega arith in
    sym (append-nil now) ∙ ap (λ (n : ℕ). now ++ fields_text kind mask i n) (sym k) ∙ h

-- ---- lines

-- all that stands from a place on
rest_of : {A : Type 0} (n : ℕ) (xs : List A) → length xs ≤ n → take n xs ≡ xs
rest_of zero [] h = refl
rest_of zero (x ∷ xs) h = absurd (omega (arith, h))
rest_of (suc n) [] h = refl
rest_of (suc n) (x ∷ xs) h = ap (λ ys. x ∷ ys) (rest_of n xs (omega (arith, h)))

pub from_place : {A : Type 0} (xs : List A) (n : ℕ) → take (length xs - n) (drop n xs) ≡ drop n xs
from_place xs n = rest_of (length xs - n) (drop n xs) (omega (arith, length-drop n xs))

pub next_line : (kinds : List Kind) (ps : List Part) (i : ℕ) (d p : Part) (rest : List Part) (before now whole : List ℕ) → i < length ps → p ≡ get_or ps i d → rest ≡ drop (i + 1) ps
    → now ≡ before ++ part_text kinds p rest → before ++ parts_text kinds (drop i ps) ≡ whole → now ++ parts_text kinds (drop (i + 1) ps) ≡ whole
unfolding parts_text
next_line kinds ps i d p rest before now whole lt is left e h =
    moved before (part_text kinds p (drop (i + 1) ps)) (parts_text kinds (drop (i + 1) ps)) now whole (e ∙ ap (λ (l : List Part). before ++ part_text kinds p l) left)
    (ap (λ (l : List Part). before ++ parts_text kinds l) (sym (drop_first ps i d p lt is)) ∙ h)

pub last_line : (kinds : List Kind) (ps : List Part) (i : ℕ) (now whole : List ℕ) → length ps ≤ i → now ++ parts_text kinds (drop i ps) ≡ whole → now ≡ whole
unfolding parts_text
last_line kinds ps i now whole le h = sym (append-nil now) ∙ ap (λ (l : List Part). now ++ parts_text kinds l) (sym (drop_all i ps le)) ∙ h

-- ---- what a line says

pub next_brief : (kinds : List Kind) (ps : List Part) (i : ℕ) (d p : Part) (rest : List Part) (before now whole : List ℕ) → i < length ps → p ≡ get_or ps i d → rest ≡ drop (i + 1) ps
    → now ≡ before ++ brief_of kinds p.name p.value rest → before ++ briefs_of kinds (drop i ps) ≡ whole → now ++ briefs_of kinds (drop (i + 1) ps) ≡ whole
unfolding briefs_of
next_brief kinds ps i d p rest before now whole lt is left e h =
    moved before (brief_of kinds p.name p.value (drop (i + 1) ps)) (briefs_of kinds (drop (i + 1) ps)) now whole (e ∙ ap (λ (l : List Part). before ++ brief_of kinds p.name p.value l) left)
    (ap (λ (l : List Part). before ++ briefs_of kinds l) (sym (drop_first ps i d p lt is)) ∙ h)

pub last_brief : (kinds : List Kind) (ps : List Part) (i : ℕ) (now whole : List ℕ) → length ps ≤ i → now ++ briefs_of kinds (drop i ps) ≡ whole → now ≡ whole
unfolding briefs_of
last_brief kinds ps i now whole le h = sym (append-nil now) ∙ ap (λ (l : List Part). now ++ briefs_of kinds l) (sym (drop_all i ps le)) ∙ h
