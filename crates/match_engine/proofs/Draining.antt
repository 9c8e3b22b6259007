-- One drain of a loop over periods or objects.
use Rattle.std.proofs.Common.{◌≡◌, ◌≢◌, ◌∙◌, ◌<◌, ◌+◌, ℕ, Bool, List, drop, length, get_or, sym, ap, arith, inl, inr, true, false, refl, if◌then◌else◌}
use Rattle.std.proofs.lemmas.List.{drop_more, get_or-set_other}
use Rattle.std.proofs.lemmas.Bool.{cases_eq, eq-eqb, ne_eqb}
use Rattle.std.specs.List.{list_any}
use Rattle.world_scope.specs.declared.viewer.Seen.{Seen}
use Rattle.dirty_lanes.specs.Words.{Words, mask_word, mask_at, after_drain, SizesStay, OtherMasksStay}
use Rattle.match_engine.specs.Serving.{OthersStay, is_of}

-- a drain of this client leaves the masks of all others
pub others_stay : (c object : ℕ) (first old new : Words) → OthersStay c first old → SizesStay old new → OtherMasksStay old new c object → OthersStay c first new
others_stay c object first old new before sizes masks = record {
  objects = sizes.objects ∙ before.objects;
  clients = sizes.clients ∙ before.clients;
  masks = λ d o l ne. masks.masks d o l (inl ne) ∙ before.masks d o l ne;
}

-- and its own masks of all other objects, whatever client it is
pub objects_stay : (c object : ℕ) (old new : Words) → new ≡ after_drain old c object → (o : ℕ) → o ≢ object → mask_at new c o ≡ mask_at old c o
unfolding mask_at after_drain
objects_stay c object old new is o ne =
    let apart : mask_word c o ≢ mask_word c object = λ e. ne (omega (arith, e)) in
    ap (λ (w : Words). mask_at w c o) is ∙ get_or-set_other old.words (mask_word c object) (mask_word c o) 0 0 apart

-- a mask of which nothing is left, if one of these objects is its own
abbrev pub left : List Seen → ℕ → ℕ → ℕ
left shows o mask = if list_any (is_of o) shows then 0 else mask

none_left : (b : Bool) → ◌≡◌ {A = ℕ} (if b then 0 else 0) 0
none_left true = refl
none_left false = refl

-- one object further
pub left_more : (shows : List Seen) (i : ℕ) (d : Seen) → i < length shows → (c : ℕ) (old new : Words)
    → new ≡ after_drain old c (get_or shows i d).object → mask_at new c (get_or shows i d).object ≡ 0
    → (o : ℕ) → left (drop (i + 1) shows) o (mask_at new c o) ≡ left (drop i shows) o (mask_at old c o)
left_more shows i d l c old new is none o = elim (cases_eq (get_or shows i d).object o) [
  | inl same ↦
      let here : mask_at new c o ≡ 0 = ap (λ (x : ℕ). mask_at new c x) (sym same) ∙ none in
      rw (here, drop_more shows i d l, eq-eqb (get_or shows i d).object o same) (none_left (list_any (is_of o) (drop (i + 1) shows)))
  | inr other ↦
      let stays : mask_at new c o ≡ mask_at old c o = objects_stay c (get_or shows i d).object old new is o (λ e. other (sym e)) in
      rw (stays, drop_more shows i d l, ne_eqb (get_or shows i d).object o other) refl
]
