-- What each thing that is told does to a slot, and to the list that the slot stands for.
use Rattle.std.proofs.Common.{◌≡◌, ℕ, zero, suc, ◌-◌, ◌<◌, ◌≤◌, ◌==◌, ◌⊎◌, inl, inr, true, false, cond, List, [], ◌∷◌, length, take, get_or, Some, None, refl, ap, sym, ◌∙◌, arith, subst}
use Rattle.std.specs.Prelude.{ℤ, map, replicate, slice_get, slice_set, option_map}
use Rattle.std.proofs.lemmas.List.{length-map, length-set, length-replicate, take-take}
use Rattle.std.proofs.lemmas.Bool.{cases_eq, eq-eqb, ne_eqb}
use Rattle.std.proofs.lemmas.Option.{slice_get-map, slice_get-get_or, same_Some, none-some}
use Rattle.timeline.specs.declared.between.Keyframe.{Keyframe}
use Rattle.timeline.specs.Keeping.{Kept, kept_of}
use Rattle.timeline.specs.Telling.{frame_of, Began, Came, Ended, Told, told_of, frames_of}
use Rattle.timeline.specs.Standing.{SlotKept, emptied, with_frame, no_frames, fresh, Drawing, IsWhole, SlotStandsFor, StandsFor}

-- ---- places of a list

pub at_set : {X : Type 0} (xs : List X) (i : ℕ) (x y : X) → slice_get xs i ≡ Some x → slice_get (slice_set xs i y) i ≡ Some y
at_set [] i x y e = absurd (none-some x e)
at_set (z ∷ xs) zero x y e = refl
at_set (z ∷ xs) (suc i) x y e = at_set xs i x y e

pub off_set : {X : Type 0} (xs : List X) (i j : ℕ) (y : X) → (j ≡ i → ⊥) → slice_get (slice_set xs i y) j ≡ slice_get xs j
off_set [] i j y ne = refl
off_set (z ∷ xs) zero zero y ne = absurd (ne refl)
off_set (z ∷ xs) zero (suc j) y ne = refl
off_set (z ∷ xs) (suc i) zero y ne = refl
off_set (z ∷ xs) (suc i) (suc j) y ne = off_set xs i j y (λ e. ne (ap suc e))

pub at_replicate : {X : Type 0} (n i : ℕ) (x : X) → i < n → slice_get (replicate n x) i ≡ Some x
at_replicate zero i x less = absurd (omega arith)
at_replicate (suc n) zero x less = refl
at_replicate (suc n) (suc i) x less = at_replicate n i x (omega arith)

pub at_index : {X : Type 0} (xs : List X) (i : ℕ) (x : X) → i < length xs → x ≡ get_or xs i x → slice_get xs i ≡ Some x
at_index xs i x less is = slice_get-get_or xs i x less ∙ ap Some (sym is)

pub of_replicate : {X : Type 0} (n i : ℕ) (x y : X) → slice_get (replicate n x) i ≡ Some y → y ≡ x
of_replicate zero i x y e = absurd (none-some y e)
of_replicate (suc n) zero x y e = sym (same_Some x y e)
of_replicate (suc n) (suc i) x y e = of_replicate n i x y e

-- what holds of each holds of each after one is set
pub each_set : {X : Type 0} (P : X → Type 0) (xs : List X) (i : ℕ) (y : X) → ((j : ℕ) (x : X) → slice_get xs j ≡ Some x → P x) → P y → (j : ℕ) (x : X) → slice_get (slice_set xs i y) j ≡ Some x → P x
each_set P [] i y all here j x e = all j x e
each_set P (z ∷ xs) zero y all here zero x e = subst P (same_Some y x e) here
each_set P (z ∷ xs) zero y all here (suc j) x e = all (suc j) x e
each_set P (z ∷ xs) (suc i) y all here zero x e = all zero x e
each_set P (z ∷ xs) (suc i) y all here (suc j) x e = each_set P xs i y (λ k w f. all (suc k) w f) here j x e

take_nil : {X : Type 0} (n : ℕ) → [] ≡ take {A = X} n []
take_nil zero = refl
take_nil (suc n) = refl

-- one more, and of so many
kept_more : (n : ℕ) (x : Keyframe) (xs : List Keyframe) → 0 < n → x ∷ take (n - 1) (take n xs) ≡ take n (x ∷ xs)
kept_more zero x xs some = absurd (omega arith)
kept_more (suc n) x xs some =
    let e : suc n - 1 ≡ n = omega arith in
    ap (λ k. x ∷ take k (take (suc n) xs)) e ∙ ap (λ l. x ∷ l) (take-take n (suc n) xs (omega arith))

-- ---- a slot

-- a copy begins
pub begins : (depth fields : ℕ) (s : SlotKept) (log : List Told) (slot packet kind : ℕ) → SlotStandsFor depth fields s log
    → SlotStandsFor depth fields (record { kind = Some kind; end = None; fields = map emptied s.fields }) (record { slot = slot; packet = packet; what = Began kind } ∷ log)
begins depth fields s log slot packet kind h = record {
  kind_is = refl;
  end_is = refl;
  count_is = length-map s.fields emptied ∙ h.count_is;
  frames_are = λ f less. slice_get-map emptied s.fields f ∙ ap (option_map emptied) (h.frames_are f less) ∙ ap (λ l. Some (kept_of depth l)) (take_nil depth);
}

-- a value comes
came_at : (depth : ℕ) (xs : List Kept) (field f packet : ℕ) (value : ℤ) (k : Kept) (before : List Keyframe) → (field ≡ f) ⊎ (field ≡ f → ⊥) → 0 < depth
    → slice_get xs field ≡ Some k → slice_get xs f ≡ Some (kept_of depth (take depth before))
    → slice_get (slice_set xs field (with_frame (frame_of packet value) k)) f ≡ Some (kept_of depth (take depth (cond (field == f) (frame_of packet value ∷ before) before)))
came_at depth xs field f packet value k before (inl e) some here there =
    let t : (field == f) ≡ true = eq-eqb field f e in
    let same : k ≡ kept_of depth (take depth before) = same_Some k (kept_of depth (take depth before)) (sym here ∙ ap (slice_get xs) e ∙ there) in
    let frame = frame_of packet value in
    rw t (ap (slice_get (slice_set xs field (with_frame frame k))) (sym e) ∙ at_set xs field k (with_frame frame k) here ∙ ap (λ (q : Kept). Some (with_frame frame q)) same
    ∙ ap (λ l. Some (kept_of depth l)) (kept_more depth frame before some))
came_at depth xs field f packet value k before (inr ne) some here there =
    let t : (field == f) ≡ false = ne_eqb field f ne in
    rw t (off_set xs field f (with_frame (frame_of packet value) k) (λ e. ne (sym e)) ∙ there)

pub comes : (depth fields : ℕ) (s : SlotKept) (log : List Told) (slot packet field : ℕ) (value : ℤ) (k : Kept) → 0 < depth → slice_get s.fields field ≡ Some k
    → SlotStandsFor depth fields s log
    → SlotStandsFor depth fields (record s { fields = slice_set s.fields field (with_frame (frame_of packet value) k) })
    (record { slot = slot; packet = packet; what = Came field value } ∷ log)
comes depth fields s log slot packet field value k some here h = record {
  kind_is = h.kind_is;
  end_is = h.end_is;
  count_is = length-set s.fields field (with_frame (frame_of packet value) k) ∙ h.count_is;
  frames_are = λ f less. came_at depth s.fields field f packet value k (frames_of f log) (cases_eq field f) some here (h.frames_are f less);
}

-- the copy is gone
pub ends : (depth fields : ℕ) (s : SlotKept) (log : List Told) (slot packet : ℕ) → SlotStandsFor depth fields s log
    → SlotStandsFor depth fields (record s { end = Some packet }) (record { slot = slot; packet = packet; what = Ended } ∷ log)
ends depth fields s log slot packet h = record { kind_is = h.kind_is; end_is = refl; count_is = h.count_is; frames_are = h.frames_are }

-- ---- all slots

told_here : (told : Told) (log : List Told) (slot : ℕ) → told.slot ≡ slot → told_of slot (told ∷ log) ≡ told ∷ told_of slot log
told_here told log slot e = let t : (told.slot == slot) ≡ true = eq-eqb told.slot slot e in rw t refl

told_elsewhere : (told : Told) (log : List Told) (slot : ℕ) → (told.slot ≡ slot → ⊥) → told_of slot (told ∷ log) ≡ told_of slot log
told_elsewhere told log slot ne = let t : (told.slot == slot) ≡ false = ne_eqb told.slot slot ne in rw t refl

slot_stands : (t : Drawing) (log : List Told) (told : Told) (x y : SlotKept) (slot : ℕ) (s : SlotKept) → (told.slot ≡ slot) ⊎ (told.slot ≡ slot → ⊥) → StandsFor t log
    → slice_get t.slots told.slot ≡ Some x → ((l : List Told) → SlotStandsFor t.depth t.fields x l → SlotStandsFor t.depth t.fields y (told ∷ l))
    → slice_get (slice_set t.slots told.slot y) slot ≡ Some s → SlotStandsFor t.depth t.fields s (told_of slot (told ∷ log))
slot_stands t log told x y slot s (inl e) h here step is =
    let same : y ≡ s = same_Some y s (sym (at_set t.slots told.slot x y here) ∙ ap (slice_get (slice_set t.slots told.slot y)) e ∙ is) in
    let here_too : slice_get t.slots slot ≡ Some x = ap (slice_get t.slots) (sym e) ∙ here in
    subst (λ l. SlotStandsFor t.depth t.fields s l) (sym (told_here told log slot e))
    (subst (λ (z : SlotKept). SlotStandsFor t.depth t.fields z (told ∷ told_of slot log)) same (step (told_of slot log) (h.slots_are slot x here_too)))
slot_stands t log told x y slot s (inr ne) h here step is =
    subst (λ l. SlotStandsFor t.depth t.fields s l) (sym (told_elsewhere told log slot ne))
    (h.slots_are slot s (sym (off_set t.slots told.slot slot y (λ e. ne (sym e))) ∙ is))

pub told_stands : (t : Drawing) (log : List Told) (told : Told) (x y : SlotKept) → StandsFor t log → slice_get t.slots told.slot ≡ Some x
    → ((l : List Told) → SlotStandsFor t.depth t.fields x l → SlotStandsFor t.depth t.fields y (told ∷ l))
    → StandsFor (record t { latest = told.packet; slots = slice_set t.slots told.slot y }) (told ∷ log)
told_stands t log told x y h here step = record {
  latest_is = refl;
  slots_are = λ slot s is. slot_stands t log told x y slot s (cases_eq told.slot slot) h here step is;
}

-- nothing was told
none_told : (slot : ℕ) → told_of slot [] ≡ []
none_told slot = refl

fresh_stands : (depth fields : ℕ) → SlotStandsFor depth fields (fresh fields depth) []
fresh_stands depth fields = record {
  kind_is = refl;
  end_is = refl;
  count_is = length-replicate fields (no_frames depth);
  frames_are = λ f less. at_replicate fields f (no_frames depth) less ∙ ap (λ l. Some (kept_of depth l)) (take_nil depth);
}

pub new_stands : (t : Drawing) (n : ℕ) → t.latest ≡ 0 → t.slots ≡ replicate n (fresh t.fields t.depth) → StandsFor t []
new_stands t n latest slots = record {
  latest_is = latest;
  slots_are = λ slot s is.
      let same : s ≡ fresh t.fields t.depth = of_replicate n slot (fresh t.fields t.depth) s (ap (λ l. slice_get l slot) (sym slots) ∙ is) in
      subst (λ (z : SlotKept). SlotStandsFor t.depth t.fields z []) (sym same) (fresh_stands t.depth t.fields);
}

pub new_whole : (fields depth n : ℕ) (slots : List SlotKept) → fields ≤ 16 → 0 < depth → slots ≡ replicate n (fresh fields depth) → IsWhole fields depth slots
new_whole fields depth n slots few some is = record {
  few = few;
  some = some;
  each = λ slot s at.
      let same : s ≡ fresh fields depth = of_replicate n slot (fresh fields depth) s (ap (λ l. slice_get l slot) (sym is) ∙ at) in
      ap (λ (z : SlotKept). length z.fields) same ∙ length-replicate fields (no_frames depth);
}

pub set_whole : (fields depth i : ℕ) (slots : List SlotKept) (y : SlotKept) → length y.fields ≡ fields → IsWhole fields depth slots → IsWhole fields depth (slice_set slots i y)
set_whole fields depth i slots y count w = record {
  few = w.few;
  some = w.some;
  each = each_set (λ (s : SlotKept). length s.fields ≡ fields) slots i y w.each count;
}
