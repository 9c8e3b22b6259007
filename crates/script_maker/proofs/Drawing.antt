-- Lists that are drawn one behind another.
use Rattle.std.proofs.Common.{◌≡◌, ℕ, zero, suc, ◌+◌, ◌<◌, ◌≤◌, List, [], ◌∷◌, ◌++◌, length, take, ◌-◌, refl, sym, ap, subst, ◌∙◌, append_assoc, add-one, arith}
use Rattle.std.proofs.Math.Nat.{zero-add, suc-add}
use Rattle.std.specs.List.{All}
use Rattle.std.proofs.lemmas.List.{append-nil, take-append-le}
use Rattle.std.proofs.lemmas.List.Elements.{All-nil, All-append}
use Rattle.rand_pcg.specs.Lcg.{Lcg}
use Rattle.script_maker.specs.Draws.{Drawn, draw, each_below}
use Rattle.script_maker.specs.Adding.{Adds}

pub draw_below : (n : ℕ) (g : Lcg) → 0 < n → (draw n g).0 < n
unfolding draw
draw_below n g h = omega arith

pub adds_nothing : {A : Type 0} (f : ℕ → Drawn (List A)) (old : List A) (g : Lcg) → Adds (each_below 0 f) old g old g
unfolding each_below
adds_nothing f old g = record { items = sym (append-nil old); generator = refl }

pub adds_next : {A : Type 0} (f : ℕ → Drawn (List A)) (n : ℕ) (old mid new : List A) (g h k : Lcg)
    → Adds (each_below n f) old g mid h → Adds (f n) mid h new k → Adds (each_below (n + 1) f) old g new k
unfolding each_below
adds_next f n old mid new g h k before next =
    let e = each_below n f g in
    let joined : (old ++ e.0) ++ (f n e.1).0 ≡ old ++ (e.0 ++ (f n e.1).0) = append_assoc old e.0 (f n e.1).0 in
    rw add-one (record { items = cc; generator = cc })

-- one further element
pub adds_one : {A : Type 0} (f : ℕ → Drawn (List A)) (n : ℕ) (old mid new : List A) (x : A) (g h k : Lcg)
    → Adds (each_below n f) old g mid h → new ≡ mid ++ x ∷ [] → (x ∷ [], k) ≡ f n h → Adds (each_below (n + 1) f) old g new k
adds_one f n old mid new x g h k before more drawn =
    adds_next f n old mid new g h k before (record { items = cc; generator = cc })

-- what is drawn first stands in front
pub front_stays : {A : Type 0} (f : ℕ → Drawn (List A)) (g : Lcg) (k j : ℕ)
    → (rest : List A) × ((each_below (j + k) f g).0 ≡ (each_below k f g).0 ++ rest)
unfolding each_below
front_stays f g k zero = ([], rw zero-add (sym (append-nil (each_below k f g).0)))
front_stays f g k (suc j) =
    let w = front_stays f g k j in
    let next = (f (j + k) (each_below (j + k) f g).1).0 in
    (w.0 ++ next, rw suc-add (ap (λ xs. xs ++ next) w.1 ∙ append_assoc (each_below k f g).0 w.0 next))

-- where some rounds have so many lines, more of them have the same first lines
pub same_first : {A : Type 0} (f : ℕ → Drawn (List A)) (g : Lcg) (n k m : ℕ) → k ≤ m → n ≤ length (each_below k f g).0
    → take n (each_below k f g).0 ≡ take n (each_below m f g).0
same_first f g n k m least long =
    let w = front_stays f g k (m - k) in
    let same : (m - k) + k ≡ m = omega arith in
    let whole : (each_below m f g).0 ≡ (each_below k f g).0 ++ w.0 = subst (λ (x : ℕ). (each_below x f g).0 ≡ (each_below k f g).0 ++ w.0) same w.1 in
    rw whole (sym (take-append-le n (each_below k f g).0 w.0 long))

pub all_drawn : {A : Type 0} (P : A → Type 0) (f : ℕ → Drawn (List A)) (n : ℕ) (g : Lcg)
    → ((i : ℕ) (h : Lcg) → i < n → All P (f i h).0) → All P (each_below n f g).0
unfolding each_below
all_drawn P f zero g each = All-nil P
all_drawn P f (suc n) g each =
    All-append P _ _ (all_drawn P f n g (λ i h l. each i h (omega arith))) (each n _ (omega arith))
