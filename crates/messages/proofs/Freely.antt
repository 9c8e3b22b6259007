-- No parcel's pieces begin another parcel's: so a list of pieces is that of one list of parcels at most.
use Rattle.std.proofs.Common.{◌≡◌, ℕ, zero, suc, ◌-◌, ◌/◌, ◌%◌, List, [], ◌∷◌, ◌++◌, length, take, drop, refl, sym, ◌∙◌, ap, subst, arith, inl, inr, length-append, length-drop, append_assoc}
use Rattle.std.proofs.lemmas.Bool.{cases_lt}
use Rattle.std.proofs.lemmas.List.{take-append-drop}
use Rattle.messages.specs.declared.form.ParcelKind.{ParcelKind}
use Rattle.messages.specs.declared.form.ParcelKind.TheVariants.{Event, Message}
use Rattle.messages.specs.Pieces.{Parcel, rest_pieces, rest_of, first_piece, pieces_by, pieces_of, all_pieces}
use Rattle.messages.specs.InboxStands.{IsBegun, middle_pieces}
use Rattle.messages.proofs.CutPieces.{event-pieces, short-message, long-message, length-rest}

-- ---- what is left after the first piece

rest-free-by : (k : ℕ) (xs ys : List ℕ) (X Y : List (List ℕ)) → length xs ≡ length ys → rest_pieces k xs ++ X ≡ rest_pieces k ys ++ Y → (xs ≡ ys) × (X ≡ Y)
rest-free-by zero xs ys X Y l e = (cc, cc)
rest-free-by (suc k) xs ys X Y l e =
    let front : take 23 xs ≡ take 23 ys = cc in
    let tail : rest_pieces k (drop 23 xs) ++ X ≡ rest_pieces k (drop 23 ys) ++ Y = cc in
    let r = rest-free-by k (drop 23 xs) (drop 23 ys) X Y (omega (arith, length-drop 23 xs, length-drop 23 ys)) tail in
    let back : drop 23 xs ≡ drop 23 ys = r.0 in
    (sym (take-append-drop 23 xs) ∙ ap (λ (t : List ℕ). t ++ drop 23 xs) front ∙ ap (λ (t : List ℕ). take 23 ys ++ t) back ∙ take-append-drop 23 ys, r.1)

rest-free : (xs ys : List ℕ) (X Y : List (List ℕ)) → length xs ≡ length ys → rest_of xs ++ X ≡ rest_of ys ++ Y → (xs ≡ ys) × (X ≡ Y)
unfolding rest_of
rest-free xs ys X Y l e =
    let e2 : rest_pieces ((length ys - 1) / 23) xs ++ X ≡ rest_pieces ((length ys - 1) / 23) ys ++ Y = subst (λ (n : ℕ). rest_pieces ((n - 1) / 23) xs ++ X ≡ rest_of ys ++ Y) l e in
    rest-free-by _ xs ys X Y l e2

-- ---- messages

pub same-length : (m n : ℕ) → m % 256 ≡ n % 256 → m / 256 ≡ n / 256 → m ≡ n
same-length m n low high = omega arith

long-free : (xs ys : List ℕ) (X Y : List (List ℕ)) → (first_piece (length xs) xs ∷ rest_of (drop 21 xs)) ++ X ≡ (first_piece (length ys) ys ∷ rest_of (drop 21 ys)) ++ Y
    → (xs ≡ ys) × (X ≡ Y)
long-free xs ys X Y e =
    let low : length xs % 256 ≡ length ys % 256 = cc in
    let high : length xs / 256 ≡ length ys / 256 = cc in
    let l : length xs ≡ length ys = same-length _ _ low high in
    let front : take 21 xs ≡ take 21 ys = cc in
    let tail : rest_of (drop 21 xs) ++ X ≡ rest_of (drop 21 ys) ++ Y = cc in
    let r = rest-free (drop 21 xs) (drop 21 ys) X Y (omega (arith, length-drop 21 xs, length-drop 21 ys)) tail in
    let back : drop 21 xs ≡ drop 21 ys = r.0 in
    (sym (take-append-drop 21 xs) ∙ ap (λ (t : List ℕ). t ++ drop 21 xs) front ∙ ap (λ (t : List ℕ). take 21 ys ++ t) back ∙ take-append-drop 21 ys, r.1)

-- the first bytes of the first pieces are the same
pub heads : (a b : ℕ) (x y : List ℕ) (X Y : List (List ℕ)) → (a ∷ x) ∷ X ≡ (b ∷ y) ∷ Y → a ≡ b
heads a b x y X Y e = cc

message-free : (xs ys : List ℕ) (X Y : List (List ℕ)) → pieces_by Message xs ++ X ≡ pieces_by Message ys ++ Y → (xs ≡ ys) × (X ≡ Y)
message-free xs ys X Y e = elim (cases_lt 23 (length xs)) [
  | inl lx ↦ elim (cases_lt 23 (length ys)) [
    | inl ly ↦ long-free xs ys X Y (ap (λ (t : List (List ℕ)). t ++ X) (sym (long-message xs lx)) ∙ e ∙ ap (λ (t : List (List ℕ)). t ++ Y) (long-message ys ly))
    | inr ly ↦ (let t : (first_piece (length xs) xs ∷ rest_of (drop 21 xs)) ++ X ≡ ((1 ∷ ys) ∷ []) ++ Y = ap (λ (t : List (List ℕ)). t ++ X) (sym (long-message xs lx)) ∙ e ∙ ap (λ (t : List (List ℕ)). t ++ Y) (short-message ys ly) in
        absurd (omega (arith, heads 2 1 _ _ _ _ t)))
  ]
  | inr lx ↦ elim (cases_lt 23 (length ys)) [
    | inl ly ↦ (let t : ((1 ∷ xs) ∷ []) ++ X ≡ (first_piece (length ys) ys ∷ rest_of (drop 21 ys)) ++ Y = ap (λ (t : List (List ℕ)). t ++ X) (sym (short-message xs lx)) ∙ e ∙ ap (λ (t : List (List ℕ)). t ++ Y) (long-message ys ly) in
        absurd (omega (arith, heads 1 2 _ _ _ _ t)))
    | inr ly ↦ (let t : ((1 ∷ xs) ∷ []) ++ X ≡ ((1 ∷ ys) ∷ []) ++ Y = ap (λ (t : List (List ℕ)). t ++ X) (sym (short-message xs lx)) ∙ e ∙ ap (λ (t : List (List ℕ)). t ++ Y) (short-message ys ly) in
        (cc, cc))
  ]
]

-- ---- parcels: the first byte of the first piece tells an event from a message

-- the first piece of a message, and the others
pub record HasFirst (xs : List ℕ) : Type 0 where
  pub form : ℕ
  pub bytes : List ℕ
  pub others : List (List ℕ)
  pub are : pieces_by Message xs ≡ (suc form ∷ bytes) ∷ others

message-first : (xs : List ℕ) → HasFirst xs
message-first xs = elim (cases_lt 23 (length xs)) [
  | inl l ↦ record { form = 1; bytes = length xs % 256 ∷ length xs / 256 ∷ take 21 xs; others = rest_of (drop 21 xs); are = long-message xs l }
  | inr l ↦ record { form = 0; bytes = xs; others = []; are = short-message xs l }
]

pub pieces-some : (kind : ParcelKind) (xs : List ℕ) (X : List (List ℕ)) → pieces_by kind xs ++ X ≡ [] → ⊥
pieces-some Event xs X e = let t : ((0 ∷ xs) ∷ []) ++ X ≡ [] = ap (λ (t : List (List ℕ)). t ++ X) (sym (event-pieces xs)) ∙ e in absurd cc
pieces-some Message xs X e =
    let f = message-first xs in
    let t : ((suc f.form ∷ f.bytes) ∷ f.others) ++ X ≡ [] = ap (λ (t : List (List ℕ)). t ++ X) (sym f.are) ∙ e in absurd cc

event-message : (xs ys : List ℕ) (X Y : List (List ℕ)) → pieces_by Event xs ++ X ≡ pieces_by Message ys ++ Y → ⊥
event-message xs ys X Y e =
    let f = message-first ys in
    let t : ((0 ∷ xs) ∷ []) ++ X ≡ ((suc f.form ∷ f.bytes) ∷ f.others) ++ Y = ap (λ (t : List (List ℕ)). t ++ X) (sym (event-pieces xs)) ∙ e ∙ ap (λ (t : List (List ℕ)). t ++ Y) f.are in
    let no2 : 0 ≡ suc f.form = cc in absurd (omega arith)

kinds-free : (j k : ParcelKind) (xs ys : List ℕ) (X Y : List (List ℕ)) → pieces_by j xs ++ X ≡ pieces_by k ys ++ Y → (j ≡ k) × (xs ≡ ys) × (X ≡ Y)
kinds-free Event Event xs ys X Y e =
    let t : ((0 ∷ xs) ∷ []) ++ X ≡ ((0 ∷ ys) ∷ []) ++ Y = ap (λ (t : List (List ℕ)). t ++ X) (sym (event-pieces xs)) ∙ e ∙ ap (λ (t : List (List ℕ)). t ++ Y) (event-pieces ys) in
    (refl, cc, cc)
kinds-free Event Message xs ys X Y e = absurd (event-message xs ys X Y e)
kinds-free Message Event xs ys X Y e = absurd (event-message ys xs Y X (sym e))
kinds-free Message Message xs ys X Y e = let r = message-free xs ys X Y e in (refl, r.0, r.1)

pub pieces-free : (p q : Parcel) (X Y : List (List ℕ)) → pieces_of p ++ X ≡ pieces_of q ++ Y → (p ≡ q) × (X ≡ Y)
pieces-free p q X Y e =
    let r = kinds-free p.kind q.kind p.bytes q.bytes X Y e in
    let kind : p.kind ≡ q.kind = r.0 in
    let bytes : p.bytes ≡ q.bytes = r.1 in
    let of_kind : ParcelKind → Parcel = λ k. record { kind = k; bytes = p.bytes } in
    let of_bytes : List ℕ → Parcel = λ b. record { kind = q.kind; bytes = b } in
    let same : p ≡ q = ap of_kind kind ∙ ap of_bytes bytes in
    (same, r.2)

-- ---- lists of parcels

pub record IsStripped (hs ps : List Parcel) (W : List (List ℕ)) : Type 0 where
  pub others : List Parcel
  pub parcels : hs ++ others ≡ ps
  pub pieces : W ≡ all_pieces others

pub strip : (hs ps : List Parcel) (W : List (List ℕ)) → all_pieces hs ++ W ≡ all_pieces ps → IsStripped hs ps W
strip [] ps W e = record { others = ps; parcels = refl; pieces = e }
strip (h ∷ hs) [] W e = absurd (pieces-some h.kind h.bytes (all_pieces hs ++ W) (sym (append_assoc (pieces_of h) (all_pieces hs) W) ∙ e))
strip (h ∷ hs) (p ∷ ps) W e =
    let r = pieces-free h p (all_pieces hs ++ W) (all_pieces ps) (sym (append_assoc (pieces_of h) (all_pieces hs) W) ∙ e) in
    let s = strip hs ps W r.1 in
    let same : h ≡ p = r.0 in
    record { others = s.others; parcels = ap (λ (t : Parcel). t ∷ hs ++ s.others) same ∙ ap (λ (t : List Parcel). p ∷ t) s.parcels; pieces = s.pieces }

-- no whole parcel is at the front of these pieces
abbrev pub IsPart : List (List ℕ) → Type 0
IsPart pieces = (p : Parcel) (X : List (List ℕ)) → pieces ≡ pieces_of p ++ X → ⊥

pub parcels-same : (ps qs : List Parcel) (X Y : List (List ℕ)) → IsPart X → IsPart Y → all_pieces ps ++ X ≡ all_pieces qs ++ Y → ps ≡ qs
parcels-same [] [] X Y f g e = refl
parcels-same [] (q ∷ qs) X Y f g e = absurd (f q (all_pieces qs ++ Y) (e ∙ append_assoc (pieces_of q) (all_pieces qs) Y))
parcels-same (p ∷ ps) [] X Y f g e = absurd (g p (all_pieces ps ++ X) (sym e ∙ append_assoc (pieces_of p) (all_pieces ps) X))
parcels-same (p ∷ ps) (q ∷ qs) X Y f g e =
    let r = pieces-free p q (all_pieces ps ++ X) (all_pieces qs ++ Y) (sym (append_assoc (pieces_of p) (all_pieces ps) X) ∙ e ∙ append_assoc (pieces_of q) (all_pieces qs) Y) in
    let same : p ≡ q = r.0 in
    ap (λ (t : Parcel). t ∷ ps) same ∙ ap (λ (t : List Parcel). q ∷ t) (parcels-same ps qs X Y f g r.1)

-- ---- a message that is begun is not whole

length-middle : (k : ℕ) (xs : List ℕ) → length (middle_pieces k xs) ≡ k
length-middle zero xs = refl
length-middle (suc k) xs = ap suc (length-middle k (drop 23 xs))

begun-long : (n : ℕ) (bytes : List ℕ) (pieces : List (List ℕ)) (ys : List ℕ) (X : List (List ℕ)) → IsBegun n bytes pieces
    → pieces ≡ (first_piece (length ys) ys ∷ rest_of (drop 21 ys)) ++ X → ⊥
begun-long n bytes pieces ys X h e =
    let t : first_piece n bytes ∷ middle_pieces h.more (drop 21 bytes) ≡ first_piece (length ys) ys ∷ (rest_of (drop 21 ys) ++ X) = sym h.are ∙ e in
    let low : n % 256 ≡ length ys % 256 = cc in
    let high : n / 256 ≡ length ys / 256 = cc in
    let l : n ≡ length ys = same-length _ _ low high in
    let tail : middle_pieces h.more (drop 21 bytes) ≡ rest_of (drop 21 ys) ++ X = cc in
    let counts : length (middle_pieces h.more (drop 21 bytes)) ≡ length (rest_of (drop 21 ys) ++ X) = ap length tail in
    omega (arith, counts, length-middle h.more (drop 21 bytes), length-append (rest_of (drop 21 ys)) X, length-rest (drop 21 ys), length-drop 21 ys, h.count, h.open_end)

begun-by : (n : ℕ) (bytes : List ℕ) (pieces : List (List ℕ)) (kind : ParcelKind) (ys : List ℕ) (X : List (List ℕ)) → IsBegun n bytes pieces → pieces ≡ pieces_by kind ys ++ X → ⊥
begun-by n bytes pieces Event ys X h e =
    let t : first_piece n bytes ∷ middle_pieces h.more (drop 21 bytes) ≡ ((0 ∷ ys) ∷ []) ++ X = sym h.are ∙ e ∙ ap (λ (t : List (List ℕ)). t ++ X) (event-pieces ys) in
    absurd (omega (arith, heads 2 0 _ _ _ _ t))
begun-by n bytes pieces Message ys X h e = elim (cases_lt 23 (length ys)) [
  | inl l ↦ begun-long n bytes pieces ys X h (e ∙ ap (λ (t : List (List ℕ)). t ++ X) (long-message ys l))
  | inr l ↦ (let t : first_piece n bytes ∷ middle_pieces h.more (drop 21 bytes) ≡ ((1 ∷ ys) ∷ []) ++ X = sym h.are ∙ e ∙ ap (λ (t : List (List ℕ)). t ++ X) (short-message ys l) in
      absurd (omega (arith, heads 2 1 _ _ _ _ t)))
]

pub begun-part : (n : ℕ) (bytes : List ℕ) (pieces : List (List ℕ)) → IsBegun n bytes pieces → IsPart pieces
begun-part n bytes pieces h p X e = begun-by n bytes pieces p.kind p.bytes X h e

pub nil-part : IsPart []
nil-part p X e = pieces-some p.kind p.bytes X (sym e)
