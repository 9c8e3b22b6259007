-- What an honest end sends next is no fault.
use Rattle.std.proofs.Common.{◌≡◌, ℕ, zero, suc, ◌+◌, ◌-◌, ◌*◌, ◌/◌, ◌%◌, ◌<◌, ◌≤◌, false, List, [], ◌∷◌, ◌++◌, length, take, drop, refl, sym, ◌∙◌, ap, subst, arith, inl, inr, length-drop, length-take, append_assoc}
use Rattle.std.specs.Prelude.{None, nat_le, nat_lt}
use Rattle.std.proofs.lemmas.Bool.{cases_lt}
use Rattle.std.proofs.lemmas.Bool.Decides.{nat_tests}
use Rattle.messages.specs.declared.form.Form.TheVariants.{Middle, Last}
use Rattle.messages.specs.declared.form.ParcelKind.{ParcelKind}
use Rattle.messages.specs.declared.form.ParcelKind.TheVariants.{Event, Message}
use Rattle.messages.specs.declared.inbox.Stage.{Stage}
use Rattle.messages.specs.declared.inbox.Stage.TheVariants.{Idle, Begun, Whole}
use Rattle.messages.specs.Pieces.{Parcel, rest_of, first_piece, pieces_by, all_pieces}
use Rattle.messages.specs.InboxState.{InboxState, parcel_at, piece_fault, first_fault, long_fault, more_fault}
use Rattle.messages.specs.InboxStands.{InboxEvent, InboxStandsFor, IsBegun, ComesTo, middle_pieces, took_of, handed_out}
use Rattle.messages.specs.Laws.{HaveRoom}
use Rattle.tn_types.specs.Prefix.{IsPrefixOf}
use Rattle.messages.proofs.CutPieces.{event-pieces, short-message, long-message, rest-more, rest-last}
use Rattle.messages.proofs.Freely.{same-length, heads, strip}

-- ---- where nothing is begun

room-fine : (n room : ℕ) → n ≤ room → long_fault n room ≡ None
room-fine n room h = let t : nat_lt room n ≡ false = grind (arith, nat_tests) in rw t

first-fine : (ys : List ℕ) (room : ℕ) → 23 < length ys → length ys ≤ room → first_fault (length ys % 256 + 256 * (length ys / 256)) (length (take 21 ys)) room ≡ None
first-fine ys room long h =
    let whole : length ys % 256 + 256 * (length ys / 256) ≡ length ys = omega arith in
    let enough : length (take 21 ys) ≡ 21 = omega (arith, length-take 21 ys) in
    let t : nat_le (length ys) 23 ≡ false = grind (arith, nat_tests) in
    rw (whole, enough, t) (room-fine (length ys) room h)

-- a piece with which these pieces begin, at this stage
idle-fine : (b : InboxState) (piece : List ℕ) (Z : List (List ℕ)) (kind : ParcelKind) (ys : List ℕ) (X : List (List ℕ)) → b.stage ≡ Idle → length ys ≤ b.room
    → piece ∷ Z ≡ pieces_by kind ys ++ X → piece_fault piece b ≡ None
idle-fine b piece Z Event ys X idle h e =
    let t : piece ∷ Z ≡ ((0 ∷ ys) ∷ []) ++ X = e ∙ ap (λ (t : List (List ℕ)). t ++ X) (event-pieces ys) in
    let same : piece ≡ 0 ∷ ys = cc in
    rw (same, idle) (room-fine (length ys) b.room h)
idle-fine b piece Z Message ys X idle h e = elim (cases_lt 23 (length ys)) [
  | inl l ↦ (let t : piece ∷ Z ≡ (first_piece (length ys) ys ∷ rest_of (drop 21 ys)) ++ X = e ∙ ap (λ (t : List (List ℕ)). t ++ X) (long-message ys l) in
      let same : piece ≡ first_piece (length ys) ys = cc in
      rw (same, idle) (first-fine ys b.room l h))
  | inr l ↦ (let t : piece ∷ Z ≡ ((1 ∷ ys) ∷ []) ++ X = e ∙ ap (λ (t : List (List ℕ)). t ++ X) (short-message ys l) in
      let same : piece ≡ 1 ∷ ys = cc in
      rw (same, idle) (room-fine (length ys) b.room h))
]

-- ---- where a message is begun

middle-fine : (count left : ℕ) → count ≡ 23 → 23 < left → more_fault Middle count left ≡ None
middle-fine count left c l =
    let t : nat_le left 23 ≡ false = grind (arith, nat_tests) in
    let u : nat_lt count 23 ≡ false = grind (arith, nat_tests) in
    rw (t, u)

last-fine : (count left : ℕ) → count ≡ left → more_fault Last count left ≡ None
last-fine count left c =
    let t : nat_lt left count ≡ false = grind (arith, nat_tests) in
    let u : nat_lt count left ≡ false = grind (arith, nat_tests) in
    rw (t, u)

middle-piece : (b : InboxState) (n : ℕ) (piece ys : List ℕ) → b.stage ≡ Begun n → piece ≡ 3 ∷ ys → length ys ≡ 23 → 23 < n - length b.gathered → piece_fault piece b ≡ None
middle-piece b n piece ys begun e c l = rw (e, begun) (middle-fine (length ys) (n - length b.gathered) c l)

last-piece : (b : InboxState) (n : ℕ) (piece ys : List ℕ) → b.stage ≡ Begun n → piece ≡ 4 ∷ ys → length ys ≡ n - length b.gathered → piece_fault piece b ≡ None
last-piece b n piece ys begun e c = rw (e, begun) (last-fine (length ys) (n - length b.gathered) c)

-- after so many whole pieces of what the first one leaves
rest-fine : (b : InboxState) (n more : ℕ) (piece : List ℕ) (Z : List (List ℕ)) (gs zs : List ℕ) (X : List (List ℕ)) → b.stage ≡ Begun n
    → 23 * more < length zs → length zs ≡ 23 * more + (n - length b.gathered)
    → middle_pieces more gs ++ piece ∷ Z ≡ rest_of zs ++ X → piece_fault piece b ≡ None
rest-fine b n zero piece Z gs zs X begun less left e = elim (cases_lt 23 (length zs)) [
  | inl l ↦ (let t : piece ∷ Z ≡ ((3 ∷ take 23 zs) ∷ rest_of (drop 23 zs)) ++ X = e ∙ ap (λ (t : List (List ℕ)). t ++ X) (rest-more zs l) in
      let same : piece ≡ 3 ∷ take 23 zs = cc in
      middle-piece b n piece (take 23 zs) begun same (omega (arith, length-take 23 zs)) (omega arith))
  | inr l ↦ (let t : piece ∷ Z ≡ ((4 ∷ zs) ∷ []) ++ X = e ∙ ap (λ (t : List (List ℕ)). t ++ X) (rest-last zs l) in
      let same : piece ≡ 4 ∷ zs = cc in
      last-piece b n piece zs begun same (omega arith))
]
rest-fine b n (suc more) piece Z gs zs X begun less left e =
    let t : (3 ∷ take 23 gs) ∷ (middle_pieces more (drop 23 gs) ++ piece ∷ Z) ≡ (3 ∷ take 23 zs) ∷ (rest_of (drop 23 zs) ++ X) =
    e ∙ ap (λ (t : List (List ℕ)). t ++ X) (rest-more zs (omega arith)) in
    let tail : middle_pieces more (drop 23 gs) ++ piece ∷ Z ≡ rest_of (drop 23 zs) ++ X = cc in
    rest-fine b n more piece Z (drop 23 gs) (drop 23 zs) X begun (omega (arith, length-drop 23 zs)) (omega (arith, length-drop 23 zs)) tail

begun-fine : (b : InboxState) (n : ℕ) (last : List (List ℕ)) (piece : List ℕ) (Z : List (List ℕ)) (kind : ParcelKind) (ys : List ℕ) (X : List (List ℕ)) → b.stage ≡ Begun n
    → IsBegun n b.gathered last → last ++ piece ∷ Z ≡ pieces_by kind ys ++ X → piece_fault piece b ≡ None
begun-fine b n last piece Z Event ys X begun h e =
    let t : first_piece n b.gathered ∷ (middle_pieces h.more (drop 21 b.gathered) ++ piece ∷ Z) ≡ ((0 ∷ ys) ∷ []) ++ X =
    ap (λ (t : List (List ℕ)). t ++ piece ∷ Z) (sym h.are) ∙ e ∙ ap (λ (t : List (List ℕ)). t ++ X) (event-pieces ys) in
    absurd (omega (arith, heads 2 0 _ _ _ _ t))
begun-fine b n last piece Z Message ys X begun h e = elim (cases_lt 23 (length ys)) [
  | inl l ↦ (let t : first_piece n b.gathered ∷ (middle_pieces h.more (drop 21 b.gathered) ++ piece ∷ Z) ≡ first_piece (length ys) ys ∷ (rest_of (drop 21 ys) ++ X) =
      ap (λ (t : List (List ℕ)). t ++ piece ∷ Z) (sym h.are) ∙ e ∙ ap (λ (t : List (List ℕ)). t ++ X) (long-message ys l) in
      let low : n % 256 ≡ length ys % 256 = cc in
      let high : n / 256 ≡ length ys / 256 = cc in
      let same : n ≡ length ys = same-length _ _ low high in
      let tail : middle_pieces h.more (drop 21 b.gathered) ++ piece ∷ Z ≡ rest_of (drop 21 ys) ++ X = cc in
      rest-fine b n h.more piece Z (drop 21 b.gathered) (drop 21 ys) X begun (omega (arith, length-drop 21 ys, h.count, h.open_end)) (omega (arith, length-drop 21 ys, h.count, h.open_end)) tail)
  | inr l ↦ (let t : first_piece n b.gathered ∷ (middle_pieces h.more (drop 21 b.gathered) ++ piece ∷ Z) ≡ ((1 ∷ ys) ∷ []) ++ X =
      ap (λ (t : List (List ℕ)). t ++ piece ∷ Z) (sym h.are) ∙ e ∙ ap (λ (t : List (List ℕ)). t ++ X) (short-message ys l) in
      absurd (omega (arith, heads 2 1 _ _ _ _ t)))
]

-- ---- both

have-room : (room : ℕ) (ps qs all : List Parcel) → ps ++ qs ≡ all → HaveRoom room all → HaveRoom room qs
have-room room [] qs all e h = subst (λ (t : List Parcel). HaveRoom room t) (sym e) h
have-room room (p ∷ ps) qs [] e h = absurd cc
have-room room (p ∷ ps) qs (a ∷ all) e h = let tail : ps ++ qs ≡ all = cc in have-room room ps qs all tail h.1

at_stage-fine : (b : InboxState) (stage : Stage) (last : List (List ℕ)) (piece : List ℕ) (Z : List (List ℕ)) (qs : List Parcel) → b.stage ≡ stage
    → parcel_at stage b.gathered ≡ None → ComesTo stage b.gathered last → HaveRoom b.room qs → last ++ piece ∷ Z ≡ all_pieces qs → piece_fault piece b ≡ None
at_stage-fine b (Whole kind) last piece Z qs at none comes room e = absurd cc
at_stage-fine b Idle last piece Z [] at none comes room e =
    let t : piece ∷ Z ≡ [] = ap (λ (t : List (List ℕ)). t ++ piece ∷ Z) (sym comes) ∙ e in absurd cc
at_stage-fine b Idle last piece Z (q ∷ qs) at none comes room e =
    idle-fine b piece Z q.kind q.bytes (all_pieces qs) at room.0 (ap (λ (t : List (List ℕ)). t ++ piece ∷ Z) (sym comes) ∙ e)
at_stage-fine b (Begun n) last piece Z [] at none comes room e =
    let h : IsBegun n b.gathered last = comes in
    let t : first_piece n b.gathered ∷ (middle_pieces h.more (drop 21 b.gathered) ++ piece ∷ Z) ≡ [] = ap (λ (t : List (List ℕ)). t ++ piece ∷ Z) (sym h.are) ∙ e in
    absurd cc
at_stage-fine b (Begun n) last piece Z (q ∷ qs) at none comes room e = begun-fine b n last piece Z q.kind q.bytes (all_pieces qs) at comes e

pub honest-taken : (b : InboxState) (came : List InboxEvent) (parcels : List Parcel) (piece : List ℕ) → InboxStandsFor b came → parcel_at b.stage b.gathered ≡ None
    → HaveRoom b.room parcels → IsPrefixOf (took_of came ++ piece ∷ []) (all_pieces parcels) → piece_fault piece b ≡ None
honest-taken b came parcels piece s none room front =
    let e : all_pieces (handed_out came) ++ (s.last_pieces ++ piece ∷ front.0) ≡ all_pieces parcels =
    sym (append_assoc (all_pieces (handed_out came)) s.last_pieces (piece ∷ front.0))
    ∙ ap (λ (t : List (List ℕ)). t ++ piece ∷ front.0) (sym s.took)
    ∙ sym (append_assoc (took_of came) (piece ∷ []) front.0)
    ∙ front.1 in
    let r = strip (handed_out came) parcels (s.last_pieces ++ piece ∷ front.0) e in
    at_stage-fine b b.stage s.last_pieces piece front.0 r.others refl none s.comes (have-room b.room (handed_out came) r.others parcels r.parcels room) r.pieces
