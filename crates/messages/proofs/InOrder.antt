-- What was whole is a front of what was posted, and follows from the pieces that were taken.
use Rattle.std.proofs.Common.{◌≡◌, ℕ, List, [], ◌∷◌, ◌++◌, refl, sym, ◌∙◌, ap, append_assoc, append-nil}
use Rattle.tn_types.specs.Prefix.{IsPrefixOf}
use Rattle.messages.specs.declared.inbox.Stage.{Stage}
use Rattle.messages.specs.declared.inbox.Stage.TheVariants.{Idle, Begun, Whole}
use Rattle.messages.specs.Pieces.{Parcel, pieces_by, pieces_of, all_pieces}
use Rattle.messages.specs.OutboxStands.{OutboxState, OutboxEvent, posted_of, handed_on}
use Rattle.messages.specs.InboxState.{InboxState, parcel_at, waiting}
use Rattle.messages.specs.InboxStands.{InboxEvent, InboxStandsFor, ComesTo, took_of, handed_out, or_none, whole_parcels}
use Rattle.messages.specs.Laws.{AreJoined, AreAtRest}
use Rattle.messages.proofs.Freely.{IsPart, IsStripped, strip, parcels-same, begun-part, nil-part}

all-append : (ps qs : List Parcel) → all_pieces (ps ++ qs) ≡ all_pieces ps ++ all_pieces qs
all-append [] qs = refl
all-append (p ∷ ps) qs = ap (λ (t : List (List ℕ)). pieces_of p ++ t) (all-append ps qs) ∙ sym (append_assoc (pieces_of p) (all_pieces ps) (all_pieces qs))

-- the last pieces are those of what waits, and then a part of a message
pub record IsEnd (stage : Stage) (bytes : List ℕ) (last : List (List ℕ)) : Type 0 where
  pub part : List (List ℕ)
  pub are : last ≡ all_pieces (or_none (parcel_at stage bytes)) ++ part
  pub part_of : IsPart part

end-at : (stage : Stage) (bytes : List ℕ) (last : List (List ℕ)) → ComesTo stage bytes last → IsEnd stage bytes last
end-at Idle bytes last h = record { part = []; are = h; part_of = nil-part }
end-at (Begun n) bytes last h = record { part = last; are = refl; part_of = begun-part n bytes last h }
end-at (Whole kind) bytes last h = record {
  part = [];
  are = h ∙ sym (append-nil (pieces_by kind bytes)) ∙ sym (append-nil (pieces_by kind bytes ++ []));
  part_of = nil-part;
}

pub record IsParted (b : InboxState) (came : List InboxEvent) : Type 0 where
  pub part : List (List ℕ)
  pub took : took_of came ≡ all_pieces (whole_parcels b came) ++ part
  pub part_of : IsPart part

parted : (b : InboxState) (came : List InboxEvent) → InboxStandsFor b came → IsParted b came
parted b came s =
    let e = end-at b.stage b.gathered s.last_pieces s.comes in
    let waits : List Parcel = or_none (waiting b) in
    record {
      part = e.part;
      took = s.took
          ∙ ap (λ (t : List (List ℕ)). all_pieces (handed_out came) ++ t) e.are
          ∙ sym (append_assoc (all_pieces (handed_out came)) (all_pieces waits) e.part)
          ∙ ap (λ (t : List (List ℕ)). t ++ e.part) (sym (all-append (handed_out came) waits));
      part_of = e.part_of;
    }

-- what is left of the posted parcels after those that were whole
joined : (o : OutboxState) (out : List OutboxEvent) (b : InboxState) (came : List InboxEvent) → (j : AreJoined o out b came) → (p : IsParted b came)
    → IsStripped (whole_parcels b came) (posted_of out) (p.part ++ (j.front.0 ++ o.held))
joined o out b came j p = strip (whole_parcels b came) (posted_of out) (p.part ++ (j.front.0 ++ o.held))
    (sym (append_assoc (all_pieces (whole_parcels b came)) p.part (j.front.0 ++ o.held))
    ∙ ap (λ (t : List (List ℕ)). t ++ (j.front.0 ++ o.held)) (sym p.took)
    ∙ sym (append_assoc (took_of came) j.front.0 o.held)
    ∙ ap (λ (t : List (List ℕ)). t ++ o.held) j.front.1
    ∙ j.outbox.pieces)

pub whole-front : (o : OutboxState) (out : List OutboxEvent) (b : InboxState) (came : List InboxEvent) → AreJoined o out b came → IsPrefixOf (whole_parcels b came) (posted_of out)
whole-front o out b came j = let r = joined o out b came j (parted b came j.inbox) in (r.others, r.parcels)

pub handed-front : (o : OutboxState) (out : List OutboxEvent) (b : InboxState) (came : List InboxEvent) → AreJoined o out b came → IsPrefixOf (handed_out came) (posted_of out)
handed-front o out b came j =
    let r = joined o out b came j (parted b came j.inbox) in
    (or_none (waiting b) ++ r.others, sym (append_assoc (handed_out came) (or_none (waiting b)) r.others) ∙ r.parcels)

none-left : (part : List (List ℕ)) (others : List Parcel) → IsPart part → part ≡ all_pieces others → others ≡ []
none-left part [] f e = refl
none-left part (p ∷ ps) f e = absurd (f p (all_pieces ps) e)

pub all-whole : (o : OutboxState) (out : List OutboxEvent) (b : InboxState) (came : List InboxEvent) → AreJoined o out b came → AreAtRest o out came
    → whole_parcels b came ≡ posted_of out
all-whole o out b came j rest =
    let p = parted b came j.inbox in
    let all : all_pieces (whole_parcels b came) ++ p.part ≡ all_pieces (posted_of out) =
    sym p.took ∙ rest.all_came ∙ sym (append-nil (handed_on out)) ∙ ap (λ (t : List (List ℕ)). handed_on out ++ t) (sym rest.none_held) ∙ j.outbox.pieces in
    let r = strip (whole_parcels b came) (posted_of out) p.part all in
    let none : r.others ≡ [] = none-left p.part r.others p.part_of r.pieces in
    sym (append-nil (whole_parcels b came)) ∙ ap (λ (t : List Parcel). whole_parcels b came ++ t) (sym none) ∙ r.parcels

pub same-whole : (a b : InboxState) (s t : List InboxEvent) → InboxStandsFor a s → InboxStandsFor b t → took_of s ≡ took_of t → whole_parcels a s ≡ whole_parcels b t
same-whole a b s t f g e =
    let p = parted a s f in
    let q = parted b t g in
    parcels-same (whole_parcels a s) (whole_parcels b t) p.part q.part p.part_of q.part_of (sym p.took ∙ e ∙ q.took)
