-- What is written of a replay, record by record.
use Rattle.std.proofs.Common.{◌≡◌, ℕ, suc, ◌+◌, List, [], ◌∷◌, ◌++◌, length, take, drop, Option, Some, None, Ok, refl, sym, ◌∙◌, ap, subst, arith, append_assoc}
use Rattle.std.specs.List.{flat_map}
use Rattle.std.proofs.lemmas.List.{append-nil, take_all, length-take-le, take-append-drop}
use Rattle.std.proofs.lemmas.List.Concat.{flat_map-append}
use Rattle.tn_outside.specs.Totals.{Adds, AddsFront}
use Rattle.tn_outside.proofs.Totals.{adds_then, front_more}
use Rattle.demo_view.specs.wire_format.declared.server.ServerPacket.{ServerPacket}
use Rattle.demo_format.specs.declared.head.DemoHead.{DemoHead}
use Rattle.demo_format.specs.Head.{head_fault, head_in, head_or, read_head}
use Rattle.demo_format.specs.Records.{front_length, records_of, rest_of, is_ending}
use Rattle.demo_view.specs.Viewing.{ViewTerms, taking, viewing, viewed}
use Rattle.demo_view.specs.Stands.{ViewerState, terms_of}
use Rattle.world_rules.specs.Kinds.{match_kinds}
use Rattle.demo_replay.specs.Replaying.{Replayed, terms_in, record_told, records_told, replayed_line, shown_behind, word_for, replay_of}
use Rattle.demo_replay.specs.Walking.{DemoState, IsViewerAfter, IsNext, Begins}
use Rattle.demo_replay.specs.Writing.{TellsRecord, TellsShown}
use Rattle.demo_replay.proofs.Walking.{at-end, rest-there, next-taken}

pub told-append : (t : ViewTerms) (k : ℕ) (packets : List ServerPacket) (xs ys : List (List ℕ))
    → records_told t k packets (xs ++ ys) ≡ records_told t k packets xs ++ records_told t (k + length xs) (viewing t xs packets) ys
told-append t k packets [] ys = let e : k + 0 ≡ k = omega arith in rw e refl
told-append t k packets (x ∷ xs) ys =
    let e : suc k + length xs ≡ k + suc (length xs) = omega arith in
    ap (λ (l : List Replayed). record_told t k x packets ∷ l)
    (told-append t (suc k) (taking t x packets) xs ys
    ∙ ap (λ (n : ℕ). records_told t (suc k) (taking t x packets) xs ++ records_told t n (viewing t xs (taking t x packets)) ys) e)

-- the head that bytes begin with
pub head-is : (bytes : List ℕ) (h : DemoHead) → read_head bytes ≡ Ok h → head_in bytes ≡ h
head-is bytes h e = by_fault (head_fault bytes) e
  where
    by_fault : (o : Option ℕ) → head_or bytes o ≡ Ok h → head_in bytes ≡ h
    by_fault None k = cc
    by_fault (Some place) k = cc

module _ (head : DemoHead) (bytes : List ℕ) where
  abbrev t : ViewTerms
  t = terms_in head

  abbrev records : List (List ℕ)
  records = records_of bytes

  abbrev demo : DemoState
  demo = record { head = head; records = records }

  -- the lines of the first k records
  abbrev pub lines : ℕ → List ℕ
  lines k = flat_map replayed_line (records_told t 0 [] (take k records))

  -- the line of the next record
  abbrev line : ℕ → List ℕ → List ℕ
  line k next = replayed_line (record_told t k next (viewed t (take k records)))

  module _ (k start : ℕ) (b : Begins bytes k start) (next : List ℕ) (is : IsNext bytes start next) where
    pub lines-more : lines (k + 1) ≡ lines k ++ line k next
    lines-more =
        let before = records_told t 0 [] (take k records) in
        let place : 0 + length (take k records) ≡ k = omega (arith, length-take-le k records b.few) in
        ap (λ (l : List (List ℕ)). flat_map replayed_line (records_told t 0 [] l)) (next-taken bytes k start b next is)
        ∙ ap (flat_map replayed_line) (told-append t 0 [] (take k records) (next ∷ []))
        ∙ ap (λ (n : ℕ). flat_map replayed_line (before ++ record_told t n next (viewed t (take k records)) ∷ [])) place
        ∙ flat_map-append replayed_line before (record_told t k next (viewed t (take k records)) ∷ [])
        ∙ ap (λ (l : List ℕ). lines k ++ l) (append-nil (line k next))

  -- what stands behind the lines of the first k records
  lines-rest : (k : ℕ) → (rest : List ℕ) × (replay_of head bytes ≡ lines k ++ rest)
  lines-rest k =
      let last = shown_behind (word_for (is_ending (rest_of bytes))) match_kinds (viewed t records) in
      let front = take k records in
      let more = flat_map replayed_line (records_told t (0 + length front) (viewing t front []) (drop k records)) in (
        more ++ last,
        ap (λ (l : List (List ℕ)). flat_map replayed_line (records_told t 0 [] l) ++ last) (sym (take-append-drop k records))
            ∙ ap (λ (l : List Replayed). flat_map replayed_line l ++ last) (told-append t 0 [] front (drop k records))
            ∙ ap (λ (l : List ℕ). l ++ last) (flat_map-append replayed_line (records_told t 0 [] front) (records_told t (0 + length front) (viewing t front []) (drop k records)))
            ∙ append_assoc (lines k) more last,
      )

  module _ (k : ℕ) (v : ViewerState) (is-after : IsViewerAfter demo k v) (first old new : Option (List ℕ)) (so_far : Adds first old (lines k)) where
    -- the line of a record was added
    module _ (start : ℕ) (b : Begins bytes k start) (next : List ℕ) (is : IsNext bytes start next) where
      pub record-more : TellsRecord Adds v k next old new → Adds first new (lines (k + 1))
      record-more tells =
          let added : Adds old new (line k next) =
          subst (λ (x : ViewTerms). Adds old new (replayed_line (record_told x k next (viewed t (take k records))))) is-after.terms (tells (viewed t (take k records)) is-after.stands) in
          adds_then first old new (lines k) (line k next) (lines (k + 1)) so_far added (lines-more k start b next is)

      -- or a front of it
      pub record-front : TellsRecord AddsFront v k next old new → AddsFront first new (replay_of head bytes)
      record-front tells =
          let added : AddsFront old new (line k next) =
          subst (λ (x : ViewTerms). AddsFront old new (replayed_line (record_told x k next (viewed t (take k records))))) is-after.terms (tells (viewed t (take k records)) is-after.stands) in
          let rest = lines-rest (k + 1) in
          front_more first old new (lines k) (line k next) rest.0 (replay_of head bytes) so_far added
          (rest.1 ∙ ap (λ (l : List ℕ). l ++ rest.0) (lines-more k start b next is) ∙ append_assoc (lines k) (line k next) rest.0)

    -- behind the last record, the last line
    module _ (start : ℕ) (b : Begins bytes k start) (none : front_length (drop start bytes) ≡ None) (word : List ℕ) (says : word ≡ word_for (is_ending (drop start bytes))) where
      all : take k records ≡ records
      all = take_all k records (omega (arith, at-end bytes k start b none))

      abbrev last : List ℕ
      last = shown_behind (word_for (is_ending (rest_of bytes))) match_kinds (viewed t records)

      same-last : shown_behind word (terms_of v).kinds (viewed t (take k records)) ≡ last
      same-last =
          ap (λ (x : ViewTerms). shown_behind word x.kinds (viewed t (take k records))) is-after.terms
          ∙ ap (λ (l : List (List ℕ)). shown_behind word match_kinds (viewed t l)) all
          ∙ ap (λ (w : List ℕ). shown_behind w match_kinds (viewed t records)) (says ∙ ap (λ (l : List ℕ). word_for (is_ending l)) (sym (rest-there bytes k start b none)))

      whole : replay_of head bytes ≡ lines k ++ last
      whole = ap (λ (l : List (List ℕ)). flat_map replayed_line (records_told t 0 [] l) ++ last) (sym all)

      pub end-told : TellsShown Adds v word old new → Adds first new (replay_of head bytes)
      end-told tells =
          adds_then first old new (lines k) last (replay_of head bytes) so_far
          (subst (λ (l : List ℕ). Adds old new l) same-last (tells (viewed t (take k records)) is-after.stands)) whole

      pub end-front : TellsShown AddsFront v word old new → AddsFront first new (replay_of head bytes)
      end-front tells =
          front_more first old new (lines k) last [] (replay_of head bytes) so_far
          (subst (λ (l : List ℕ). AddsFront old new l) same-last (tells (viewed t (take k records)) is-after.stands))
          (whole ∙ ap (λ (l : List ℕ). lines k ++ l) (sym (append-nil last)))

  -- what is shown behind the first k of them
  module _ (k : ℕ) (v : ViewerState) (is-after : IsViewerAfter demo k v) where
    pub same-shown : (word : List ℕ) → shown_behind word (terms_of v).kinds (viewed t (take k records)) ≡ shown_behind word match_kinds (viewed t (take k records))
    same-shown word = ap (λ (x : ViewTerms). shown_behind word x.kinds (viewed t (take k records))) is-after.terms
