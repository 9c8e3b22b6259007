-- What a cut demo tells of the whole one.
use Rattle.std.proofs.Common.{◌≡◌, ℕ, zero, suc, ◌+◌, ◌-◌, ◌<◌, ◌≤◌, List, [], ◌∷◌, ◌++◌, length, take, drop, Option, Some, None, Ok, Result, refl, sym, ◌∙◌, ap, subst, arith}
use Rattle.std.specs.Prelude.{slice_get}
use Rattle.std.specs.List.{flat_map}
use Rattle.std.proofs.lemmas.List.{drop-take}
use Rattle.std.proofs.lemmas.List.Concat.{flat_map-append}
use Rattle.std.proofs.Math.Seq.{take-append_seam}
use Rattle.tn_types.specs.Prefix.{IsPrefixOf}
use Rattle.demo_view.specs.wire_format.declared.server.ServerPacket.{ServerPacket}
use Rattle.world_rules.specs.Kinds.{match_kinds}
use Rattle.demo_format.specs.declared.head.DemoHead.{DemoHead}
use Rattle.demo_format.specs.Head.{read_head, head_in, head_or, head_fault}
use Rattle.demo_format.specs.Records.{records_of, body_of}
use Rattle.demo_format.proofs.Recording.{kept}
use Rattle.demo_view.specs.Viewing.{ViewTerms, taking, viewed}
use Rattle.demo_replay.specs.Replaying.{Replayed, terms_in, record_told, records_told, replayed_line, takes_told, packets_behind, packets_at, last_word, shown_behind}
use Rattle.demo_replay.specs.Cuts.{IsCutOf, CutsKeepAFront}

-- the lines of a front are a front of the lines
pub told-front : (t : ViewTerms) (k : ℕ) (packets : List ServerPacket) (front rest : List (List ℕ)) → IsPrefixOf (records_told t k packets front) (records_told t k packets (front ++ rest))
told-front t k packets [] rest = (records_told t k packets rest, refl)
told-front t k packets (bytes ∷ front) rest =
    let more = told-front t (suc k) (taking t bytes packets) front rest in
    (more.0, ap (λ (l : List Replayed). record_told t k bytes packets ∷ l) more.1)

lines-front : (xs ys : List Replayed) → IsPrefixOf xs ys → IsPrefixOf (flat_map replayed_line xs) (flat_map replayed_line ys)
lines-front xs ys front = (flat_map replayed_line front.0, sym (flat_map-append replayed_line xs front.0) ∙ ap (flat_map replayed_line) front.1)

get-take : (i n : ℕ) (xs : List ℕ) → i < n → slice_get (take n xs) i ≡ slice_get xs i
get-take i zero xs l = absurd (omega arith)
get-take i (suc n) [] l = refl
get-take zero (suc n) (x ∷ xs) l = refl
get-take (suc i) (suc n) (x ∷ xs) l = get-take i n xs (omega arith)

take-fewer : (m n : ℕ) (xs : List ℕ) → m ≤ n → take m (take n xs) ≡ take m xs
take-fewer zero n xs l = refl
take-fewer (suc m) zero xs l = absurd (omega arith)
take-fewer (suc m) (suc n) [] l = refl
take-fewer (suc m) (suc n) (x ∷ xs) l = ap (λ (l : List ℕ). x ∷ l) (take-fewer m n xs (omega arith))

module _ (bytes : List ℕ) (n : ℕ) (long : 11 ≤ n) where
  g4 : slice_get (take n bytes) 4 ≡ slice_get bytes 4
  g4 = get-take 4 n bytes (omega arith)

  g5 : slice_get (take n bytes) 5 ≡ slice_get bytes 5
  g5 = get-take 5 n bytes (omega arith)

  g6 : slice_get (take n bytes) 6 ≡ slice_get bytes 6
  g6 = get-take 6 n bytes (omega arith)

  g7 : slice_get (take n bytes) 7 ≡ slice_get bytes 7
  g7 = get-take 7 n bytes (omega arith)

  g8 : slice_get (take n bytes) 8 ≡ slice_get bytes 8
  g8 = get-take 8 n bytes (omega arith)

  g9 : slice_get (take n bytes) 9 ≡ slice_get bytes 9
  g9 = get-take 9 n bytes (omega arith)

  g10 : slice_get (take n bytes) 10 ≡ slice_get bytes 10
  g10 = get-take 10 n bytes (omega arith)

  t4 : take 4 (take n bytes) ≡ take 4 bytes
  t4 = take-fewer 4 n bytes (omega arith)

  same-head : head_in (take n bytes) ≡ head_in bytes
  same-head = rw (g4, g5, g6, g7, g8, g9, g10) refl

  same-fault : head_fault (take n bytes) ≡ head_fault bytes
  same-fault = rw (t4, g4, g5, g6, g7, g8, g9, g10) refl

  same-head_or : (o : Option ℕ) → head_or (take n bytes) o ≡ head_or bytes o
  same-head_or None = ap (λ (h : DemoHead). let r : Result DemoHead ℕ = Ok h in r) same-head
  same-head_or (Some place) = refl

  same-reading : read_head (take n bytes) ≡ read_head bytes
  same-reading = ap (head_or (take n bytes)) same-fault ∙ same-head_or (head_fault bytes)

  same-body : body_of (take n bytes) ≡ take (n - 11) (body_of bytes)
  same-body = let e : n ≡ 11 + (n - 11) = omega (arith, long) in ap (λ (k : ℕ). drop 11 (take k bytes)) e ∙ drop-take 11 (n - 11) bytes

  records-front : IsPrefixOf (records_of (body_of (take n bytes))) (records_of (body_of bytes))
  records-front = subst (λ (l : List ℕ). IsPrefixOf (records_of l) (records_of (body_of bytes))) (sym same-body) (kept (body_of bytes) (n - 11))

  pub cut : IsCutOf (take n bytes) bytes
  cut =
      let t = terms_in (head_in bytes) in
      let front = records_of (body_of (take n bytes)) in
      let takes : IsPrefixOf (records_told t 0 [] front) (records_told t 0 [] (records_of (body_of bytes))) =
      subst (λ (l : List (List ℕ)). IsPrefixOf (records_told t 0 [] front) (records_told t 0 [] l)) records-front.1 (told-front t 0 [] front records-front.0) in
      let told : IsPrefixOf (takes_told (take n bytes)) (takes_told bytes) = subst (λ (h : DemoHead). IsPrefixOf (records_told (terms_in h) 0 [] front) (takes_told bytes)) (sym same-head) takes in
      let last : packets_behind (take n bytes) ≡ packets_at bytes (length front) =
      ap (λ (h : DemoHead). viewed (terms_in h) front) same-head
      ∙ ap (λ (l : List (List ℕ)). viewed t l) (sym (take-append_seam front records-front.0) ∙ ap (take (length front)) records-front.1) in
      record {
        head = same-reading;
        takes = told;
        last = last;
        lines = lines-front (takes_told (take n bytes)) (takes_told bytes) told;
        text = ap (λ (packets : List ServerPacket). flat_map replayed_line (takes_told (take n bytes)) ++ shown_behind (last_word (take n bytes)) match_kinds packets) last;
      }

pub cuts-keep : (bytes : List ℕ) → CutsKeepAFront bytes
cuts-keep bytes n long = cut bytes n long
