-- The keys of a demo, and the viewer that is reached from one.
use Rattle.std.proofs.Common.{◌≡◌, ℕ, zero, suc, ◌+◌, ◌*◌, ◌/◌, ◌%◌, ◌<◌, ◌≤◌, List, [], ◌∷◌, ◌++◌, length, take, get_or, inl, inr, ◌⊎◌, refl, sym, ◌∙◌, ap, subst, arith, length-append}
use Rattle.std.specs.Prelude.{slice_get, Some}
use Rattle.std.proofs.lemmas.Option.{slice_get_read}
use Rattle.world_rules.specs.Kinds.{match_kinds}
use Rattle.demo_format.specs.declared.head.DemoHead.{DemoHead}
use Rattle.demo_format.specs.Records.{records_of}
use Rattle.demo_replay.specs.demo_view.Viewing.{ViewTerms, viewed}
use Rattle.demo_replay.specs.demo_view.Stands.{ViewerState, terms_of}
use Rattle.demo_replay.specs.demo_view.Keeping.{KeptState, AreCreates, Keeps, StandsLike}
use Rattle.demo_replay.specs.demo_view.quantised_fields.declared.kind.Kind.{Kind}
use Rattle.demo_replay.specs.Replaying.{terms_in}
use Rattle.demo_replay.specs.Walking.{DemoState, Begins, IsViewerAfter}
use Rattle.demo_seek.specs.declared.seeking.Key.{Key}
use Rattle.demo_seek.specs.Loaded.{IsKey, AreKeys, IsKept}

get-behind : {A : Type 0} (xs : List A) (x y : A) (i : ℕ) → slice_get (xs ++ x ∷ []) i ≡ Some y → ((i < length xs) × (slice_get xs i ≡ Some y)) ⊎ ((i ≡ length xs) × (x ≡ y))
get-behind [] x y zero e = inr (refl, cc)
get-behind [] x y (suc i) e = cc
get-behind (z ∷ xs) x y zero e = inl (omega arith, e)
get-behind (z ∷ xs) x y (suc i) e = elim (get-behind xs x y i e) [
  | inl h ↦ inl (omega (arith, h.0), h.1)
  | inr h ↦ inr (omega (arith, h.0), h.1)
]

-- ---- the keys

pub no-key : (head : DemoHead) (bytes : List ℕ) → AreKeys head bytes 0 []
no-key head bytes = record { enough = refl; each = λ i key e. cc }

pub key-due : (head : DemoHead) (bytes : List ℕ) (n : ℕ) (keys : List Key) (key : Key) → n % 64 ≡ 0 → AreKeys head bytes n keys → IsKey head bytes n key → AreKeys head bytes (n + 1) (keys ++ key ∷ [])
key-due head bytes n keys key on are is = record {
  enough = omega (arith, length-append keys (key ∷ []), are.enough, on);
  each = λ i other e. elim (get-behind keys key other i e) [
    | inl h ↦ are.each i other h.1
    | inr h ↦ (let at : i * 64 ≡ n = omega (arith, h.0, are.enough, on) in
        subst (λ (k : Key). IsKey head bytes (i * 64) k) h.1 (subst (λ (m : ℕ). IsKey head bytes m key) (sym at) is))
  ];
}

-- ---- a viewer that is made again

-- a viewer's terms by their parts
same-terms : (v : ViewerState) (t : ViewTerms) → v.client ≡ t.client → v.version ≡ t.version → v.copies.kinds ≡ t.kinds → terms_of v ≡ t
same-terms v t a b d =
    ap (λ (n : ℕ). let x : ViewTerms = record { client = n; version = v.version; kinds = v.copies.kinds } in x) a
    ∙ ap (λ (n : ℕ). let x : ViewTerms = record { client = t.client; version = n; kinds = v.copies.kinds } in x) b
    ∙ ap (λ (kinds : List Kind). let x : ViewTerms = record { client = t.client; version = t.version; kinds = kinds } in x) d

module _ (d : DemoState) (n : ℕ) (from : ViewerState) (k : KeptState) (is : IsViewerAfter d n from) (kept : Keeps from k) where
  -- the kinds of a match fit what is kept
  pub kept-fits : AreCreates match_kinds 256 k.creates
  kept-fits = subst (λ (kinds : List Kind). AreCreates kinds 256 k.creates) (ap (λ (t : ViewTerms). t.kinds) is.terms) kept.creates

  pub made-again : (v : ViewerState) → Keeps v k → StandsLike k v → v.copies.kinds ≡ match_kinds → IsViewerAfter d n v
  made-again v same like kinds = record {
    stands = like from kept (viewed (terms_in d.head) (take n d.records)) is.stands;
    terms =
        same-terms v (terms_in d.head) (sym same.client ∙ kept.client ∙ ap (λ (t : ViewTerms). t.client) is.terms)
        (sym same.version ∙ kept.version ∙ ap (λ (t : ViewTerms). t.version) is.terms) kinds;
    quiet = (let a = same.events in let b = kept.events in let q = is.quiet in cc);
  }

-- ---- the last key at or before record k

module _ (head : DemoHead) (bytes : List ℕ) (keys : List Key) (total k : ℕ) (kept : IsKept head bytes total keys) (few : k ≤ length (records_of bytes)) (key : Key) (read : key ≡ get_or keys (k / 64) key) where
  pub key-at : IsKey head bytes (k / 64 * 64) key
  key-at =
      let within : k / 64 < length keys = omega (arith, kept.count, kept.keys.enough, few) in
      kept.keys.each (k / 64) key (slice_get_read keys (length keys) (k / 64) key refl within read)

  pub key-fits : AreCreates match_kinds 256 key.viewer.creates
  key-fits = kept-fits (record { head = head; records = records_of bytes }) (k / 64 * 64) key-at.from key.viewer key-at.behind key-at.kept

  pub key-viewer : (v : ViewerState) → Keeps v key.viewer → StandsLike key.viewer v → v.copies.kinds ≡ match_kinds → IsViewerAfter (record { head = head; records = records_of bytes }) (k / 64 * 64) v
  key-viewer = made-again (record { head = head; records = records_of bytes }) (k / 64 * 64) key-at.from key.viewer key-at.behind key-at.kept

  -- and what is reached from it
  pub reached : (d : DemoState) (lent : List ℕ) (v w : ViewerState) → record { head = head; records = records_of bytes } ≡ d → lent ≡ bytes
      → IsViewerAfter (record { head = head; records = records_of bytes }) (k / 64 * 64) v
      → ((h : DemoHead) (n : ℕ) → Begins lent n key.start → n + k % 64 ≤ length (records_of lent) → IsViewerAfter (record { head = h; records = records_of lent }) n v
      → IsViewerAfter (record { head = h; records = records_of lent }) (n + k % 64) w)
      → IsViewerAfter d k w
  reached d lent v w view same there goes =
      let sum : k / 64 * 64 + k % 64 ≡ k = omega arith in
      let begins : Begins lent (k / 64 * 64) key.start = subst (λ (b : List ℕ). Begins b (k / 64 * 64) key.start) (sym same) key-at.begins in
      let here : IsViewerAfter (record { head = head; records = records_of lent }) (k / 64 * 64) v =
      subst (λ (b : List ℕ). IsViewerAfter (record { head = head; records = records_of b }) (k / 64 * 64) v) (sym same) there in
      let enough : k / 64 * 64 + k % 64 ≤ length (records_of lent) = subst (λ (b : List ℕ). k / 64 * 64 + k % 64 ≤ length (records_of b)) (sym same) (omega (arith, few)) in
      let gone : IsViewerAfter (record { head = head; records = records_of lent }) (k / 64 * 64 + k % 64) w = goes head (k / 64 * 64) begins enough here in
      subst (λ (x : DemoState). IsViewerAfter x k w) view
      (subst (λ (b : List ℕ). IsViewerAfter (record { head = head; records = records_of b }) k w) same
      (subst (λ (n : ℕ). IsViewerAfter (record { head = head; records = records_of lent }) n w) sum gone))
