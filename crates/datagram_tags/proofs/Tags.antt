-- Tags: how long one is, when two are one, and what a datagram that ends in its tag is.
use Rattle.std.proofs.Common.{◌≡◌, ◌∙◌, ℕ, ◌+◌, ◌-◌, ◌<◌, ◌≤◌, List, [], ◌∷◌, ◌++◌, length, take, drop, get_or, sym, ap, refl, arith}
use Rattle.std.specs.Prelude.{◌↔◌, Result, Ok, Err}
use Rattle.std.proofs.lemmas.List.{take_more, same_from_push, take-append-drop, take_at, drop_at, length-append, length-take-le}
use Rattle.keyed_digest.specs.Keyed.{hmac}
use Rattle.keyed_digest.proofs.Lengths.{length-hmac}
use Rattle.datagram_tags.specs.declared.sides.Side.{Side}
use Rattle.datagram_tags.specs.declared.sides.Side.TheVariants.{Client, Server}
use Rattle.datagram_tags.specs.declared.sides.TagBytes.{TagBytes}
use Rattle.datagram_tags.specs.declared.sides.TagBytes.TheVariants.{Eight, Sixteen}
use Rattle.datagram_tags.specs.declared.keyed_end.TagFault.{TagFault}
use Rattle.datagram_tags.specs.declared.keyed_end.TagFault.TheVariants.{TooShort, WrongTag}
use Rattle.datagram_tags.specs.Tagging.{KeyedState, other, tag_bytes, covered, tag_of, tagged, Verifies}
use Rattle.datagram_tags.specs.Laws.{AreEnds}

-- ---- lengths

few : (t : TagBytes) → tag_bytes t ≤ 16
few Eight = omega arith
few Sixteen = omega arith

pub length-tag : (s : KeyedState) (side : Side) (number : ℕ) (bytes : List ℕ) → length (tag_of s side number bytes) ≡ tag_bytes s.tag
length-tag s side number bytes =
    let whole = length-hmac s.key (covered side number bytes) in
    let h = few s.tag in
    length-take-le (tag_bytes s.tag) (hmac s.key (covered side number bytes)) (omega (arith, whole, h))

pub length-tagged : (s : KeyedState) (side : Side) (number : ℕ) (bytes : List ℕ) → length (tagged s side number bytes) ≡ length bytes + tag_bytes s.tag
length-tagged s side number bytes =
    omega (arith, length-append bytes (tag_of s side number bytes), length-tag s side number bytes)

-- ---- what is found at the end of a datagram

-- bytes and what stands behind them: the tag, where it is the right one
pub verified : (s : KeyedState) (number count : ℕ) (d : List ℕ) → drop count d ≡ tag_of s (other s.side) number (take count d)
    → d ≡ tagged s (other s.side) number (take count d)
verified s number count d is = sym (take-append-drop count d) ∙ ap (λ (t : List ℕ). take count d ++ t) is

-- the bytes of a tagged datagram are its front, and the tag stands behind
pub found : (s : KeyedState) (side : Side) (number : ℕ) (bytes d : List ℕ) (count : ℕ) → d ≡ tagged s side number bytes
    → count + tag_bytes s.tag ≡ length d → (take count d ≡ bytes) × (drop count d ≡ tag_of s side number bytes) × (count ≡ length bytes)
found s side number bytes d count is whole =
    let long = ap (λ (l : List ℕ). length l) is ∙ length-tagged s side number bytes in
    let same : length bytes ≡ count = omega (arith, long, whole) in (
      ap (λ (l : List ℕ). take count l) is ∙ take_at bytes (tag_of s side number bytes) count same,
      ap (λ (l : List ℕ). drop count l) is ∙ drop_at bytes (tag_of s side number bytes) count same,
      sym same,
    )

pub unverified : (s : KeyedState) (number count : ℕ) (d : List ℕ) → count + tag_bytes s.tag ≡ length d
    → (drop count d ≡ tag_of s (other s.side) number (take count d) → ⊥) → (bytes : List ℕ) → d ≡ tagged s (other s.side) number bytes → ⊥
unverified s number count d whole not bytes is =
    let f = found s (other s.side) number bytes d count is whole in
    not (f.1 ∙ ap (λ (l : List ℕ). tag_of s (other s.side) number l) (sym f.0))

-- what stands behind the bytes is not their tag
pub wrong : (s : KeyedState) (number tag : ℕ) (side : Side) (d front back digest : List ℕ) → tag ≡ tag_bytes s.tag → side ≡ other s.side
    → tag ≤ length d → front ≡ take (length d - tag) d → back ≡ drop (length d - tag) d
    → take (tag_bytes s.tag) digest ≡ tag_of s side number front → (back ≡ take tag digest → ⊥) → Verifies s number d (Err WrongTag)
wrong s number tag side d front back digest tag_is side_is enough front_is back_is digest_is differ =
    let count = length d - tag_bytes s.tag in
    let not : drop count d ≡ tag_of s (other s.side) number (take count d) → ⊥ = λ e.
    let mid : length d - tag ≡ count = ap (λ (t : ℕ). length d - t) tag_is in
    let at_back : back ≡ drop count d = back_is ∙ ap (λ (m : ℕ). drop m d) mid in
    let at_front : take count d ≡ front = sym (front_is ∙ ap (λ (m : ℕ). take m d) mid) in
    let tags : tag_of s (other s.side) number (take count d) ≡ tag_of s side number front =
    ap (λ (w : Side). tag_of s w number (take count d)) (sym side_is) ∙ ap (λ (l : List ℕ). tag_of s side number l) at_front in
    differ (at_back ∙ e ∙ tags ∙ sym digest_is ∙ ap (λ (t : ℕ). take t digest) (sym tag_is)) in
    (omega (arith, tag_is, enough), unverified s number count d (omega (arith, tag_is, enough)) not)

-- ---- what was tagged is verified

pub verifies : (s : KeyedState) (number : ℕ) (d : List ℕ) (answer : Result ℕ TagFault) → Verifies s number d answer → (bytes : List ℕ)
    → d ≡ tagged s (other s.side) number bytes → answer ≡ Ok (length bytes)
verifies s number d (Ok count) is bytes tagged_is = ap (λ (n : ℕ). Ok n) (found s (other s.side) number bytes d count tagged_is is.0).2
verifies s number d (Err TooShort) short bytes tagged_is =
    let whole = ap (λ (l : List ℕ). length l) tagged_is ∙ length-tagged s (other s.side) number bytes in
    absurd (omega (arith, whole, short))
verifies s number d (Err WrongTag) wrong bytes tagged_is = absurd (wrong.1 bytes tagged_is)

-- ---- two ends

same_tag : (a b : KeyedState) (side : Side) (number : ℕ) (bytes : List ℕ) → b.key ≡ a.key → b.tag ≡ a.tag
    → tag_of b side number bytes ≡ tag_of a side number bytes
same_tag a b side number bytes key tag =
    ap (λ (k : List ℕ). take (tag_bytes b.tag) (hmac k (covered side number bytes))) key
    ∙ ap (λ (t : TagBytes). take (tag_bytes t) (hmac a.key (covered side number bytes))) tag

twice : (side : Side) → other (other side) ≡ side
twice Client = refl
twice Server = refl

-- what one end tags is what the other one verifies
pub same_tagged : (a b : KeyedState) (number : ℕ) (bytes : List ℕ) → AreEnds a b
    → tagged b (other b.side) number bytes ≡ tagged a a.side number bytes
same_tagged a b number bytes ends =
    let side : other b.side ≡ a.side = ap (λ (s : Side). other s) ends.side ∙ twice a.side in
    ap (λ (s : Side). tagged b s number bytes) side ∙ ap (λ (t : List ℕ). bytes ++ t) (same_tag a b a.side number bytes ends.key ends.tag)

-- ---- two tags

-- how far two tags are apart up to one place more
pub one_more : (xs ys : List ℕ) (i apart more : ℕ) → i < length xs → i < length ys → (apart ≡ 0 ↔ take i xs ≡ take i ys)
    → more ≡ apart + ((get_or xs i 0 - get_or ys i 0) + (get_or ys i 0 - get_or xs i 0)) → (more ≡ 0 ↔ take (i + 1) xs ≡ take (i + 1) ys)
one_more xs ys i apart more in_xs in_ys before is =
    let x = get_or xs i 0 in
    let y = get_or ys i 0 in
    let at_x = take_more xs i 0 in_xs in
    let at_y = take_more ys i 0 in_ys in (
      λ (none : more ≡ 0).
          let front = before.0 (omega (arith, is, none)) in
          let last : x ≡ y = omega (arith, is, none) in
          at_x ∙ ap (λ (l : List ℕ). l ++ x ∷ []) front ∙ ap (λ (v : ℕ). take i ys ++ v ∷ []) last ∙ sym at_y,
      λ (same : take (i + 1) xs ≡ take (i + 1) ys).
          let both = same_from_push (take i xs) (take i ys) x y (sym at_x ∙ same ∙ at_y) in
          let none = before.1 both.0 in
          let last = both.1 in
          omega (arith, is, none, last),
    )
