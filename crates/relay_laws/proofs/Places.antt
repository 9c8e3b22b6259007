-- The lines before one of the relay's are lines of its script, and no more than it has.
use Rattle.std.proofs.Common.{◌≡◌, ◌∙◌, ℕ, ◌+◌, ◌-◌, ◌≤◌, List, [], ◌∷◌, ◌++◌, map, take, drop, length, refl, sym, ap, subst, arith, length-append, length-take, append-nil, append_assoc}
use Rattle.std.specs.Prelude.{reverse}
use Rattle.std.specs.List.{All, AllByRecursion}
use Rattle.std.proofs.lemmas.List.{length-reverse, length-map}
use Rattle.std.proofs.lemmas.List.Elements.{recursion_from_All, All-take, All-drop}
use Rattle.std.proofs.lemmas.Grind.{reverse_onto}
use Rattle.conn_packing.proofs.Lists.{all-append}
use Rattle.match_script.specs.declared.limits.TheConstants.{MAX_BODY_LINES}
use Rattle.match_script.specs.declared.types.BodyLine.{BodyLine}
use Rattle.match_script.specs.Ranges.{LineFits, HeadFits}
use Rattle.match_script.specs.declared.types.Head.{Head}
use Rattle.relay_script.specs.declared.entries.Entry.{Entry}
use Rattle.relay_script.specs.declared.entries.Entry.TheVariants.{OfMatch, OfRelay}
use Rattle.relay_script.specs.declared.types.PlacedLine.{PlacedLine}
use Rattle.relay_script.specs.declared.types.RelayScript.{RelayScript}
use Rattle.relay_script.specs.Ranges.{PlacedFits, InOrderFrom, HasRelayRanges}
use Rattle.relay_report.specs.Met.{past_of, match_past}
use Rattle.relay_laws.specs.Moments.{IsLineOf}

-- each of these lines, the newest first, stands behind no more of the match than the next one, and the newest behind no more than so many
abbrev IsBehind : List PlacedLine → ℕ → Type 0
IsBehind [] place = Unit {0}
IsBehind (placed ∷ earlier) place = (placed.behind ≤ place) × IsBehind earlier placed.behind

behind_more : (lines : List PlacedLine) (least most : ℕ) → least ≤ most → IsBehind lines least → IsBehind lines most
behind_more [] least most le h = tt
behind_more (placed ∷ earlier) least most le h = (let lt = h.0 in omega (arith, le, lt), h.1)

moved : (b : PlacedLine) (before acc : List PlacedLine) → reverse (b ∷ before) ++ acc ≡ reverse before ++ b ∷ acc
moved b before acc = ap (λ (l : List PlacedLine). l ++ acc) (reverse_onto before b []) ∙ append_assoc (reverse before) (b ∷ []) acc

module _ (placed : PlacedLine) (later : List PlacedLine) where
  behind_onto : (before acc : List PlacedLine) (least : ℕ) → IsBehind acc least → InOrderFrom least (before ++ placed ∷ later)
      → IsBehind (reverse before ++ acc) placed.behind
  behind_onto [] acc least h o = behind_more acc least placed.behind o.0 h
  behind_onto (b ∷ before) acc least h o =
      subst (λ (l : List PlacedLine). IsBehind l placed.behind) (sym (moved b before acc))
      (behind_onto before (b ∷ acc) b.behind (let e : b.behind ≤ b.behind = omega arith in e, behind_more acc least b.behind o.0 h) o.1)

  at_placed : (P : PlacedLine → Type 0) (before : List PlacedLine) → AllByRecursion P (before ++ placed ∷ later) → P placed
  at_placed P [] h = h.0
  at_placed P (b ∷ before) h = at_placed P before h.1

module _ (body : List BodyLine) where
  long : (lines : List PlacedLine) (place : ℕ) → IsBehind lines place → length (past_of body place lines) ≤ place + length lines
  long [] place h =
      omega (arith, length-map (reverse (take place body)) OfMatch, length-reverse (take place body), length-take place body)
  long (placed ∷ earlier) place h =
      let some : List BodyLine = take (place - placed.behind) (drop placed.behind body) in
      let le = h.0 in
      let rest = long earlier placed.behind h.1 in
      let all = length-append (map OfMatch (reverse some)) (OfRelay placed.line ∷ past_of body placed.behind earlier) in
      let one = length-map (reverse some) OfMatch in
      let two = length-reverse some in
      let three = length-take (place - placed.behind) (drop placed.behind body) in
      omega (arith, le, rest, all, one, two, three)

match_of : (xs : List BodyLine) (past : List Entry) → match_past (map OfMatch xs ++ past) ≡ xs ++ match_past past
match_of [] past = refl
match_of (x ∷ xs) past = ap (λ (l : List BodyLine). x ∷ l) (match_of xs past)

pub match_only : (xs : List BodyLine) → match_past (map OfMatch xs) ≡ xs
match_only xs = ap match_past (sym (append-nil (map OfMatch xs))) ∙ match_of xs [] ∙ append-nil xs

pub all_reverse : {A : Type 0} (P : A → Type 0) (xs : List A) → AllByRecursion P xs → AllByRecursion P (reverse xs)
all_reverse P [] h = tt
all_reverse P (x ∷ xs) h =
    subst (AllByRecursion P) (sym (reverse_onto xs x [])) (all-append P (reverse xs) (x ∷ []) (all_reverse P xs h.1) (h.0, tt))

module _ (P : BodyLine → Type 0) (body : List BodyLine) (all : All P body) where
  fit : (lines : List PlacedLine) (place : ℕ) → AllByRecursion P (match_past (past_of body place lines))
  fit [] place =
      subst (AllByRecursion P) (sym (match_only (reverse (take place body))))
      (all_reverse P (take place body) (recursion_from_All P (take place body) (All-take P place body all)))
  fit (placed ∷ earlier) place =
      let some : List BodyLine = take (place - placed.behind) (drop placed.behind body) in
      let past : List Entry = OfRelay placed.line ∷ past_of body placed.behind earlier in
      subst (AllByRecursion P) (sym (match_of (reverse some) past))
      (all-append P (reverse some) (match_past past)
      (all_reverse P some (recursion_from_All P some (All-take P (place - placed.behind) (drop placed.behind body) (All-drop P placed.behind body all))))
      (fit earlier placed.behind))

-- ---- lines that may stand in a relay script

pub record AreEntries (head : Head) (past : List Entry) : Type 0 where
  pub fits : HeadFits head
  pub lines : AllByRecursion (LineFits head.clients) (match_past past)
  pub few : length past ≤ MAX_BODY_LINES

pub are_entries : (r : RelayScript) (before : List PlacedLine) (placed : PlacedLine) → HasRelayRanges r → IsLineOf r before placed
    → AreEntries r.script.head (past_of r.script.body placed.behind (reverse before))
are_entries r before placed h is =
    let order : InOrderFrom 0 (before ++ placed ∷ is.later) = subst (InOrderFrom 0) (sym is.whole) h.in_order in
    let behind : IsBehind (reverse before) placed.behind =
    subst (λ (l : List PlacedLine). IsBehind l placed.behind) (append-nil (reverse before)) (behind_onto placed is.later before [] 0 tt order) in
    let most = long r.script.body (reverse before) placed.behind behind in
    let fits : AllByRecursion (PlacedFits r.spectators (length r.script.body)) (before ++ placed ∷ is.later) =
    subst (AllByRecursion (PlacedFits r.spectators (length r.script.body))) (sym is.whole) (recursion_from_All (PlacedFits r.spectators (length r.script.body)) r.lines h.lines) in
    let within = (at_placed placed is.later (PlacedFits r.spectators (length r.script.body)) before fits).1 in
    let all = ap (λ (l : List PlacedLine). length l) is.whole in
    let sum = length-append before (placed ∷ is.later) in
    let back = length-reverse before in
    let few = h.few in
    record {
      fits = (h.script).head;
      lines = fit (LineFits r.script.head.clients) r.script.body (h.script).lines (reverse before) placed.behind;
      few = omega (arith, most, within, all, sum, back, few);
    }

pub fewer : (head : Head) (entry : Entry) (past : List Entry) → AreEntries head (entry ∷ past) → AreEntries head past
fewer head (OfMatch line) past h = record { fits = h.fits; lines = (h.lines).1; few = (let le = h.few in omega (arith, le)) }
fewer head (OfRelay line) past h = record { fits = h.fits; lines = h.lines; few = (let le = h.few in omega (arith, le)) }

pub fewer_all : (head : Head) (later past : List Entry) → AreEntries head (later ++ past) → AreEntries head past
fewer_all head [] past h = h
fewer_all head (entry ∷ later) past h = fewer_all head later past (fewer head entry (later ++ past) h)

pub match_parts : (later past : List Entry) → match_past (later ++ past) ≡ match_past later ++ match_past past
match_parts [] past = refl
match_parts (OfMatch line ∷ later) past = ap (λ (l : List BodyLine). line ∷ l) (match_parts later past)
match_parts (OfRelay line ∷ later) past = match_parts later past
