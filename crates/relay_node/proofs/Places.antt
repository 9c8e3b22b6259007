-- The lines before one of the relay's: one line of the match more, and one of the relay more.
use Rattle.std.proofs.Common.{◌≡◌, ◌∙◌, ℕ, ◌+◌, ◌-◌, ◌<◌, ◌≤◌, List, [], ◌∷◌, ◌++◌, map, length, get_or, take, drop, reverse, ap, arith, length-append, length-drop}
use Rattle.std.proofs.lemmas.List.{length-reverse, length-take, length-map, get_or-drop}
use Rattle.match_script.specs.declared.types.BodyLine.{BodyLine}
use Rattle.relay_report.proofs.Below.match_engine.Written.{reverse_next}
use Rattle.relay_script.specs.declared.entries.Entry.{Entry}
use Rattle.relay_script.specs.declared.entries.Entry.TheVariants.{OfMatch, OfRelay}
use Rattle.relay_script.specs.declared.types.PlacedLine.{PlacedLine}
use Rattle.relay_report.specs.Met.{past_of, match_past}
use Rattle.relay_node.specs.Running.{IsBehind}

-- ---- one line of the match more

pub past_more : (body : List BodyLine) (earlier : List PlacedLine) (place : ℕ) (d : BodyLine) → IsBehind earlier place → place < length body
    → past_of body (place + 1) earlier ≡ OfMatch (get_or body place d) ∷ past_of body place earlier
past_more body [] place d behind lt = ap (λ (l : List BodyLine). map OfMatch l) (reverse_next body place d lt)
past_more body (placed ∷ earlier) place d behind lt =
    let b = placed.behind in
    let le : b ≤ place = behind.0 in
    let rest : List BodyLine = drop b body in
    let one : (place + 1) - b ≡ (place - b) + 1 = omega (arith, le) in
    let next : reverse (take ((place - b) + 1) rest) ≡ get_or rest (place - b) d ∷ reverse (take (place - b) rest) =
    reverse_next rest (place - b) d (omega (arith, length-drop b body, lt, le)) in
    let at : b + (place - b) ≡ place = omega (arith, le) in
    let here : get_or rest (place - b) d ≡ get_or body place d = get_or-drop b body (place - b) d ∙ ap (λ (n : ℕ). get_or body n d) at in
    let behind_it : List Entry = OfRelay placed.line ∷ past_of body b earlier in
    ap (λ (n : ℕ). map OfMatch (reverse (take n rest)) ++ behind_it) one
    ∙ ap (λ (l : List BodyLine). map OfMatch l ++ behind_it) next
    ∙ ap (λ (line : BodyLine). OfMatch line ∷ (map OfMatch (reverse (take (place - b) rest)) ++ behind_it)) here

-- ---- one line of the relay more

pub past_relay : (body : List BodyLine) (earlier : List PlacedLine) (placed : PlacedLine)
    → past_of body placed.behind (placed ∷ earlier) ≡ OfRelay placed.line ∷ past_of body placed.behind earlier
past_relay body earlier placed =
    let none : placed.behind - placed.behind ≡ 0 = omega arith in
    ap (λ (n : ℕ). map OfMatch (reverse (take n (drop placed.behind body))) ++ OfRelay placed.line ∷ past_of body placed.behind earlier) none

pub behind_later : (earlier : List PlacedLine) (a b : ℕ) → IsBehind earlier a → a ≤ b → IsBehind earlier b
behind_later [] a b h le = tt
behind_later (placed ∷ earlier) a b h le = (let l = h.0 in omega (arith, l, le), h.1)

-- ---- how many

long_front : (n : ℕ) (lines : List BodyLine) → length (map OfMatch (reverse (take n lines))) ≤ n
long_front n lines = omega (arith, length-map (reverse (take n lines)) OfMatch, length-reverse (take n lines), length-take n lines)

pub few_past : (body : List BodyLine) (earlier : List PlacedLine) (place : ℕ) → IsBehind earlier place → length (past_of body place earlier) ≤ place + length earlier
few_past body [] place h = let l = long_front place body in omega (arith, l)
few_past body (placed ∷ earlier) place h =
    let le = h.0 in
    let rest = few_past body earlier placed.behind h.1 in
    let front = long_front (place - placed.behind) (drop placed.behind body) in
    let all = length-append (map OfMatch (reverse (take (place - placed.behind) (drop placed.behind body)))) (OfRelay placed.line ∷ past_of body placed.behind earlier) in
    omega (arith, le, rest, front, all)

pub few_lines : (past : List Entry) → length (match_past past) ≤ length past
few_lines [] = omega arith
few_lines (OfMatch line ∷ past) = let rest = few_lines past in omega (arith, rest)
few_lines (OfRelay line ∷ past) = let rest = few_lines past in omega (arith, rest)
