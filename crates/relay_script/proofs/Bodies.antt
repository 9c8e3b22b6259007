-- The whole body, line by line.
use Rattle.std.proofs.Common.{◌≡◌, ℕ, suc, ◌+◌, ◌<◌, ◌≤◌, List, [], ◌∷◌, ◌++◌, length, arith, Result, Ok, Err, refl, append_assoc, add-one}
use Rattle.std.proofs.lemmas.List.{append-nil, length-append}
use Rattle.std.proofs.lemmas.List.Elements.{All-push}
use Rattle.std.specs.List.{All}
use Rattle.match_script.specs.declared.types.BodyLine.{BodyLine}
use Rattle.match_script.specs.declared.types.ScriptFault.{ScriptFault}
use Rattle.match_script.specs.Script.{Fault, ◌>>=◌, line_at}
use Rattle.match_script.specs.Text.{lines_of}
use Rattle.match_script.specs.Ranges.{LineFits}
use Rattle.relay_script.specs.declared.types.RelayLine.{RelayLine}
use Rattle.relay_script.specs.declared.types.PlacedLine.{PlacedLine}
use Rattle.relay_script.specs.declared.entries.Entry.{Entry}
use Rattle.relay_script.specs.declared.entries.Entry.TheVariants.{OfMatch, OfRelay}
use Rattle.relay_script.specs.Lines.{relay_line_at}
use Rattle.relay_script.specs.Whole.{entry_at, entries_of, match_lines, relay_lines}
use Rattle.relay_script.specs.Ranges.{RelayLineFits, PlacedFits, InOrderFrom}
use Rattle.relay_script.proofs.Cutting.{no_line}

-- these lines in front of those of further entries
abbrev pub behind_parts : List BodyLine → List PlacedLine → Result (List Entry) Fault → Result (List BodyLine × List PlacedLine) Fault
behind_parts own lines (Ok entries) = Ok (own ++ match_lines entries, lines ++ relay_lines (length own) entries)
behind_parts own lines (Err fault) = Err fault

match_moved : (own : List BodyLine) (lines : List PlacedLine) (line : BodyLine) (read : Result (List Entry) Fault)
    → behind_parts own lines (read >>= λ rest. Ok (OfMatch line ∷ rest)) ≡ behind_parts (own ++ line ∷ []) lines read
unfolding match_lines relay_lines
match_moved own lines line (Ok entries) =
    let one : length (own ++ line ∷ []) ≡ suc (length own) = omega (arith, length-append own (line ∷ [])) in
    rw (one, append_assoc) refl
match_moved own lines line (Err fault) = refl

relay_moved : (own : List BodyLine) (lines : List PlacedLine) (line : RelayLine) (read : Result (List Entry) Fault)
    → behind_parts own lines (read >>= λ rest. Ok (OfRelay line ∷ rest)) ≡ behind_parts own (lines ++ record { behind = length own; line = line } ∷ []) read
unfolding match_lines relay_lines
relay_moved own lines line (Ok entries) = rw append_assoc refl
relay_moved own lines line (Err fault) = refl

module _ (clients spectators n k : ℕ) (text line rest : List ℕ) (own : List BodyLine) (lines : List PlacedLine) where
  pub match_goes_on : (read : BodyLine) → lines_of text ≡ line ∷ lines_of rest → entry_at clients spectators k line ≡ Ok (OfMatch read)
      → behind_parts own lines (entries_of clients spectators n k (lines_of text)) ≡ behind_parts (own ++ read ∷ []) lines (entries_of clients spectators n (k + 1) (lines_of rest))
  unfolding entries_of
  match_goes_on read cut e = rw (cut, e, add-one) (match_moved own lines read (entries_of clients spectators n (suc k) (lines_of rest)))

  pub relay_goes_on : (read : RelayLine) (behind : ℕ) → lines_of text ≡ line ∷ lines_of rest → entry_at clients spectators k line ≡ Ok (OfRelay read) → behind ≡ length own
      → behind_parts own lines (entries_of clients spectators n k (lines_of text))
      ≡ behind_parts own (lines ++ record { behind = behind; line = read } ∷ []) (entries_of clients spectators n (k + 1) (lines_of rest))
  unfolding entries_of
  relay_goes_on read behind cut e b = rw (cut, e, add-one, b) (relay_moved own lines read (entries_of clients spectators n (suc k) (lines_of rest)))

  pub body_stops : (fault : ScriptFault) → lines_of text ≡ line ∷ lines_of rest → entry_at clients spectators k line ≡ Err fault
      → behind_parts own lines (entries_of clients spectators n k (lines_of text)) ≡ Err (n + (k + 1), fault)
  unfolding entries_of
  body_stops fault cut e = rw (cut, e, add-one) refl

pub body_ends : (clients spectators n k : ℕ) (text : List ℕ) (own : List BodyLine) (lines : List PlacedLine) → length text ≡ 0
    → behind_parts own lines (entries_of clients spectators n k (lines_of text)) ≡ Ok (own, lines)
unfolding entries_of match_lines relay_lines
body_ends clients spectators n k text own lines e = rw (no_line text e, append-nil, append-nil) refl

pub own_more : (clients : ℕ) (own : List BodyLine) (line : BodyLine) → All (LineFits clients) own → LineFits clients line → All (LineFits clients) (own ++ line ∷ [])
own_more clients own line fit h = All-push (LineFits clients) own line fit h

pub placed_more : (spectators n : ℕ) (lines : List PlacedLine) (line : PlacedLine) → All (PlacedFits spectators n) lines → PlacedFits spectators n line
    → All (PlacedFits spectators n) (lines ++ line ∷ [])
placed_more spectators n lines line fit h = All-push (PlacedFits spectators n) lines line fit h

placed_later : (spectators n : ℕ) (placed : PlacedLine) → PlacedFits spectators n placed → PlacedFits spectators (n + 1) placed
placed_later spectators n placed (fit, behind) = (fit, omega arith)

pub still_placed : (spectators : ℕ) (own : List BodyLine) (line : BodyLine) (lines : List PlacedLine) → All (PlacedFits spectators (length own)) lines
    → All (PlacedFits spectators (length (own ++ line ∷ []))) lines
still_placed spectators own line lines all k d lt =
    let one : length (own ++ line ∷ []) ≡ length own + 1 = omega (arith, length-append own (line ∷ [])) in
    rw one (placed_later spectators (length own) _ (all k d lt))

one_more : (least spectators n : ℕ) (lines : List PlacedLine) (line : PlacedLine) → least ≤ line.behind → InOrderFrom least lines → All (PlacedFits spectators n) lines → n ≤ line.behind
    → InOrderFrom least (lines ++ line ∷ [])
one_more least spectators n [] line le order all last = (le, tt)
one_more least spectators n (placed ∷ lines) line le (low, order) all last =
    let here = (all 0 placed (omega arith)).1 in
    (low, one_more placed.behind spectators n lines line (omega (arith, here, last)) order (λ k d lt. all (suc k) d (omega (arith, lt))) last)

pub in_order_more : (spectators n : ℕ) (lines : List PlacedLine) (line : PlacedLine) → InOrderFrom 0 lines → All (PlacedFits spectators n) lines → n ≤ line.behind → InOrderFrom 0 (lines ++ line ∷ [])
in_order_more spectators n lines line order all last = one_more 0 spectators n lines line (omega arith) order all last

pub entry_few : (clients spectators k : ℕ) (line : List ℕ) (read : Entry) → entry_at clients spectators k line ≡ Ok read → k < 100000
unfolding entry_at relay_line_at line_at
entry_few clients spectators k line read e = grind arith

-- what holds behind a relay's line
pub record Kept (clients spectators n k : ℕ) (text rest : List ℕ) (own : List BodyLine) (lines after : List PlacedLine) : Type 0 where
  pub goes_on : behind_parts own lines (entries_of clients spectators n k (lines_of text)) ≡ behind_parts own after (entries_of clients spectators n (k + 1) (lines_of rest))
  pub few : k < 100000
  pub count : length after ≡ length lines + 1
  pub placed : All (PlacedFits spectators (length own)) after
  pub in_order : InOrderFrom 0 after

pub kept : (clients spectators n k : ℕ) (text line rest : List ℕ) (own : List BodyLine) (lines : List PlacedLine) (read : RelayLine) (behind : ℕ) (after : List PlacedLine)
    → lines_of text ≡ line ∷ lines_of rest → entry_at clients spectators k line ≡ Ok (OfRelay read) → RelayLineFits spectators read → behind ≡ length own
    → after ≡ lines ++ record { behind = behind; line = read } ∷ [] → All (PlacedFits spectators (length own)) lines → InOrderFrom 0 lines
    → Kept clients spectators n k text rest own lines after
kept clients spectators n k text line rest own lines read behind after cut e fit b items placed order =
    let last : PlacedLine = record { behind = behind; line = read } in
    record {
      goes_on = rw items (relay_goes_on clients spectators n k text line rest own lines read behind cut e b);
      few = entry_few clients spectators k line (OfRelay read) e;
      count = rw items (omega (arith, length-append lines (last ∷ [])));
      placed = rw items (placed_more spectators (length own) lines last placed (fit, omega (arith, b)));
      in_order = rw items (in_order_more spectators (length own) lines last order placed (omega (arith, b)));
    }
