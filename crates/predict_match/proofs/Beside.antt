-- A match and a prediction beside it: the client's end of a connection in a match, and the lines that are written.
use Rattle.std.proofs.Common.{◌≡◌, ℕ, ◌+◌, ◌<◌, ◌≤◌, List, [], ◌∷◌, ◌++◌, length, get_or, take, drop, reverse, refl, sym, ap, ◌∙◌, subst, arith, append_assoc, Option, true, false, nat_lt}
use Rattle.std.proofs.lemmas.List.{append-nil, length-reverse, length-take, take_all, reverse-append, take-append-drop}
use Rattle.std.proofs.lemmas.Bool.Decides.{nat_tests}
use Rattle.tn_outside.specs.Totals.{Adds, AddsFront}
use Rattle.tn_outside.proofs.Totals.{adds_then, front_more}
use Rattle.match_script.specs.declared.types.BodyLine.{BodyLine}
use Rattle.match_script.specs.declared.types.Head.{Head}
use Rattle.match_script.specs.declared.types.Script.{Script}
use Rattle.own_lists.proofs.Counting.{counted_few}
use Rattle.match_engine.specs.client_seat.Stands.{SeatState}
use Rattle.match_engine.specs.match_laws.pair_core.Stands.{PairState}
use Rattle.match_engine.specs.match_laws.pair_core.stream_manager.Stands.{ClientState, ClientStandsFor}
use Rattle.match_engine.specs.Match.{MatchState, StandsFor}
use Rattle.match_engine.proofs.Lent.{seat, seat_stands, pair_stands}
use Rattle.match_engine.proofs.Written.{reverse_next}
use Rattle.predict_laws.specs.predict_lines.Lines.{end_of, predicted_at, predicted_so_far, predicted}

-- ---- the client's end

module _ (m : MatchState) (past : List BodyLine) (c : ℕ) (stands : StandsFor m past) (below : c < m.script.head.clients) where
  pub end_stands : (p : PairState) → ((d : SeatState) → p ≡ (get_or m.game.seats c d).pair) → ClientStandsFor p.client (end_of m.script.head past c)
  end_stands p is = (pair_stands m past c stands below p is).client

  -- some end stands for what happened
  pub some_end : ClientState
  some_end = (get_or m.game.seats c (seat m past c stands below)).pair.client

  pub some_stands : ClientStandsFor some_end (end_of m.script.head past c)
  unfolding some_end
  some_stands = (seat_stands m past c stands below).client

-- ---- lines

-- of a script's own lines there are never too many
pub few_done : (m : MatchState) (i : ℕ) (lines : List BodyLine) → length lines ≤ 100000 → StandsFor m (reverse (take i lines)) → m.game.done < 4000000
few_done m i lines few stands =
    let front = take i lines in
    omega (arith, stands.game.counted, counted_few (reverse front), length-reverse front, length-take i lines, few)

abbrev front : List BodyLine → ℕ → List BodyLine
front lines i = reverse (take i lines)

module _ (head : Head) (c : ℕ) where
  -- what is written for the first lines stands in front of what is written for all
  pub in_front : (later past : List BodyLine)
      → (rest : List ℕ) × (predicted_so_far head c (later ++ past) ≡ predicted_so_far head c past ++ rest)
  in_front [] past = ([], sym (append-nil (predicted_so_far head c past)))
  in_front (line ∷ later) past =
      let r = in_front later past in
      let text = predicted_at head c (later ++ past) line in
      (r.0 ++ text, ap (λ (t : List ℕ). t ++ text) r.1 ∙ append_assoc (predicted_so_far head c past) r.0 text)

  -- the lines behind one, with that line in front of the others
  split_at : (lines : List BodyLine) (i : ℕ) (d : BodyLine) → i < length lines
      → reverse lines ≡ reverse (drop (i + 1) lines) ++ (get_or lines i d ∷ front lines i)
  split_at lines i d lt =
      ap reverse (sym (take-append-drop (i + 1) lines)) ∙ reverse-append (take (i + 1) lines) (drop (i + 1) lines)
      ∙ ap (λ (l : List BodyLine). reverse (drop (i + 1) lines) ++ l) (reverse_next lines i d lt)

  -- one line more was done
  pub more_written : (lines : List BodyLine) (i : ℕ) (d : BodyLine) (first old new : Option (List ℕ)) → i < length lines
      → Adds first old (predicted_so_far head c (front lines i))
      → Adds old new (predicted_at head c (front lines i) (get_or lines i d))
      → Adds first new (predicted_so_far head c (front lines (i + 1)))
  more_written lines i d first old new lt so_far adds =
      adds_then first old new (predicted_so_far head c (front lines i)) (predicted_at head c (front lines i) (get_or lines i d)) _ so_far adds
      (ap (predicted_so_far head c) (reverse_next lines i d lt))

  -- of a line a front was written
  pub front_written : (lines : List BodyLine) (i : ℕ) (d : BodyLine) (first old new : Option (List ℕ)) → i < length lines
      → Adds first old (predicted_so_far head c (front lines i))
      → AddsFront old new (predicted_at head c (front lines i) (get_or lines i d))
      → AddsFront first new (predicted_so_far head c (reverse lines))
  front_written lines i d first old new lt so_far adds =
      let text = predicted_at head c (front lines i) (get_or lines i d) in
      let so = predicted_so_far head c (front lines i) in
      let rest = in_front (reverse (drop (i + 1) lines)) (get_or lines i d ∷ front lines i) in
      front_more first old new so text rest.0 _ so_far adds
      (ap (predicted_so_far head c) (split_at lines i d lt) ∙ rest.1 ∙ append_assoc so text rest.0)

  -- all lines were done
  pub all_written : (lines : List BodyLine) (i : ℕ) (first new : Option (List ℕ)) → length lines ≤ i
      → Adds first new (predicted_so_far head c (front lines i)) → Adds first new (predicted_so_far head c (reverse lines))
  all_written lines i first new past so_far =
      subst (λ (l : List BodyLine). Adds first new (predicted_so_far head c (reverse l))) (take_all i lines past) so_far

-- ---- the whole text

module _ (s : Script) (c : ℕ) where
  pub of_client : c < s.head.clients → predicted_so_far s.head c (reverse s.body) ≡ predicted s c
  unfolding predicted
  of_client below = let yes : nat_lt c s.head.clients ≡ true = grind (arith, nat_tests) in rw yes refl

  pub of_nobody : s.head.clients ≤ c → predicted s c ≡ []
  unfolding predicted
  of_nobody beyond = let no : nat_lt c s.head.clients ≡ false = grind (arith, nat_tests) in rw no refl
