-- One line more of a script.
use Rattle.std.proofs.Common.{◌≡◌, ◌∙◌, ℕ, ◌+◌, ◌<◌, ◌≤◌, List, [], ◌∷◌, length, get_or, reverse, take, Some, sym, ap, subst, arith}
use Rattle.std.proofs.lemmas.List.{take_all, take_more, reverse-append}
use Rattle.match_script.specs.declared.types.BodyLine.{BodyLine}
use Rattle.match_script.specs.declared.types.BodyLine.TheVariants.{World}
use Rattle.match_script.specs.declared.types.Script.{Script}
use Rattle.match_report.specs.declared.told.Told.{Told}
use Rattle.match_engine.specs.match_laws.Report.{told_after}
use Rattle.match_engine.specs.Match.{MatchState, last_told}
use Rattle.match_count.specs.declared.counts.Counts.{Counts}
use Rattle.match_count.specs.Counting.{tellings_so_far, tellings, counts_of, with_line}
use Rattle.match_count.specs.Bounds.{AreAfter, AreCounts}
use Rattle.match_count.proofs.Telling.{one_line_counted}

-- the first lines of a script, the newest first
abbrev pub lines_before : Script → ℕ → List BodyLine
lines_before s at = reverse (take at s.body)

-- what the line at a place tells
abbrev pub told_at : Script → ℕ → Told
told_at s at = told_after s.head (lines_before s at) (get_or s.body at World)

next_line : (s : Script) (at : ℕ) → at < length s.body → lines_before s (at + 1) ≡ get_or s.body at World ∷ lines_before s at
next_line s at lt = ap reverse (take_more s.body at World lt) ∙ reverse-append (take at s.body) (get_or s.body at World ∷ [])

-- what was told last
pub last_is : (s : Script) (n : MatchState) (at : ℕ) → at < length s.body → n.script ≡ s → n.place ≡ at + 1
    → last_told n.script.head (lines_before n.script n.place) ≡ Some (told_at s at)
last_is s n at lt script place =
    ap (λ (x : Script). last_told x.head (lines_before x n.place)) script
    ∙ ap (λ (k : ℕ). last_told s.head (lines_before s k)) place
    ∙ ap (last_told s.head) (next_line s at lt)

pub counted_more : (s : Script) (at : ℕ) (old new : Counts) (told : Told) → at < length s.body → told ≡ told_at s at
    → AreCounts s at old → new ≡ with_line old told → AreAfter (at + 1) new → AreCounts s (at + 1) new
counted_more s at old new told lt is a more bounds = record {
  counts =
      more ∙ ap (λ (n : Counts). with_line n told) a.counts ∙ ap (with_line (counts_of (tellings_so_far s.head (lines_before s at)))) is
      ∙ sym (one_line_counted (tellings_so_far s.head (lines_before s at)) (told_at s at))
      ∙ ap (λ (past : List BodyLine). counts_of (tellings_so_far s.head past)) (sym (next_line s at lt));
  bounds = bounds;
}

pub counted_all : (s : Script) (at : ℕ) (n : Counts) → length s.body ≤ at → AreCounts s at n → n ≡ counts_of (tellings s)
unfolding tellings
counted_all s at n past a = a.counts ∙ ap (λ (body : List BodyLine). counts_of (tellings_so_far s.head (reverse body))) (take_all at s.body past)

pub none_counted : (s : Script) (n : Counts) → n ≡ counts_of [] → AreCounts s 0 n
unfolding counts_of
none_counted s n e = record {
  counts = e;
  bounds = subst (AreAfter 0) (sym e) (record {
    data_packets = omega arith;
    pings = omega arith;
    down = omega arith;
    old_packets = omega arith;
    events = omega arith;
    moves = omega arith;
    bytes = omega arith;
  });
}
