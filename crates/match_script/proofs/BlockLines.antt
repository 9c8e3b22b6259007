-- The blocks of a header, line by line.
use Rattle.std.proofs.Common.{◌≡◌, ℕ, ◌+◌, List, [], ◌∷◌, ◌++◌, length, arith, Some, None, refl, append_assoc, add-one}
use Rattle.std.proofs.lemmas.List.{append-nil}
use Rattle.std.proofs.lemmas.List.Elements.{All-push}
use Rattle.std.specs.List.{All}
use Rattle.match_script.specs.Text.{lines_of}
use Rattle.match_script.specs.Script.{block_in, blocks_of}
use Rattle.match_script.specs.Ranges.{BlockFits}
use Rattle.match_script.proofs.Cutting.{no_lines}

-- these blocks in front of others, and the lines after them
abbrev pub behind_blocks : List (List ℕ) → List (List ℕ) × List (List ℕ) → List (List ℕ) × List (List ℕ)
behind_blocks front x = (front ++ x.0, x.1)

pub blocks_go_on : (front : List (List ℕ)) (k : ℕ) (text line rest block : List ℕ) → lines_of text ≡ line ∷ lines_of rest → block_in k line ≡ Some block → behind_blocks front (blocks_of k (lines_of text)) ≡ behind_blocks (front ++ block ∷ []) (blocks_of (k + 1) (lines_of rest))
unfolding blocks_of
blocks_go_on front k text line rest block cut e = rw (cut, e, add-one, append_assoc) refl

pub blocks_stop : (front : List (List ℕ)) (k : ℕ) (text line rest : List ℕ) → lines_of text ≡ line ∷ lines_of rest → block_in k line ≡ None → behind_blocks front (blocks_of k (lines_of text)) ≡ (front, lines_of text)
unfolding blocks_of
blocks_stop front k text line rest cut e = rw (cut, e, append-nil) refl

pub blocks_end : (front : List (List ℕ)) (k : ℕ) (text : List ℕ) → length text ≡ 0 → behind_blocks front (blocks_of k (lines_of text)) ≡ (front, lines_of text)
unfolding blocks_of
blocks_end front k [] e = rw (no_lines, append-nil) refl
blocks_end front k (b ∷ text) e = absurd (omega arith)

pub all_fit_more : (blocks : List (List ℕ)) (block : List ℕ) → All BlockFits blocks → BlockFits block → All BlockFits (blocks ++ block ∷ [])
all_fit_more blocks block fit h = All-push BlockFits blocks block fit h
