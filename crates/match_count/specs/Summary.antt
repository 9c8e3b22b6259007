-- What the command `big` writes: its words, and a line for each count.
use Rattle.std.specs.Prelude.{ℕ, List, ◌++◌, codes}
use Rattle.std.specs.Fmt.{decimal}
use Rattle.match_count.specs.declared.counts.Counts.{Counts}

-- a word and a number on a line
abbrev pub count_line : List ℕ → ℕ → List ℕ
count_line word n = word ++ codes " " ++ decimal n ++ codes "\n"

abbrev pub title_line : ℕ → ℕ → ℕ → List ℕ
title_line seed clients steps =
    codes "big " ++ decimal seed ++ codes " " ++ decimal clients ++ codes " " ++ decimal steps ++ codes "\n"

abbrev pub summary_text : ℕ → ℕ → ℕ → Counts → List ℕ
summary_text seed clients steps n =
    title_line seed clients steps
    ++ count_line (codes "data") n.data_packets
    ++ count_line (codes "ping") n.pings
    ++ count_line (codes "down") n.down
    ++ count_line (codes "old") n.old_packets
    ++ count_line (codes "events") n.events
    ++ count_line (codes "moves") n.moves
    ++ count_line (codes "bytes") n.bytes
