-- What a server writes that is fed a client's own list alone.
use Rattle.std.specs.Prelude.{◌≡◌, ℕ, List, [], ◌∷◌, ◌++◌}
use Rattle.std.specs.List.{flat_map}
use Rattle.match_script.specs.declared.types.BodyLine.{BodyLine}
use Rattle.match_script.specs.declared.types.Head.{Head}
use Rattle.own_lists.specs.pair_steps.stream_manager.Limits.{Terms}
use Rattle.own_lists.specs.Own.{OwnItem}
use Rattle.own_lists.specs.Past.{client_terms, after}
use Rattle.alone_server.specs.own_items.match_laws.Report.{told_lines}
use Rattle.alone_server.specs.own_items.match_laws.Laws.{packs_in}
use Rattle.two_worlds.specs.Stands.{item_text}

-- the text that all these items add, the oldest first
abbrev pub text_of : Terms → List OwnItem → List ℕ
text_of t [] = []
text_of t (item ∷ items) = text_of t items ++ item_text t items item

abbrev pub whole_line : List ℕ → List ℕ
whole_line line = line

-- it is the report's lines of the client's packs, byte for byte, whatever else is in the match
abbrev pub WritesThePacks : Type 0
WritesThePacks =
    (head : Head) (c : ℕ) (past : List BodyLine)
    → text_of (client_terms head c) ((after head past).own c) ≡ flat_map whole_line (packs_in c (told_lines head past))

-- so two matches that tell a client the same, with the same LIFE, SIZE and blocks, have the same lines of its packs
abbrev pub SameListsSameLines : Type 0
SameListsSameLines =
    (head other : Head) (c : ℕ) (past its_past : List BodyLine)
    → client_terms head c ≡ client_terms other c → (after head past).own c ≡ (after other its_past).own c
    → packs_in c (told_lines head past) ≡ packs_in c (told_lines other its_past)
