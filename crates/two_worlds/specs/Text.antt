-- The text that a server which serves one client alone writes.
use Rattle.std.specs.Prelude.{ℕ, List, [], nat_lt, reverse, if◌then◌else◌}
use Rattle.std.specs.List.{flat_map}
use Rattle.match_script.specs.declared.types.Script.{Script}
use Rattle.own_lists.specs.Past.{client_terms, after}
use Rattle.alone_server.specs.own_items.match_laws.Laws.{pack_lines}
use Rattle.two_worlds.specs.Laws.{whole_line}

-- the lines of the packs of a client's whole own list; none where the match has no such client
unfoldable pub alone_text : Script → ℕ → List ℕ
alone_text s c =
    if nat_lt c s.head.clients then flat_map whole_line (pack_lines (client_terms s.head c) ((after s.head (reverse s.body)).own c)) else []
