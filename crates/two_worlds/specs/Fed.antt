-- A client's server that is fed by the maker of its own list: the two agree on the items, and the text is that of these.
use Rattle.std.specs.Prelude.{◌≡◌, ℕ, ◌<◌, List, Option, length}
use Rattle.tn_outside.specs.Totals.{Adds, AddsFront}
use Rattle.own_lists.specs.pair_steps.stream_manager.Limits.{Terms}
use Rattle.own_lists.specs.Past.{client_terms}
use Rattle.two_worlds.specs.declared.alone.Alone.{Alone}
use Rattle.two_worlds.specs.Laws.{text_of}
use Rattle.alone_server.specs.own_items.Source.{SourceState, Stands, made, whole_own}
use Rattle.two_worlds.specs.Stands.{StandsFor}

abbrev pub terms_in : SourceState → Terms
terms_in s = client_terms s.script.head s.client

-- the server was fed exactly the items that were made
pub record IsFed (s : SourceState) (a : Alone) : Type 0 where
  pub source : Stands s
  pub server : StandsFor a (terms_in s) (made s)

-- the text of the items that were made, and of the whole list
abbrev pub text_made : SourceState → List ℕ
text_made s = text_of (terms_in s) (made s)

abbrev pub whole_text : SourceState → List ℕ
whole_text s = text_of (terms_in s) (whole_own s.script s.client)

-- a sink that had the text of the items before has that of the new ones
abbrev pub Continues : SourceState → SourceState → Option (List ℕ) → Option (List ℕ) → Type 0
Continues s n written written' = (first : Option (List ℕ)) → Adds first written (text_made s) → Adds first written' (text_made n)

-- it has a front of the whole list's text
abbrev pub Breaks : SourceState → Option (List ℕ) → Option (List ℕ) → Type 0
Breaks s written written' = (first : Option (List ℕ)) → Adds first written (text_made s) → AddsFront first written' (whole_text s)

-- one more item was made and fed: at least one more line of the script was done, and its text was added
pub record Moves (s n : SourceState) (b : Alone) (before later : Option (List ℕ)) : Type 0 where
  pub fed : IsFed n b
  pub script : n.script ≡ s.script
  pub client : n.client ≡ s.client
  pub more : s.place < length s.script.body
  pub place : s.place < n.place
  pub written : Continues s n before later
