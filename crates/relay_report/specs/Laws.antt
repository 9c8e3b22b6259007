-- What the packs of a spectator rest on. The lines `r pack S` are a function of the header's numbers and blocks, of the packets that the
-- relay's client took, of the spectator's own lines, and of the order of these: of nothing else that is in the match or at the relay. And
-- what the relay's client took is a function of its own list in the match.
use Rattle.std.specs.Prelude.{ℕ, ◌≡◌, ◌-◌, ◌==◌, Bool, false, List, [], ◌∷◌, ◌++◌, length, map, take, reverse, if◌then◌else◌}
use Rattle.match_script.specs.declared.types.BodyLine.TheVariants as script
use Rattle.match_script.specs.declared.types.Head.{Head}
use Rattle.match_engine.specs.client_seat.Told.{pack_told}
use Rattle.own_lists.specs.pair_core.stream_manager.Limits.{Terms}
use Rattle.own_lists.specs.Own.{OwnItem}
use Rattle.own_lists.specs.Kept.{kept}
use Rattle.own_lists.specs.Past.{after}
use Rattle.relay_script.specs.declared.entries.Entry.{Entry}
use Rattle.relay_script.specs.declared.entries.Entry.TheVariants.{OfMatch, OfRelay}
use Rattle.relay_script.specs.declared.types.PlacedLine.{PlacedLine}
use Rattle.relay_script.specs.declared.types.RelayLine.{RelayLine}
use Rattle.relay_script.specs.declared.types.RelayLine.TheVariants.{Pack}
use Rattle.relay_script.specs.declared.types.RelayScript.{RelayScript}
use Rattle.relay_model.specs.Watching.{WatchEvent, Own}
use Rattle.relay_model.specs.Items.{items_of}
use Rattle.relay_report.specs.Met.{past_of, match_past, spectator_terms, met}
use Rattle.relay_report.specs.Report.{named, relay_text, line_text}

-- ---- the lines `r pack S`

abbrev pub is_pack_of : ℕ → RelayLine → Bool
is_pack_of s (Pack d) = d == s
is_pack_of s line = false

-- what these lines of the relay print where they pack for spectator s, the oldest first; they are listed newest first
abbrev pub pack_lines : RelayScript → ℕ → List PlacedLine → List (List ℕ)
pack_lines r s [] = []
pack_lines r s (placed ∷ earlier) =
    pack_lines r s earlier
    ++ (if is_pack_of s placed.line then line_text r.script.head r.client (past_of r.script.body placed.behind earlier) placed.line ∷ [] else [])

-- all that the report has of them
abbrev pub packs_in : RelayScript → ℕ → List (List ℕ)
packs_in r s = pack_lines r s (reverse r.lines)

-- ---- what they are made of

-- all lines of a relay script, the newest first
abbrev pub all_lines : RelayScript → List Entry
all_lines r = past_of r.script.body (length r.script.body) (reverse r.lines)

-- all that spectator s meets
abbrev pub met_in : RelayScript → ℕ → List WatchEvent
met_in r s = met r.script.head r.client s (all_lines r)

-- what each pack of a spectator prints that met these, the oldest first
abbrev pub packs_of : Terms → List WatchEvent → List (List ℕ)
packs_of t [] = []
packs_of t (Own (script.Pack s) ∷ events) = packs_of t events ++ relay_text (pack_told t (kept t (items_of t events)) s) ∷ []
packs_of t (event ∷ events) = packs_of t events

-- the same numbers and blocks in two headers
pub record SameTerms (a b : Head) : Type 0 where
  pub life : a.life ≡ b.life
  pub size : a.size ≡ b.size
  pub version : a.version ≡ b.version
  pub blocks : a.blocks ≡ b.blocks

-- the packs of a spectator are made of what it met
abbrev pub PacksAreOfWhatWasMet : Type 0
PacksAreOfWhatWasMet = (r : RelayScript) (s : ℕ) → packs_in r s ≡ packs_of (spectator_terms r.script.head s) (met_in r s)

-- so where it meets the same, whatever else happens in the match and at the relay, its packs print the same
abbrev pub SameMetSamePacks : Type 0
SameMetSamePacks =
    (a b : RelayScript) (s : ℕ) → SameTerms a.script.head b.script.head → met_in a s ≡ met_in b s → packs_in a s ≡ packs_in b s

-- ---- what it meets is made of the relay's own list

-- an item of the own list of the relay's client, or a line of the spectator
pub data Heard : Type 0 where
  Item : OwnItem → Heard
  Asked : RelayLine → Heard

-- the items that are in the newer list and not in the older
abbrev pub added : List OwnItem → List OwnItem → List Heard
added older newer = map Item (take (length newer - length older) newer)

-- these lines' items of client c's own list and the lines of spectator s, in their order, the newest first
abbrev pub heard : Head → ℕ → ℕ → List Entry → List Heard
heard head c s [] = []
heard head c s (OfMatch line ∷ past) =
    added ((after head (match_past past)).own c) ((after head (line ∷ match_past past)).own c) ++ heard head c s past
heard head c s (OfRelay line ∷ past) = (if named line == s then Asked line ∷ [] else []) ++ heard head c s past

abbrev pub heard_in : RelayScript → ℕ → List Heard
heard_in r s = heard r.script.head r.client s (all_lines r)

-- so where the relay's client is told the same of the match, and the spectator's lines stand in the same order between that, its packs
-- print the same
abbrev pub SameListsSamePacks : Type 0
SameListsSamePacks =
    (a b : RelayScript) (s : ℕ) → SameTerms a.script.head b.script.head → a.client ≡ b.client → heard_in a s ≡ heard_in b s
    → packs_in a s ≡ packs_in b s
