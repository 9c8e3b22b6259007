-- The packs of a spectator are made of what it met.
use Rattle.std.proofs.Common.{◌≡◌, ◌∙◌, ℕ, ◌-◌, ◌==◌, Bool, true, false, List, [], ◌∷◌, ◌++◌, map, take, drop, reverse, length, if◌then◌else◌, refl, sym, ap, subst}
use Rattle.std.proofs.lemmas.List.{append-nil}
use Rattle.std.proofs.lemmas.Bool.{eqb-true}
use Rattle.wire_format.specs.declared.server.ServerPacket.{ServerPacket}
use Rattle.world_rules.specs.Kinds.{match_kinds}
use Rattle.match_script.specs.declared.types.BodyLine.{BodyLine}
use Rattle.match_script.specs.declared.types.BodyLine.TheVariants as script
use Rattle.match_script.specs.declared.types.Head.{Head}
use Rattle.own_lists.specs.pair_core.stream_manager.Limits.{Terms}
use Rattle.relay_script.specs.declared.entries.Entry.{Entry}
use Rattle.relay_script.specs.declared.entries.Entry.TheVariants.{OfMatch, OfRelay}
use Rattle.relay_script.specs.declared.types.PlacedLine.{PlacedLine}
use Rattle.relay_script.specs.declared.types.RelayLine.{RelayLine}
use Rattle.relay_script.specs.declared.types.RelayLine.TheVariants.{Scan, Pack, ClientPack, Down, Up, Show}
use Rattle.relay_script.specs.declared.types.RelayScript.{RelayScript}
use Rattle.relay_model.specs.Watching.{WatchEvent, Took, Scans, Own}
use Rattle.relay_report.specs.Met.{past_of, match_past, taken_by, spectator_terms, asked_of, met}
use Rattle.relay_report.specs.Report.{line_text}
use Rattle.relay_report.specs.Laws.{is_pack_of, pack_lines, packs_of, PacksAreOfWhatWasMet, SameMetSamePacks}

packets_quiet : (t : Terms) (packets : List ServerPacket) (events : List WatchEvent) → packs_of t (map Took packets ++ events) ≡ packs_of t events
packets_quiet t [] events = refl
packets_quiet t (p ∷ packets) events = packets_quiet t packets events

module _ (head : Head) (c s : ℕ) where
  abbrev t : Terms
  t = spectator_terms head s

  matches_quiet : (lines : List BodyLine) (past : List Entry) → packs_of t (met head c s (map OfMatch lines ++ past)) ≡ packs_of t (met head c s past)
  matches_quiet [] past = refl
  matches_quiet (line ∷ lines) past =
      let all : List Entry = map OfMatch lines ++ past in
      packets_quiet t (take (length (taken_by head c (line ∷ match_past all)) - length (taken_by head c (match_past all))) (taken_by head c (line ∷ match_past all))) (met head c s all)
      ∙ matches_quiet lines past

  -- a line that packs nothing
  no_pack : (b : Bool) (event : WatchEvent) (events : List WatchEvent) → packs_of t (event ∷ events) ≡ packs_of t events
      → packs_of t ((if b then event ∷ [] else []) ++ events) ≡ packs_of t events ++ []
  no_pack true event events quiet = quiet ∙ sym (append-nil (packs_of t events))
  no_pack false event events quiet = sym (append-nil (packs_of t events))

  line_packs : (past : List Entry) (line : RelayLine)
      → packs_of t (asked_of s line ++ met head c s past)
      ≡ packs_of t (met head c s past) ++ (if is_pack_of s line then line_text head c past line ∷ [] else [])
  line_packs past (Scan d) = no_pack (d == s) Scans (met head c s past) refl
  line_packs past (ClientPack d) = no_pack (d == s) (Own (script.ClientPack d)) (met head c s past) refl
  line_packs past (Down d k) = no_pack (d == s) (Own (script.Down d k)) (met head c s past) refl
  line_packs past (Up d k) = no_pack (d == s) (Own (script.Up d k)) (met head c s past) refl
  line_packs past (Show d) = sym (append-nil (packs_of t (met head c s past)))
  line_packs past (Pack d) = by (d == s) refl
    where
      by : (b : Bool) → (d == s) ≡ b → packs_of t ((if b then Own (script.Pack d) ∷ [] else []) ++ met head c s past)
          ≡ packs_of t (met head c s past) ++ (if b then line_text head c past (Pack d) ∷ [] else [])
      by false e = sym (append-nil (packs_of t (met head c s past)))
      by true e =
          subst (λ (n : ℕ). packs_of (spectator_terms head n) (Own (script.Pack d) ∷ met head c n past)
          ≡ packs_of (spectator_terms head n) (met head c n past) ++ line_text head c past (Pack d) ∷ []) (eqb-true d s e) refl

  pub packs_so_far : (r : RelayScript) → r.script.head ≡ head → r.client ≡ c → (place : ℕ) (lines : List PlacedLine)
      → packs_of t (met head c s (past_of r.script.body place lines)) ≡ pack_lines r s lines
  packs_so_far r h k place [] =
      let front : List BodyLine = reverse (take place r.script.body) in
      ap (λ (l : List Entry). packs_of t (met head c s l)) (sym (append-nil (map OfMatch front))) ∙ matches_quiet front []
  packs_so_far r h k place (placed ∷ earlier) =
      let past = past_of r.script.body placed.behind earlier in
      matches_quiet (reverse (take (place - placed.behind) (drop placed.behind r.script.body))) (OfRelay placed.line ∷ past)
      ∙ line_packs past placed.line
      ∙ ap (λ (l : List (List ℕ)). l ++ (if is_pack_of s placed.line then line_text head c past placed.line ∷ [] else [])) (packs_so_far r h k placed.behind earlier)
      ∙ (λ j. pack_lines r s earlier ++ (if is_pack_of s placed.line then line_text (sym h j) (sym k j) past placed.line ∷ [] else []))

pub packs_are : PacksAreOfWhatWasMet
packs_are r s = sym (packs_so_far r.script.head r.client s r refl refl (length r.script.body) (reverse r.lines))

pub same_met : SameMetSamePacks
same_met a b s same e =
    packs_are a s
    ∙ (λ j. packs_of (record {
      config = record { client = s; life = same.life j; size = same.size j; version = same.version j; move_bits = 10 };
      kinds = match_kinds;
      blocks = same.blocks j;
    }) (e j))
    ∙ sym (packs_are b s)
