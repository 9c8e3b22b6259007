-- What a spectator meets is made of the own list of the relay's client, and of the spectator's lines.
use Rattle.std.proofs.Common.{◌≡◌, ◌∙◌, ℕ, ◌-◌, ◌==◌, Bool, true, false, List, [], ◌∷◌, ◌++◌, map, take, length, if◌then◌else◌, refl, sym, ap, arith}
use Rattle.wire_format.specs.declared.server.ServerPacket.{ServerPacket}
use Rattle.world_rules.specs.Kinds.{match_kinds}
use Rattle.match_script.specs.declared.types.BodyLine.{BodyLine}
use Rattle.match_script.specs.declared.types.Head.{Head}
use Rattle.own_lists.specs.pair_core.stream_manager.Limits.{Terms}
use Rattle.own_lists.specs.pair_core.stream_manager.Packets.{packets_at}
use Rattle.own_lists.specs.pair_core.History.{history}
use Rattle.own_lists.specs.Own.{OwnItem}
use Rattle.own_lists.specs.Kept.{journal}
use Rattle.own_lists.specs.Past.{client_terms, after}
use Rattle.match_engine.proofs.Below.match_laws.Grown.{grows}
use Rattle.relay_script.specs.declared.entries.Entry.{Entry}
use Rattle.relay_script.specs.declared.entries.Entry.TheVariants.{OfMatch, OfRelay}
use Rattle.relay_script.specs.declared.types.RelayLine.{RelayLine}
use Rattle.relay_script.specs.declared.types.RelayLine.TheVariants.{Scan, Pack, ClientPack, Down, Up, Show}
use Rattle.relay_model.specs.Watching.{WatchEvent, Took}
use Rattle.relay_report.specs.Met.{match_past, newly, asked_of, met}
use Rattle.relay_report.specs.Report.{named}
use Rattle.relay_report.specs.Laws.{Heard, Item, Asked, added, heard, all_lines, SameListsSamePacks}
use Rattle.relay_report.proofs.Packs.{same_met}

-- ---- what is new of a list

no_more : {X : Type 0} (xs : List X) → take (length xs - length xs) xs ≡ []
no_more {X} xs = ap (λ (n : ℕ). take n xs) (let e : length xs - length xs ≡ 0 = omega arith in e)

one_more : {X : Type 0} (x : X) (xs : List X) → take (length (x ∷ xs) - length xs) (x ∷ xs) ≡ x ∷ []
one_more {X} x xs = ap (λ (n : ℕ). take n (x ∷ xs)) (let e : length (x ∷ xs) - length xs ≡ 1 = omega arith in e)

-- ---- the items and lines as all that there is

pub items_in : List Heard → List OwnItem
items_in [] = []
items_in (Item item ∷ hs) = item ∷ items_in hs
items_in (Asked line ∷ hs) = items_in hs

-- the packets that these items leave
abbrev pub packets_of : Terms → List OwnItem → List ServerPacket
packets_of t items = packets_at (history t (journal t items)).client

pub met_from : Terms → ℕ → List Heard → List WatchEvent
met_from t s [] = []
met_from t s (Item item ∷ hs) = newly (packets_of t (items_in hs)) (packets_of t (item ∷ items_in hs)) ++ met_from t s hs
met_from t s (Asked line ∷ hs) = asked_of s line ++ met_from t s hs

module _ (head : Head) (c s : ℕ) where
  abbrev t : Terms
  t = client_terms head c

  pub record IsFrom (hs : List Heard) (items : List OwnItem) (events : List WatchEvent) : Type 0 where
    pub items_are : items_in hs ≡ items
    pub events_are : events ≡ met_from t s hs

  -- a line of the match, behind which the own list is this one
  module _ (hs : List Heard) (events : List WatchEvent) where
    abbrev Grows : List OwnItem → List OwnItem → Type 0
    Grows old new = IsFrom hs old events → IsFrom (added old new ++ hs) new (newly (packets_of t old) (packets_of t new) ++ events)

    same : (items : List OwnItem) → Grows items items
    unfolding items_in met_from
    same items is =
        let none : added items items ≡ [] = ap (λ (l : List OwnItem). map Item l) (no_more items) in
        let quiet : newly (packets_of t items) (packets_of t items) ≡ [] = ap (λ (l : List ServerPacket). map Took l) (no_more (packets_of t items)) in
        record {
          items_are = ap (λ (l : List Heard). items_in (l ++ hs)) none ∙ is.items_are;
          events_are = ap (λ (l : List WatchEvent). l ++ events) quiet ∙ is.events_are ∙ ap (λ (l : List Heard). met_from t s (l ++ hs)) (sym none);
        }

    more : (items : List OwnItem) (item : OwnItem) → Grows items (item ∷ items)
    unfolding items_in met_from
    more items item is =
        let one : added items (item ∷ items) ≡ Item item ∷ [] = ap (λ (l : List OwnItem). map Item l) (one_more item items) in
        record {
          items_are = ap (λ (l : List Heard). items_in (l ++ hs)) one ∙ ap (λ (l : List OwnItem). item ∷ l) is.items_are;
          events_are = ap (λ (l : List WatchEvent). newly (packets_of t items) (packets_of t (item ∷ items)) ++ l) is.events_are
              ∙ ap (λ (l : List OwnItem). newly (packets_of t l) (packets_of t (item ∷ l)) ++ met_from t s hs) (sym is.items_are)
              ∙ ap (λ (l : List Heard). met_from t s (l ++ hs)) (sym one);
        }

    pub line_is : (p : List BodyLine) (line : BodyLine) → Grows ((after head p).own c) ((after head (line ∷ p)).own c)
    line_is p line = grows Grows same head (after head p) c line (λ item made. more ((after head p).own c) item)

  -- a line of the relay
  unasked : (line : RelayLine) → (named line == s) ≡ false → asked_of s line ≡ []
  unasked (Scan d) e = rw e refl
  unasked (Pack d) e = rw e refl
  unasked (ClientPack d) e = rw e refl
  unasked (Down d k) e = rw e refl
  unasked (Up d k) e = rw e refl
  unasked (Show d) e = refl

  asks : (hs : List Heard) (items : List OwnItem) (events : List WatchEvent) (line : RelayLine) → IsFrom hs items events
      → IsFrom ((if named line == s then Asked line ∷ [] else []) ++ hs) items (asked_of s line ++ events)
  unfolding items_in met_from
  asks hs items events line is = by (named line == s) refl
    where
      by : (b : Bool) → (named line == s) ≡ b → IsFrom ((if b then Asked line ∷ [] else []) ++ hs) items (asked_of s line ++ events)
      by true e = record { items_are = is.items_are; events_are = ap (λ (l : List WatchEvent). asked_of s line ++ l) is.events_are }
      by false e = record { items_are = is.items_are; events_are = ap (λ (l : List WatchEvent). l ++ events) (unasked line e) ∙ is.events_are }

  pub all_from : (past : List Entry) → IsFrom (heard head c s past) ((after head (match_past past)).own c) (met head c s past)
  unfolding items_in met_from
  all_from [] = record { items_are = refl; events_are = refl }
  all_from (OfMatch line ∷ past) = line_is (heard head c s past) (met head c s past) (match_past past) line (all_from past)
  all_from (OfRelay line ∷ past) = asks (heard head c s past) ((after head (match_past past)).own c) (met head c s past) line (all_from past)

pub same_lists : SameListsSamePacks
same_lists a b s terms client e =
    let from_a = (all_from a.script.head a.client s (all_lines a)).events_are in
    let from_b = (all_from b.script.head b.client s (all_lines b)).events_are in
    same_met a b s terms
    (from_a
    ∙ (λ j. met_from (record {
      config = record { client = client j; life = terms.life j; size = terms.size j; version = terms.version j; move_bits = 10 };
      kinds = match_kinds;
      blocks = terms.blocks j;
    }) s (e j))
    ∙ sym from_b)
