-- A script's next line is done: what the own list's maker stands for, and the items that it made.
use Rattle.std.proofs.Common.{◌≡◌, ◌∙◌, ◌<◌, ◌≤◌, ◌+◌, ℕ, List, ◌∷◌, length, take, reverse, refl, sym, ap, subst, arith, Option, Some, None}
use Rattle.std.specs.Prelude.{slice_get}
use Rattle.std.proofs.lemmas.List.{take_all, length-take, length-reverse}
use Rattle.std.proofs.lemmas.Option.{slice_get_within, get_or_from_slice_get}
use Rattle.match_script.specs.declared.types.BodyLine.{BodyLine}
use Rattle.match_script.specs.declared.types.Head.{Head}
use Rattle.match_script.specs.declared.types.Script.{Script}
use Rattle.match_script.specs.Ranges.{LineFits}
use Rattle.own_lists.specs.Own as own
use Rattle.own_lists.specs.Past.{after, taken_from}
use Rattle.own_lists.proofs.Counting.{counted_few}
use Rattle.match_engine.specs.Match.{MatchState, Does, StandsFor as MatchStandsFor}
use Rattle.match_engine.proofs.Written.{reverse_next}
use Rattle.own_items.specs.declared.items.OwnItem.{OwnItem}
use Rattle.own_items.specs.Items.{item_of}
use Rattle.own_items.specs.Source.{SourceState, StandsFor, Stands, first_lines, whole_own, made, Added}

pub one_more : (s : Script) (at : ℕ) (line : BodyLine) → slice_get s.body at ≡ Some line → first_lines s (at + 1) ≡ line ∷ first_lines s at
one_more s at line there =
    reverse_next s.body at line (slice_get_within s.body at line there)
    ∙ ap (λ (x : BodyLine). x ∷ first_lines s at) (get_or_from_slice_get s.body at line line there)

module _ (s : SourceState) (line : BodyLine) (h : Stands s) (there : slice_get s.script.body s.place ≡ Some line) where
  abbrev before : List BodyLine
  before = first_lines s.script s.place

  inside : s.place < length s.script.body
  inside = slice_get_within s.script.body s.place line there

  -- the match may do the line
  pub fits : LineFits s.game.script.head.clients line
  fits =
      subst (λ (x : Head). LineFits x.clients line) (sym h.head)
      (subst (LineFits s.script.head.clients) (get_or_from_slice_get s.script.body s.place line line there) (h.ranges.lines s.place line inside))

  pub few : s.game.game.done < 4000000
  few =
      let done = h.game.game.counted in
      let all = counted_few before in
      let long = length-reverse (take s.place s.script.body) in
      let front = length-take s.place s.script.body in
      omega (arith, done, all, long, front, inside, h.ranges.few)

  module _ (game : MatchState) (same : game.script ≡ s.game.script) (does : Does s.game line game) where
    abbrev now : SourceState
    now = record { script = s.script; client = s.client; game = game; place = s.place + 1 }

    did : MatchStandsFor game (line ∷ before)
    did = does before h.game

    pub stepped : Stands now
    stepped = record {
      ranges = h.ranges;
      client = h.client;
      head = ap (λ (x : Script). x.head) same ∙ h.head;
      game = subst (MatchStandsFor game) (sym (one_more s.script s.place line there)) did;
      lines = refl;
      within = omega (arith, inside);
    }

    same_head : game.script.head ≡ s.script.head
    same_head = ap (λ (x : Script). x.head) same ∙ h.head

    adds_none : (after s.script.head (line ∷ before)).own s.client ≡ made s → made now ≡ made s
    adds_none e = ap (λ (l : List BodyLine). (after s.script.head l).own s.client) (one_more s.script s.place line there) ∙ e

    adds_one : (item : own.OwnItem) → (after s.script.head (line ∷ before)).own s.client ≡ item ∷ made s → made now ≡ item ∷ made s
    adds_one item e = ap (λ (l : List BodyLine). (after s.script.head l).own s.client) (one_more s.script s.place line there) ∙ e

    -- what the line adds to the list
    pub added : (item : Option OwnItem) (taken : ℕ) → ((past : List BodyLine) → StandsFor s past → taken ≡ taken_from s.script.head (after s.script.head past) s.client)
        → ((past : List BodyLine) → MatchStandsFor game (line ∷ past) → taken ≡ taken_from game.script.head (after game.script.head past) s.client → Added game.script.head past line s.client item)
        → Added s.script.head before line s.client item
    added item taken took adds =
        subst (λ (x : Head). Added x before line s.client item) same_head
        (adds before did (subst (λ (x : Head). taken ≡ taken_from x (after x before) s.client) (sym same_head) (took before h)))

    pub makes_one : (o : Option OwnItem) (i : OwnItem) → o ≡ Some i → Added s.script.head before line s.client o → made now ≡ item_of i ∷ made s
    makes_one o i is add = adds_one (item_of i) (subst (Added s.script.head before line s.client) is add)

    pub makes_none : (o : Option OwnItem) → o ≡ None → Added s.script.head before line s.client o → made now ≡ made s
    makes_none o is add = adds_none (subst (Added s.script.head before line s.client) is add)

-- at the script's end it made the whole list
pub at_end : (s : SourceState) → length s.script.body ≤ s.place → made s ≡ whole_own s.script s.client
at_end s past = ap (λ (b : List BodyLine). (after s.script.head (reverse b)).own s.client) (take_all s.place s.script.body past)
