-- The lines of a script make steps whose payloads are in range, and each step may be made; so, with an honest client, what is
-- delivered is a front of what was posted.
use Rattle.std.proofs.Common.{ℕ, ◌<◌, List, [], ◌∷◌, ◌++◌, take, reverse, refl, sym, subst, arith, length-take}
use Rattle.std.specs.List.{AllByRecursion}
use Rattle.std.proofs.lemmas.List.{length-reverse}
use Rattle.std.proofs.lemmas.List.Elements.{All-from_recursion, recursion_from_All, All-take}
use Rattle.std.proofs.lemmas.Grind.{reverse_onto}
use Rattle.std.specs.Prelude.{map}
use Rattle.match_script.specs.declared.types.BodyLine.{BodyLine}
use Rattle.match_script.specs.declared.types.BodyLine.TheVariants as script
use Rattle.match_script.specs.declared.types.Head.{Head}
use Rattle.match_script.specs.declared.types.Script.{Script}
use Rattle.match_script.specs.Ranges.{LineFits, BlockFits, HeadFits, HasRanges}
use Rattle.client_scope.specs.declared.period.Near.{Near as NearPeriod}
use Rattle.stream_manager.specs.Limits.{Terms, IsBlockBytes, AreTerms}
use Rattle.client_seat.specs.pair_core.History.{PairStep}
use Rattle.client_seat.specs.pair_core.Conditions.{IsHonest}
use Rattle.client_seat.specs.pair_core.Conditions.{StepFits}
use Rattle.pair_copies.proofs.Below.pair_laws.Good.{AreGood}
use Rattle.pair_copies.proofs.Below.pair_laws.Delivered.{good}
use Rattle.conn_packing.proofs.Lists.{all-append}
use Rattle.pair_copies.proofs.Below.pair_laws.InOrder.{delivers_down, delivers_up, accepts}
use Rattle.pair_copies.proofs.Below.pair_laws.LooseEvents.{loose_down, loose_up}
use Rattle.client_seat.specs.own_lists.declared.showing.Showing.{Showing}
use Rattle.client_seat.specs.own_lists.Own.{OwnItem, Line, Scan, Tick}
use Rattle.client_seat.specs.own_lists.Course.{onto, near_step, show_step, scan_steps}
use Rattle.client_seat.specs.own_lists.Kept.{Kept, after_line, follows, kept, journal}
use Rattle.client_seat.specs.own_lists.Past.{client_terms, after}
use Rattle.client_seat.specs.own_lists.Agreement.{AreLines, OwnListsHold}
use Rattle.client_seat.proofs.Below.own_lists.Configs.{config_fits}
use Rattle.client_seat.proofs.Below.own_lists.Counting.{counted_few}
use Rattle.client_seat.proofs.Below.own_lists.KeptValues.{wrote_course}
use Rattle.client_seat.proofs.Below.own_lists.Meeting.{scan_journal, are_met}
use Rattle.match_laws.specs.Laws.{first, journal_of, EventsInOrder, MovesInOrder, LooseInOrder}
use Rattle.match_laws.proofs.Grown.{IsMadeBy, grows}

-- ---- the steps of a scan carry no payload

shows-fit : (shows : List Showing) → AllByRecursion StepFits (map show_step shows)
shows-fit [] = tt
shows-fit (s ∷ shows) = (tt, shows-fit shows)

nears-fit : (nears : List NearPeriod) (shows : List Showing) → AllByRecursion StepFits (map near_step nears ++ map show_step shows)
nears-fit [] shows = shows-fit shows
nears-fit (p ∷ nears) shows = (tt, nears-fit nears shows)

scan-fits : (hides : List ℕ) (nears : List NearPeriod) (shows : List Showing) → AllByRecursion StepFits (scan_steps hides nears shows)
scan-fits [] nears shows = nears-fit nears shows
scan-fits (n ∷ hides) nears shows = (tt, scan-fits hides nears shows)

onto-fit : (more steps : List PairStep) → AllByRecursion StepFits more → AllByRecursion StepFits steps
    → AllByRecursion StepFits (onto more steps)
onto-fit [] steps new old = old
onto-fit (step ∷ more) steps new old = onto-fit more (step ∷ steps) new.1 (new.0, old)

-- ---- the steps of a journal

abbrev ItemFits : ℕ → OwnItem → Type 0
ItemFits clients (Line line) = LineFits clients line
ItemFits clients item = Unit {0}

module _ (t : Terms) (clients : ℕ) where
  line-steps : (line : BodyLine) (k : Kept) → LineFits clients line → AllByRecursion StepFits k.course.steps
      → AllByRecursion StepFits (after_line t line k).course.steps
  line-steps script.Tick k h rest = rest
  line-steps (script.Scan c) k h rest = rest
  line-steps (script.Post c class payload) k h rest = (h.1, rest)
  line-steps (script.ClientPost c class payload) k h rest = (h.1, rest)
  line-steps (script.Pack c) k h rest = (tt, rest)
  line-steps (script.ClientPack c) k h rest = (tt, rest)
  line-steps (script.Down c place) k h rest = (tt, rest)
  line-steps (script.Up c place) k h rest = (tt, rest)
  line-steps (script.Raw c bytes) k h rest = (tt, rest)
  line-steps (script.Move c m) k h rest = (tt, rest)
  line-steps (script.Show c) k h rest = rest
  line-steps script.World k h rest = rest

  item-steps : (item : OwnItem) (k : Kept) → ItemFits clients item → AllByRecursion StepFits k.course.steps
      → AllByRecursion StepFits (follows t item k).course.steps
  item-steps (Line line) k h rest = line-steps line k h rest
  item-steps (Scan hides nears shows) k h rest =
      let hows : List Showing = map (λ s. s.how) shows in
      subst (AllByRecursion StepFits) (sym (scan_journal hides nears shows k))
      (onto-fit (scan_steps hides nears hows) k.course.steps (scan-fits hides nears hows) rest)
  item-steps (Tick writes taken) k h rest = subst (λ c. AllByRecursion StepFits c.steps) (sym (wrote_course t writes k)) rest

  pub journal_fits : (items : List OwnItem) → AllByRecursion (ItemFits clients) items → AllByRecursion StepFits (journal t items)
  journal_fits [] h = tt
  journal_fits (item ∷ items) h = item-steps item (kept t items) h.0 (journal_fits items h.1)

made-fits : (clients : ℕ) (line : BodyLine) (item : OwnItem) → LineFits clients line → IsMadeBy line item → ItemFits clients item
made-fits clients line (Line own) h made = subst (LineFits clients) (sym made) h
made-fits clients line (Scan hides nears shows) h made = tt
made-fits clients line (Tick writes taken) h made = tt

-- the items of an own list are of the match's lines
own-fits : (head : Head) (c : ℕ) (past : List BodyLine) → AllByRecursion (LineFits head.clients) past
    → AllByRecursion (ItemFits head.clients) ((after head past).own c)
own-fits head c [] h = tt
own-fits head c (line ∷ past) h =
    grows (λ old new. AllByRecursion (ItemFits head.clients) old → AllByRecursion (ItemFits head.clients) new) (λ items all. all)
    head (after head past) c line (λ item made rest. (made-fits head.clients line item h.0 made, rest)) (own-fits head c past h.1)

-- ---- the first lines of a script

all-reverse : {A : Type 0} (P : A → Type 0) (xs : List A) → AllByRecursion P xs → AllByRecursion P (reverse xs)
all-reverse P [] h = tt
all-reverse P (x ∷ xs) h =
    subst (AllByRecursion P) (sym (reverse_onto xs x [])) (all-append P (reverse xs) (x ∷ []) (all-reverse P xs h.1) (h.0, tt))

pub first_fit : (s : Script) (n : ℕ) → HasRanges s → AllByRecursion (LineFits s.head.clients) (first n s)
first_fit s n h =
    let fits = LineFits s.head.clients in
    all-reverse fits (take n s.body) (recursion_from_All fits (take n s.body) (All-take fits n s.body h.lines))

pub are_lines : (s : Script) (n : ℕ) → HasRanges s → AreLines s.head (first n s)
are_lines s n h = record {
  fits = h.head;
  lines = All-from_recursion (LineFits s.head.clients) (first n s) (first_fit s n h);
  few = omega (arith, counted_few (first n s), h.few, length-reverse (take n s.body), length-take n s.body);
}

-- ---- what the laws ask

blocks-fit : (blocks : List (List ℕ)) → AllByRecursion BlockFits blocks → AllByRecursion IsBlockBytes blocks
blocks-fit [] h = tt
blocks-fit (block ∷ blocks) h = (record { few = (h.0).0; bytes = (h.0).1 }, blocks-fit blocks h.1)

pub terms_fit : (head : Head) (c : ℕ) → HeadFits head → c < head.clients → AreTerms (client_terms head c)
terms_fit head c h l = record {
  config = config_fits head c h (omega (arith, h.clients, l));
  kinds = refl;
  few = h.blocks_few;
  blocks = blocks-fit head.blocks (recursion_from_All BlockFits head.blocks h.blocks);
}

module _ (own : OwnListsHold) where
  pub are_good : (s : Script) (c n : ℕ) → HasRanges s → c < s.head.clients → IsHonest (journal_of s c n)
      → AreGood (client_terms s.head c) (journal_of s c n)
  are_good s c n h l honest =
      let t = client_terms s.head c in
      let items = (after s.head (first n s)).own c in
      good t (terms_fit s.head c h.head l) (journal_of s c n) (journal_fits t s.head.clients items (own-fits s.head c (first n s) (first_fit s n h)))
      (are_met t refl items (own s.head (first n s) c (are_lines s n h) l).0) honest

  pub in_order : EventsInOrder
  in_order s c n h l honest =
      let t = client_terms s.head c in
      let limits = terms_fit s.head c h.head l in
      let fit = are_good s c n h l honest in
      (delivers_down t (journal_of s c n) limits fit, delivers_up t (journal_of s c n) limits fit)

  pub moves_in_order : MovesInOrder
  moves_in_order s c n h l honest =
      accepts (client_terms s.head c) (journal_of s c n) (terms_fit s.head c h.head l) (are_good s c n h l honest)

  pub loose_in_order : LooseInOrder
  loose_in_order s c n h l honest =
      let t = client_terms s.head c in
      let limits = terms_fit s.head c h.head l in
      let fit = are_good s c n h l honest in
      (loose_down t (journal_of s c n) limits fit, loose_up t (journal_of s c n) limits fit)
