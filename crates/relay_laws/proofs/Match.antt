-- What the laws of a match say of the relay's client: the lines of the match that were done are all the lines of a script.
use Rattle.std.proofs.Common.{◌≡◌, ◌∙◌, ℕ, ◌<◌, ◌≤◌, Bool, true, false, List, [], ◌∷◌, ◌++◌, length, if◌then◌else◌, sym, ap, subst, arith}
use Rattle.std.specs.Prelude.{reverse}
use Rattle.std.specs.List.{AllByRecursion}
use Rattle.std.specs.Result.{is_ok}
use Rattle.std.proofs.lemmas.List.{length-reverse, reverse-reverse, take_all}
use Rattle.std.proofs.lemmas.List.Elements.{All-from_recursion}
use Rattle.tn_types.specs.declared.choices.Class.TheVariants.{Guaranteed, Loose}
use Rattle.tn_types.specs.declared.limits.TheConstants.{MAX_CLIENTS}
use Rattle.conn_packing.proofs.Lists.{all-append}
use Rattle.ghost_client.specs.declared.copy.GhostCopy.{GhostCopy}
use Rattle.event_manager.specs.Posted.{guaranteed_of}
use Rattle.stream_manager.specs.Limits.{Terms, AreTerms}
use Rattle.stream_manager.specs.Server as server
use Rattle.stream_manager.specs.Server.{server_end, posted_at_server}
use Rattle.pair_core.specs.History.{PairStep, Show, Hide, Near, Post, ClientPost, Sample, Pack, ClientPack, Down, Up, Raw, history}
use Rattle.pair_core.specs.Answers.{client_delivered}
use Rattle.pair_core.specs.Conditions.{IsHonest}
use Rattle.pair_core.specs.Conditions.{IsPayload, StepFits}
use Rattle.pair_copies.specs.pair_laws.Laws.{DeliversDown, posted_at}
use Rattle.pair_copies.proofs.Below.pair_laws.Good.{AreGood}
use Rattle.match_script.specs.declared.types.BodyLine.{BodyLine}
use Rattle.match_script.specs.declared.types.Head.{Head}
use Rattle.match_script.specs.declared.types.Script.{Script}
use Rattle.match_script.specs.Ranges.{LineFits, HasRanges}
use Rattle.match_report.specs.declared.copies.FieldTold.{FieldTold}
use Rattle.own_lists.specs.Kept.{journal}
use Rattle.own_lists.specs.Past.{client_terms, after}
use Rattle.own_lists.specs.Agreement.{AreLines, OwnListsHold}
use Rattle.match_laws.specs.Laws.{first, EventsInOrder}
use Rattle.match_laws.specs.Values.{ClientMoment, IsShownField, ShowsHad, ShowsNewest, CopiesShowValues, SettledIsNewest}
use Rattle.match_laws.proofs.InOrder.{are_lines, terms_fit, are_good}
use Rattle.match_laws.proofs.Refused.{honest_before}
use Rattle.match_laws.proofs.WordsSteps.{posted_down_same}
use Rattle.relay_script.specs.declared.entries.Entry.{Entry}
use Rattle.relay_script.specs.declared.entries.Entry.TheVariants.{OfMatch, OfRelay}
use Rattle.relay_report.specs.Met.{match_past, spectator_terms}
use Rattle.relay_laws.proofs.Places.{AreEntries, all_reverse}
use Rattle.relay_laws.proofs.Fine.{all_first}

-- the lines of the match, as a script
abbrev script_of : Head → List Entry → Script
script_of head past = record { head = head; body = reverse (match_past past) }

few_of_match : (past : List Entry) → length (match_past past) ≤ length past
few_of_match [] = omega arith
few_of_match (OfMatch line ∷ past) = let le = few_of_match past in omega (arith, le)
few_of_match (OfRelay line ∷ past) = let le = few_of_match past in omega (arith, le)

has_ranges : (head : Head) (past : List Entry) → AreEntries head past → HasRanges (script_of head past)
has_ranges head past h = record {
  head = h.fits;
  few = (let le = h.few in let few = few_of_match past in let back = length-reverse (match_past past) in omega (arith, le, few, back));
  lines = All-from_recursion (LineFits head.clients) (reverse (match_past past)) (all_reverse (LineFits head.clients) (match_past past) h.lines);
}

all_lines_are : (head : Head) (past : List Entry) → first (length (match_past past)) (script_of head past) ≡ match_past past
all_lines_are head past =
    let back = length-reverse (match_past past) in
    ap (λ (l : List BodyLine). reverse l) (take_all (length (match_past past)) (reverse (match_past past)) (omega (arith, back)))
    ∙ reverse-reverse (match_past past)

-- the lines of a match, of which no more than so many are counted
pub are_lines_of : (head : Head) (past : List Entry) → AreEntries head past → AreLines head (match_past past)
are_lines_of head past h =
    subst (AreLines head) (all_lines_are head past) (are_lines (script_of head past) (length (match_past past)) (has_ranges head past h))

-- ---- an honest client stays so over fewer lines

abbrev pub IsHonestAt : Head → ℕ → List BodyLine → Type 0
IsHonestAt head c lines = IsHonest (journal (client_terms head c) ((after head lines).own c))

pub honest_of_fewer : (head : Head) (c : ℕ) (later past : List Entry) → IsHonestAt head c (match_past (later ++ past)) → IsHonestAt head c (match_past past)
honest_of_fewer head c [] past h = h
honest_of_fewer head c (OfMatch line ∷ later) past h =
    honest_of_fewer head c later past (honest_before head (match_past (later ++ past)) line c h)
honest_of_fewer head c (OfRelay line ∷ later) past h = honest_of_fewer head c later past h

-- ---- the laws at these lines

abbrev pub moment_of : Head → List BodyLine → ℕ → ClientMoment
moment_of head lines c = record { head = head; past = lines; client = c }

abbrev pub ShowsAt : Head → ℕ → List BodyLine → Type 0
ShowsAt head c lines = IsHonestAt head c lines → (at f : ℕ) (copy : GhostCopy) (told : FieldTold) → IsShownField (moment_of head lines c) at f copy told
    → ShowsHad (moment_of head lines c) at copy.kind f told.value

abbrev pub ShowsNewestAt : Head → ℕ → List BodyLine → Type 0
ShowsNewestAt head c lines = IsHonestAt head c lines → (at f : ℕ) (copy : GhostCopy) (told : FieldTold) → IsShownField (moment_of head lines c) at f copy told
    → told.settled ≡ true → ShowsNewest (moment_of head lines c) at copy.kind f told.value

abbrev pub DeliversAt : Head → ℕ → List BodyLine → Type 0
DeliversAt head c lines = IsHonestAt head c lines → DeliversDown (client_terms head c) (journal (client_terms head c) ((after head lines).own c))

abbrev pub FitsAt : Head → ℕ → List BodyLine → Type 0
FitsAt head c lines = IsHonestAt head c lines → AllByRecursion StepFits (journal (client_terms head c) ((after head lines).own c))

good_fits : (t : Terms) (steps : List PairStep) → AreGood t steps → AllByRecursion StepFits steps
good_fits t [] good = tt
good_fits t (step ∷ steps) good = ((good.0).ranges, good_fits t steps good.1)

module _ (head : Head) (c : ℕ) (below : c < head.clients) (past : List Entry) (h : AreEntries head past) where
  pub shows : CopiesShowValues → ShowsAt head c (match_past past)
  shows law =
      subst (ShowsAt head c) (all_lines_are head past)
      (λ honest. law (script_of head past) c (length (match_past past)) (has_ranges head past h) below honest)

  pub shows_newest : SettledIsNewest → ShowsNewestAt head c (match_past past)
  shows_newest law =
      subst (ShowsNewestAt head c) (all_lines_are head past)
      (λ honest. law (script_of head past) c (length (match_past past)) (has_ranges head past h) below honest)

  pub delivers : EventsInOrder → DeliversAt head c (match_past past)
  delivers law =
      subst (DeliversAt head c) (all_lines_are head past)
      (λ honest. (law (script_of head past) c (length (match_past past)) (has_ranges head past h) below honest).0)

  pub fits : OwnListsHold → FitsAt head c (match_past past)
  fits own =
      subst (FitsAt head c) (all_lines_are head past)
      (λ honest. good_fits (client_terms head c) _ (are_good own (script_of head past) c (length (match_past past)) (has_ranges head past h) below honest))

-- ---- what is posted fits

module _ (t : Terms) where
  abbrev posted : List PairStep → List (List ℕ)
  posted steps = posted_at (server_end (history t steps).server)

  abbrev PostsFit : List PairStep → Type 0
  PostsFit steps = AllByRecursion IsPayload (posted steps)

  one_fits : (v : List ℕ) (steps : List PairStep) → IsPayload v → PostsFit steps → (b : Bool)
      → AllByRecursion IsPayload (posted_at (server_end (if b then server.Posted Guaranteed v ∷ (history t steps).server else (history t steps).server)))
  one_fits v steps fits h true = all-append IsPayload (posted steps) (v ∷ []) h (fits, tt)
  one_fits v steps fits h false = h

  other_fits : (step : PairStep) (steps : List PairStep) → posted (step ∷ steps) ≡ posted steps → PostsFit steps → PostsFit (step ∷ steps)
  other_fits step steps e h = subst (AllByRecursion IsPayload) (sym e) h

  posts_fit : (steps : List PairStep) → AllByRecursion StepFits steps → PostsFit steps
  posts_fit [] h = tt
  posts_fit (Post Guaranteed v ∷ steps) h = one_fits v steps h.0 (posts_fit steps h.1) (is_ok (posted_at_server t.config (history t steps).server))
  posts_fit (Post Loose v ∷ steps) h = other_fits (Post Loose v) steps (posted_down_same t (Post Loose v) steps tt) (posts_fit steps h.1)
  posts_fit (Show kind block level control ∷ steps) h =
      other_fits (Show kind block level control) steps (posted_down_same t (Show kind block level control) steps tt) (posts_fit steps h.1)
  posts_fit (Hide n ∷ steps) h = other_fits (Hide n) steps (posted_down_same t (Hide n) steps tt) (posts_fit steps h.1)
  posts_fit (Near n level ∷ steps) h = other_fits (Near n level) steps (posted_down_same t (Near n level) steps tt) (posts_fit steps h.1)
  posts_fit (ClientPost class v ∷ steps) h = other_fits (ClientPost class v) steps (posted_down_same t (ClientPost class v) steps tt) (posts_fit steps h.1)
  posts_fit (Sample m ∷ steps) h = other_fits (Sample m) steps (posted_down_same t (Sample m) steps tt) (posts_fit steps h.1)
  posts_fit (Pack drains reads ∷ steps) h = other_fits (Pack drains reads) steps (posted_down_same t (Pack drains reads) steps tt) (posts_fit steps h.1)
  posts_fit (ClientPack ∷ steps) h = other_fits ClientPack steps (posted_down_same t ClientPack steps tt) (posts_fit steps h.1)
  posts_fit (Down k ∷ steps) h = other_fits (Down k) steps (posted_down_same t (Down k) steps tt) (posts_fit steps h.1)
  posts_fit (Up k room ∷ steps) h = other_fits (Up k room) steps (posted_down_same t (Up k room) steps tt) (posts_fit steps h.1)
  posts_fit (Raw bytes room ∷ steps) h = other_fits (Raw bytes room) steps (posted_down_same t (Raw bytes room) steps tt) (posts_fit steps h.1)

-- so what was delivered at the relay fits
pub delivered_fit : EventsInOrder → OwnListsHold → (head : Head) (c : ℕ) → c < head.clients → (past : List Entry) → AreEntries head past
    → IsHonestAt head c (match_past past)
    → AllByRecursion IsPayload (guaranteed_of (client_delivered (client_terms head c) (journal (client_terms head c) ((after head (match_past past)).own c))))
delivered_fit law own head c below past h honest =
    let t = client_terms head c in
    let steps = journal t ((after head (match_past past)).own c) in
    let front = delivers head c below past h law honest in
    all_first IsPayload (guaranteed_of (client_delivered t steps)) front.0
    (subst (AllByRecursion IsPayload) (sym front.1) (posts_fit t steps (fits head c below past h own honest)))

-- ---- a spectator's connection is within its limits

pub spectator_limits : (head : Head) (c s : ℕ) → c < head.clients → s < MAX_CLIENTS → (past : List Entry) → AreEntries head past
    → AreTerms (spectator_terms head s)
spectator_limits head c s below few past h =
    let limits = terms_fit head c h.fits below in
    record {
      config = record {
        client = few;
        some_life = limits.config.some_life;
        life = limits.config.life;
        least = limits.config.least;
        size = limits.config.size;
        some_version = limits.config.some_version;
        version = limits.config.version;
        some_bits = limits.config.some_bits;
        move_bits = limits.config.move_bits;
      };
      kinds = limits.kinds;
      few = limits.few;
      blocks = limits.blocks;
    }
