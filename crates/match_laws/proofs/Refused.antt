-- What each line tells, by the answer that it tells of: with honest clients no refusal but that of an old packet.
use Rattle.std.proofs.Common.{◌≡◌, ℕ, List, [], ◌∷◌, refl, subst, arith}
use Rattle.std.specs.Prelude.{map}
use Rattle.tn_types.specs.declared.choices.Class.{Class}
use Rattle.tn_types.specs.declared.choices.Class.TheVariants.{Guaranteed, Loose}
use Rattle.tn_types.specs.declared.choices.Drain.{Drain}
use Rattle.tn_types.specs.declared.choices.Read.{Read}
use Rattle.notify_window.specs.declared.SendState.{SendState}
use Rattle.notify_window.specs.declared.SendState.TheVariants.{Held, Worn, Room}
use Rattle.match_script.specs.declared.types.BodyLine.{BodyLine}
use Rattle.match_script.specs.declared.types.BodyLine.TheVariants as script
use Rattle.match_script.specs.declared.types.Head.{Head}
use Rattle.match_script.specs.declared.types.Script.{Script}
use Rattle.match_script.specs.Ranges.{LineFits, HasRanges}
use Rattle.match_report.specs.declared.told.EventTold.{EventTold}
use Rattle.match_report.specs.declared.told.Way.{Way}
use Rattle.match_report.specs.declared.told.Way.TheVariants as way
use Rattle.stream_manager.specs.Limits.{Terms, AreTerms}
use Rattle.stream_manager.specs.Server.{server_state}
use Rattle.stream_manager.specs.Client.{client_state}
use Rattle.client_seat.specs.pair_core.declared.step.Answer.{Answer}
use Rattle.client_seat.specs.pair_core.declared.step.Answer.TheVariants as says
use Rattle.client_seat.specs.pair_core.History.{PairStep, Down, Up, history}
use Rattle.client_seat.specs.pair_core.Conditions.{IsHonest}
use Rattle.client_seat.specs.pair_core.Answers.{answer}
use Rattle.pair_copies.specs.pair_laws.Refusals.{RefusesLittle}
use Rattle.pair_copies.proofs.Below.pair_laws.Good.{AreGood}
use Rattle.pair_copies.proofs.Below.pair_laws.RefusalLaw.{little}
use Rattle.client_seat.specs.own_lists.Own.{OwnItem, Line, Scan, Tick}
use Rattle.client_seat.specs.own_lists.Course.{Course, onto, room_in, scan_steps}
use Rattle.client_seat.specs.own_lists.Kept.{Kept, put, after_line, follows, kept, journal, drains_of, reads_of}
use Rattle.client_seat.specs.own_lists.Past.{Past, client_terms, kept_by, after}
use Rattle.client_seat.specs.own_lists.Agreement.{OwnListsHold}
use Rattle.client_seat.proofs.Below.own_lists.KeptValues.{wrote_course}
use Rattle.client_seat.proofs.Below.own_lists.Meeting.{scan_journal}
use Rattle.client_seat.specs.Told.{post_told, client_post_told, made_told, packed_told, client_made_told, client_pack_told}
use Rattle.client_seat.specs.Told.{handed_down, handed_up, brought_told, brought_up_told}
use Rattle.match_laws.specs.Report.{told}
use Rattle.match_laws.specs.Laws.{first, TellsLittle, IsHonestWith, LittleIsRefused}
use Rattle.match_laws.proofs.Grown.{grows}
use Rattle.match_laws.proofs.InOrder.{terms_fit, are_good}

-- ---- a journal is honest before a line where it is so with it

onto-honest : (more steps : List PairStep) → IsHonest (onto more steps) → IsHonest steps
onto-honest [] steps h = h
onto-honest (step ∷ more) steps h = (onto-honest more (step ∷ steps) h).1

module _ (t : Terms) where
  line-honest : (line : BodyLine) (k : Kept) → IsHonest (after_line t line k).course.steps → IsHonest k.course.steps
  line-honest script.Tick k h = h
  line-honest (script.Scan c) k h = h
  line-honest (script.Show c) k h = h
  line-honest script.World k h = h
  line-honest line k h = h.1

  item-honest : (item : OwnItem) (k : Kept) → IsHonest (follows t item k).course.steps → IsHonest k.course.steps
  item-honest (Line line) k h = line-honest line k h
  item-honest (Scan hides nears shows) k h =
      let steps = scan_steps hides nears (map (λ s. s.how) shows) in
      onto-honest steps k.course.steps (subst IsHonest (scan_journal hides nears shows k) h)
  item-honest (Tick writes taken) k h = subst (λ c. IsHonest c.steps) (wrote_course t writes k) h

pub honest_before : (head : Head) (past : List BodyLine) (line : BodyLine) (c : ℕ)
    → IsHonest (journal (client_terms head c) ((after head (line ∷ past)).own c))
    → IsHonest (journal (client_terms head c) ((after head past).own c))
honest_before head past line c =
    let t = client_terms head c in
    grows (λ old new. IsHonest (journal t new) → IsHonest (journal t old)) (λ items h. h) head (after head past) c line
    (λ item made. item-honest t item (kept t ((after head past).own c)))

-- the client that a line names has it in its list
own-line : (own : ℕ → List OwnItem) (item : OwnItem) (c : ℕ) → put own c (item ∷ own c) c ≡ item ∷ own c
own-line own item c = grind arith

-- so an honest client's line is no foreign datagram
pub not_raw : (head : Head) (past : List BodyLine) (c : ℕ) (bytes : List ℕ)
    → IsHonest (journal (client_terms head c) ((after head (script.Raw c bytes ∷ past)).own c)) → ⊥
not_raw head past c bytes h =
    (subst (λ items. IsHonest (journal (client_terms head c) items)) (own-line (after head past).own (Line (script.Raw c bytes)) c) h).0

-- ---- what is told

brought-little : (w : Way) (c k : ℕ) (events : List EventTold) (a : Answer) → RefusesLittle a
    → TellsLittle (brought_told w c k events a)
brought-little w c k events (says.ServerRefused fault) h = h
brought-little w c k events (says.ClientRefused fault) h = h
brought-little w c k events other h = tt

module _ (t : Terms) (steps : List PairStep) where
  post-little : (c : ℕ) (class : Class) → TellsLittle (post_told t steps c class)
  post-little c Guaranteed = tt
  post-little c Loose = tt

  client_post-little : (c : ℕ) (class : Class) → TellsLittle (client_post_told t steps c class)
  client_post-little c Guaranteed = tt
  client_post-little c Loose = tt

  pack-little : (c : ℕ) (drains : List Drain) (reads : List Read) → TellsLittle (packed_told c t steps drains reads)
  pack-little c drains reads = go (server_state t.config (history t steps).server)
    where
      go : (state : SendState) → TellsLittle (made_told t (history t steps).server c drains reads state)
      go Held = tt
      go Worn = tt
      go Room = tt

  client_pack-little : (c : ℕ) → TellsLittle (client_pack_told c t steps)
  client_pack-little c = go (client_state t.config (history t steps).client)
    where
      go : (state : SendState) → TellsLittle (client_made_told t.config (history t steps).client c state)
      go Held = tt
      go Worn = tt
      go Room = tt

up-little : (t : Terms) (k : Course) (c place : ℕ) → AreTerms t → AreGood t k.steps → TellsLittle (brought_up_told c place t k)
up-little t k c place limits fit =
    let step = Up place (room_in t k) in
    brought-little way.Up c place (handed_up t k.steps step) (answer t k.steps step) (little t k.steps step limits fit tt)

module _ (own : OwnListsHold) (s : Script) (n : ℕ) (h : HasRanges s) where
  abbrev before : Past
  before = after s.head (first n s)

  abbrev steps : ℕ → List PairStep
  steps c = (kept_by s.head before c).course.steps

  line-little : (line : BodyLine) → LineFits s.head.clients line
      → IsHonestWith s n line
      → TellsLittle (told s.head before (after s.head (line ∷ first n s)) line)
  line-little script.Tick fits honest = tt
  line-little (script.Scan c) fits honest = tt
  line-little (script.Post c class payload) fits honest = post-little (client_terms s.head c) (steps c) c class
  line-little (script.ClientPost c class payload) fits honest = client_post-little (client_terms s.head c) (steps c) c class
  line-little (script.Pack c) fits honest =
      let t = client_terms s.head c in
      let k = kept_by s.head before c in
      pack-little t (steps c) c (drains_of t k) (reads_of t k)
  line-little (script.ClientPack c) fits honest = client_pack-little (client_terms s.head c) (steps c) c
  line-little (script.Down c place) fits honest =
      let t = client_terms s.head c in
      let fit = are_good own s c n h fits.0 (honest_before s.head (first n s) (script.Down c place) c (honest c refl)) in
      brought-little way.Down c place (handed_down t (steps c) place) (answer t (steps c) (Down place))
      (little t (steps c) (Down place) (terms_fit s.head c h.head fits.0) fit tt)
  line-little (script.Up c place) fits honest =
      let fit = are_good own s c n h fits.0 (honest_before s.head (first n s) (script.Up c place) c (honest c refl)) in
      up-little (client_terms s.head c) (kept_by s.head before c).course c place (terms_fit s.head c h.head fits.0) fit
  line-little (script.Raw c bytes) fits honest = absurd (not_raw s.head (first n s) c bytes (honest c refl))
  line-little (script.Move c m) fits honest = tt
  line-little (script.Show c) fits honest = tt
  line-little script.World fits honest = tt

pub little_refused : OwnListsHold → LittleIsRefused
little_refused own s n line h fits honest = line-little own s n h line fits honest
