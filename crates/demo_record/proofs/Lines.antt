-- What each line of a script leaves of the datagrams that a client took.
use Rattle.std.proofs.Common.{◌≡◌, ℕ, Bool, true, false, ◌==◌, List, [], ◌∷◌, ◌++◌, map, if◌then◌else◌, refl, sym, ◌∙◌, ap, subst, arith, inl, inr}
use Rattle.std.proofs.lemmas.Bool.{cases_eq}
use Rattle.std.proofs.lemmas.Bool.Decides.{nat_tests}
use Rattle.std.proofs.lemmas.List.{append-nil}
use Rattle.match_script.specs.declared.types.BodyLine.{BodyLine}
use Rattle.match_script.specs.declared.types.BodyLine.TheVariants as script
use Rattle.match_script.specs.declared.types.Head.{Head}
use Rattle.client_scope.specs.declared.period.Near.{Near as NearPeriod}
use Rattle.demo_taken.specs.demo_view.stream_manager.Limits.{Terms}
use Rattle.demo_taken.specs.pair_core.History.{PairStep, Hide, Near}
use Rattle.world_sim.specs.Worlds.{next}
use Rattle.world_scope.specs.Scope.{visible_list}
use Rattle.client_scope.specs.Scans.{shown}
use Rattle.client_scope.specs.Changes.{hides, nears, shows}
use Rattle.own_lists.specs.Own.{OwnShow, OwnWrite, OwnItem, Line, Scan, Tick}
use Rattle.own_lists.specs.Course.{onto, with_steps, scan_steps}
use Rattle.own_lists.specs.Kept.{Kept, put, begins, all_begin, wrote, wrote_all, with_course, kept}
use Rattle.own_lists.specs.Past.{Past, client_terms, own_show, own_writes, moves_of, scan_item, after}
use Rattle.match_engine.specs.match_laws.Values.{steps_of}
use Rattle.demo_taken.specs.demo_view.Viewing.{viewed}
use Rattle.demo_taken.specs.demo_view.stream_manager.Packets.{ghosts_seen, delivered_to}
use Rattle.demo_taken.specs.Taken.{taken_down, viewer_terms}
use Rattle.demo_taken.proofs.Taking.{shows-the-same}
use Rattle.demo_record.specs.Recording.{taken_at, taken_by}
use Rattle.demo_record.specs.Laws.{RecordsTheConnection, ReplaysTheClient}

module _ (t : Terms) where
  -- ---- steps that bring nothing down

  scanned-none : (hides : List ℕ) (nears : List NearPeriod) (steps : List PairStep) → taken_down t (onto (scan_steps hides nears []) steps) ≡ taken_down t steps
  scanned-none [] [] steps = refl
  scanned-none [] (p ∷ nears) steps = scanned-none [] nears (Near p.n p.level ∷ steps)
  scanned-none (n ∷ hides) nears steps = scanned-none hides nears (Hide n ∷ steps)

  begun-none : (shows : List OwnShow) (k : Kept) → taken_down t (all_begin shows k).course.steps ≡ taken_down t k.course.steps
  begun-none [] k = refl
  begun-none (s ∷ shows) k = begun-none shows (begins s k)

  wrote-none : (writes : List OwnWrite) (k : Kept) → taken_down t (wrote_all writes k).course.steps ≡ taken_down t k.course.steps
  wrote-none [] k = refl
  wrote-none (w ∷ writes) k = wrote-none writes (wrote w k)

  -- an item that is put into the own list of client d
  module _ (own : ℕ → List OwnItem) (d c : ℕ) (item : OwnItem) where
    abbrev before : List (List ℕ)
    before = taken_down t (kept t (own c)).course.steps

    put-records : (more : List (List ℕ)) → (d ≡ c → taken_down t (kept t (item ∷ own c)).course.steps ≡ before ++ more)
        → taken_down t (kept t (put own d (item ∷ own d) c)).course.steps ≡ before ++ (if d == c then more else [])
    put-records more h = elim (cases_eq d c) [
      | inl same ↦ (let here : (c == d) ≡ true = grind (arith, nat_tests) in
          let there : (d == c) ≡ true = grind (arith, nat_tests) in
          rw (here, there) (subst (λ (n : ℕ). taken_down t (kept t (item ∷ own n)).course.steps ≡ before ++ more) (sym same) (h same)))
      | inr other ↦ (let here : (c == d) ≡ false = grind (arith, nat_tests) in
          let there : (d == c) ≡ false = grind (arith, nat_tests) in
          rw (here, there) (sym (append-nil before)))
    ]

    put-none : (d ≡ c → taken_down t (kept t (item ∷ own c)).course.steps ≡ before) → taken_down t (kept t (put own d (item ∷ own d) c)).course.steps ≡ before ++ []
    put-none h = put-records [] (λ same. h same ∙ sym (append-nil before)) ∙ ap (λ (l : List (List ℕ)). before ++ l) (neither (d == c))
      where
        neither : (b : Bool) → ◌≡◌ {A = List (List ℕ)} (if b then [] else []) []
        neither true = refl
        neither false = refl

-- ---- lines of a script

module _ (head : Head) (c : ℕ) (past : List BodyLine) where
  abbrev t : Terms
  t = client_terms head c

  abbrev p : Past
  p = after head past

  records : (line : BodyLine) → taken_down t (steps_of head (line ∷ past) c) ≡ taken_down t (steps_of head past c) ++ taken_by head past c line
  records script.Tick =
      wrote-none t (own_writes (next p.world (moves_of head p)) (shown (p.scans c))) (kept t (p.own c))
      ∙ sym (append-nil (taken_down t (steps_of head past c)))
  records (script.Scan d) =
      put-none t p.own d c (scan_item p.world d (visible_list p.world d ∷ p.scans d))
      (λ same.
      begun-none t (map (own_show p.world d) (shows (visible_list p.world d ∷ p.scans d)))
      (with_course (with_steps (scan_steps (hides (visible_list p.world d ∷ p.scans d)) (nears (visible_list p.world d ∷ p.scans d)) []) (kept t (p.own c)).course) (kept t (p.own c)))
      ∙ scanned-none t (hides (visible_list p.world d ∷ p.scans d)) (nears (visible_list p.world d ∷ p.scans d)) (kept t (p.own c)).course.steps)
  records (script.Post d class payload) = put-none t p.own d c (Line (script.Post d class payload)) (λ same. refl)
  records (script.ClientPost d class payload) = put-none t p.own d c (Line (script.ClientPost d class payload)) (λ same. refl)
  records (script.Pack d) = put-none t p.own d c (Line (script.Pack d)) (λ same. refl)
  records (script.ClientPack d) = put-none t p.own d c (Line (script.ClientPack d)) (λ same. refl)
  records (script.Down d k) = put-records t p.own d c (Line (script.Down d k)) (taken_at t (steps_of head past c) k) (λ same. refl)
  records (script.Up d k) = put-none t p.own d c (Line (script.Up d k)) (λ same. refl)
  records (script.Raw d bytes) = put-none t p.own d c (Line (script.Raw d bytes)) (λ same. refl)
  records (script.Move d m) = put-none t p.own d c (Line (script.Move d m)) (λ same. refl)
  records (script.Show d) = put-none t p.own d c (Line (script.Show d)) (λ same. refl)
  records script.World = sym (append-nil (taken_down t (steps_of head past c)))

pub records-the-connection : RecordsTheConnection
records-the-connection head c [] = refl
records-the-connection head c (line ∷ past) =
    ap (λ (l : List (List ℕ)). l ++ taken_by head past c line) (records-the-connection head c past) ∙ sym (records head c past line)

pub replays-the-client : ReplaysTheClient
replays-the-client head c past =
    let t = client_terms head c in
    let same = records-the-connection head c past in
    let alike = shows-the-same t (steps_of head past c) in
    record {
      ghosts = ap (λ (l : List (List ℕ)). ghosts_seen (viewed (viewer_terms t) l)) same ∙ alike.ghosts;
      delivered = ap (λ (l : List (List ℕ)). delivered_to (viewed (viewer_terms t) l)) same ∙ alike.delivered;
    }
