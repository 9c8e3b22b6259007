-- How far each block is, against the packets that carry it.
use Rattle.std.proofs.Common.{◌≡◌, ℕ, ◌+◌, ◌-◌, ◌<◌, ◌≤◌, min, Bool, true, false, not, nat_lt, List, if◌then◌else◌, length, refl, sym, ◌∙◌, ap, subst, arith, inl, inr, ◌⊎◌}
use Rattle.std.proofs.Math.ListN.{set, replicate}
use Rattle.std.specs.Int.{bit_at}
use Rattle.std.proofs.lemmas.Bool.Decides.{nat_tests}
use Rattle.std.proofs.lemmas.Nat.Bits.{bit_at-zero}
use Rattle.std.proofs.lemmas.Bool.{cases_lt, cases_eq}
use Rattle.std.proofs.lemmas.List.{get_or-set_same, get_or-set_other, get_or-replicate, get_or_past, length-replicate}
use Rattle.notify_window.specs.Log.{Fate, Unjudged}
use Rattle.tn_types.specs.declared.choices.Verdict.{Verdict}
use Rattle.notify_window.specs.declared.progress.Progress.{Progress}
use Rattle.notify_window.specs.declared.progress.Progress.TheVariants.{Due, Carried, Done}
use Rattle.notify_window.specs.Fates.{any_received, fate_for, judged}
use Rattle.notify_window.specs.Carriers.{progress_is_due, progress_is_done, progress_after, ProgressIs}
use Rattle.notify_window.proofs.Fates.{done-test, due-test, progress-settled}
use Rattle.notify_window.proofs.Least.{same_below, none_behind, least_is, least_same, least_le, least_below, least_rises}
use Rattle.tn_types.specs.Least.{least, those_below}
use Rattle.datablocks.specs.Sending.{SenderEvent, carriers, is_unacked, first_unacked, is_due, due_of}
use Rattle.datablocks.specs.ProgressWords.{progress_at, is_due_at, is_open, done_bit, TellsDone}
use Rattle.datablocks.specs.SenderState.{SenderState, first_open, is_due_now, due_now, IsKept}
use Rattle.datablocks.specs.SenderStands.{StandsFor}

-- ---- one block

pub done_bit-is : (p : Progress) → done_bit p ≡ (if progress_is_done p then 1 else 0)
done_bit-is Due = refl
done_bit-is (Carried q) = refl
done_bit-is Done = refl

closed_is_done : (p : Progress) → not (progress_is_done p) ≡ false → p ≡ Done
closed_is_done Due h = cc
closed_is_done (Carried q) h = cc
closed_is_done Done h = refl

pub closed_not_due : (p : Progress) → not (progress_is_done p) ≡ false → progress_is_due p ≡ false
closed_not_due p h = ap progress_is_due (closed_is_done p h)

pub closed_stays : (seq : ℕ) (v : Verdict) (p : Progress) → not (progress_is_done p) ≡ false → progress_after seq v p ≡ p
closed_stays seq v Due h = refl
closed_stays seq v (Carried q) h = cc
closed_stays seq v Done h = refl

pub due_stays : (seq : ℕ) (v : Verdict) (p : Progress) → progress_is_due p ≡ true → progress_after seq v p ≡ p
due_stays seq v Due h = refl
due_stays seq v (Carried q) h = cc
due_stays seq v Done h = cc

-- ---- the step of a verdict's walk

module _ (seq : ℕ) (v : Verdict) (old xs : List Progress) (i : ℕ) (p : Progress) (within : i < length xs) (e : p ≡ progress_after seq v (progress_at xs i)) where
  pub step-done : ((b : ℕ) → b < i → progress_at xs b ≡ progress_after seq v (progress_at old b)) → progress_at xs i ≡ progress_at old i → (b : ℕ) → b < i + 1 → progress_at (set xs i p) b ≡ progress_after seq v (progress_at old b)
  step-done below here b l = elim (cases_eq b i) [
    | inl at ↦ subst (λ k. progress_at (set xs i p) k ≡ progress_after seq v (progress_at old k)) (sym at) (get_or-set_same xs i p Due within ∙ e ∙ ap (progress_after seq v) here)
    | inr other ↦ get_or-set_other xs i b p Due other ∙ below b (omega arith)
  ]

  pub step-rest : ((b : ℕ) → i ≤ b → progress_at xs b ≡ progress_at old b) → (b : ℕ) → i + 1 ≤ b → progress_at (set xs i p) b ≡ progress_at old b
  step-rest rest b l =
      let other : b ≡ i → ⊥ = λ same. omega arith in
      get_or-set_other xs i b p Due other ∙ rest b (omega arith)

  pub step-told_done : (word more : ℕ) → progress_is_done p ≡ true → TellsDone word xs → bit_at more i ≡ 1 → ((b : ℕ) → (b ≡ i → ⊥) → bit_at more b ≡ bit_at word b) → TellsDone more (set xs i p)
  step-told_done word more done told here others b l = elim (cases_eq b i) [
    | inl at ↦ subst (λ k. bit_at more k ≡ done_bit (progress_at (set xs i p) k)) (sym at) (here ∙ sym (ap done_bit (get_or-set_same xs i p Due within) ∙ done_bit-is p ∙ ap (λ (t : Bool). if t then 1 else 0) done))
    | inr other ↦ others b other ∙ told b l ∙ sym (ap done_bit (get_or-set_other xs i b p Due other))
  ]

  pub step-told_open : (word : ℕ) → progress_is_done p ≡ false → i < 64 → TellsDone word xs → TellsDone word (set xs i p)
  step-told_open word not_done small told b l = elim (cases_eq b i) [
    | inl at ↦ subst (λ k. bit_at word k ≡ done_bit (progress_at (set xs i p) k)) (sym at) (told i small ∙ before (progress_at xs i) e ∙ sym (ap done_bit (get_or-set_same xs i p Due within)))
    | inr other ↦ told b l ∙ sym (ap done_bit (get_or-set_other xs i b p Due other))
  ]
    where
      before : (q : Progress) → p ≡ progress_after seq v q → done_bit q ≡ done_bit p
      before Due same = ap done_bit (sym same)
      before (Carried q) same = sym (done_bit-is p ∙ ap (λ (t : Bool). if t then 1 else 0) not_done)
      before Done same = ap done_bit (sym same)

-- ---- a sender as a whole

module _ (blocks : List (List ℕ)) (progress : List Progress) (lowest received : ℕ) (k : IsKept blocks progress lowest received) where
  pub before_closed : (b : ℕ) → b < lowest → is_open progress b ≡ false
  before_closed b l = least_below (is_open progress) (length blocks) b (omega (arith, k.first))

  pub before_not_due : (b : ℕ) → b < lowest → is_due_at progress b ≡ false
  before_not_due b l = closed_not_due (progress_at progress b) (before_closed b l)

  near-is : (b : ℕ) → b < lowest + 16 → is_due_at progress b ≡ is_due_now (record { blocks = blocks; progress = progress }) b
  near-is b l =
      let t : nat_lt b (least (is_open progress) (length blocks) + 16) ≡ true = test b lowest (least (is_open progress) (length blocks)) k.first l in
      rw t refl
    where
      test : (b low first : ℕ) → low ≡ first → b < low + 16 → nat_lt b (first + 16) ≡ true
      test b low first e l = grind (arith, nat_tests)

  far-is : (b : ℕ) → lowest + 16 ≤ b → is_due_now (record { blocks = blocks; progress = progress }) b ≡ false
  far-is b l =
      let t : nat_lt b (least (is_open progress) (length blocks) + 16) ≡ false = test b lowest (least (is_open progress) (length blocks)) k.first l in
      rw t refl
    where
      test : (b low first : ℕ) → low ≡ first → low + 16 ≤ b → nat_lt b (first + 16) ≡ false
      test b low first e l = grind (arith, nat_tests)

  pub window_is : (end : ℕ) → end ≡ min (lowest + 16) (length blocks) → those_below (is_due_at progress) end ≡ due_now (record { blocks = blocks; progress = progress })
  window_is end e = same_below (is_due_at progress) (is_due_now s) end (λ b l. near-is b (omega (arith, e))) ∙ go (cases_lt (lowest + 16) (length blocks))
    where
      s : SenderState
      s = record { blocks = blocks; progress = progress }

      go : (lowest + 16 < length blocks) ⊎ (length blocks ≤ lowest + 16) → those_below (is_due_now s) end ≡ those_below (is_due_now s) (length blocks)
      go (inr few) = let all : end ≡ length blocks = omega (arith, e) in ap (those_below (is_due_now s)) all
      go (inl many) =
          let here : end ≡ lowest + 16 = omega (arith, e) in
          let rest : length blocks ≡ end + (length blocks - end) = omega arith in
          sym (ap (those_below (is_due_now s)) rest ∙ none_behind (is_due_now s) end (length blocks - end) (λ b l. far-is b (omega arith)))

  -- a verdict leaves what stands outside of the window
  pub outside_stays : (seq : ℕ) (v : Verdict) (end b : ℕ) → end ≡ min (lowest + 16) (length blocks) → (b < lowest) ⊎ (end ≤ b) → progress_after seq v (progress_at progress b) ≡ progress_at progress b
  outside_stays seq v end b e (inl low) = closed_stays seq v (progress_at progress b) (before_closed b low)
  outside_stays seq v end b e (inr high) = elim (cases_lt b (length blocks)) [
    | inl there ↦ due_stays seq v (progress_at progress b) (k.near b (omega (arith, e)))
    | inr past ↦ due_stays seq v (progress_at progress b) (k.past b past)
  ]

pub now_is_due : (s : SenderState) (fate : ℕ → Fate) (log : List SenderEvent) → StandsFor s fate log → due_now s ≡ due_of fate log (length s.blocks)
now_is_due s fate log h = same_below (is_due_now s) (is_due fate log (length s.blocks)) (length s.blocks) (λ b l. rw (first, sym (due-test fate (carriers b log) (progress_at s.progress b) (h.progress b))) refl)
  where
    first : first_open s ≡ first_unacked fate log (length s.blocks)
    first = least_same (is_open s.progress) (is_unacked fate log) (length s.blocks) (λ b. ap not (done-test fate (carriers b log) (progress_at s.progress b) (h.progress b)))

pub closed_settled : (blocks : List (List ℕ)) (progress after : List Progress) (lowest received seq : ℕ) (v : Verdict) → IsKept blocks progress lowest received →
    ((b : ℕ) → progress_at after b ≡ progress_after seq v (progress_at progress b)) → (b : ℕ) → b < lowest → is_open after b ≡ false
closed_settled blocks progress after lowest received seq v k settled b l =
    let was = before_closed blocks progress lowest received k b l in
    ap (λ (p : Progress). not (progress_is_done p)) (settled b ∙ closed_stays seq v (progress_at progress b) was) ∙ was

-- a sender after a verdict
pub kept_settled : (blocks : List (List ℕ)) (progress after : List Progress) (lowest received first word seq : ℕ) (v : Verdict) → IsKept blocks progress lowest received → length after ≡ length progress →
    ((b : ℕ) → progress_at after b ≡ progress_after seq v (progress_at progress b)) → first ≡ least (is_open after) (length blocks) → TellsDone word after → IsKept blocks after first word
kept_settled blocks progress after lowest received first word seq v k size settled at told =
    let low = closed_settled blocks progress after lowest received seq v k settled in
    let rises : lowest ≤ least (is_open after) (length blocks) = least_rises (is_open after) (length blocks) lowest k.within low in
    record {
      few = k.few;
      places = size ∙ k.places;
      within = omega (arith, at, least_le (is_open after) (length blocks));
      first = at;
      near = λ b l. let was = k.near b (omega (arith, at, rises)) in ap progress_is_due (settled b ∙ due_stays seq v (progress_at progress b) was) ∙ was;
      past = λ b l. let was = k.past b l in ap progress_is_due (settled b ∙ due_stays seq v (progress_at progress b) was) ∙ was;
      told = told;
    }

pub stands_settled : (s t : SenderState) (fate : ℕ → Fate) (log : List SenderEvent) (seq : ℕ) (v : Verdict) → ((b : ℕ) → progress_at t.progress b ≡ progress_after seq v (progress_at s.progress b)) → fate seq ≡ Unjudged → StandsFor s fate log → StandsFor t (judged fate seq (fate_for v)) log
stands_settled s t fate log seq v settled o h = record {
  progress = λ b. subst (ProgressIs (judged fate seq (fate_for v)) (carriers b log)) (sym (settled b)) (progress-settled fate seq v (carriers b log) (progress_at s.progress b) o (h.progress b));
}

pub told_received : (s : SenderState) (word : ℕ) (fate : ℕ → Fate) (log : List SenderEvent) → TellsDone word s.progress → StandsFor s fate log → (b : ℕ) → b < 64 → bit_at word b ≡ (if any_received fate (carriers b log) then 1 else 0)
told_received s word fate log told h b l =
    told b l ∙ done_bit-is (progress_at s.progress b) ∙ ap (λ (t : Bool). if t then 1 else 0) (done-test fate (carriers b log) (progress_at s.progress b) (h.progress b))

pub due_everywhere : (n b : ℕ) → progress_at (replicate n Due) b ≡ Due
due_everywhere n b = elim (cases_lt b n) [
  | inl there ↦ get_or-replicate n b Due Due there
  | inr past ↦ get_or_past (replicate n Due) b Due (omega (arith, length-replicate n Due))
]

-- a sender before its first packet
pub kept_unsent : (blocks : List (List ℕ)) (progress : List Progress) → length blocks ≤ 64 → length progress ≡ 64 → ((b : ℕ) → progress_at progress b ≡ Due) → IsKept blocks progress 0 0
kept_unsent blocks progress few places due = record {
  few = few;
  places = places;
  within = omega arith;
  first = least_is (is_open progress) (length blocks) 0 (omega arith) (λ j l. absurd (omega arith)) (λ l. ap (λ (p : Progress). not (progress_is_done p)) (due 0));
  near = λ b l. ap progress_is_due (due b);
  past = λ b l. ap progress_is_due (due b);
  told = λ b l. bit_at-zero b ∙ sym (ap done_bit (due b));
}
