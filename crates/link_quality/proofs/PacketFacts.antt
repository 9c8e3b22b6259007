-- What is told of packets.
use Rattle.std.proofs.Common.{ℕ, zero, suc, ◌-◌, ◌≡◌, ◌≤◌, List, [], ◌∷◌, ◌++◌, drop, length, take, slice_get, Option, Some, None, refl, sym, ◌∙◌, ap, arith}
use Rattle.std.proofs.lemmas.List.{length_push}
use Rattle.tn_types.specs.declared.choices.Verdict.{Verdict}
use Rattle.tn_types.specs.declared.choices.Verdict.TheVariants.{Received, Lost}
use Rattle.link_quality.specs.declared.smoothing.RoundTrip.{RoundTrip}
use Rattle.link_quality.specs.declared.verdicts.TheConstants.{JUDGED_PACKETS}
use Rattle.link_quality.specs.Packets.{PacketEvent, Sent, Judged, Quality, StandsFor, sent_of, verdicts_of, trips_of, smoothed_by}
use Rattle.link_quality.specs.Smoothing.{smoothed_of}

-- ---- one by one

drop_one_more : {A : Type 0} (n : ℕ) (xs : List A) → drop 1 (drop n xs) ≡ drop (suc n) xs
drop_one_more zero xs = refl
drop_one_more (suc n) [] = refl
drop_one_more (suc n) (x ∷ xs) = drop_one_more n xs

first_of_rest : {A : Type 0} (n : ℕ) (xs : List A) → slice_get (drop n xs) 0 ≡ slice_get xs n
first_of_rest zero xs = refl
first_of_rest (suc n) [] = refl
first_of_rest (suc n) (x ∷ xs) = first_of_rest n xs

there_is_one : {A : Type 0} (n : ℕ) (xs : List A) (x : A) → slice_get xs n ≡ Some x → suc n ≤ length xs
there_is_one zero [] x h = grind (arith, h)
there_is_one zero (y ∷ xs) x h = omega arith
there_is_one (suc n) [] x h = grind (arith, h)
there_is_one (suc n) (y ∷ xs) x h = let ih = there_is_one n xs x h in omega (arith, ih)

drop_of_more : {A : Type 0} (n : ℕ) (xs : List A) (x : A) → n ≤ length xs → drop n (xs ++ x ∷ []) ≡ drop n xs ++ x ∷ []
drop_of_more zero xs x h = refl
drop_of_more (suc n) [] x h = grind (arith, h)
drop_of_more (suc n) (y ∷ xs) x h = drop_of_more n xs x (omega (arith, h))

taken_less : {A : Type 0} (n : ℕ) (xs : List A) → take n (take (suc n) xs) ≡ take n xs
taken_less zero xs = refl
taken_less (suc n) [] = refl
taken_less (suc n) (x ∷ xs) = ap (λ r. x ∷ r) (taken_less n xs)

take_of_taken : {A : Type 0} (n : ℕ) (x : A) (xs : List A) → take n (x ∷ take n xs) ≡ take n (x ∷ xs)
take_of_taken zero x xs = refl
take_of_taken (suc n) x xs = ap (λ r. x ∷ r) (taken_less n xs)

-- ---- a packet that is sent

pub sent_more : (q : Quality) (time : ℕ) (log : List PacketEvent) → StandsFor q log
    → StandsFor (record q { waiting = q.waiting ++ time ∷ []; last = time }) (Sent time ∷ log)
sent_more q time log h = record {
  waiting_are = ap (λ w. w ++ time ∷ []) h.waiting_are ∙ sym (drop_of_more (length (verdicts_of log)) (sent_of log) time h.judged_were_sent);
  verdicts_are = h.verdicts_are;
  smoothed_is = h.smoothed_is;
  last_is = refl;
  judged_were_sent = let few = h.judged_were_sent in let more = length_push (sent_of log) time in omega (arith, few, more);
}

-- ---- a packet that is judged

trip_taken : (verdict : Verdict) (time sent : ℕ) (smoothed : Option RoundTrip) (log : List PacketEvent)
    → slice_get (sent_of log) (length (verdicts_of log)) ≡ Some sent → smoothed ≡ smoothed_of (trips_of log)
    → smoothed_by verdict smoothed (time - sent) ≡ smoothed_of (trips_of (Judged verdict time ∷ log))
trip_taken Lost time sent smoothed log oldest h = h
trip_taken Received time sent smoothed log oldest h = rw (oldest, h) refl

pub judged_more : (q : Quality) (verdict : Verdict) (time sent : ℕ) (log : List PacketEvent) → slice_get q.waiting 0 ≡ Some sent → StandsFor q log
    → StandsFor
    (record { waiting = drop 1 q.waiting; verdicts = take JUDGED_PACKETS (verdict ∷ q.verdicts); smoothed = smoothed_by verdict q.smoothed (time - sent); last = time })
    (Judged verdict time ∷ log)
judged_more q verdict time sent log first h =
    let n = length (verdicts_of log) in
    let oldest : slice_get (sent_of log) n ≡ Some sent = sym (first_of_rest n (sent_of log)) ∙ ap (λ w. slice_get w 0) (sym h.waiting_are) ∙ first in
    record {
      waiting_are = ap (drop 1) h.waiting_are ∙ drop_one_more n (sent_of log);
      verdicts_are = ap (λ v. take JUDGED_PACKETS (verdict ∷ v)) h.verdicts_are ∙ take_of_taken JUDGED_PACKETS verdict (verdicts_of log);
      smoothed_is = trip_taken verdict time sent q.smoothed log oldest h.smoothed_is;
      last_is = refl;
      judged_were_sent = there_is_one n (sent_of log) sent oldest;
    }

-- ---- where none waits

pub none_to_judge : {A : Type 0} (waiting : List A) → slice_get waiting 0 ≡ None → waiting ≡ []
none_to_judge [] h = refl
none_to_judge (x ∷ waiting) h = grind (arith, h)
