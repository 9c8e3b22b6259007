-- A meter's second, and the ones after it, in which nothing went yet.
use Rattle.std.proofs.Common.{ℕ, zero, suc, ◌+◌, ◌-◌, ◌≡◌, ◌≢◌, ◌≤◌, ◌<◌, inl, inr, List, [], ◌∷◌, nat_eq, refl, sym, ◌∙◌, ap, arith}
use Rattle.std.specs.Prelude.{All, if◌then◌else◌}
use Rattle.std.proofs.lemmas.Bool.{eq-eqb}
use Rattle.std.proofs.lemmas.Bool.Decides.{eqb_tells}
use Rattle.std.proofs.lemmas.List.Elements.{All-head, All-tail, All-cons}
use Rattle.link_quality.specs.Traffic.{Datagram, Meter, StandsFor, second_of, traffic_in, traffic_before, current_at, before_at, with_datagram, no_traffic}

abbrev IsUpTo : ℕ → Datagram → Type 0
IsUpTo second d = second_of d ≤ second

none_yet : (second later : ℕ) (log : List Datagram) → All (IsUpTo second) log → second < later → traffic_in later log ≡ no_traffic
none_yet second later [] few h = refl
none_yet second later (d ∷ log) few h =
    let early = All-head (IsUpTo second) d log few in
    elim (eqb_tells (second_of d) later) [
      | inl (e, same) ↦ absurd (omega (arith, same, early, h))
      | inr (e, other) ↦ rw e (none_yet second later log (All-tail (IsUpTo second) d log few) h)
    ]

none_before : (second later : ℕ) (log : List Datagram) → All (IsUpTo second) log → second + 1 < later → traffic_before later log ≡ no_traffic
none_before second zero log few h = refl
none_before second (suc later) log few h = none_yet second later log few (omega (arith, h))

-- ---- what it says of a second that is not past

now_in : (m : Meter) (second : ℕ) (log : List Datagram) → StandsFor m log → m.second ≤ second → current_at m second ≡ traffic_in second log
now_in m second log h on =
    elim (eqb_tells second m.second) [
      | inl (e, same) ↦ rw e (h.current_is ∙ ap (λ s. traffic_in s log) (sym same))
      | inr (e, other) ↦ rw e (sym (none_yet m.second second log h.none_later (omega (arith, other, on))))
    ]

later_than : (m : Meter) (second : ℕ) (log : List Datagram) → StandsFor m log → m.second ≤ second → second ≢ m.second
    → (if nat_eq (second - m.second) 1 then m.current else no_traffic) ≡ traffic_before second log
later_than m second log h on other =
    elim (eqb_tells (second - m.second) 1) [
      | inl (e, one) ↦ (let next : suc m.second ≡ second = omega (arith, one) in rw e (h.current_is ∙ ap (λ s. traffic_before s log) next))
      | inr (e, more) ↦ rw e (sym (none_before m.second second log h.none_later (omega (arith, other, more, on))))
    ]

pub told_before : (m : Meter) (second : ℕ) (log : List Datagram) → StandsFor m log → m.second ≤ second → before_at m second ≡ traffic_before second log
told_before m second log h on =
    elim (eqb_tells second m.second) [
      | inl (e, same) ↦ rw e (h.before_is ∙ ap (λ s. traffic_before s log) (sym same))
      | inr (e, other) ↦ rw e (later_than m second log h on other)
    ]

-- ---- one datagram more

before_it : (second : ℕ) (d : Datagram) (log : List Datagram) → second_of d ≡ second → traffic_before second (d ∷ log) ≡ traffic_before second log
before_it zero d log h = refl
before_it (suc second) d log h =
    elim (eqb_tells (second_of d) second) [
      | inl (e, same) ↦ absurd (omega (arith, same, h))
      | inr (e, other) ↦ rw e refl
    ]

grown : (least second : ℕ) (log : List Datagram) → least ≤ second → All (IsUpTo least) log → All (IsUpTo second) log
grown least second log h few = λ k d i. (let early = few k d i in omega (arith, early, h))

pub one_more : (m : Meter) (d : Datagram) (log : List Datagram) → StandsFor m log → m.second ≤ second_of d
    → StandsFor (record { second = second_of d; current = with_datagram (current_at m (second_of d)) d.bytes; before = before_at m (second_of d) }) (d ∷ log)
one_more m d log h on =
    let s = second_of d in
    let e = eq-eqb s s refl in
    record {
      current_is = rw e (ap (λ t. with_datagram t d.bytes) (now_in m s log h on));
      before_is = told_before m s log h on ∙ sym (before_it s d log refl);
      none_later = All-cons (IsUpTo s) d log (omega arith) (grown m.second s log on h.none_later);
    }
