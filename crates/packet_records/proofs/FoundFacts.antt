-- Where the newest node of a slot is found.
use Rattle.std.proofs.Common.{◌≡◌, ◌≢◌, ℕ, zero, suc, ◌+◌, ◌-◌, ◌%◌, ◌<◌, ◌≤◌, inl, inr, true, false, cond, List, get_or, Option, Some, None, arith, sym, ap, subst, ◌∙◌, nat_lt}
use Rattle.std.proofs.lemmas.Bool.{cases_eq, cases_lt}
use Rattle.std.proofs.lemmas.Bool.Decides.{nat_tests}
use Rattle.packet_records.specs.declared.entries.Entry.{Entry}
use Rattle.packet_records.specs.declared.pool.Node.{Node}
use Rattle.packet_records.specs.Ring.{no_node, place_of, offset_of, from_start, IsNewest, IsFound, Leads}
use Rattle.packet_records.proofs.RingFacts.{place_is, place_near, place_far, place_inside}

offset_back : (start place : ℕ) → place < start → offset_of start place ≡ place + 4096 - start
offset_back start place lt = let t : nat_lt place start ≡ true = grind (arith, nat_tests) in ap (λ b. cond b (place + 4096 - start) (place - start)) t

offset_on : (start place : ℕ) → start ≤ place → offset_of start place ≡ place - start
offset_on start place le = let t : nat_lt place start ≡ false = grind (arith, nat_tests) in ap (λ b. cond b (place + 4096 - start) (place - start)) t

pub offset_place : (start i : ℕ) → start < 4096 → i < 4096 → offset_of start (place_of start i) ≡ i
offset_place start i s lt =
    elim (place_is start i).case [
      | inl p ↦ (let e = offset_on start (place_of start i) (omega (arith, p.1)) in omega (arith, e, p.1))
      | inr p ↦ (let e = offset_back start (place_of start i) (omega (arith, p.1, lt)) in omega (arith, e, p.1, s, lt))
    ]

pub place_offset : (start place : ℕ) → start < 4096 → place < 4096 → place_of start (offset_of start place) ≡ place
place_offset start place s lt =
    elim (cases_lt place start) [
      | inl less ↦ (let e = offset_back start place less in let f = place_far start (offset_of start place) (omega (arith, e, s, less)) in omega (arith, e, f, s, less))
      | inr le ↦ (let e = offset_on start place le in let f = place_near start (offset_of start place) (omega (arith, e, le, lt)) in omega (arith, e, f, le))
    ]

-- the newest of the first nodes that names the slot, if there is one
pub record Search (lies : ℕ → Entry) (below slot : ℕ) : Type 0 where
  pub o : Option ℕ
  pub is : IsFound lies below slot o

search_more : (lies : ℕ → Entry) (n slot : ℕ) → (lies n).slot ≢ slot → (o : Option ℕ) → IsFound lies n slot o → IsFound lies (suc n) slot o
search_more lies n slot ne None f = λ k lt. elim (cases_eq k n) [ inl at ↦ λ e. ne (ap (λ j. (lies j).slot) (sym at) ∙ e) | inr other ↦ f k (omega (arith, lt, other)) ]
search_more lies n slot ne (Some i) f =
    let b = f.before in
    record {
      before = omega (arith, b);
      names = f.names;
      alone = λ k lo hi. elim (cases_eq k n) [ inl at ↦ λ e. ne (ap (λ j. (lies j).slot) (sym at) ∙ e) | inr other ↦ f.alone k lo (omega (arith, hi, other)) ];
    }

search_of : (lies : ℕ → Entry) (below slot : ℕ) → Search lies below slot
search_of lies zero slot = record { o = None; is = λ k lt. absurd (omega (arith, lt)) }
search_of lies (suc n) slot =
    elim (cases_eq (lies n).slot slot) [
      | inl named ↦ record { o = Some n; is = record { before = omega arith; names = named; alone = λ k lo hi. absurd (omega (arith, lo, hi)) } }
      | inr unnamed ↦ (let s = search_of lies n slot in record { o = s.o; is = search_more lies n slot unnamed s.o s.is })
    ]

-- where a place is said to lead
led : (nodes : List Node) (start below slot place i : ℕ) → start < 4096 → below ≤ 4096 → Leads (from_start nodes start) start below slot place → IsNewest (from_start nodes start) below slot i → place % 4096 ≡ place_of start i
led nodes start below slot place i s few l is =
    let b = is.before in
    let e = l i is in
    let p = place_inside start i s (omega (arith, b, few)) in
    omega (arith, e, p)

pub found_some : (nodes : List Node) (start below slot place at : ℕ) → start < 4096 → below ≤ 4096 → Leads (from_start nodes start) start below slot place → at ≡ offset_of start (place % 4096) → at < below → (get_or nodes (place % 4096) no_node).slot ≡ slot → IsNewest (from_start nodes start) below slot at
found_some nodes start below slot place at s few l spot lt named =
    let q = search_of (from_start nodes start) below slot in
    go q.o q.is
  where
    mine : (from_start nodes start at).slot ≡ slot
    mine =
        ap (λ k. (get_or nodes k no_node).slot) (ap (place_of start) spot ∙ place_offset start (place % 4096) s (omega arith)) ∙ named

    go : (o : Option ℕ) → IsFound (from_start nodes start) below slot o → IsNewest (from_start nodes start) below slot at
    go None f = absurd (f at lt mine)
    go (Some i) f =
        let b = f.before in
        let e : at ≡ i = spot ∙ ap (offset_of start) (led nodes start below slot place i s few l f) ∙ offset_place start i s (omega (arith, b, few)) in
        subst (IsNewest (from_start nodes start) below slot) (sym e) f

-- nothing is found where the place leads to none of them, or to one that names another slot
pub found_none : (nodes : List Node) (start below slot place at : ℕ) → start < 4096 → below ≤ 4096 → Leads (from_start nodes start) start below slot place → at ≡ offset_of start (place % 4096) → (at < below → (get_or nodes (place % 4096) no_node).slot ≢ slot) → IsFound (from_start nodes start) below slot None
found_none nodes start below slot place at s few l spot other k lt named =
    let q = search_of (from_start nodes start) below slot in
    go q.o q.is
  where
    go : (o : Option ℕ) → IsFound (from_start nodes start) below slot o → ⊥
    go None f = f k lt named
    go (Some i) f =
        let b = f.before in
        let p = led nodes start below slot place i s few l f in
        let e : at ≡ i = spot ∙ ap (offset_of start) p ∙ offset_place start i s (omega (arith, b, few)) in
        other (omega (arith, e, b)) (ap (λ j. (get_or nodes j no_node).slot) p ∙ f.names)
