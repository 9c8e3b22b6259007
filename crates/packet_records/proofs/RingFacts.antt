-- Places of the ring, and what becomes of its chains where a node is added, or the oldest ones are taken.
use Rattle.std.proofs.Common.{◌≡◌, ◌≢◌, ◌⊎◌, ℕ, suc, ◌+◌, ◌-◌, ◌<◌, ◌≤◌, inl, inr, true, false, cond, List, length, get_or, set, arith, sym, ap, subst, ◌∙◌, nat_lt}
use Rattle.std.proofs.lemmas.List.{length-set, get_or-set_same, get_or-set_other}
use Rattle.std.proofs.lemmas.Bool.{cases_eq, cases_lt}
use Rattle.std.proofs.lemmas.Bool.Decides.{nat_tests}
use Rattle.packet_records.specs.declared.entries.Entry.{Entry}
use Rattle.packet_records.specs.declared.pool.Node.{Node}
use Rattle.packet_records.specs.Ring.{no_node, node_of, place_of, node_from, from_start, IsNewest, Leads, IsRing}

-- where a place lies
pub place_near : (start i : ℕ) → start + i < 4096 → place_of start i ≡ start + i
place_near start i lt = let t : nat_lt (start + i) 4096 ≡ true = grind (arith, nat_tests) in ap (λ b. cond b (start + i) (start + i - 4096)) t

pub place_far : (start i : ℕ) → 4096 ≤ start + i → place_of start i ≡ start + i - 4096
place_far start i le = let t : nat_lt (start + i) 4096 ≡ false = grind (arith, nat_tests) in ap (λ b. cond b (start + i) (start + i - 4096)) t

pub record IsPlace (start i place : ℕ) : Type 0 where
  pub case : ((start + i < 4096) × (place ≡ start + i)) ⊎ ((4096 ≤ start + i) × (place + 4096 ≡ start + i))

pub place_is : (start i : ℕ) → IsPlace start i (place_of start i)
place_is start i =
    elim (cases_lt (start + i) 4096) [
      | inl lt ↦ record { case = inl (lt, place_near start i lt) }
      | inr le ↦ record { case = inr (le, (let e = place_far start i le in omega (arith, e))) }
    ]

pub place_inside : (start i : ℕ) → start < 4096 → i ≤ 4096 → place_of start i < 4096
place_inside start i s lt = elim (place_is start i).case [ inl p ↦ omega (arith, p.0, p.1) | inr p ↦ omega (arith, p.0, p.1) ]

pub place_apart : (start i j : ℕ) → start < 4096 → i < 4096 → j < 4096 → i ≢ j → place_of start i ≢ place_of start j
place_apart start i j s li lj ne e =
    elim (place_is start i).case [
      | inl p ↦ elim (place_is start j).case [ inl q ↦ absurd (ne (omega (arith, e, p.0, p.1, q.0, q.1))) | inr q ↦ absurd (omega (arith, e, p.0, p.1, q.0, q.1)) ]
      | inr p ↦ elim (place_is start j).case [ inl q ↦ absurd (omega (arith, e, p.0, p.1, q.0, q.1)) | inr q ↦ absurd (ne (omega (arith, e, p.0, p.1, q.0, q.1))) ]
    ]

-- so many on, and then so many more
pub place_on : (start c i : ℕ) → start < 4096 → c + i ≤ 4096 → place_of (place_of start c) i ≡ place_of start (c + i)
place_on start c i s few =
    elim (place_is start c).case [
      | inl p ↦ elim (place_is (place_of start c) i).case [
        | inl q ↦ elim (place_is start (c + i)).case [ inl r ↦ omega (arith, p.1, q.1, r.1) | inr r ↦ absurd (omega (arith, p.1, q.0, r.0)) ]
        | inr q ↦ elim (place_is start (c + i)).case [ inl r ↦ absurd (omega (arith, p.1, q.0, r.0)) | inr r ↦ omega (arith, p.1, q.1, r.1) ]
      ]
      | inr p ↦ elim (place_is (place_of start c) i).case [
        | inl q ↦ elim (place_is start (c + i)).case [ inl r ↦ absurd (omega (arith, p.0, r.0)) | inr r ↦ omega (arith, p.1, q.1, r.1) ]
        | inr q ↦ absurd (omega (arith, p.1, q.0))
      ]
    ]

pub place_none : (start : ℕ) → start < 4096 → place_of start 0 ≡ start
place_none start s = elim (place_is start 0).case [ inl p ↦ omega (arith, p.1) | inr p ↦ absurd (omega (arith, p.0)) ]

-- what lies in the ring
pub lies_on : (nodes : List Node) (start c i : ℕ) → start < 4096 → c + i ≤ 4096 → node_from nodes (place_of start c) i ≡ node_from nodes start (c + i)
lies_on nodes start c i s few = ap (λ p. get_or nodes p no_node) (place_on start c i s few)

pub put_last : (nodes : List Node) (start n : ℕ) (x : Node) → length nodes ≡ 4096 → start < 4096 → n < 4096 → node_from (set nodes (place_of start n) x) start n ≡ x
put_last nodes start n x long s lt = get_or-set_same nodes (place_of start n) x no_node (let p = place_inside start n s (omega (arith, lt)) in omega (arith, p, long))

pub put_others : (nodes : List Node) (start n i : ℕ) (x : Node) → start < 4096 → n < 4096 → i < n → node_from (set nodes (place_of start n) x) start i ≡ node_from nodes start i
put_others nodes start n i x s lt less = get_or-set_other nodes (place_of start n) (place_of start i) x no_node (place_apart start i n s (omega (arith, lt, less)) lt (λ e. absurd (omega (arith, e, less))))

-- chains
leads_same : (f g : ℕ → Entry) (start below slot place : ℕ) → ((i : ℕ) → i < below → g i ≡ f i) → Leads f start below slot place → Leads g start below slot place
leads_same f g start below slot place same l i is =
    l i (record {
      before = is.before;
      names = ap (λ (e : Entry). e.slot) (sym (same i is.before)) ∙ is.names;
      alone = λ k lo hi e. is.alone k lo hi (ap (λ (x : Entry). x.slot) (same k hi) ∙ e);
    })

pub ring_more : (nodes : List Node) (start n : ℕ) (newest : List ℕ) (e : Entry) → n < 4096 → e.slot < 256 → IsRing nodes start n newest → IsRing (set nodes (place_of start n) (node_of e (get_or newest e.slot 0))) start (suc n) (set newest e.slot (place_of start n))
ring_more nodes start n newest e lt small r =
    let x = node_of e (get_or newest e.slot 0) in
    let now = set nodes (place_of start n) x in
    let others : (i : ℕ) → i < n → node_from now start i ≡ node_from nodes start i = λ i less. put_others nodes start n i x r.inside lt less in
    let last : node_from now start n ≡ x = put_last nodes start n x r.long r.inside lt in
    let same : (i : ℕ) → i < n → from_start now start i ≡ from_start nodes start i = λ i less. ap (λ (m : Node). record { seq = m.seq; slot = m.slot; mask = m.mask; op = m.op }) (others i less) in
    let named : (from_start now start n).slot ≡ e.slot = ap (λ (m : Node). m.slot) last in
    record {
      long = length-set nodes (place_of start n) x ∙ r.long;
      slots = length-set newest e.slot (place_of start n) ∙ r.slots;
      inside = r.inside;
      heads = λ slot few. elim (cases_eq e.slot slot) [
        | inl mine ↦ λ i is.
            let at : i ≡ n = elim (cases_lt i n) [
              | inl less ↦ absurd (is.alone n less (omega arith) (named ∙ mine))
              | inr le ↦ (let b = is.before in omega (arith, le, b))
            ] in
            ap (λ s. get_or (set newest e.slot (place_of start n)) s 0) (sym mine)
            ∙ get_or-set_same newest e.slot (place_of start n) 0 (omega (arith, small, r.slots))
            ∙ ap (place_of start) (sym at)
        | inr other ↦ λ i is.
            let less : i < n = elim (cases_lt i n) [
              | inl less ↦ less
              | inr le ↦ (let b = is.before in let at : n ≡ i = omega (arith, le, b) in absurd (other (sym named ∙ ap (λ k. (from_start now start k).slot) at ∙ is.names)))
            ] in
            let was : IsNewest (from_start now start) n slot i = record { before = less; names = is.names; alone = λ k lo hi. is.alone k lo (omega (arith, hi)) } in
            get_or-set_other newest e.slot slot (place_of start n) 0 (λ q. other (sym q))
            ∙ leads_same (from_start nodes start) (from_start now start) start n slot (get_or newest slot 0) same (r.heads slot few) i was
      ];
      older = λ i less. elim (cases_lt i n) [
        | inl before ↦
            subst (λ (m : Node). Leads (from_start now start) start i m.slot m.older) (sym (others i before))
            (leads_same (from_start nodes start) (from_start now start) start i (node_from nodes start i).slot (node_from nodes start i).older (λ k lo. same k (omega (arith, lo, before))) (r.older i before))
        | inr le ↦
            let at : n ≡ i = omega (arith, le, less) in
            subst (λ k. Leads (from_start now start) start k (node_from now start k).slot (node_from now start k).older) at
            (subst (λ (m : Node). Leads (from_start now start) start n m.slot m.older) (sym last)
            (leads_same (from_start nodes start) (from_start now start) start n e.slot (get_or newest e.slot 0) same (r.heads e.slot small)))
      ];
    }

-- the oldest are taken
leads_less : (nodes : List Node) (start c below slot place : ℕ) → start < 4096 → c + below ≤ 4096 → Leads (from_start nodes start) start (c + below) slot place → Leads (from_start nodes (place_of start c)) (place_of start c) below slot place
leads_less nodes start c below slot place s few l i is =
    let on : (k : ℕ) → k < below → (from_start nodes (place_of start c) k).slot ≡ (from_start nodes start (c + k)).slot = λ k lt. ap (λ (m : Node). m.slot) (lies_on nodes start c k s (omega (arith, lt, few))) in
    let b = is.before in
    l (c + i) (record {
      before = omega (arith, b);
      names = sym (on i b) ∙ is.names;
      alone = λ k lo hi e.
          let behind : k ≡ c + (k - c) = omega (arith, lo) in
          let lt : k - c < below = omega (arith, lo, hi) in
          is.alone (k - c) (omega (arith, lo)) lt (on (k - c) lt ∙ ap (λ j. (from_start nodes start j).slot) (sym behind) ∙ e);
    })
    ∙ sym (place_on start c i s (omega (arith, b, few)))

pub ring_less : (nodes : List Node) (start c n : ℕ) (newest : List ℕ) → c + n ≤ 4096 → IsRing nodes start (c + n) newest → IsRing nodes (place_of start c) n newest
ring_less nodes start c n newest few r =
    record {
      long = r.long;
      slots = r.slots;
      inside = place_inside start c r.inside (omega (arith, few));
      heads = λ slot small. leads_less nodes start c n slot (get_or newest slot 0) r.inside few (r.heads slot small);
      older = λ i lt.
          subst (λ (m : Node). Leads (from_start nodes (place_of start c)) (place_of start c) i m.slot m.older) (sym (lies_on nodes start c i r.inside (omega (arith, lt, few))))
          (leads_less nodes start c i (node_from nodes start (c + i)).slot (node_from nodes start (c + i)).older r.inside (omega (arith, lt, few)) (r.older (c + i) (omega (arith, lt))));
    }
