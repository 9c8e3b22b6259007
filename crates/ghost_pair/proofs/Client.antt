-- What a packet that is processed does to the copies, item by item, and that they stay those of the periods that are there.
use Rattle.std.proofs.Common.{◌≡◌, ◌≢◌, ℕ, Bool, true, false, not, cond, List, [], ◌∷◌, ◌∙◌, Some, None, Option, refl, sym, ap, subst, inl, inr, arith, eqb}
use Rattle.std.specs.List.{AllByRecursion}
use Rattle.std.proofs.lemmas.Bool.{cases_eq}
use Rattle.std.proofs.lemmas.Bool.Decides.{nat_tests}
use Rattle.tn_types.specs.declared.choices.Op.{Op}
use Rattle.tn_types.specs.declared.choices.Op.TheVariants.{Kill, Create, Update}
use Rattle.ghost_model.specs.Words.{is_create}
use Rattle.ghost_model.proofs.Steps.{same_test, other_test}
use Rattle.ghost_pair.specs.Copies.{Item, Copy, choices, changed, applied, taken, IsOf, Meets, Finds}
use Rattle.ghost_pair.proofs.There.{run, item_there, packet_there, other_there}

-- a slot has a copy of period n exactly where n was given that slot and is there
pub record Agree (given : ℕ → Option ℕ) (there : ℕ → Bool) (copies : ℕ → Option Copy) : Type 0 where
  pub has : (s n : ℕ) → given n ≡ Some s → there n ≡ true → IsOf n (copies s)
  pub is : (s : ℕ) (c : Copy) → copies s ≡ Some c → (given c.period ≡ Some s) × (there c.period ≡ true)

-- where the same are there, and those have the same slots
pub agree_by : (given given' : ℕ → Option ℕ) (there there' : ℕ → Bool) (copies : ℕ → Option Copy)
    → ((n : ℕ) → there' n ≡ there n) → ((n : ℕ) → there n ≡ true → given' n ≡ given n) → Agree given there copies → Agree given' there' copies
agree_by given given' there there' copies t g a = record {
  has = λ s n h e. let old : there n ≡ true = sym (t n) ∙ e in a.has s n (sym (g n old) ∙ h) old;
  is = λ s c h. let old = a.is s c h in (g c.period old.1 ∙ old.0, t c.period ∙ old.1);
}

-- each item of a packet, when its turn comes
abbrev pub FindsEach : List Item → (ℕ → Option Copy) → Type 0
FindsEach [] copies = Unit {0}
FindsEach (i ∷ items) copies = Finds copies i × FindsEach items (applied i copies)

none_some : {X : Type 0} (c : X) → None ≡ Some c → ⊥
none_some c h = cc

unsome : {X : Type 0} (a b : X) → Some a ≡ Some b → a ≡ b
unsome a b h = cc

pub in_slot : (i : Item) (copies : ℕ → Option Copy) (s : ℕ) → i.choice.slot ≡ s → applied i copies s ≡ changed i.choice.op i (copies s)
in_slot i copies s e = let t : eqb i.choice.slot s ≡ true = grind (arith, nat_tests) in ap (λ b. cond b (changed i.choice.op i (copies s)) (copies s)) t

pub off_slot : (i : Item) (copies : ℕ → Option Copy) (s : ℕ) → i.choice.slot ≢ s → applied i copies s ≡ copies s
off_slot i copies s e = ap (λ b. cond b (changed i.choice.op i (copies s)) (copies s)) (other_test i.choice.slot s e)

module _ (given : ℕ → Option ℕ) (gone : ℕ → Bool) (apart : (m n s : ℕ) → given m ≡ Some s → given n ≡ Some s → gone m ≡ false → gone n ≡ false → m ≡ n) where
  -- what is known of an item: a create is of what isn't there, an update and a kill of what is
  pub record Known (there : ℕ → Bool) (i : Item) : Type 0 where
    pub at_slot : given i.choice.n ≡ Some i.choice.slot
    pub lives : gone i.choice.n ≡ false
    pub now : there i.choice.n ≡ not (is_create i.choice.op)

  -- each item, and no two of one period
  abbrev pub AreKnown : (ℕ → Bool) → List Item → Type 0
  AreKnown there [] = Unit {0}
  AreKnown there (i ∷ items) = Known there i × AllByRecursion (λ (x : Item). i.choice.n ≢ x.choice.n) items × AreKnown there items

  module _ (there : ℕ → Bool) (copies : ℕ → Option Copy) (alive : (n : ℕ) → there n ≡ true → gone n ≡ false) (a : Agree given there copies) (i : Item) (known : Known there i) where
    abbrev N : ℕ
    N = i.choice.n

    abbrev Now : ℕ → Bool
    Now m = item_there m i.choice (there m)

    same_now : Now N ≡ run i.choice.op (there N)
    same_now = ap (λ b. cond b (run i.choice.op (there N)) (there N)) (same_test N)

    pub other_now : (n : ℕ) → N ≢ n → Now n ≡ there n
    other_now n other = other_there n i.choice (there n) (other_test N n other)

    pub alive_item : (n : ℕ) → Now n ≡ true → gone n ≡ false
    alive_item n h = elim (cases_eq N n) [
      | inl same ↦ ap gone (sym same) ∙ known.lives
      | inr other ↦ alive n (sym (other_now n other) ∙ h)
    ]

    -- ---- what it finds

    there_for : (op : Op) → i.choice.op ≡ op → there N ≡ not (is_create op)
    there_for op e = known.now ∙ ap (λ o. not (is_create o)) e

    empty : (o : Option Copy) → copies i.choice.slot ≡ o → there N ≡ false → o ≡ None
    empty None e absent = refl
    empty (Some c) e absent =
        let k = a.is i.choice.slot c e in
        let same : c.period ≡ N = apart c.period N i.choice.slot k.0 known.at_slot (alive c.period k.1) known.lives in
        let never : true ≡ false = sym k.1 ∙ ap there same ∙ absent in
        absurd (cc)

    pub item_finds : Finds copies i
    item_finds = go i.choice.op refl
      where
        go : (op : Op) → i.choice.op ≡ op → Meets op N (copies i.choice.slot)
        go Kill e = a.has i.choice.slot N known.at_slot (there_for Kill e)
        go Update e = a.has i.choice.slot N known.at_slot (there_for Update e)
        go Create e = empty (copies i.choice.slot) refl (there_for Create e)

    -- ---- what it leaves

    has_same : (op : Op) (o : Option Copy) → run op (there N) ≡ true → (there N ≡ true → IsOf N o) → IsOf N (changed op i o)
    has_same Kill o e old = absurd (cc)
    has_same Create o e old = (record { period = N; levels = i.levels }, refl, refl)
    has_same Update None e old = let k = old e in absurd (none_some k.0 k.1)
    has_same Update (Some c) e old = let k = old e in (_, refl, ap (λ (x : Copy). x.period) (unsome c k.0 k.1) ∙ k.2)

    has_item : (s n : ℕ) → given n ≡ Some s → Now n ≡ true → IsOf n (applied i copies s)
    has_item s n h e = elim (cases_eq N n) [
      | inl same ↦
          let g : given N ≡ Some s = ap given same ∙ h in
          let at : i.choice.slot ≡ s = unsome i.choice.slot s (sym known.at_slot ∙ g) in
          let now : run i.choice.op (there N) ≡ true = sym same_now ∙ ap Now same ∙ e in
          subst (λ m. IsOf m (applied i copies s)) same (subst (IsOf N) (sym (in_slot i copies s at)) (has_same i.choice.op (copies s) now (λ t. a.has s N g t)))
      | inr other ↦
          let old : there n ≡ true = sym (other_now n other) ∙ e in
          let off : i.choice.slot ≢ s = λ at. other (apart N n s (known.at_slot ∙ ap Some at) h known.lives (alive n old)) in
          subst (IsOf n) (sym (off_slot i copies s off)) (a.has s n h old)
    ]

    abbrev Is : ℕ → Copy → Type 0
    Is s c = (given c.period ≡ Some s) × (Now c.period ≡ true)

    is_same : (s : ℕ) (c : Copy) → i.choice.slot ≡ s → (op : Op) → i.choice.op ≡ op → (o : Option Copy) → copies s ≡ o → changed op i o ≡ Some c → Is s c
    is_same s c at Kill is o old h = absurd (none_some c h)
    is_same s c at Create is o old h = subst (Is s) (unsome _ c h) (known.at_slot ∙ ap Some at, same_now ∙ ap (λ op. run op (there N)) is)
    is_same s c at Update is None old h = absurd (none_some c h)
    is_same s c at Update is (Some d) old h =
        let k = a.is s d old in
        subst (Is s) (unsome _ c h) (k.0, ap (λ op. cond (eqb N d.period) (run op (there d.period)) (there d.period)) is ∙ either (eqb N d.period) (there d.period) ∙ k.1)
      where
        either : (b t : Bool) → cond b t t ≡ t
        either true t = refl
        either false t = refl

    is_other : (s : ℕ) (c : Copy) → i.choice.slot ≢ s → copies s ≡ Some c → Is s c
    is_other s c off h =
        let k = a.is s c h in
        let other : N ≢ c.period = λ same. off (unsome i.choice.slot s (sym known.at_slot ∙ ap given same ∙ k.0)) in
        (k.0, other_now c.period other ∙ k.1)

    pub agree_item : Agree given Now (applied i copies)
    agree_item = record {
      has = has_item;
      is = λ s c h. elim (cases_eq i.choice.slot s) [
        | inl at ↦ is_same s c at i.choice.op refl (copies s) refl (sym (in_slot i copies s at) ∙ h)
        | inr off ↦ is_other s c off (sym (off_slot i copies s off) ∙ h)
      ];
    }

    -- the items behind it are known as before
    later_known : (items : List Item) → AllByRecursion (λ (x : Item). N ≢ x.choice.n) items → AreKnown there items → AreKnown Now items
    later_known [] apart all = tt
    later_known (x ∷ items) others all = (
      record { at_slot = all.0.at_slot; lives = all.0.lives; now = other_now x.choice.n others.0 ∙ all.0.now },
      all.1,
      later_known items others.1 all.2,
    )

  -- a whole packet
  pub record Took (there : ℕ → Bool) (copies : ℕ → Option Copy) (items : List Item) : Type 0 where
    pub finds : FindsEach items copies
    pub agree : Agree given (λ n. packet_there n (choices items) (there n)) (taken items copies)

  pub packet_taken : (items : List Item) (there : ℕ → Bool) (copies : ℕ → Option Copy) → ((n : ℕ) → there n ≡ true → gone n ≡ false) → AreKnown there items → Agree given there copies → Took there copies items
  packet_taken [] there copies alive known a = record { finds = tt; agree = a }
  packet_taken (i ∷ items) there copies alive known a =
      let rest = packet_taken items (λ n. item_there n i.choice (there n)) (applied i copies) (alive_item there copies alive a i known.0)
      (later_known there copies alive a i known.0 items known.1 known.2) (agree_item there copies alive a i known.0) in
      record { finds = (item_finds there copies alive a i known.0, rest.finds); agree = rest.agree }
