-- Whether the copy of a period is there: what was judged is told by its phase, and of the unjudged packets those that were
-- processed count.
use Rattle.std.proofs.Common.{◌≡◌, ℕ, suc, Bool, true, false, not, cond, List, [], ◌∷◌, ◌++◌, ◌∙◌, refl, sym, ap, subst, inl, inr, arith, eqb}
use Rattle.std.specs.Prelude.{is_some}
use Rattle.std.proofs.lemmas.Bool.{cases_eq}
use Rattle.tn_types.specs.declared.choices.Op.{Op}
use Rattle.tn_types.specs.declared.choices.Op.TheVariants.{Kill, Create, Update}
use Rattle.tn_types.specs.declared.choices.Verdict.{Verdict}
use Rattle.tn_types.specs.declared.choices.Verdict.TheVariants.{Received, Lost}
use Rattle.tn_types.specs.declared.choices.Choice.{Choice}
use Rattle.ghost_model.specs.declared.phase.Phase.{Phase}
use Rattle.ghost_model.specs.declared.phase.Phase.TheVariants.{Waiting, Wanted, Creating, Leaving, Live, KillDue, Killing, Gone}
use Rattle.ghost_model.specs.Words.{is_create}
use Rattle.ghost_model.specs.Phases.{is_gone, is_waiting, is_up, IsWriteStep, IsSettleStep, settled_phase, hidden_phase, written_phase}
use Rattle.ghost_model.specs.Scope.{ScopeEvent, Settled, Wrote, phase, table, KillsInOrder}
use Rattle.ghost_model.specs.Ghosts.{settled_by, wrote}
use Rattle.ghost_model.specs.Packets.{CanBeJudged}
use Rattle.ghost_model.proofs.Steps.{same_test, other_test, settle_phase, settle_other, settle_legal, write_phase, write_other}
use Rattle.ghost_model.proofs.Shape.{is_shape, nothing}
use Rattle.ghost_model.proofs.Kept.{ops_in, ops_of, CanBeWritten}
use Rattle.ghost_pair.specs.Copies.{after_done}

-- by the packets that were judged
abbrev pub was_there : Phase → Bool
was_there Waiting = false
was_there Wanted = false
was_there Creating = false
was_there Leaving = false
was_there Live = true
was_there KillDue = true
was_there Killing = true
was_there Gone = false

abbrev pub run : Op → Bool → Bool
run Kill b = false
run Create b = true
run Update b = b

-- after an item that is processed, and after a packet
abbrev pub item_there : ℕ → Choice → Bool → Bool
item_there n c b = cond (eqb c.n n) (run c.op b) b

abbrev pub packet_there : ℕ → List Choice → Bool → Bool
packet_there n [] b = b
packet_there n (c ∷ cs) b = packet_there n cs (item_there n c b)

-- the verdict of a packet by whether it was processed
abbrev pub verdict_by : Bool → Verdict
verdict_by true = Received
verdict_by false = Lost

-- ---- steps of phases

settled_there : (b : Bool) (op : Op) (p : Phase) → IsSettleStep p op → was_there (settled_phase op (verdict_by b) p) ≡ cond b (run op (was_there p)) (was_there p)
settled_there true Create Creating step = refl
settled_there false Create Creating step = refl
settled_there true Create Leaving step = refl
settled_there false Create Leaving step = refl
settled_there true Kill Killing step = refl
settled_there false Kill Killing step = refl
settled_there true Update p step = refl
settled_there false Update p step = refl
settled_there b Create p step = elim step [ ]
settled_there b Kill p step = elim step [ ]

written_there : (p : Phase) (op : Op) → IsWriteStep p op → was_there (written_phase op p) ≡ was_there p
written_there Wanted Create step = refl
written_there Live Update step = refl
written_there KillDue Kill step = refl
written_there p op step = elim step [ ]

pub hidden_there : (p : Phase) → is_up p ≡ true → was_there (hidden_phase p) ≡ was_there p
hidden_there Waiting h = refl
hidden_there Wanted h = refl
hidden_there Creating h = refl
hidden_there Leaving h = refl
hidden_there Live h = refl
hidden_there KillDue h = refl
hidden_there Killing h = refl
hidden_there Gone h = refl

pub slotted_there : (h s t c g k l : Bool) → was_there (table h s c g k l) ≡ was_there (table h t c g k l)
slotted_there h s t c g k l = grind arith

-- ---- packets

-- what is written changes nothing yet
pub wrote_there : (cs : List Choice) (log : List ScopeEvent) (n : ℕ) → CanBeWritten cs log → was_there (phase (wrote cs log) n) ≡ was_there (phase log n)
wrote_there [] log n can = refl
wrote_there (c ∷ cs) log n can = wrote_there cs (Wrote c.n c.op ∷ log) n can.1 ∙ elim (cases_eq c.n n) [
  | inl same ↦ subst (λ q. was_there (phase (Wrote c.n c.op ∷ log) q) ≡ was_there (phase log q)) same (ap was_there (write_phase log c.n c.op can.0) ∙ written_there (phase log c.n) c.op can.0)
  | inr other ↦ ap was_there (write_other log n c.n c.op (other_test c.n n other))
]

pub other_there : (n : ℕ) (c : Choice) (b : Bool) → eqb c.n n ≡ false → item_there n c b ≡ b
other_there n c b e = ap (λ t. cond t (run c.op b) b) e

-- a packet that is judged does what it did where it was processed
pub judged_there : (b : Bool) (cs : List Choice) (log : List ScopeEvent) (n : ℕ) → CanBeJudged (verdict_by b) cs log → KillsInOrder log → was_there (phase (settled_by (verdict_by b) cs log) n) ≡ cond b (packet_there n cs (was_there (phase log n))) (was_there (phase log n))
judged_there true [] log n can kills = refl
judged_there false [] log n can kills = refl
judged_there b (c ∷ cs) log n can kills =
    let next = settle_phase log c.n c.op (verdict_by b) can.0.step (ap is_some can.0.slot) kills in
    let now : was_there (phase (Settled c.n c.op (verdict_by b) ∷ log) n) ≡ cond b (item_there n c (was_there (phase log n))) (was_there (phase log n)) = elim (cases_eq c.n n) [
      | inl same ↦ subst (λ q. was_there (phase (Settled c.n c.op (verdict_by b) ∷ log) q) ≡ cond b (item_there q c (was_there (phase log q))) (was_there (phase log q))) same
          (ap was_there next ∙ settled_there b c.op (phase log c.n) can.0.step ∙ ap (λ t. cond b (cond t (run c.op (was_there (phase log c.n))) (was_there (phase log c.n))) (was_there (phase log c.n))) (sym (same_test c.n)))
      | inr other ↦ ap was_there (settle_other log n c.n c.op (verdict_by b) (other_test c.n n other))
          ∙ both b (was_there (phase log n)) ∙ ap (λ x. cond b x (was_there (phase log n))) (sym (other_there n c (was_there (phase log n)) (other_test c.n n other)))
    ] in
    judged_there b cs (Settled c.n c.op (verdict_by b) ∷ log) n can.1 (settle_legal log c.n c.op (verdict_by b) can.0.step kills) ∙ join b (was_there (phase (Settled c.n c.op (verdict_by b) ∷ log) n)) (was_there (phase log n)) now
  where
    both : (b x : Bool) → x ≡ cond b x x
    both true x = refl
    both false x = refl

    join : (b y x : Bool) → y ≡ cond b (item_there n c x) x → cond b (packet_there n cs y) y ≡ cond b (packet_there n (c ∷ cs) x) x
    join true y x e = ap (packet_there n cs) e
    join false y x e = e

-- ---- what is unjudged

unnamed_there : (n : ℕ) (cs : List Choice) (rest : List Op) (b : Bool) → nothing (ops_in n cs ++ rest) ≡ true → (packet_there n cs b ≡ b) × (nothing rest ≡ true)
unnamed_there n [] rest b h = (refl, h)
unnamed_there n (c ∷ cs) rest b h = go (eqb c.n n) refl h (λ k. unnamed_there n cs rest b k)
  where
    go : (t : Bool) → eqb c.n n ≡ t → nothing (cond t (c.op ∷ ops_in n cs) (ops_in n cs) ++ rest) ≡ true → (nothing (ops_in n cs ++ rest) ≡ true → (packet_there n cs b ≡ b) × (nothing rest ≡ true))
        → (packet_there n cs (item_there n c b) ≡ b) × (nothing rest ≡ true)
    go true e k next = absurd (cc)
    go false e k next = let r = next k in (ap (packet_there n cs) (other_there n c b e) ∙ r.0, r.1)

-- where nothing of the period is
pub nothing_there : (n : ℕ) (done : ℕ → Bool) (k : ℕ) (b : Bool) (ps : List (List Choice)) → nothing (ops_of n ps) ≡ true → after_done (packet_there n) done k b ps ≡ b
nothing_there n done k b [] h = refl
nothing_there n done k b (p ∷ ps) h =
    let r = unnamed_there n p (ops_of n ps) b h in
    ap (λ x. after_done (packet_there n) done (suc k) x ps) (either (done k) (packet_there n p b) b r.0) ∙ nothing_there n done (suc k) b ps r.1
  where
    either : (t x y : Bool) → x ≡ y → cond t x y ≡ y
    either true x y e = e
    either false x y e = refl

updates_in : (n : ℕ) (cs : List Choice) (rest : List Op) → is_shape Live (ops_in n cs ++ rest) ≡ true → (packet_there n cs true ≡ true) × (is_shape Live rest ≡ true)
updates_in n [] rest h = (refl, h)
updates_in n (c ∷ cs) rest h = go (eqb c.n n) refl c.op refl h (λ k. updates_in n cs rest k)
  where
    go : (t : Bool) → eqb c.n n ≡ t → (op : Op) → c.op ≡ op → is_shape Live (cond t (op ∷ ops_in n cs) (ops_in n cs) ++ rest) ≡ true → (is_shape Live (ops_in n cs ++ rest) ≡ true → (packet_there n cs true ≡ true) × (is_shape Live rest ≡ true))
        → (packet_there n cs (item_there n c true) ≡ true) × (is_shape Live rest ≡ true)
    go true e Update o k next = let r = next k in (ap (λ t. packet_there n cs (cond t (run c.op true) true)) e ∙ ap (λ op. packet_there n cs (run op true)) o ∙ r.0, r.1)
    go true e Kill o k next = absurd (cc)
    go true e Create o k next = absurd (cc)
    go false e op o k next = let r = next k in (ap (packet_there n cs) (other_there n c true e) ∙ r.0, r.1)

-- where updates alone are, a copy that was there is
pub updates_there : (n : ℕ) (done : ℕ → Bool) (k : ℕ) (ps : List (List Choice)) → is_shape Live (ops_of n ps) ≡ true → after_done (packet_there n) done k true ps ≡ true
updates_there n done k [] h = refl
updates_there n done k (p ∷ ps) h =
    let r = updates_in n p (ops_of n ps) h in
    ap (λ x. after_done (packet_there n) done (suc k) x ps) (either (done k) (packet_there n p true) r.0) ∙ updates_there n done (suc k) ps r.1
  where
    either : (t x : Bool) → x ≡ true → cond t x true ≡ true
    either true x e = e
    either false x e = refl

-- ---- what an item may find when it is sent

-- a create is sent for what isn't there, an update and a kill for what is
pub step_there : (n : ℕ) (done : ℕ → Bool) (k : ℕ) (ps : List (List Choice)) (p : Phase) (op : Op) → IsWriteStep p op → is_shape p (ops_of n ps) ≡ true → after_done (packet_there n) done k (was_there p) ps ≡ not (is_create op)
step_there n done k ps Wanted Create step h = nothing_there n done k false ps h
step_there n done k ps Live Update step h = updates_there n done k ps h
step_there n done k ps KillDue Kill step h = updates_there n done k ps h
step_there n done k ps p op step h = elim step [ ]

-- what is there isn't Gone
pub there_alive : (n : ℕ) (done : ℕ → Bool) (k : ℕ) (p : Phase) (ps : List (List Choice)) → is_shape p (ops_of n ps) ≡ true → after_done (packet_there n) done k (was_there p) ps ≡ true → is_gone p ≡ false
there_alive n done k Gone ps h t = let never : true ≡ false = sym t ∙ nothing_there n done k false ps h in absurd (cc)
there_alive n done k p ps h t = refl

-- and doesn't wait for a slot
pub there_slotted : (n : ℕ) (done : ℕ → Bool) (k : ℕ) (p : Phase) (ps : List (List Choice)) → is_shape p (ops_of n ps) ≡ true → after_done (packet_there n) done k (was_there p) ps ≡ true → is_waiting p ≡ false
there_slotted n done k Waiting ps h t = let never : true ≡ false = sym t ∙ nothing_there n done k false ps h in absurd (cc)
there_slotted n done k p ps h t = refl
