-- A period keeps its kind and its block, and a packet that was sent keeps its items, whatever happens later.
use Rattle.std.proofs.Common.{◌≡◌, ℕ, zero, suc, ◌+◌, ◌-◌, ◌<◌, Bool, true, false, cond, List, [], ◌∷◌, ◌++◌, ◌∙◌, length, Some, None, refl, sym, ap, subst, inl, inr, arith, eqb}
use Rattle.std.specs.Prelude.{All, slice_get}
use Rattle.std.specs.List.{AllByRecursion}
use Rattle.std.proofs.lemmas.Bool.{cases_lt}
use Rattle.std.proofs.lemmas.List.Elements.{All-weaker, recursion_from_All}
use Rattle.tn_types.specs.declared.choices.Op.{Op}
use Rattle.tn_types.specs.declared.choices.Op.TheVariants as op
use Rattle.tn_types.specs.declared.choices.Choice.{Choice}
use Rattle.notify_window.specs.Log.{Fate}
use Rattle.wire_format.specs.declared.ghosts.GhostItem.{GhostItem}
use Rattle.wire_format.specs.declared.ghosts.GhostItem.TheVariants.{Kill, Create, Update}
use Rattle.wire_format.specs.declared.client.ClientPacket.{ClientPacket}
use Rattle.wire_format.specs.declared.server.ServerBody.{ServerBody}
use Rattle.quantised_fields.specs.declared.kind.Kind.{Kind}
use Rattle.ghost_model.specs.Scope.{Traits, shows, traits, given}
use Rattle.ghost_model.specs.Ghosts as ghosts
use Rattle.ghost_model.specs.Ghosts.{GhostEvent, scope_log, oldest, unjudged}
use Rattle.ghost_model.specs.Legal.{IsLegal, IsSendable, IsItsMask}
use Rattle.ghost_model.proofs.Steps.{other_test}
use Rattle.ghost_model.proofs.Written.{wrote_shows, wrote_traits, settled_shows, settled_traits}
use Rattle.ghost_model.proofs.Granted.{given_none}
use Rattle.ghost_model.proofs.Legal.{held_given}
use Rattle.stream_manager.specs.ghost_masks.Plan.{sizes, fields_of}
use Rattle.stream_manager.specs.ghost_masks.Carried.{ghosts_for}
use Rattle.ghost_pair.specs.Copies.{Item}
use Rattle.stream_manager.specs.Limits.{Terms}
use Rattle.stream_manager.specs.Settling.{judgements, verdict_of}
use Rattle.stream_manager.specs.End.{fates, judged_at}
use Rattle.stream_manager.specs.Server as server
use Rattle.stream_manager.specs.Server.{ServerEvent, ScopeChange, Show, Hide, Near, Absorb, scope_event, server_end, ghost_log, planned}
use Rattle.ghost_logs.specs.Sent.{items_of, sent_items, WasPacked}
use Rattle.ghost_logs.specs.Ends.{IsMade, IsMadePacket}
use Rattle.ghost_logs.proofs.Said.{sent-count}
use Rattle.ghost_logs.proofs.Alike.{Spells, AreSpelled}
use Rattle.ghost_logs.proofs.Spelled.{spelled}

-- ---- periods

-- what was shown is still, with its kind and its block
pub record IsKept (old new : List GhostEvent) (n : ℕ) : Type 0 where
  pub shown : n < shows (scope_log new)
  pub kind : (traits (scope_log new) n).kind ≡ (traits (scope_log old) n).kind
  pub block : (traits (scope_log new) n).block ≡ (traits (scope_log old) n).block

abbrev pub AreKept : List GhostEvent → List GhostEvent → Type 0
AreKept old new = (n : ℕ) → n < shows (scope_log old) → IsKept old new n

pub same-kept : (g : List GhostEvent) → AreKept g g
same-kept g n lt = record { shown = lt; kind = refl; block = refl }

pub kept-then : (a b c : List GhostEvent) → AreKept a b → AreKept b c → AreKept a c
kept-then a b c x y n lt =
    let p = x n lt in
    let q = y n p.shown in
    record { shown = q.shown; kind = q.kind ∙ p.kind; block = q.block ∙ p.block }

pub scope-kept : (change : ScopeChange) (g : List GhostEvent) → AreKept g (scope_event change ∷ g)
scope-kept (Show kind block level control) g n lt =
    let other : eqb n (shows (scope_log g)) ≡ false = other_test n (shows (scope_log g)) (λ same. omega (arith, same)) in
    let new : Traits = record { kind = kind; block = block; level = level; control = control } in
    record {
      shown = omega arith;
      kind = ap (λ (b : Bool). (cond b new (traits (scope_log g) n)).kind) other;
      block = ap (λ (b : Bool). (cond b new (traits (scope_log g) n)).block) other;
    }
scope-kept (Hide m) g n lt = record { shown = lt; kind = refl; block = refl }
scope-kept (Absorb m bits) g n lt = record { shown = lt; kind = refl; block = refl }
scope-kept (Near m level) g n lt = record { shown = lt; kind = (go (eqb m n)).0; block = (go (eqb m n)).1 }
  where
    go : (b : Bool) → ((cond b (record (traits (scope_log g) n) { level = level }) (traits (scope_log g) n)).kind ≡ (traits (scope_log g) n).kind) × ((cond b (record (traits (scope_log g) n) { level = level }) (traits (scope_log g) n)).block ≡ (traits (scope_log g) n).block)
    go true = (refl, refl)
    go false = (refl, refl)

judged-kept : (fate : ℕ → Fate) (first count : ℕ) (g : List GhostEvent) → AreKept g (judgements fate first count g)
judged-kept fate first zero g = same-kept g
judged-kept fate first (suc count) g = kept-then g (judgements fate first count g) (judgements fate first (suc count) g) (judged-kept fate first count g) one
  where
    told : List GhostEvent
    told = judgements fate first count g

    one : AreKept (judgements fate first count g) (judgements fate first (suc count) g)
    one n lt =
        let v = verdict_of (fate (first + count)) in
        let g' = judgements fate first count g in
        record {
          shown = omega (arith, settled_shows v (oldest (unjudged g')) (scope_log g'));
          kind = ap (λ (t : Traits). t.kind) (settled_traits v (oldest (unjudged g')) (scope_log g') n);
          block = ap (λ (t : Traits). t.block) (settled_traits v (oldest (unjudged g')) (scope_log g') n);
        }

pub sent-kept : (cs : List Choice) (g : List GhostEvent) → AreKept g (ghosts.Sent cs ∷ g)
sent-kept cs g n lt = record {
  shown = omega (arith, wrote_shows cs (scope_log g));
  kind = ap (λ (t : Traits). t.kind) (wrote_traits cs (scope_log g) n);
  block = ap (λ (t : Traits). t.block) (wrote_traits cs (scope_log g) n);
}

pub took-kept : (log : List ServerEvent) (p : ClientPacket) (room : ℕ) → AreKept (ghost_log log) (ghost_log (server.Took p room ∷ log))
took-kept log p room = judged-kept (fates (server_end (server.Took p room ∷ log))) (judged_at (server_end log) + 1) (judged_at (server_end (server.Took p room ∷ log)) - judged_at (server_end log)) (ghost_log log)

-- ---- packets

-- where a data packet stands among those that were sent, and what it spells
pub record WasSent (kinds : List Kind) (s : List ServerEvent) (p : ServerBody) : Type 0 where
  pub index : ℕ
  pub number : p.head.seq ≡ suc index
  pub items : List Item
  pub at : slice_get (sent_items s) index ≡ Some items
  pub spelled : AreSpelled (traits (scope_log (ghost_log s))) (λ k. length (fields_of kinds k)) items p.ghosts
  pub shown : AllByRecursion (λ (i : Item). i.choice.n < shows (scope_log (ghost_log s))) items

one-kept : (width : ℕ → ℕ) (old new : List GhostEvent) (i : Item) (o : Op) (x : GhostItem) → IsKept old new i.choice.n → Spells (traits (scope_log old)) width o i x → Spells (traits (scope_log new)) width o i x
one-kept width old new i op.Kill (Kill slot) k sp = sp
one-kept width old new i op.Create (Create slot kind block levels) k sp = (sp.0, sp.1 ∙ sym k.kind, sp.2 ∙ sym k.block, sp.3, sp.4)
one-kept width old new i op.Update (Update slot kind mask levels) k sp = (sp.0, sp.1 ∙ sym k.kind, sp.2, sp.3)
one-kept width old new i o x k sp = absurd sp

spelled-kept : (width : ℕ → ℕ) (old new : List GhostEvent) → AreKept old new → (items : List Item) (xs : List GhostItem) → AllByRecursion (λ (i : Item). i.choice.n < shows (scope_log old)) items
    → AreSpelled (traits (scope_log old)) width items xs → AreSpelled (traits (scope_log new)) width items xs
spelled-kept width old new kept [] [] shown sp = tt
spelled-kept width old new kept [] (x ∷ xs) shown sp = absurd sp
spelled-kept width old new kept (i ∷ items) [] shown sp = absurd sp
spelled-kept width old new kept (i ∷ items) (x ∷ xs) shown sp = (one-kept width old new i i.choice.op x (kept i.choice.n shown.0) sp.0, spelled-kept width old new kept items xs shown.1 sp.1)

shown-kept : (old new : List GhostEvent) → AreKept old new → (items : List Item) → AllByRecursion (λ (i : Item). i.choice.n < shows (scope_log old)) items → AllByRecursion (λ (i : Item). i.choice.n < shows (scope_log new)) items
shown-kept old new kept [] shown = tt
shown-kept old new kept (i ∷ items) shown = ((kept i.choice.n shown.0).shown, shown-kept old new kept items shown.1)

get-push : {X : Type 0} (xs : List X) (y : X) (i : ℕ) (z : X) → slice_get xs i ≡ Some z → slice_get (xs ++ y ∷ []) i ≡ Some z
get-push [] y zero z h = absurd (cc)
get-push [] y (suc i) z h = absurd (cc)
get-push (x ∷ xs) y zero z h = h
get-push (x ∷ xs) y (suc i) z h = get-push xs y i z h

get-last : {X : Type 0} (xs : List X) (y : X) → slice_get (xs ++ y ∷ []) (length xs) ≡ Some y
get-last [] y = refl
get-last (x ∷ xs) y = get-last xs y

later-sent : (kinds : List Kind) (s new : List ServerEvent) (p : ServerBody) → AreKept (ghost_log s) (ghost_log new) → ((i : ℕ) (z : List Item) → slice_get (sent_items s) i ≡ Some z → slice_get (sent_items new) i ≡ Some z) → WasSent kinds s p → WasSent kinds new p
later-sent kinds s new p kept more w = record {
  index = w.index;
  number = w.number;
  items = w.items;
  at = more w.index w.items w.at;
  spelled = spelled-kept (λ k. length (fields_of kinds k)) (ghost_log s) (ghost_log new) kept w.items p.ghosts w.shown w.spelled;
  shown = shown-kept (ghost_log s) (ghost_log new) kept w.items w.shown;
}

-- ---- the packet that is sent

choice-shown : (g : List GhostEvent) (kinds : List Kind) (c : Choice) → IsSendable (sizes kinds) g c → c.n < shows (scope_log g)
choice-shown g kinds c can = elim (cases_lt c.n (shows (scope_log g))) [
  | inl lt ↦ lt
  | inr ge ↦ (let never : None ≡ Some c.slot = sym (given_none (scope_log g) c.n ge) ∙ held_given (ghosts.phase g c.n) (given (scope_log g) c.n) c.slot can.holds in absurd (cc))
]

pub choices-shown : (g : List GhostEvent) (kinds : List Kind) (cs : List Choice) → All (IsSendable (sizes kinds) g) cs → AllByRecursion (λ (c : Choice). c.n < shows (scope_log g)) cs
choices-shown g kinds cs all = recursion_from_All (λ (c : Choice). c.n < shows (scope_log g)) cs (All-weaker (IsSendable (sizes kinds) g) (λ (c : Choice). c.n < shows (scope_log g)) (λ c can. choice-shown g kinds c can) cs all)

items-shown : (P : ℕ → Type 0) (cs : List Choice) (xs : List GhostItem) → AllByRecursion (λ (c : Choice). P c.n) cs → AllByRecursion (λ (i : Item). P i.choice.n) (items_of cs xs)
items-shown P [] xs all = tt
items-shown P (c ∷ cs) [] all = (all.0, items-shown P cs [] all.1)
items-shown P (c ∷ cs) (x ∷ xs) all = (all.0, items-shown P cs xs all.1)

packed-sent : (t : Terms) (log : List ServerEvent) (p : ServerBody) → IsLegal (sizes t.kinds) (ghost_log (server.Packed p ∷ log)) → IsMadePacket t log p → WasSent t.kinds (server.Packed p ∷ log) p
packed-sent t log p legal made =
    let g = ghost_log log in
    let cs = planned log in
    let width : ℕ → ℕ = λ k. length (fields_of t.kinds k) in
    let ghosts-are : p.ghosts ≡ ghosts_for t.kinds (ghost_log log) (planned log) made.values = ap (λ (b : ServerBody). b.ghosts) made.value in
    let masks : AllByRecursion (λ (c : Choice). IsItsMask (sizes t.kinds) (ghost_log log) c.n c.mask c.op) (planned log) =
    recursion_from_All (λ (c : Choice). IsItsMask (sizes t.kinds) (ghost_log log) c.n c.mask c.op) (planned log)
    (All-weaker (IsSendable (sizes t.kinds) (ghost_log log)) (λ (c : Choice). IsItsMask (sizes t.kinds) (ghost_log log) c.n c.mask c.op) (λ c can. can.carried) (planned log) legal.0.0) in
    let shown = choices-shown (ghost_log log) t.kinds (planned log) legal.0.0 in
    let here : AllByRecursion (λ (i : Item). i.choice.n < shows (scope_log (ghost_log log))) (items_of (planned log) p.ghosts) = items-shown (λ n. n < shows (scope_log (ghost_log log))) (planned log) p.ghosts shown in
    let spells : AreSpelled (traits (scope_log (ghost_log log))) (λ k. length (fields_of t.kinds k)) (items_of (planned log) p.ghosts) p.ghosts =
    subst (λ (xs : List GhostItem). AreSpelled (traits (scope_log (ghost_log log))) (λ k. length (fields_of t.kinds k)) (items_of (planned log) xs) xs) (sym ghosts-are) (spelled t.kinds (ghost_log log) (planned log) made.values masks made.fit) in
    record {
      index = length (sent_items log);
      number = omega (arith, ap (λ (b : ServerBody). b.head.seq) made.value, sent-count log);
      items = items_of (planned log) p.ghosts;
      at = get-last (sent_items log) (items_of (planned log) p.ghosts);
      spelled = spelled-kept (λ k. length (fields_of t.kinds k)) (ghost_log log) (ghost_log (server.Packed p ∷ log)) (sent-kept (planned log) (ghost_log log)) (items_of (planned log) p.ghosts) p.ghosts here spells;
      shown = shown-kept (ghost_log log) (ghost_log (server.Packed p ∷ log)) (sent-kept (planned log) (ghost_log log)) (items_of (planned log) p.ghosts) here;
    }

-- ---- the legal log before

pub legal-before : (kinds : List Kind) (log : List ServerEvent) (p : ClientPacket) (room : ℕ) → IsLegal (sizes kinds) (ghost_log (server.Took p room ∷ log)) → IsLegal (sizes kinds) (ghost_log log)
legal-before kinds log p room legal = go (judged_at (server_end (server.Took p room ∷ log)) - judged_at (server_end log)) legal
  where
    go : (count : ℕ) → IsLegal (sizes kinds) (judgements (fates (server_end (server.Took p room ∷ log))) (judged_at (server_end log) + 1) count (ghost_log log)) → IsLegal (sizes kinds) (ghost_log log)
    go zero h = h
    go (suc count) h = go count h.1

pub was-sent : (t : Terms) (s : List ServerEvent) → IsLegal (sizes t.kinds) (ghost_log s) → IsMade t s → (p : ServerBody) → WasPacked p s → WasSent t.kinds s p
was-sent t [] legal made p at = absurd at
was-sent t (server.Posted class payload ∷ s) legal made p at = later-sent t.kinds s (server.Posted class payload ∷ s) p (same-kept (ghost_log s)) (λ i z h. h) (was-sent t s legal made p at)
was-sent t (server.Scoped (Show k b l c) ∷ s) legal made p at = later-sent t.kinds s (server.Scoped (Show k b l c) ∷ s) p (scope-kept (Show k b l c) (ghost_log s)) (λ i z h. h) (was-sent t s legal.1 made p at)
was-sent t (server.Scoped (Hide n) ∷ s) legal made p at = later-sent t.kinds s (server.Scoped (Hide n) ∷ s) p (scope-kept (Hide n) (ghost_log s)) (λ i z h. h) (was-sent t s legal.1 made p at)
was-sent t (server.Scoped (Near n l) ∷ s) legal made p at = later-sent t.kinds s (server.Scoped (Near n l) ∷ s) p (scope-kept (Near n l) (ghost_log s)) (λ i z h. h) (was-sent t s legal.1 made p at)
was-sent t (server.Scoped (Absorb n b) ∷ s) legal made p at = later-sent t.kinds s (server.Scoped (Absorb n b) ∷ s) p (scope-kept (Absorb n b) (ghost_log s)) (λ i z h. h) (was-sent t s legal.1 made p at)
was-sent t (server.Planned cs ∷ s) legal made p at = later-sent t.kinds s (server.Planned cs ∷ s) p (λ n lt. record { shown = lt; kind = refl; block = refl }) (λ i z h. h) (was-sent t s legal.1 made.1 p at)
was-sent t (server.Pinged head ∷ s) legal made p at = later-sent t.kinds s (server.Pinged head ∷ s) p (same-kept (ghost_log s)) (λ i z h. h) (was-sent t s legal made p at)
was-sent t (server.Took q room ∷ s) legal made p at = later-sent t.kinds s (server.Took q room ∷ s) p (took-kept s q room) (λ i z h. h) (was-sent t s (legal-before t.kinds s q room legal) made p at)
was-sent t (server.Packed q ∷ s) legal made p (inr at) = later-sent t.kinds s (server.Packed q ∷ s) p (sent-kept (planned s) (ghost_log s)) (λ i z h. get-push (sent_items s) (items_of (planned s) q.ghosts) i z h) (was-sent t s legal.1 made.1 p at)
was-sent t (server.Packed q ∷ s) legal made p (inl e) = subst (λ r. WasSent t.kinds (server.Packed q ∷ s) r) (sym e) (packed-sent t s q legal made.0)
