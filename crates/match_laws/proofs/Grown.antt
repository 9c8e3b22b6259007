-- With each line an own list grows by one item, which the line makes, or stays.
use Rattle.std.proofs.Common.{◌≡◌, ℕ, ◌==◌, Bool, true, false, cond, List, ◌∷◌, refl, subst}
use Rattle.std.proofs.lemmas.Bool.{eqb-true}
use Rattle.match_script.specs.declared.types.BodyLine.{BodyLine}
use Rattle.match_script.specs.declared.types.BodyLine.TheVariants as script
use Rattle.match_script.specs.declared.types.Head.{Head}
use Rattle.world_scope.specs.Scope.{visible_list}
use Rattle.client_scope.specs.Scans.{shown}
use Rattle.world_sim.specs.Worlds.{next}
use Rattle.client_seat.specs.own_lists.Own.{OwnItem, Line, Tick}
use Rattle.client_seat.specs.own_lists.Kept.{put}
use Rattle.client_seat.specs.own_lists.Past.{Past, happens, scan_item, own_writes, taken_from, moves_of}

-- a line stands as it is in the item that it makes
abbrev pub IsMadeBy : BodyLine → OwnItem → Type 0
IsMadeBy line (Line own) = own ≡ line
IsMadeBy line item = Unit {0}

-- a relation of the list before and the list after
abbrev pub Step : Type 1
Step = List OwnItem → List OwnItem → Type 0

pub put_own : (R : Step) (own : ℕ → List OwnItem) (item : OwnItem) (c d : ℕ) → R (own c) (item ∷ own c) → R (own c) (own c)
    → R (own c) (put own d (item ∷ own d) c)
put_own R own item c d more same = go (c == d) refl
  where
    go : (b : Bool) → (c == d) ≡ b → R (own c) (cond b (item ∷ own d) (own c))
    go true e = subst (λ m. R (own c) (item ∷ own m)) (eqb-true c d e) more
    go false e = same

module _ (R : Step) (same : (items : List OwnItem) → R items items) (head : Head) (p : Past) (c : ℕ) where
  pub grows : (line : BodyLine) → ((item : OwnItem) → IsMadeBy line item → R (p.own c) (item ∷ p.own c))
      → R (p.own c) ((happens head line p).own c)
  grows script.Tick more = more (Tick (own_writes (next p.world (moves_of head p)) (shown (p.scans c))) (taken_from head p c)) tt
  grows (script.Scan d) more =
      let item = scan_item p.world d (visible_list p.world d ∷ p.scans d) in put_own R p.own item c d (more item tt) (same (p.own c))
  grows script.World more = same (p.own c)
  grows line more = put_own R p.own (Line line) c _ (more (Line line) refl) (same (p.own c))
