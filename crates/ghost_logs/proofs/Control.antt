-- A packet names a control slot only where the client has a copy in it when the packet comes.
use Rattle.std.proofs.Common.{◌≡◌, ℕ, suc, ◌≤◌, Bool, true, false, cond, List, [], ◌∷◌, ◌∙◌, length, length-append, take, Some, None, Option, refl, sym, ap, subst, inl, inr, arith}
use Rattle.std.specs.List.{find}
use Rattle.std.specs.Option.{option_and_then}
use Rattle.std.proofs.Math.Seq.{take-append_seam}
use Rattle.std.proofs.lemmas.List.{take-append-le}
use Rattle.std.proofs.lemmas.Bool.{and_parts}
use Rattle.wire_format.specs.declared.server.ServerBody.{ServerBody}
use Rattle.ghost_model.specs.Words.{upto}
use Rattle.ghost_model.specs.declared.phase.Phase.{Phase}
use Rattle.ghost_model.specs.declared.phase.Phase.TheVariants.{Live}
use Rattle.ghost_model.specs.Phases.{is_live}
use Rattle.ghost_model.specs.Scope.{shows, traits, given, is_in_control, control_slot}
use Rattle.ghost_model.specs.Scope as scope
use Rattle.ghost_model.specs.Ghosts.{scope_log, phase, verdicts, unjudged}
use Rattle.ghost_model.specs.Legal.{IsLegal}
use Rattle.ghost_model.proofs.Shape.{is_shape}
use Rattle.ghost_model.proofs.Kept.{ops_of}
use Rattle.ghost_model.proofs.Legal.{sound, held_given}
use Rattle.stream_manager.specs.ghost_masks.Plan.{sizes}
use Rattle.ghost_pair.specs.Copies.{Copy, taken, after_done, copies_of}
use Rattle.ghost_pair.proofs.There.{was_there, packet_there, updates_there}
use Rattle.ghost_pair.proofs.Joined.{is_there, joined}
use Rattle.stream_manager.specs.Limits.{Terms}
use Rattle.stream_manager.specs.Server as server
use Rattle.stream_manager.specs.Server.{ServerEvent, Show, Hide, Near, Absorb, ghost_log, planned}
use Rattle.ghost_logs.specs.Sent.{items_of, sent_items, WasPacked}
use Rattle.ghost_logs.specs.Ends.{IsMade}
use Rattle.ghost_logs.proofs.Said.{AreTold, packets-are, sent-count, verdicts-said, told-before}
use Rattle.ghost_logs.proofs.Kept.{legal-before}

find-true : (test : ℕ → Bool) (xs : List ℕ) (n : ℕ) → find test xs ≡ Some n → test n ≡ true
find-true test [] n h = absurd (cc)
find-true test (x ∷ xs) n h = go (test x) refl h (find-true test xs n)
  where
    go : (b : Bool) → test x ≡ b → cond b (Some x) (find test xs) ≡ Some n → (find test xs ≡ Some n → test n ≡ true) → test n ≡ true
    go true e k next = let same : x ≡ n = cc in ap test (sym same) ∙ e
    go false e k next = next k

live-is : (p : Phase) → is_live p ≡ true → p ≡ Live
live-is Live h = refl
live-is p h = absurd (cc)

abbrev HasCopy : (ℕ → Option Copy) → ℕ → Type 0
HasCopy copies slot = (x : Copy) × (copies slot ≡ Some x)

-- when the packet is made
control-there : (t : Terms) (done : ℕ → Bool) (log : List ServerEvent) → IsLegal (sizes t.kinds) (ghost_log log) → AreTold done log → (slot : ℕ) → control_slot (scope_log (ghost_log log)) ≡ Some slot → HasCopy (copies_of done (sent_items log)) slot
control-there t done log legal told slot h = go (find (is_in_control (scope_log (ghost_log log))) (upto (shows (scope_log (ghost_log log))))) refl h
  where
    go : (o : Option ℕ) → find (is_in_control (scope_log (ghost_log log))) (upto (shows (scope_log (ghost_log log)))) ≡ o → option_and_then (scope.slot (scope_log (ghost_log log))) o ≡ Some slot → HasCopy (copies_of done (sent_items log)) slot
    go None e k = absurd (cc)
    go (Some n) e k =
        let controls = find-true (is_in_control (scope_log (ghost_log log))) (upto (shows (scope_log (ghost_log log)))) n e in
        let live : phase (ghost_log log) n ≡ Live = live-is (phase (ghost_log log) n) (and_parts (traits (scope_log (ghost_log log)) n).control (is_live (phase (ghost_log log) n)) controls).1 in
        let there : is_there (ghost_log log) done n ≡ true =
        ap (λ p. after_done (packet_there n) done (suc (verdicts (ghost_log log))) (was_there p) (unjudged (ghost_log log))) live
        ∙ updates_there n done (suc (verdicts (ghost_log log))) (unjudged (ghost_log log)) (ap (λ p. is_shape p (ops_of n (unjudged (ghost_log log)))) (sym live) ∙ (sound (sizes t.kinds) (ghost_log log) legal).shape n) in
        let its = (joined (sizes t.kinds) done (ghost_log log) (sent_items log) (packets-are log) legal (verdicts-said done log told)).agree.has slot n (held_given (phase (ghost_log log) n) (given (scope_log (ghost_log log)) n) slot k) there in
        (its.0, its.1)

-- when it comes, by the packets before it that were processed
pub record IsControlled (done : ℕ → Bool) (s : List ServerEvent) (p : ServerBody) : Type 0 where
  pub index : ℕ
  pub number : p.head.seq ≡ suc index
  pub within : index ≤ length (sent_items s)
  pub there : (slot : ℕ) → p.control ≡ Some slot → HasCopy (after_done taken done 1 (λ slot. None) (take index (sent_items s))) slot

pub controlled : (t : Terms) (done : ℕ → Bool) (s : List ServerEvent) → IsLegal (sizes t.kinds) (ghost_log s) → IsMade t s → AreTold done s → (p : ServerBody) → WasPacked p s → IsControlled done s p
controlled t done [] legal made told p at = absurd at
controlled t done (server.Posted class payload ∷ s) legal made told p at = let k = controlled t done s legal made told p at in record { index = k.index; number = k.number; within = k.within; there = k.there }
controlled t done (server.Scoped (Show k b l c) ∷ s) legal made told p at = let r = controlled t done s legal.1 made told p at in record { index = r.index; number = r.number; within = r.within; there = r.there }
controlled t done (server.Scoped (Hide n) ∷ s) legal made told p at = let r = controlled t done s legal.1 made told p at in record { index = r.index; number = r.number; within = r.within; there = r.there }
controlled t done (server.Scoped (Near n l) ∷ s) legal made told p at = let r = controlled t done s legal.1 made told p at in record { index = r.index; number = r.number; within = r.within; there = r.there }
controlled t done (server.Scoped (Absorb n b) ∷ s) legal made told p at = let r = controlled t done s legal.1 made told p at in record { index = r.index; number = r.number; within = r.within; there = r.there }
controlled t done (server.Planned cs ∷ s) legal made told p at = let r = controlled t done s legal.1 made.1 told p at in record { index = r.index; number = r.number; within = r.within; there = r.there }
controlled t done (server.Pinged head ∷ s) legal made told p at = let r = controlled t done s legal made told p at in record { index = r.index; number = r.number; within = r.within; there = r.there }
controlled t done (server.Took q room ∷ s) legal made told p at =
    let r = controlled t done s (legal-before t.kinds s q room legal) made (told-before done s q room told) p at in record { index = r.index; number = r.number; within = r.within; there = r.there }
controlled t done (server.Packed q ∷ s) legal made told p (inr at) =
    let r = controlled t done s legal.1 made.1 told p at in
    record {
      index = r.index;
      number = r.number;
      within = omega (arith, r.within, length-append (sent_items s) (items_of (planned s) q.ghosts ∷ []));
      there = λ slot e. subst (λ l. HasCopy (after_done taken done 1 (λ slot. None) l) slot) (sym (take-append-le r.index (sent_items s) (items_of (planned s) q.ghosts ∷ []) r.within)) (r.there slot e);
    }
controlled t done (server.Packed q ∷ s) legal made told p (inl e) = record {
  index = length (sent_items s);
  number = omega (arith, ap (λ (b : ServerBody). b.head.seq) e, ap (λ (b : ServerBody). b.head.seq) made.0.value, sent-count s);
  within = omega (arith, length-append (sent_items s) (items_of (planned s) q.ghosts ∷ []));
  there = λ slot k. subst (λ l. HasCopy (after_done taken done 1 (λ slot. None) l) slot) (sym (take-append_seam (sent_items s) (items_of (planned s) q.ghosts ∷ [])))
      (control-there t done s legal.1 told slot (sym (ap (λ (b : ServerBody). b.control) made.0.value) ∙ sym (ap (λ (b : ServerBody). b.control) e) ∙ k));
}
