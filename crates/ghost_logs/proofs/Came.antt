-- The client's copies are those of the packets that it processed.
use Rattle.std.proofs.Common.{◌≡◌, ◌≢◌, ℕ, suc, ◌+◌, ◌<◌, ◌≤◌, max, None, Bool, true, false, ◌==◌, List, [], ◌∷◌, ◌∙◌, take, length, Option, refl, sym, ap, subst, inr, arith}
use Rattle.std.proofs.lemmas.Bool.Decides.{nat_tests}
use Rattle.std.proofs.lemmas.List.{take_all}
use Rattle.notify_window.specs.Log.{WindowEvent, Came, is_processed, arrival_of}
use Rattle.notify_window.specs.declared.Arrival.TheVariants.{Fresh}
use Rattle.notify_window.proofs.Horizons.{processed-above, processed-fresh, is_fresh}
use Rattle.wire_format.specs.declared.header.Header.{Header}
use Rattle.wire_format.specs.declared.server.ServerBody.{ServerBody}
use Rattle.wire_format.specs.declared.server.ServerPacket.TheVariants as down
use Rattle.ghost_model.specs.Scope.{traits}
use Rattle.ghost_model.specs.Ghosts.{scope_log}
use Rattle.ghost_model.specs.Legal.{IsLegal}
use Rattle.stream_manager.specs.ghost_masks.Plan.{sizes, fields_of}
use Rattle.ghost_pair.specs.Copies.{Item, Copy, taken, after_done, copies_of}
use Rattle.ghost_pair.proofs.Walk.{done_take, done_next}
use Rattle.ghost_pair.proofs.Client.{FindsEach}
use Rattle.ghost_pair.proofs.Joined.{AreSaid, Joined, joined, found_at}
use Rattle.stream_manager.specs.Limits.{Terms}
use Rattle.stream_manager.specs.End.{window_log}
use Rattle.stream_manager.specs.Server.{ServerEvent, ghost_log}
use Rattle.stream_manager.specs.Client as client
use Rattle.stream_manager.specs.Client.{ClientEvent, client_end, ghosts_came}
use Rattle.ghost_logs.specs.Sent.{sent_items, horizon_at, processed_at}
use Rattle.ghost_logs.specs.Ends.{CameFrom, AreJoined}
use Rattle.ghost_logs.proofs.Said.{packets-are, verdicts-said}
use Rattle.ghost_logs.proofs.Alike.{AreAlike, alike}
use Rattle.ghost_logs.proofs.Kept.{WasSent, was-sent}

-- one more packet came
module _ (ping : Bool) (seq : ℕ) (log : List WindowEvent) where
  other-processed : (n : ℕ) → n ≢ seq → is_processed n (Came ping seq ∷ log) ≡ is_processed n log
  other-processed n other = go ping (let t : (seq == n) ≡ false = grind (arith, nat_tests) in t)
    where
      go : (ping : Bool) → (seq == n) ≡ false → is_processed n (Came ping seq ∷ log) ≡ is_processed n log
      go true e = refl
      go false e = rw e refl

module _ (t : Terms) (s : List ServerEvent) (c : List ClientEvent) (legal : IsLegal (sizes t.kinds) (ghost_log s)) (j : AreJoined t s c) where
  abbrev Sent : List (List Item)
  Sent = sent_items s

  abbrev Done : ℕ → Bool
  Done = processed_at c

  pub said : AreSaid Done (ghost_log s)
  said = verdicts-said Done s j.judged

  pub all-joined : Joined (ghost_log s) Sent Done
  all-joined = joined (sizes t.kinds) Done (ghost_log s) Sent (packets-are s) legal said

  -- the copies after the packets up to a number
  abbrev Up : ℕ → ℕ → Option Copy
  Up h = after_done taken Done 1 (λ slot. None) (take h Sent)

  abbrev IsReal : List ClientEvent → Type 0
  IsReal log = AreAlike (traits (scope_log (ghost_log s))) (λ k. length (fields_of t.kinds k)) (ghosts_came log) (Up (horizon_at log))

  abbrev IsSame : List ClientEvent → Type 0
  IsSame log = (n : ℕ) → n ≤ horizon_at log → Done n ≡ processed_at log n

  -- nothing between an old horizon and a number was processed
  between : (log : List ClientEvent) (h : ℕ) → horizon_at log ≤ h → ((n : ℕ) → horizon_at log < n → n ≤ h → Done n ≡ false) → Up h ≡ Up (horizon_at log)
  between log h le none = done_take taken Done 1 (λ slot. None) Sent (horizon_at log) h le (λ n a b. none n (omega arith) (omega arith))

  module _ (log : List ClientEvent) (p : ServerBody) (above : horizon_at log < p.head.seq) (w : WasSent t.kinds s p) (same : IsSame (client.Took (down.Body p) ∷ log)) (old : IsReal log) where
    now : Done p.head.seq ≡ true
    now = same p.head.seq (omega arith) ∙ (let e : (p.head.seq == p.head.seq) ≡ true = grind (arith, nat_tests) in rw e refl)

    idle : (n : ℕ) → horizon_at log < n → n ≤ w.index → Done n ≡ false
    idle n a b = same n (omega (arith, w.number)) ∙ other-processed false p.head.seq (window_log (client_end log)) n (omega (arith, w.number)) ∙ processed-above n (window_log (client_end log)) a

    before : Up w.index ≡ Up (horizon_at log)
    before = between log w.index (omega (arith, w.number)) idle

    after : Up (suc w.index) ≡ taken w.items (Up w.index)
    after = done_next taken Done 1 (λ slot. None) Sent w.index w.items w.at (ap Done (let e : 1 + w.index ≡ p.head.seq = omega (arith, w.number) in e) ∙ now)

    finds : FindsEach w.items (Up w.index)
    finds = (found_at Done 1 (λ slot. None) Sent w.index w.items all-joined.found w.at).0

    body-real : IsReal (client.Took (down.Body p) ∷ log)
    body-real =
        let top : suc w.index ≡ horizon_at (client.Took (down.Body p) ∷ log) = omega (arith, w.number) in
        subst (λ h. AreAlike (traits (scope_log (ghost_log s))) (λ k. length (fields_of t.kinds k)) (ghosts_came (client.Took (down.Body p) ∷ log)) (Up h)) top
        (subst (AreAlike (traits (scope_log (ghost_log s))) (λ k. length (fields_of t.kinds k)) (ghosts_came (client.Took (down.Body p) ∷ log))) (sym after)
        (alike (traits (scope_log (ghost_log s))) (λ k. length (fields_of t.kinds k)) w.items p.ghosts (ghosts_came log) (Up w.index) w.spelled finds
        (subst (AreAlike (traits (scope_log (ghost_log s))) (λ k. length (fields_of t.kinds k)) (ghosts_came log)) (sym before) old)))

  ping-real : (log : List ClientEvent) (head : Header) → IsSame (client.Took (down.Ping head) ∷ log) → IsReal log → IsReal (client.Took (down.Ping head) ∷ log)
  ping-real log head same old =
      subst (AreAlike (traits (scope_log (ghost_log s))) (λ k. length (fields_of t.kinds k)) (ghosts_came log))
      (sym (between log (max (horizon_at log) head.seq) (omega arith) (λ n a b. same n b ∙ processed-above n (window_log (client_end log)) a))) old

  -- what was processed up to the horizon before stays
  same-before : (log : List ClientEvent) (ping : Bool) (seq : ℕ) → arrival_of ping seq (horizon_at log) ≡ Fresh
      → ((n : ℕ) → n ≤ max (horizon_at log) seq → Done n ≡ is_processed n (Came ping seq ∷ window_log (client_end log))) → IsSame log
  same-before log ping seq fresh same n le = same n (omega arith) ∙ processed-fresh n seq ping (window_log (client_end log)) fresh le

  real : (log : List ClientEvent) → CameFrom s log → IsSame log → IsReal log
  real [] came same = λ slot. tt
  real (client.Posted class payload ∷ log) came same = real log came same
  real (client.Sampled m ∷ log) came same = real log came same
  real (client.Packed p ∷ log) came same = real log came same
  real (client.Pinged head ∷ log) came same = real log came same
  real (client.Took (down.Ping head) ∷ log) came same = ping-real log head same (real log came (same-before log true head.seq refl same))
  real (client.Took (down.Body p) ∷ log) came same =
      body-real log p came.1 (was-sent t s legal j.made p came.0) same
      (real log came.2 (same-before log false p.head.seq (is_fresh false p.head.seq (horizon_at log) (inr came.1)) same))

  -- nothing above the horizon was processed
  pub all-up : (h : ℕ) → horizon_at c ≤ h → Up h ≡ copies_of Done Sent
  all-up h le =
      between c h le (λ n a b. processed-above n (window_log (client_end c)) a)
      ∙ sym (between c (horizon_at c + length Sent) (omega arith) (λ n a b. processed-above n (window_log (client_end c)) a))
      ∙ ap (after_done taken Done 1 (λ slot. None)) (take_all (horizon_at c + length Sent) Sent (omega arith))

  pub copies-real : AreAlike (traits (scope_log (ghost_log s))) (λ k. length (fields_of t.kinds k)) (ghosts_came c) (copies_of Done Sent)
  copies-real = subst (AreAlike (traits (scope_log (ghost_log s))) (λ k. length (fields_of t.kinds k)) (ghosts_came c)) (all-up (horizon_at c) (omega arith)) (real c j.came (λ n le. refl))
