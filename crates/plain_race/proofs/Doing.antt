-- One line more of a client, and one message more.
use Rattle.std.proofs.Common.{◌≡◌, ℕ, suc, ◌+◌, ◌<◌, ◌≤◌, ◌==◌, Bool, true, false, cond, List, [], ◌∷◌, ◌++◌, length, take, drop, map, reverse, get_or, Option, Some, None, refl, sym, ap, subst, ◌∙◌, arith, append-nil, append_assoc}
use Rattle.std.specs.Prelude.{if◌then◌else◌}
use Rattle.std.specs.List.{AllByRecursion, filter_map, cons_option}
use Rattle.std.proofs.lemmas.List.{reverse-append, take_more, map-append, take-append-drop}
use Rattle.std.proofs.lemmas.List.Elements.{filter_map-append}
use Rattle.std.proofs.lemmas.List.Sums.{sum_by-append, sum_by-cons}
use Rattle.bit_stream.specs.WorldMoves.{bits_of}
use Rattle.match_script.specs.declared.types.BodyLine.{BodyLine}
use Rattle.match_script.specs.declared.types.BodyLine.TheVariants as script
use Rattle.pair_core.specs.stream_manager.Limits.{Terms}
use Rattle.pair_core.specs.declared.step.PairStep.{PairStep as GivenStep}
use Rattle.pair_core.specs.declared.step.PairStep.TheVariants as given
use Rattle.pair_core.specs.History.{PairStep, Pack}
use Rattle.pair_core.specs.Calls.{step_of}
use Rattle.pair_core.specs.Answers.{accepted_in}
use Rattle.pair_core.specs.Conditions.{IsMet, AreMet}
use Rattle.pair_steps.proofs.Journals.{IsQuiet}
use Rattle.conn_packing.proofs.Lists.{all-append, all-reverse}
use Rattle.kept_pair.specs.Kept.{newest_first}
use Rattle.race_messages.specs.declared.message.Message.{Message}
use Rattle.race_messages.specs.declared.message.Message.TheVariants as message
use Rattle.race_messages.specs.Steps.{step_for, objects_with}
use Rattle.legal_race.specs.race_steps.Asked.{ClientAct, IsRoom, room_found, is_pack_step, is_pack_line, packs_made, packs_asked, act_done, act_asked, act_said, acts_done, acts_asked, object_shown, objects_shown, steps_asked}
use Rattle.plain_race.specs.Asks.{IsAct, asked_of, act_given}
use Rattle.plain_race.specs.Done.{IsOwnStep, AreStepsOf}
use Rattle.plain_race.proofs.Still.{steps_of_messages}
use Rattle.plain_race.proofs.Quiet.{met_behind}
use Rattle.plain_race.proofs.Asking.{rooms_more}
use Rattle.plain_race.proofs.Reading.{own_quiet, newest_are}

-- ---- what a line asks

abbrev flag : Bool → ℕ
flag b = cond b 1 0

abbrev of_pack : PairStep → ℕ
of_pack step = flag (is_pack_step step)

abbrev of_pack_line : ℕ → BodyLine → ℕ
of_pack_line c line = flag (is_pack_line c line)

-- the given step is the act that the line asks for
pub record IsActOf (c room : ℕ) (line : BodyLine) (g : GivenStep) : Type 0 where
  pub act : IsAct g
  pub asked : ClientAct
  pub done : act_done (step_of g) ≡ Some asked
  pub said : act_asked c line ≡ Some asked
  pub finds : (r : ℕ) → room_found (step_of g) ≡ Some r → r ≡ room
  pub no_pack_line : is_pack_line c line ≡ false
  pub no_pack : is_pack_step (step_of g) ≡ false
  pub own : IsOwnStep (step_of g)

asked_some : (c d : ℕ) (step g : GivenStep) → asked_of c d step ≡ Some g → (step ≡ g) × ((d == c) ≡ true)
asked_some c d step g e = go (d == c) refl e
  where
    go : (b : Bool) → (d == c) ≡ b → (if b then Some step else None) ≡ Some g → (step ≡ g) × ((d == c) ≡ true)
    go true f h = (let same : step ≡ g = cc (h) in same, f)
    go false f h = absurd (cc (h))

asked_none : (c d : ℕ) (step : GivenStep) → asked_of c d step ≡ None → (d == c) ≡ false
asked_none c d step e = go (d == c) refl e
  where
    go : (b : Bool) → (d == c) ≡ b → (if b then Some step else None) ≡ None → (d == c) ≡ false
    go true f h = absurd (cc (h))
    go false f h = f

-- the line says this act, where it names the client
said_if : (c d : ℕ) (line : BodyLine) (b : Bool) → (d == c) ≡ b → (if (d == c) then act_said line else None) ≡ (if b then act_said line else None)
said_if c d line b f = ap (λ x. if x then act_said line else None) f

pub act_is : (c room : ℕ) (line : BodyLine) (g : GivenStep) → act_given c room line ≡ Some g → IsActOf c room line g
act_is c room script.Tick g e = absurd (cc (e))
act_is c room (script.Scan d) g e = absurd (cc (e))
act_is c room (script.Post d class v) g e = absurd (cc (e))
act_is c room (script.Pack d) g e = absurd (cc (e))
act_is c room (script.Show d) g e = absurd (cc (e))
act_is c room script.World g e = absurd (cc (e))
act_is c room (script.ClientPost d class v) g e =
    let line = script.ClientPost d class v in
    let s = asked_some c d (given.ClientPost class v) g e in
    subst (IsActOf c room line) s.0 (record { act = tt; asked = _; done = refl; said = said_if c d line true s.1; finds = λ r f. absurd (cc (f)); no_pack_line = refl; no_pack = refl; own = tt })
act_is c room (script.Move d m) g e =
    let line = script.Move d m in
    let s = asked_some c d (given.Sample (bits_of m)) g e in
    subst (IsActOf c room line) s.0 (record { act = tt; asked = _; done = refl; said = said_if c d line true s.1; finds = λ r f. absurd (cc (f)); no_pack_line = refl; no_pack = refl; own = tt })
act_is c room (script.ClientPack d) g e =
    let line = script.ClientPack d in
    let s = asked_some c d given.ClientPack g e in
    subst (IsActOf c room line) s.0 (record { act = tt; asked = _; done = refl; said = said_if c d line true s.1; finds = λ r f. absurd (cc (f)); no_pack_line = refl; no_pack = refl; own = tt })
act_is c room (script.Down d k) g e =
    let line = script.Down d k in
    let s = asked_some c d (given.Down k) g e in
    subst (IsActOf c room line) s.0 (record { act = tt; asked = _; done = refl; said = said_if c d line true s.1; finds = λ r f. absurd (cc (f)); no_pack_line = refl; no_pack = refl; own = tt })
act_is c room (script.Up d k) g e =
    let line = script.Up d k in
    let s = asked_some c d (given.Up k room) g e in
    subst (IsActOf c room line) s.0 (record { act = tt; asked = _; done = refl; said = said_if c d line true s.1; finds = λ r f. let same : r ≡ room = cc (f) in same; no_pack_line = refl; no_pack = refl; own = tt })
act_is c room (script.Raw d bytes) g e =
    let line = script.Raw d bytes in
    let s = asked_some c d (given.Raw bytes room) g e in
    subst (IsActOf c room line) s.0 (record { act = tt; asked = _; done = refl; said = said_if c d line true s.1; finds = λ r f. let same : r ≡ room = cc (f) in same; no_pack_line = refl; no_pack = refl; own = tt })

no_act : (c room : ℕ) (line : BodyLine) → act_given c room line ≡ None → act_asked c line ≡ None
no_act c room script.Tick e = refl
no_act c room (script.Scan d) e = said_none (d == c) (script.Scan d) refl
  where
    said_none : (b : Bool) (l : BodyLine) → act_said l ≡ None → (if b then act_said l else None) ≡ None
    said_none true l n = n
    said_none false l n = refl
no_act c room (script.Post d class v) e = said_none (d == c) (script.Post d class v) refl
  where
    said_none : (b : Bool) (l : BodyLine) → act_said l ≡ None → (if b then act_said l else None) ≡ None
    said_none true l n = n
    said_none false l n = refl
no_act c room (script.Pack d) e = said_none (d == c) (script.Pack d) refl
  where
    said_none : (b : Bool) (l : BodyLine) → act_said l ≡ None → (if b then act_said l else None) ≡ None
    said_none true l n = n
    said_none false l n = refl
no_act c room (script.Show d) e = said_none (d == c) (script.Show d) refl
  where
    said_none : (b : Bool) (l : BodyLine) → act_said l ≡ None → (if b then act_said l else None) ≡ None
    said_none true l n = n
    said_none false l n = refl
no_act c room script.World e = refl
no_act c room (script.ClientPost d class v) e = said_if c d (script.ClientPost d class v) false (asked_none c d (given.ClientPost class v) e)
no_act c room (script.Move d m) e = said_if c d (script.Move d m) false (asked_none c d (given.Sample (bits_of m)) e)
no_act c room (script.ClientPack d) e = said_if c d (script.ClientPack d) false (asked_none c d given.ClientPack e)
no_act c room (script.Down d k) e = said_if c d (script.Down d k) false (asked_none c d (given.Down k) e)
no_act c room (script.Up d k) e = said_if c d (script.Up d k) false (asked_none c d (given.Up k room) e)
no_act c room (script.Raw d bytes) e = said_if c d (script.Raw d bytes) false (asked_none c d (given.Raw bytes room) e)

pack_no_act : (c : ℕ) (line : BodyLine) → is_pack_line c line ≡ true → act_asked c line ≡ None
pack_no_act c (script.Pack d) e = go (d == c)
  where
    go : (b : Bool) → (if b then act_said (script.Pack d) else None) ≡ None
    go true = refl
    go false = refl
pack_no_act c script.Tick e = absurd (cc (e))
pack_no_act c (script.Scan d) e = absurd (cc (e))
pack_no_act c (script.Post d class v) e = absurd (cc (e))
pack_no_act c (script.Show d) e = absurd (cc (e))
pack_no_act c script.World e = absurd (cc (e))
pack_no_act c (script.ClientPost d class v) e = absurd (cc (e))
pack_no_act c (script.Move d m) e = absurd (cc (e))
pack_no_act c (script.ClientPack d) e = absurd (cc (e))
pack_no_act c (script.Down d k) e = absurd (cc (e))
pack_no_act c (script.Up d k) e = absurd (cc (e))
pack_no_act c (script.Raw d bytes) e = absurd (cc (e))

-- ---- one line more

one : {X Y : Type 0} (f : X → Option Y) (x : X) (o : Option Y) → f x ≡ o → filter_map f (x ∷ []) ≡ cons_option o []
one f x o e = ap (λ r. cons_option r []) e

acts_more : (c : ℕ) (lines : List BodyLine) (line : BodyLine) (o : Option ClientAct) → act_asked c line ≡ o → acts_asked c (lines ++ line ∷ []) ≡ acts_asked c lines ++ cons_option o []
acts_more c lines line o e = filter_map-append (act_asked c) lines (line ∷ []) ∙ ap (λ (l : List ClientAct). acts_asked c lines ++ l) (one (act_asked c) line o e)

done_more : (steps : List PairStep) (step : PairStep) (o : Option ClientAct) → act_done step ≡ o → acts_done (steps ++ step ∷ []) ≡ acts_done steps ++ cons_option o []
done_more steps step o e = filter_map-append act_done steps (step ∷ []) ∙ ap (λ (l : List ClientAct). acts_done steps ++ l) (one act_done step o e)

packs_more : (steps : List PairStep) (step : PairStep) (k : ℕ) → of_pack step ≡ k → packs_made (steps ++ step ∷ []) ≡ packs_made steps + k
packs_more steps step k e =
    let joined = sum_by-append of_pack steps (step ∷ []) in
    let alone = sum_by-cons of_pack step [] in
    omega (arith, joined, alone, e)

asked_more : (c : ℕ) (lines : List BodyLine) (line : BodyLine) (k : ℕ) → of_pack_line c line ≡ k → packs_asked c (lines ++ line ∷ []) ≡ packs_asked c lines + k
asked_more c lines line k e =
    let joined = sum_by-append (of_pack_line c) lines (line ∷ []) in
    let alone = sum_by-cons (of_pack_line c) line [] in
    omega (arith, joined, alone, e)

of_flag : (b r : Bool) → b ≡ r → flag b ≡ flag r
of_flag b r e = ap flag e

pub act_made : (t : Terms) (c room : ℕ) (lines : List BodyLine) (line : BodyLine) (steps : List PairStep) (g : GivenStep) → IsActOf c room line g
    → IsRoom (length (accepted_in t (newest_first steps))) room → AreStepsOf t c lines steps → AreStepsOf t c (lines ++ line ∷ []) (steps ++ step_of g ∷ [])
act_made t c room lines line steps g a fits h = record {
  own = all-append IsOwnStep steps (step_of g ∷ []) h.own (a.own, tt);
  packs =
      let made = packs_more steps (step_of g) 0 (of_flag (is_pack_step (step_of g)) false a.no_pack) in
      let asked = asked_more c lines line 0 (of_flag (is_pack_line c line) false a.no_pack_line) in
      let before = h.packs in
      omega (arith, made, asked, before);
  acts =
      done_more steps (step_of g) (Some a.asked) a.done
      ∙ ap (λ (l : List ClientAct). l ++ a.asked ∷ []) h.acts
      ∙ sym (acts_more c lines line (Some a.asked) a.said);
  rooms = rooms_more t steps (step_of g) h.rooms
      (λ r f. subst (λ x. IsRoom (length (accepted_in t (newest_first steps))) x) (sym (a.finds r f)) fits);
}

pub pack_made : (t : Terms) (c : ℕ) (lines : List BodyLine) (line : BodyLine) (steps : List PairStep) → is_pack_line c line ≡ true
    → AreStepsOf t c lines steps → AreStepsOf t c (lines ++ line ∷ []) (steps ++ Pack [] [] ∷ [])
pack_made t c lines line steps is h = record {
  own = all-append IsOwnStep steps (Pack [] [] ∷ []) h.own (refl, tt);
  packs =
      let made = packs_more steps (Pack [] []) 1 refl in
      let asked = asked_more c lines line 1 (of_flag (is_pack_line c line) true is) in
      let before = h.packs in
      omega (arith, made, asked, before);
  acts =
      done_more steps (Pack [] []) None refl ∙ append-nil (acts_done steps) ∙ h.acts
      ∙ sym (append-nil (acts_asked c lines)) ∙ sym (acts_more c lines line None (pack_no_act c line is));
  rooms = rooms_more t steps (Pack [] []) h.rooms (λ r f. absurd (cc (f)));
}

pub nothing_made : (t : Terms) (c room : ℕ) (lines : List BodyLine) (line : BodyLine) (steps : List PairStep) → is_pack_line c line ≡ false → act_given c room line ≡ None
    → AreStepsOf t c lines steps → AreStepsOf t c (lines ++ line ∷ []) steps
nothing_made t c room lines line steps no_pack none h = record {
  own = h.own;
  packs =
      let asked = asked_more c lines line 0 (of_flag (is_pack_line c line) false no_pack) in
      let before = h.packs in
      omega (arith, asked, before);
  acts = h.acts ∙ sym (append-nil (acts_asked c lines)) ∙ sym (acts_more c lines line None (no_act c room line none));
  rooms = h.rooms;
}

-- ---- a line that has no room

pub act_wanting : (c room : ℕ) (line : BodyLine) (g : GivenStep) → IsActOf c room line g → (later : List BodyLine) (ms : List Message) → 1 ≤ steps_asked c (line ∷ later) ms
act_wanting c room line g a later ms =
    let acts : length (acts_asked c (line ∷ later)) ≡ suc (length (acts_asked c later)) =
    ap (λ (o : Option ClientAct). length (cons_option o (acts_asked c later))) a.said in
    omega (arith, acts)

pub pack_wanting : (c : ℕ) (line : BodyLine) → is_pack_line c line ≡ true → (later : List BodyLine) (ms : List Message) → 1 ≤ steps_asked c (line ∷ later) ms
pack_wanting c line is later ms =
    let packs = sum_by-cons (of_pack_line c) line later in
    let flag = of_flag (is_pack_line c line) true is in
    omega (arith, packs, flag)

-- ---- messages

pub objects_more : (ms : List Message) (m : Message) → objects_with m (objects_shown ms) ≡ objects_shown (ms ++ m ∷ [])
objects_more ms (message.Show object kind block level control) = sym (filter_map-append object_shown ms (message.Show object kind block level control ∷ []))
objects_more ms (message.Hide n) = sym (filter_map-append object_shown ms (message.Hide n ∷ []) ∙ append-nil (objects_shown ms))
objects_more ms (message.Near n level) = sym (filter_map-append object_shown ms (message.Near n level ∷ []) ∙ append-nil (objects_shown ms))
objects_more ms (message.Post class v) = sym (filter_map-append object_shown ms (message.Post class v ∷ []) ∙ append-nil (objects_shown ms))

met_at : (t : Terms) (later : List PairStep) (step : PairStep) (before : List PairStep) → AreMet t (later ++ step ∷ before) → IsMet t before step
met_at t [] step before met = met.0
met_at t (s ∷ later) step before met = met_at t later step before met.1

quiet_met : (t : Terms) (steps : List PairStep) (m : Message) → IsQuiet (step_for m) → IsMet t steps (step_for m)
quiet_met t steps (message.Show object kind block level control) q = absurd q
quiet_met t steps (message.Hide n) q = absurd q
quiet_met t steps (message.Near n level) q = absurd q
quiet_met t steps (message.Post class v) q = tt

-- the next message may become a step, behind the own steps and the messages before it
pub next_met : (t : Terms) (own : List PairStep) (ms : List Message) (m : Message) (left : List Message) → AllByRecursion IsOwnStep own
    → AreMet t (steps_of_messages (ms ++ m ∷ left)) → IsMet t (newest_first (own ++ map step_for ms)) (step_for m)
next_met t own ms m left all met =
    let q = reverse own in
    let shown = steps_of_messages ms in
    let joined : steps_of_messages (ms ++ m ∷ left) ≡ steps_of_messages left ++ step_for m ∷ shown =
    ap reverse (map-append step_for ms (m ∷ left)) ∙ reverse-append (map step_for ms) (step_for m ∷ map step_for left)
    ∙ ap (λ (l : List PairStep). l ++ shown) (reverse-append (step_for m ∷ []) (map step_for left))
    ∙ append_assoc (steps_of_messages left) (step_for m ∷ []) shown in
    let alone : IsMet t shown (step_for m) = met_at t (steps_of_messages left) (step_for m) shown (subst (AreMet t) joined met) in
    subst (λ (l : List PairStep). IsMet t l (step_for m)) (sym (newest_are own ms))
    (met_behind q (all-reverse IsQuiet own (own_quiet own all)) t shown (step_for m) (λ q_is. quiet_met t (shown ++ q) m q_is) alone)

-- the list before a place, the item of the place, and what is behind it
pub split_at : {X : Type 0} (xs : List X) (i : ℕ) (x : X) → i < length xs → x ≡ get_or xs i x → xs ≡ take i xs ++ x ∷ drop (i + 1) xs
split_at {X} xs i x less is =
    sym (take-append-drop (i + 1) xs)
    ∙ ap (λ (l : List X). l ++ drop (i + 1) xs) (take_more xs i x less ∙ ap (λ (y : X). take i xs ++ y ∷ []) (sym is))
    ∙ append_assoc (take i xs) (x ∷ []) (drop (i + 1) xs)
