-- Each end of a command has its outcome, and an outcome says which answer it is.
use Rattle.std.proofs.Common.{ℕ, ◌≡◌, ◌≤◌, ◌⊎◌, inl, inr, List, Option, Result, Ok, Err, refl, sym, ◌∙◌, subst, arith}
use Rattle.tn_outside.specs.Causes.{Rose}
use Rattle.tn_outside.specs.Links.{Datagram, Ahead, answer_at}
use Rattle.tn_outside.proofs.Totals.{whole_front}
use Rattle.match_script.specs.declared.types.Head.{Head}
use Rattle.script_maker.specs.Made.{made}
use Rattle.script_input.specs.declared.status.Status.{Status}
use Rattle.script_input.specs.declared.status.Status.TheVariants.{Done, Usage, Script, TooLong, ReadFault, WriteFault, NoMemory, LinkFault, ClockFault, Demo}
use Rattle.script_input.proofs.Outcome.{rose_later}
use Rattle.net_rules.specs.declared.fault.NetFault.{NetFault}
use Rattle.net_rules.specs.declared.fault.NetFault.TheVariants as fault
use Rattle.net_rules.specs.Faults.{counts, HandsOnEach}
use Rattle.net_serve.specs.Lines.{text_so_far, lines}
use Rattle.net_serve.specs.Outgoing.{sends, datagrams}
use Rattle.net_rules.specs.Turns.{events}
use Rattle.net_rules.specs.Runs.{Begun, Begins}
use Rattle.net_serve.specs.Stages.{Served, ServedFront, ServedSome}
use Rattle.net_join.specs.Joining.{sends as join_sends, ending}
use Rattle.net_join.specs.Stages.{Joined, JoinedFront, JoinedSome, nonce_of}
use Rattle.net_top.specs.Outcome.{told, Met, met, NetRow, serving, joining, Cause, NetOutcome, IsWanted, NothingFailed, NetServes, status_of}

-- a call that worked, and one that failed
abbrev worked : Result (Unit {0}) NetFault
worked = Ok tt

abbrev failed : NetFault → Result (Unit {0}) NetFault
failed f = Err f

-- what was served whole is a front of it
served_front : (head : Head) (turns : ℕ) (o : Begun) (w : Option (List ℕ)) (d : Option (List Datagram)) → Served head turns o w d → ServedFront head turns o w d
served_front head turns o w d s = record {
  counts = s.counts;
  turns_are = s.turns_are;
  are = s.are;
  front = record {
    text = whole_front o.written w (text_so_far head (lines head (events o.ahead s.counts))) s.text;
    outgoing = whole_front o.sent d (datagrams (sends head (events o.ahead s.counts))) s.sends;
  };
}

joined_front : (turns : ℕ) (o : Begun) (w : Option (List ℕ)) (d : Option (List Datagram)) → Joined turns o w d → JoinedFront turns o w d
joined_front turns o w d s =
    let nonce = nonce_of (answer_at o.clock 0) in record {
      counts = s.counts;
      turns_are = s.turns_are;
      are = s.are;
      sends = whole_front o.sent d (join_sends nonce (events o.ahead s.counts)) s.sends;
      text = whole_front o.written w (ending nonce (events o.ahead s.counts)) s.text;
    }

-- ---- which answer it is

exact : (row : NetRow) (m : Met) (s : Status) → Cause row m s → IsWanted m s
exact row m Done h = refl
exact row m (Usage place) h = absurd h
exact row m (Script line fault) h = absurd h
exact row m TooLong h = absurd h
exact row m ReadFault h = absurd h
exact row m WriteFault h = h.2
exact row m NoMemory h = tt
exact row m LinkFault h = h.0
exact row m ClockFault h = h.1
exact row m (Demo place) h = absurd h

complete : (row : NetRow) (m : Met) (s : Status) → Cause row m s → NothingFailed m → (s ≡ Done) ⊎ (s ≡ NoMemory)
complete row m Done h can = inl refl
complete row m (Usage place) h can = absurd h
complete row m (Script line fault) h can = absurd h
complete row m TooLong h can = absurd h
complete row m ReadFault h can = absurd h
complete row m WriteFault h can = absurd (can.sink h.2)
complete row m NoMemory h can = inr refl
complete row m LinkFault h can = absurd (can.link h.0)
complete row m ClockFault h can = absurd (can.clock h.1)
complete row m (Demo place) h can = absurd h

net_serves : (row : NetRow) (m : Met) (s : Status) → NetOutcome row m s → NetServes row m s
net_serves row m s o = record { outcome = o; exact = exact row m s o.answer; complete = complete row m s o.answer }

-- ---- the ends of a command

module _ (row : NetRow) (a a' : Option Ahead) (c c' w w' w2 : Option (List ℕ)) (d d' : Option (List Datagram)) (lf lf' cf cf' kf kf' kf2 : ℕ) where
  -- after the run, and after the sink's last call
  abbrev then : Met
  then = met (told a a' lf lf') (told c c' cf cf') (told w w' kf kf') d d'

  abbrev now : Met
  now = met (told a a' lf lf') (told c c' cf cf') (told w w2 kf kf2) d d'

  module _ (cause : HandsOnEach (counts lf cf kf) (counts lf' cf' kf') worked) where
    pub all_done : row.done now → kf2 ≡ kf' → NetServes row now Done
    all_done done kept = net_serves row now Done (record {
      answer = ((cause.link.spared (λ e. absurd cc), cause.clock.spared (λ e. absurd cc), kept ∙ cause.sink.spared (λ e. absurd cc)), done);
      link = cause.link.later;
      clock = cause.clock.later;
      sink = omega (arith, cause.sink.later, kept);
    })

    pub not_handed : row.front now → kf' ≤ kf2 → Rose kf' kf2 → NetServes row now WriteFault
    not_handed front later rose = net_serves row now WriteFault (record {
      answer = (cause.link.spared (λ e. absurd cc), cause.clock.spared (λ e. absurd cc), rose_later kf kf' kf2 cause.sink.later rose, front);
      link = cause.link.later;
      clock = cause.clock.later;
      sink = omega (arith, cause.sink.later, later);
    })

  module _ (front : row.front then) where
    abbrev Stopped : NetFault → Type 0
    Stopped f = HandsOnEach (counts lf cf kf) (counts lf' cf' kf') (failed f)

    ends_so : (f : NetFault) → Stopped f → Cause row then (status_of f) → NetServes row then (status_of f)
    ends_so f h answer = net_serves row then (status_of f) (record { answer = answer; link = h.link.later; clock = h.clock.later; sink = h.sink.later })

    pub stopped : (f : NetFault) → Stopped f → NetServes row then (status_of f)
    stopped fault.NoMemory h = ends_so fault.NoMemory h ((h.link.spared (λ e. absurd cc), h.clock.spared (λ e. absurd cc), h.sink.spared (λ e. absurd cc)), front)
    stopped fault.LinkFault h = ends_so fault.LinkFault h (h.link.failed refl, h.clock.spared (λ e. absurd cc), h.sink.spared (λ e. absurd cc), front)
    stopped fault.ClockFault h = ends_so fault.ClockFault h (h.link.spared (λ e. absurd cc), h.clock.failed refl, h.sink.spared (λ e. absurd cc), front)
    stopped fault.WriteFault h = ends_so fault.WriteFault h (h.link.spared (λ e. absurd cc), h.clock.spared (λ e. absurd cc), h.sink.failed refl, front)

-- ---- what a run that came to its end left, also after the sink's last call

module _ (seed clients turns : ℕ) (m : Met) (w2 : Option (List ℕ)) (kf2 : ℕ) (same : w2 ≡ m.sink.new) where
  abbrev after : Met
  after = met m.link m.clock (told m.sink.old w2 m.sink.faults kf2) m.before m.sent

  pub served_now : (serving seed clients turns).done m → (serving seed clients turns).done after
  served_now h = (
    λ o b. subst (λ (x : Option (List ℕ)). Served (made seed clients 0).head turns o x m.sent) (sym same) (h.0 o b),
    subst (λ (x : Option (List ℕ)). ServedSome (made seed clients 0).head turns m.sink.old x m.before m.sent) (sym same) h.1,
  )

  pub served_front_now : (serving seed clients turns).done m → (serving seed clients turns).front after
  served_front_now h o b = let now = served_now h in served_front (made seed clients 0).head turns o w2 m.sent (now.0 o b)

module _ (turns : ℕ) (m : Met) (w2 : Option (List ℕ)) (kf2 : ℕ) (same : w2 ≡ m.sink.new) where
  abbrev joined_after : Met
  joined_after = met m.link m.clock (told m.sink.old w2 m.sink.faults kf2) m.before m.sent

  pub joined_now : (joining turns).done m → (joining turns).done joined_after
  joined_now h = (
    λ o b. subst (λ (x : Option (List ℕ)). Joined turns o x m.sent) (sym same) (h.0 o b),
    subst (λ (x : Option (List ℕ)). JoinedSome turns m.sink.old x m.before m.sent) (sym same) h.1,
  )

  pub joined_front_now : (joining turns).done m → (joining turns).front joined_after
  joined_front_now h o b = let now = joined_now h in joined_front turns o w2 m.sent (now.0 o b)
