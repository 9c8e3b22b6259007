-- How a call over a link ends, and what it leaves of the link, of the clock and of the sink: what the rules ask for of what was heard
-- was written and sent; or a front of both, and the cause. A fault is answered exactly where that count of faults rose.
use Rattle.std.specs.Prelude.{ℕ, ◌≡◌, ◌≤◌, ◌⊎◌, List, Option}
use Rattle.tn_outside.specs.Causes.{Rose}
use Rattle.tn_outside.specs.Links.{Datagram, Ahead}
use Rattle.script_maker.specs.Made.{made}
use Rattle.script_input.specs.declared.status.Status.{Status}
use Rattle.script_input.specs.declared.status.Status.TheVariants.{Done, WriteFault, NoMemory, LinkFault, ClockFault}
use Rattle.net_rules.specs.declared.fault.NetFault.{NetFault}
use Rattle.net_rules.specs.declared.fault.NetFault.TheVariants as fault
use Rattle.net_rules.specs.Runs.{Begun, Begins}
use Rattle.net_rules.specs.Turns.{TurnsAreOne}
use Rattle.net_serve.specs.match_laws.Laws.{Isolation}
use Rattle.net_serve.specs.Laws.{PacksAreSent, RawsAreArrivals, TicksAreTurns, IsReadAgain}
use Rattle.net_serve.specs.Stages.{Served, ServedFront, ServedSome}
use Rattle.net_join.specs.Stages.{Joined, JoinedFront, JoinedSome}

-- ---- what is told before a call and after it

-- of one that is called: what it tells, and how often it has failed
pub record Told (A : Type 0) : Type 0 where
  pub old : Option A
  pub new : Option A
  pub faults : ℕ
  pub faults_after : ℕ

abbrev pub told : {A : Type 0} → Option A → Option A → ℕ → ℕ → Told A
told old new faults faults_after = record { old = old; new = new; faults = faults; faults_after = faults_after }

abbrev pub HasFailed : {A : Type 0} → Told A → Type 0
HasFailed t = Rose t.faults t.faults_after

abbrev pub IsSpared : {A : Type 0} → Told A → Type 0
IsSpared t = t.faults_after ≡ t.faults

-- nothing was taken, added or counted
abbrev pub Stays : {A : Type 0} → Told A → Type 0
Stays t = (t.new ≡ t.old) × IsSpared t

-- what the link has ahead and what the clock is to answer, what the sink was given, and what was sent over the link
pub record Met : Type 0 where
  pub link : Told Ahead
  pub clock : Told (List ℕ)
  pub sink : Told (List ℕ)
  pub before : Option (List Datagram)
  pub sent : Option (List Datagram)

abbrev pub met : Told Ahead → Told (List ℕ) → Told (List ℕ) → Option (List Datagram) → Option (List Datagram) → Met
met link clock sink before sent = record { link = link; clock = clock; sink = sink; before = before; sent = sent }

-- the link and the clock were left as they were
abbrev pub IsUnmet : Met → Type 0
IsUnmet m = Stays m.link × Stays m.clock × (m.sent ≡ m.before)

-- no count of faults rose
abbrev pub AllSpared : Met → Type 0
AllSpared m = IsSpared m.link × IsSpared m.clock × IsSpared m.sink

-- ---- what a command comes to

-- the lists over which the rules are asked: what was told at the beginning
abbrev pub BeginsWith : Begun → Met → Type 0
BeginsWith o m = Begins o m.link.old m.clock.old m.sink.old m.before

-- a command over a link: what was written and sent where all was done; and where it was not, a front of both
pub record NetRow : Type 1 where
  pub done : Met → Type 0
  pub front : Met → Type 0

-- where the link and the clock tell what they have ahead, the text that the rules ask for over the two lists was written, and what they ask
-- for sent; and whatever they tell, it was so for some datagrams that were heard in so many turns
abbrev pub serving : (seed clients turns : ℕ) → NetRow
serving seed clients turns = record {
  done = λ m. ((o : Begun) → BeginsWith o m → Served (made seed clients 0).head turns o m.sink.new m.sent)
      × ServedSome (made seed clients 0).head turns m.sink.old m.sink.new m.before m.sent;
  front = λ m. (o : Begun) → BeginsWith o m → ServedFront (made seed clients 0).head turns o m.sink.new m.sent;
}

abbrev pub joining : (turns : ℕ) → NetRow
joining turns = record {
  done = λ m. ((o : Begun) → BeginsWith o m → Joined turns o m.sink.new m.sent) × JoinedSome turns m.sink.old m.sink.new m.before m.sent;
  front = λ m. (o : Begun) → BeginsWith o m → JoinedFront turns o m.sink.new m.sent;
}

-- the cause of an answer: a fault is answered exactly where that count of faults rose, and under `Done` and `NoMemory` none did
abbrev pub Cause : NetRow → Met → Status → Type 0
Cause row m Done = AllSpared m × row.done m
Cause row m WriteFault = IsSpared m.link × IsSpared m.clock × HasFailed m.sink × row.front m
Cause row m LinkFault = HasFailed m.link × IsSpared m.clock × IsSpared m.sink × row.front m
Cause row m ClockFault = IsSpared m.link × HasFailed m.clock × IsSpared m.sink × row.front m
Cause row m NoMemory = AllSpared m × row.front m
Cause row m s = ⊥

pub record NetOutcome (row : NetRow) (m : Met) (s : Status) : Type 0 where
  pub answer : Cause row m s
  -- no count of faults fell
  pub link : m.link.faults ≤ m.link.faults_after
  pub clock : m.clock.faults ≤ m.clock.faults_after
  pub sink : m.sink.faults ≤ m.sink.faults_after

-- ---- which answer it is

-- all was done; or a fault of the outside or want of memory came before that
abbrev pub IsWanted : Met → Status → Type 0
IsWanted m WriteFault = HasFailed m.sink
IsWanted m LinkFault = HasFailed m.link
IsWanted m ClockFault = HasFailed m.clock
IsWanted m NoMemory = Unit {0}
IsWanted m s = s ≡ Done

-- nothing failed
pub record NothingFailed (m : Met) : Type 0 where
  pub link : HasFailed m.link → ⊥
  pub clock : HasFailed m.clock → ⊥
  pub sink : HasFailed m.sink → ⊥

-- ---- the whole of it

pub record NetServes (row : NetRow) (m : Met) (s : Status) : Type 0 where
  -- what each answer says of the link, of the clock and of the sink, and what holds after every answer
  pub outcome : NetOutcome row m s
  -- the answer is `Done`, where nothing fails and memory is there
  pub exact : IsWanted m s
  pub complete : NothingFailed m → (s ≡ Done) ⊎ (s ≡ NoMemory)

-- what every match over a link keeps
pub record NetLaws : Type 0 where
  -- the rules ask for one run of so many turns
  pub one_run : TurnsAreOne
  -- the datagrams that were sent to a client, welcomes aside, are those of its `pack` lines in the report of the script, which are a function
  -- of the client's own list; its `raw` lines are its arrivals; and there are as many ticks as turns
  pub packs_are_sent : PacksAreSent
  pub isolation : Isolation
  pub raws_are_arrivals : RawsAreArrivals
  pub ticks_are_turns : TicksAreTurns
  -- the text is read as the script, where this has no more lines than a script may have
  pub is_read_again : IsReadAgain

-- ---- a fault of a server, as an answer

abbrev pub status_of : NetFault → Status
status_of fault.NoMemory = NoMemory
status_of fault.LinkFault = LinkFault
status_of fault.ClockFault = ClockFault
status_of fault.WriteFault = WriteFault
