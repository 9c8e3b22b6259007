-- The lock rule over a whole locked connection, and at its start.
use Rattle.std.proofs.Common.{◌≡◌, ℕ, true, List, [], ◌∷◌, ◌++◌, length, Some, sym, ap, ◌∙◌, subst, arith}
use Rattle.std.specs.Prelude.{slice_index}
use Rattle.dirty_lanes.specs.declared.view.PackView.{PackView}
use Rattle.kept_pair.specs.pair_core.History.{PairStep}
use Rattle.kept_pair.specs.pair_core.Stands.{StandsFor}
use Rattle.stream_manager.specs.Limits.{Terms}
use Rattle.kept_pair.specs.Kept.{KeptState, Replays, terms_in, newest_first}
use Rattle.dirty_lanes.specs.Views.{owes}
use Rattle.dirty_lanes.specs.declared.view.PackStep.{PackStep}
use Rattle.lane_periods.specs.Periods.{PeriodList, has}
use Rattle.pair_periods.proofs.Below.pair_steps.Journals.{kind_told}
use Rattle.pair_periods.proofs.Agreeing.{passing_none}
use Rattle.connection_lock.specs.Rule.{LockedState, LockHolds, IsLocked, AreLocked, IsQuiet, AreReadsOf, OwedIsDue}
use Rattle.kept_pair.proofs.Replaying.{newest-more}
use Rattle.pair_periods.proofs.Agreeing.{agree-quiet}
use Rattle.connection_lock.specs.declared.net_line.NetLine.{NetLine}
use Rattle.connection_lock.specs.Turns.{line_step}
use Rattle.connection_lock.proofs.Keeping.{locked-same}
use Rattle.connection_lock.proofs.Lines.{line-quiet}

pub lock-holds : (s : LockedState) (objects : ℕ) (p : PeriodList) → s.objects ≡ p.objects → Replays s.kept.pair s.kept.steps → AreLocked objects s.kept s.seat p → LockHolds s
lock-holds s objects p same replays l = record {
  replays = replays;
  objects = ap length same ∙ l.0.agree.count;
  kinds = p.kinds;
  are_kinds = λ n lt. l.0.agree.kinds n (omega (arith, lt, ap length same, l.0.agree.count)) ∙ ap (λ k. Some k) (sym (kind_told (terms_in s.kept) (newest_first s.kept.steps) n));
  read = subst (λ (os : List ℕ). AreReadsOf os p.kinds (terms_in s.kept).kinds s.seat.steps (newest_first s.kept.steps)) (sym same) l.0.read;
  owed = subst (λ (os : List ℕ). OwedIsDue (terms_in s.kept) (newest_first s.kept.steps) os s.seat.steps) (sym same) l.0.owed;
}

-- ---- at the start

none-waits : {A : Type 0} (front ready : List A) → front ++ ready ≡ [] → ready ≡ []
none-waits [] ready e = e
none-waits (x ∷ front) ready e = absurd (cc)

none-past : (k : KeptState) → k.steps ≡ [] → newest_first k.steps ≡ []
none-past k none = ap newest_first none

fresh-quiet : (k : KeptState) → k.steps ≡ [] → Replays k.pair k.steps → IsQuiet k
fresh-quiet k none replays =
    let stands : StandsFor k.pair (terms_in k) [] = subst (StandsFor k.pair (terms_in k)) (none-past k none) replays.stands in
    let down = stands.client.common.receiver.ready in
    let up = stands.conn.common.receiver.ready in
    record {
      client = none-waits down.0 k.pair.client.common.receiver.ready down.1;
      server = none-waits up.0 k.pair.conn.common.receiver.ready up.1;
    }

pub fresh-locked : (objects : ℕ) (k : KeptState) (seat : PackView) (p : PeriodList) → k.steps ≡ [] → Replays k.pair k.steps → seat.steps ≡ [] → p.objects ≡ [] → p.kinds ≡ [] → p.up ≡ [] → p.table ≡ k.pair.conn.masks.kinds
    → AreLocked objects k seat p
fresh-locked objects k seat p none replays no_steps no_objects no_kinds no_up table = (
  subst (λ (past : List PairStep). IsLocked (terms_in k) objects past seat.steps p) (sym (none-past k none)) (record {
    agree = record {
      count = ap length no_objects;
      up = no_up ∙ sym (passing_none (λ n. true));
      kinds = λ n lt. absurd (omega (arith, lt));
    };
    table = table;
    there = λ n h. absurd (let e : has n [] ≡ true = subst (λ (l : List ℕ). has n l ≡ true) no_up h in cc);
    read = subst (λ (l : List PackStep). AreReadsOf p.objects p.kinds (terms_in k).kinds l []) (sym no_steps) tt;
    owed = λ n f up field owed. absurd (let e : owes [] (slice_index p.objects n) f ≡ true = subst (λ (l : List PackStep). owes l (slice_index p.objects n) f ≡ true) no_steps owed in cc);
  }),
  fresh-quiet k none replays,
)

-- ---- after a line

pub line-locked : (objects : ℕ) (k new : KeptState) (seat : PackView) (p : PeriodList) (room : ℕ) (l : NetLine) → AreLocked objects k seat p → terms_in new ≡ terms_in k → new.steps ≡ k.steps ++ line_step room l ∷ [] → IsQuiet new
    → AreLocked objects new seat p
line-locked objects k new seat p room l locked terms kept quiet =
    let q = line-quiet room l in
    let past : newest_first new.steps ≡ line_step room l ∷ newest_first k.steps = ap newest_first kept ∙ newest-more k.steps (line_step room l) in (
      subst (λ (x : Terms × List PairStep). IsLocked x.0 objects x.1 seat.steps p) (λ j. (sym terms j, sym past j))
          (locked-same (terms_in k) objects (newest_first k.steps) seat.steps p locked.0 (line_step room l) (agree-quiet (newest_first k.steps) (line_step room l) p q.0 locked.0.agree) q.1),
      quiet,
    )
