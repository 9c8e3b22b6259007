-- What the drains of a pack are to the steps of its connection.
use Rattle.std.proofs.Common.{◌≡◌, ℕ, suc, ◌<◌, ◌≤◌, ◌%◌, ◌^◌, Bool, true, false, ◌||◌, List, [], ◌∷◌, ◌++◌, length, map, Some, refl, sym, ap, ◌∙◌, subst, arith, append-nil}
use Rattle.std.specs.List.{AllByRecursion}
use Rattle.std.proofs.Math.Nat.{mod-lt}
use Rattle.std.proofs.lemmas.Nat.{pow_pos}
use Rattle.tn_types.specs.declared.choices.Drain.{Drain}
use Rattle.notify_window.specs.declared.SendState.{SendState}
use Rattle.notify_window.specs.declared.SendState.TheVariants.{Held, Worn, Room}
use Rattle.ghost_masks.specs.Plan.{kind_of, fields_of}
use Rattle.dirty_lanes.specs.Views.{drains, reads}
use Rattle.dirty_lanes.specs.declared.view.PackStep.{PackStep}
use Rattle.stream_manager.specs.Limits.{Terms}
use Rattle.stream_manager.specs.Server.{ghost_log}
use Rattle.kept_pair.specs.pair_core.History.{PairStep}
use Rattle.kept_pair.specs.conn_packing.Reads.{MayBeDrained, MayDrain}
use Rattle.lane_periods.specs.Periods.{PeriodList, has, field_count, ArePeriods}
use Rattle.lane_periods.specs.Views.{owes_of, is_drained, entries, own_bits}
use Rattle.lane_periods.proofs.Owed.{each-up, drains-owed, drains-read_nothing, drains-entries}
use Rattle.pair_periods.specs.pair_steps.Steps.{traits_in}
use Rattle.pair_periods.specs.Agreement.{server_log}
use Rattle.pair_periods.proofs.Below.pair_steps.Journals.{kind_told, up_from}
use Rattle.pair_periods.proofs.Agreeing.{listed-up}
use Rattle.connection_lock.specs.Rule.{IsLocked}
use Rattle.connection_lock.specs.Turns.{DrainsAt, Words, fields_drained}
use Rattle.connection_lock.proofs.Keeping.{fields-counted}

or-none : (a : Bool) → a ≡ true → (a || false) ≡ true
or-none true e = refl
or-none false e = e

length-map : (f : Drain → ℕ) (ds : List Drain) → length (map f ds) ≡ length ds
length-map f [] = refl
length-map f (d ∷ ds) = ap suc (length-map f ds)

length-drains : (f : Drain → Drain) (ds : List Drain) → length (map f ds) ≡ length ds
length-drains f [] = refl
length-drains f (d ∷ ds) = ap suc (length-drains f ds)

-- what follows of the drains of a pack, whatever the state
pub record AreDrains (t : Terms) (past : List PairStep) (state : SendState) (p : PeriodList) (view mid : List PackStep) (ds : List Drain) : Type 0 where
  pub words : List Drain
  pub taken : Words state past words
  pub own : ds ≡ map (fields_drained t past) words
  pub entered : drains mid ≡ drains view ++ entries p.objects words
  pub owed : (n f : ℕ) → f < field_count p.table p.kinds n → owes_of p.objects p.up mid n f ≡ true → (owes_of p.objects p.up view n f || is_drained ds n f) ≡ true
  pub read : reads mid ≡ reads view
  pub few : length ds ≤ length p.up
  pub may : MayDrain t (server_log t past) state ds

module _ (t : Terms) (objects : ℕ) (past : List PairStep) (view : List PackStep) (p : PeriodList) (k : IsLocked t objects past view p) (are : ArePeriods p.objects p.kinds p.up) where
  counted : (n : ℕ) → has n p.up ≡ true → field_count p.table p.kinds n ≡ length (fields_of t.kinds (kind_of (ghost_log (server_log t past)) n))
  counted n up =
      let here = listed-up t past n (subst (λ l. has n l ≡ true) k.agree.up up) in
      fields-counted p.table p.kinds n (kind_of (ghost_log (server_log t past)) n) (k.agree.kinds n (up_from t past n here).0 ∙ ap (λ x. Some x) (sym (kind_told t past n)))
      ∙ ap (λ x. length (fields_of x (kind_of (ghost_log (server_log t past)) n))) k.table

  own-is : (ds : List Drain) → AllByRecursion (λ (d : Drain). has d.n p.up ≡ true) ds → map (own_bits p.table p.kinds) ds ≡ map (fields_drained t past) ds
  own-is [] all = refl
  own-is (d ∷ ds) all =
      let rest = own-is ds all.1 in
      let count : field_count p.table p.kinds d.n ≡ length (fields_of t.kinds (traits_in past d.n).kind) = counted d.n all.0 ∙ ap (λ x. length (fields_of t.kinds x)) (kind_told t past d.n) in
      (λ j. record { n = d.n; bits = d.bits % 2 ^ count j } ∷ rest j)

  may-each : (ds : List Drain) → AllByRecursion (λ (d : Drain). has d.n p.up ≡ true) ds → AllByRecursion (MayBeDrained t (ghost_log (server_log t past))) (map (own_bits p.table p.kinds) ds)
  may-each [] all = tt
  may-each (d ∷ ds) all = (
    record {
      up = listed-up t past d.n (subst (λ l. has d.n l ≡ true) k.agree.up all.0);
      fields = subst (λ c. d.bits % 2 ^ field_count p.table p.kinds d.n < 2 ^ c) (counted d.n all.0) (mod-lt d.bits (pow_pos (field_count p.table p.kinds d.n)));
    },
    may-each ds all.1,
  )

  pub are-drains : (state : SendState) (mid : List PackStep) (ds : List Drain) → DrainsAt state p view mid ds → AreDrains t past state p view mid ds
  are-drains Room mid ds d =
      let up = each-up p view mid ds are d in
      record {
        words = d.words;
        taken = d.each ∙ k.agree.up;
        own = d.own ∙ own-is d.words up;
        entered = drains-entries p view mid ds are d;
        owed = drains-owed p view mid ds are d;
        read = drains-read_nothing p view mid ds are d;
        few = omega (arith, ap length d.own, length-drains (own_bits p.table p.kinds) d.words, ap length d.each, length-map (λ (x : Drain). x.n) d.words);
        may = subst (AllByRecursion (MayBeDrained t (ghost_log (server_log t past)))) (sym d.own) (may-each d.words up);
      }
  are-drains Held mid ds d = none mid ds d.0 d.1
    where
      none : (mid : List PackStep) (ds : List Drain) → mid ≡ view → ds ≡ [] → AreDrains t past Held p view mid ds
      none mid ds same empty = record {
        words = [];
        taken = refl;
        own = empty;
        entered = ap drains same ∙ sym (append-nil (drains view));
        owed = λ n f few e. subst (λ l. (owes_of p.objects p.up view n f || is_drained l n f) ≡ true) (sym empty) (or-none (owes_of p.objects p.up view n f) (subst (λ v. owes_of p.objects p.up v n f ≡ true) same e));
        read = ap reads same;
        few = omega (arith, ap length empty);
        may = empty;
      }
  are-drains Worn mid ds d = none mid ds d.0 d.1
    where
      none : (mid : List PackStep) (ds : List Drain) → mid ≡ view → ds ≡ [] → AreDrains t past Worn p view mid ds
      none mid ds same empty = record {
        words = [];
        taken = refl;
        own = empty;
        entered = ap drains same ∙ sym (append-nil (drains view));
        owed = λ n f few e. subst (λ l. (owes_of p.objects p.up view n f || is_drained l n f) ≡ true) (sym empty) (or-none (owes_of p.objects p.up view n f) (subst (λ v. owes_of p.objects p.up v n f ≡ true) same e));
        read = ap reads same;
        few = omega (arith, ap length empty);
        may = empty;
      }
