use Rattle.std.proofs.Common.{arith, ◌≤◌, ◌∙◌, List, ℕ, Result, length, take, sym, ap, subst, length-take-le}
use Rattle.std.specs.Prelude.{IfOk}
use Rattle.stream_manager.specs.declared.config.Config.{Config}
use Rattle.stream_manager.specs.Limits.{Terms}
use Rattle.stream_manager.specs.Stands.{ConnState}
use Rattle.tn_types.specs.declared.choices.Read.{Read}
use Rattle.conn_packing.specs.declared.made.Made.{Made}
use Rattle.conn_packing.specs.declared.made.Made.TheVariants as made
use Rattle.conn_packing.specs.declared.made.TooSmall.{TooSmall}
use Rattle.conn_packing.specs.Packs.{len_of}
use Rattle.conn_packing.specs.Calls.{PacksEnd}
use Rattle.conn_packing.proofs.Sent.{worn-packs, held-packs, room-packs}
use Rattle.conn_packing.proofs.packer.Packer.pack_into.Goals as goal
use Rattle.conn_packing.proofs.packer.Packer.pack_into.Goals.{in-Held, in-Worn, in-Room}

pub returns-clause-told : goal.returns-clause-told
returns-clause-told g c = elim c.match-begin.branch [
  | in-Held w ↦
      let told = w.in-Held.ensures.told in
      let e = w.ping_at-len.ensures in
      subst (λ (x : Result Made TooSmall × ConnState × List ℕ). IfOk x.0 (λ made. (reads : List Read)
      × PacksEnd c.args.conn.now c.args.drains.now reads made (take (len_of made) x.2) x.1
      × g.V.Values.asks c.args.values.now reads c.begin.new.values × (length reads ≤ 2048)))
      (λ j. (sym w.result-is j, sym w.conn-is j, sym w.out-is j)) (
        told.0,
        subst (λ n. PacksEnd c.args.conn.now c.args.drains.now told.0 (made.Ping n) (take w.ping_at-len.result w.ping_at-len.new.out) w.ping_at-len.new.conn)
            (length-take-le w.ping_at-len.result w.ping_at-len.new.out e.within)
            (held-packs c.args.conn.now c.args.drains.now told.0 c.begin.new.conn w.ping_at-len.new.conn (take w.ping_at-len.result w.ping_at-len.new.out) told.1 e.pings e.bytes),
        told.2,
        told.4,
      )
  | in-Worn w ↦
      let told = w.in-Worn.ensures.told in
      subst (λ (x : Result Made TooSmall × ConnState). IfOk x.0 (λ made. (reads : List Read)
      × PacksEnd c.args.conn.now c.args.drains.now reads made (take (len_of made) c.match-begin.out) x.1
      × g.V.Values.asks c.args.values.now reads c.begin.new.values × (length reads ≤ 2048)))
      (λ j. (sym w.result-is j, sym w.conn-is j)) (
        told.0,
        subst (λ n. PacksEnd c.args.conn.now c.args.drains.now told.0 (made.Worn n) (take 0 c.match-begin.out) c.begin.new.conn) (sym (ap (λ (k : Config). k.life) c.config.ensures.value))
            (worn-packs c.args.conn.now c.args.drains.now told.0 c.begin.new.conn told.1),
        told.2,
        told.4,
      )
  | in-Room w ↦
      let told = w.in-Room.ensures.told in
      let e = w.seal_at-len.ensures in
      subst (λ (x : Result Made TooSmall × ConnState × List ℕ). IfOk x.0 (λ made. (reads : List Read)
      × PacksEnd c.args.conn.now c.args.drains.now reads made (take (len_of made) x.2) x.1
      × g.V.Values.asks c.args.values.now reads c.begin.new.values × (length reads ≤ 2048)))
      (λ j. (sym w.result-is j, sym w.conn-is j, sym w.out-is j)) (
        told.0,
        subst (λ n. PacksEnd c.args.conn.now c.args.drains.now told.0 (made.Body n) (take w.seal_at-len.result w.seal_at-len.new.out) w.seal_at-len.new.conn)
            (length-take-le w.seal_at-len.result w.seal_at-len.new.out e.within)
            (room-packs c.args.conn.now c.args.drains.now told.0 c.begin.new.conn w.seal_at-len.new.conn w.as_slice.result.now (take w.seal_at-len.result w.seal_at-len.new.out)
            told.1 e.seals (w.as_slice.ensures.value ∙ told.3) e.bytes),
        told.2,
        told.4,
      )
]

pub returns-clause-few : goal.returns-clause-few
returns-clause-few g c = elim c.match-begin.branch [
  | in-Held w ↦
      let e = w.ping_at-len.ensures in
      subst (λ (x : Result Made TooSmall × List ℕ). IfOk x.0 (λ made. (len_of made ≤ c.args.conn.now.common.config.size) × (len_of made ≤ length x.1)))
      (λ j. (sym w.result-is j, sym w.out-is j))
      (omega (arith, e.few, ap (λ (t : Terms). t.config.size) w.in-Held.ensures.told.1.keeps.terms), e.within)
  | in-Worn w ↦
      subst (λ (x : Result Made TooSmall). IfOk x (λ made. (len_of made ≤ c.args.conn.now.common.config.size) × (len_of made ≤ length c.match-begin.out)))
      (sym w.result-is) (omega arith, omega arith)
  | in-Room w ↦
      let e = w.seal_at-len.ensures in
      subst (λ (x : Result Made TooSmall × List ℕ). IfOk x.0 (λ made. (len_of made ≤ c.args.conn.now.common.config.size) × (len_of made ≤ length x.1)))
      (λ j. (sym w.result-is j, sym w.out-is j))
      (omega (arith, e.few, ap (λ (t : Terms). t.config.size) w.in-Room.ensures.told.1.keeps.terms), e.within)
]
