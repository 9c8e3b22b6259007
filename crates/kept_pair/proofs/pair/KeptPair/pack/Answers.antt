use Rattle.std.proofs.Common.{◌≡◌, ◌∙◌, ◌≤◌, ◌+◌, ◌++◌, ◌∷◌, [], ℕ, List, true, length, sym, ap, subst, arith, rules}
use Rattle.std.specs.Prelude.{nat_le, nat_lt, vec_len, vec_capacity}
use Rattle.tn_types.specs.declared.choices.Read.{Read}
use Rattle.pair_core.specs.stream_manager.Stands.{terms_of}
use Rattle.pair_core.specs.History.{PairStep, Pack}
use Rattle.kept_pair.specs.Kept.{KeptState, MayPack, AreKept, newest_first}
use Rattle.kept_pair.proofs.Counts.{none-by-pack}
use Rattle.kept_pair.proofs.Noting.{all-noted}
use Rattle.kept_pair.proofs.Replaying.{kept-more}
use Rattle.kept_pair.proofs.pair.KeptPair.pack.Goals as goal

pub pack-answer-requires-clause-may : goal.pack-answer-requires-clause-may
pack-answer-requires-clause-may g c =
    let may = subst (λ (k : KeptState). MayPack k c.args.drains.now (g.V.Values.ranges c.args.values.now)) (sym c.self.view_is) c.requires.may in
    record { terms = terms_of c.self.inside.pair.conn; steps = newest_first c.self.inside.steps.list; stands = c.self.invariant.0.replays.stands; drained = may.drained; ranged = may.ranged }

pub push-requires-clause-few_reads : goal.push-requires-clause-few_reads
push-requires-clause-few_reads g c =
    let told = c.pack-answer.ensures.told in
    let s = c.self.inside in
    let noted = all-noted s.pair.prepared s.steps.has_room (nat_lt (vec_len s.befores) (vec_capacity s.befores)) (nat_le (vec_len s.moves + 32) (vec_capacity s.moves)) (vec_capacity s.noted) (vec_capacity c.clear.new.self)
    c.clear.new.self.items told.0 c.pack-answer.new.values.noted.now.items (subst (λ (k : KeptState). k.prepared ≡ true) (sym c.self.view_is) c.requires.prepared) c.clear.ensures.capacity c.clear.ensures.items told.3 told.2.4 in
    omega (arith, told.3, ap (λ (l : List Read). length l) (c.as_slice.ensures.value ∙ noted))

pub invariant_of-self : goal.invariant_of-self
invariant_of-self g c =
    let may = subst (λ (k : KeptState). MayPack k c.args.drains.now (g.V.Values.ranges c.args.values.now)) (sym c.self.view_is) c.requires.may in
    let told = c.pack-answer.ensures.told in
    let packs = told.1 in
    let s = c.self.inside in
    let noted = all-noted s.pair.prepared s.steps.has_room (nat_lt (vec_len s.befores) (vec_capacity s.befores)) (nat_le (vec_len s.moves + 32) (vec_capacity s.moves)) (vec_capacity s.noted) (vec_capacity c.clear.new.self)
    c.clear.new.self.items told.0 c.pack-answer.new.values.noted.now.items (subst (λ (k : KeptState). k.prepared ≡ true) (sym c.self.view_is) c.requires.prepared) c.clear.ensures.capacity c.clear.ensures.items told.3 told.2.4 in
    let list : c.push.new.self.list ≡ c.self.inside.steps.list ++ Pack c.args.drains.now told.0 ∷ [] =
    c.push.ensures.list ∙ ap (λ (rs : List Read). c.self.inside.steps.list ++ Pack c.args.drains.now rs ∷ []) (c.as_slice.ensures.value ∙ noted) in
    let few = c.push.ensures.few in
    let befores : c.push_reserved.new.self.items ≡ c.self.inside.befores.items ++ length c.self.inside.moves.items ∷ [] =
    c.push_reserved.ensures.items ∙ ap (λ (n : ℕ). c.self.inside.befores.items ++ n ∷ []) (let l = c.len.ensures in let ok = c.self.inside.moves.ok in let e : c.len.result ≡ length c.self.inside.moves.items = omega arith in e) in (
      subst (λ (x : List PairStep × List ℕ). AreKept c.pack-answer.new.self x.0 c.self.inside.moves.items x.1) (λ j. (sym list j, sym befores j))
          (kept-more c.self.inside.pair c.pack-answer.new.self c.self.inside.steps.list c.self.inside.moves.items c.self.inside.moves.items c.self.inside.befores.items (Pack c.args.drains.now told.0) c.self.invariant.0
          (subst (λ (l : List PairStep). length l ≤ 65536) list few) (may.drained, packs.read (terms_of c.self.inside.pair.conn) (newest_first c.self.inside.steps.list) c.self.invariant.0.replays.stands) tt
          (packs.stands (terms_of c.self.inside.pair.conn) (newest_first c.self.inside.steps.list) c.self.invariant.0.replays.stands)
          (c.self.invariant.0.moves_are ∙ sym (none-by-pack (terms_of c.self.inside.pair.conn) (newest_first c.self.inside.steps.list) c.args.drains.now told.0)) c.pack-answer.ensures.keeping),
      let room = c.push.ensures.drain_room in let before = c.self.invariant.1 in let asked : length c.args.drains.now ≤ c.self.inside.drains = subst (λ (k : KeptState). length c.args.drains.now ≤ k.drains) (sym c.self.view_is) c.requires.room in omega arith,
    )

pub returns-clause-told : goal.returns-clause-told
returns-clause-told g c =
    let told = c.pack-answer.ensures.told in
    let s = c.self.inside in
    let noted = all-noted s.pair.prepared s.steps.has_room (nat_lt (vec_len s.befores) (vec_capacity s.befores)) (nat_le (vec_len s.moves + 32) (vec_capacity s.moves)) (vec_capacity s.noted) (vec_capacity c.clear.new.self)
    c.clear.new.self.items told.0 c.pack-answer.new.values.noted.now.items (subst (λ (k : KeptState). k.prepared ≡ true) (sym c.self.view_is) c.requires.prepared) c.clear.ensures.capacity c.clear.ensures.items told.3 told.2.4 in
    let list : c.push.new.self.list ≡ c.args.self.now.steps ++ Pack c.args.drains.now told.0 ∷ [] =
    c.push.ensures.list ∙ ap (λ (rs : List Read). c.self.inside.steps.list ++ Pack c.args.drains.now rs ∷ []) (c.as_slice.ensures.value ∙ noted)
    ∙ ap (λ (k : KeptState). k.steps ++ Pack c.args.drains.now told.0 ∷ []) c.self.view_is in
    let asked = told.2.2 in
    let same = told.2.0 in
    (told.0, list, search rules)
