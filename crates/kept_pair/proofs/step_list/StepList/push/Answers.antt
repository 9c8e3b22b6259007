use Rattle.std.proofs.Common.{◌≡◌, ◌∙◌, ◌&&◌, ◌++◌, ◌∷◌, [], ◌+◌, ◌<◌, ℕ, List, length, sym, ap, arith, subst, if◌then◌else◌, length-append}
use Rattle.std.specs.Prelude.{nat_lt, nat_le, vec_len, vec_capacity}
use Rattle.std.proofs.lemmas.Bool.{ltb-true}
use Rattle.kept_pair.specs.declared.entry.Entry.{Entry}
use Rattle.kept_pair.specs.StepLists.{kept_of, Rise}
use Rattle.kept_pair.proofs.Cutting.{cut-length, cut-more, rise-more, and-left}
use Rattle.kept_pair.proofs.step_list.StepList.push.Goals as goal
use Rattle.kept_pair.proofs.step_list.StepList.push.Goals.{After-push_reserved}

module _ (c : After-push_reserved) where
  abbrev Made : Entry
  Made = record { step = c.args.step; drains_end = c.len.result; reads_end = c.len-2.result }

  entries : c.push_reserved.new.self.items ≡ c.self.inside.entries.items ++ Made ∷ []
  entries = c.push_reserved.ensures.items

  drains : c.extend_from_slice.new.self.items ≡ c.self.inside.drains.items ++ c.args.drains.now
  drains = c.extend_from_slice.ensures.items ∙ ap (λ ok. if ok then c.self.inside.drains.items ++ c.args.drains.now else c.self.inside.drains.items) c.if-is_err.ensures.negation

  reads : c.extend_from_slice-2.new.self.items ≡ c.self.inside.reads.items ++ c.args.reads.now
  reads = c.extend_from_slice-2.ensures.items ∙ ap (λ ok. if ok then c.self.inside.reads.items ++ c.args.reads.now else c.self.inside.reads.items) c.if-is_err-2.ensures.negation

  drains_stop : c.len.result ≡ length c.self.inside.drains.items + length c.args.drains.now
  drains_stop = let ok = c.extend_from_slice.new.self.ok in let l = c.len.ensures in omega (arith, ap length drains, length-append c.self.inside.drains.items c.args.drains.now)

  reads_stop : c.len-2.result ≡ length c.self.inside.reads.items + length c.args.reads.now
  reads_stop = let ok = c.extend_from_slice-2.new.self.ok in let l = c.len-2.ensures in omega (arith, ap length reads, length-append c.self.inside.reads.items c.args.reads.now)

  few : length c.self.inside.entries.items < 65536
  few =
      let room = ltb-true (vec_len c.self.inside.entries) 65536 (and-left (nat_lt (vec_len c.self.inside.entries) 65536) (nat_lt (vec_len c.self.inside.entries) (vec_capacity c.self.inside.entries) && nat_le (vec_len c.self.inside.reads + 2048) (vec_capacity c.self.inside.reads)) (ap (λ s. s.has_room) c.self.view_is ∙ c.requires.room)) in
      let ok = c.self.inside.entries.ok in
      omega arith

pub invariant_of-self : goal.invariant_of-self
invariant_of-self c =
    let drains_end : c.len.result ≡ length c.extend_from_slice.new.self.items = let ok = c.extend_from_slice.new.self.ok in let l = c.len.ensures in omega arith in
    let reads_end : c.len-2.result ≡ length c.extend_from_slice-2.new.self.items = let ok = c.extend_from_slice-2.new.self.ok in let l = c.len-2.ensures in omega arith in (
      subst (λ (x : List Entry × (ℕ × ℕ)). Rise 0 0 x.0 x.1.0 x.1.1) (λ j. (sym (entries c) j, (drains_end j, reads_end j)))
          (rise-more 0 0 c.self.inside.entries.items (length c.self.inside.drains.items) (length c.self.inside.reads.items) (Made c) (omega (arith, drains_stop c)) (omega (arith, reads_stop c)) c.self.invariant.0),
      omega (arith, ap length (entries c), length-append c.self.inside.entries.items (Made c ∷ []), few c),
    )

pub returns-clause-few : goal.returns-clause-few
returns-clause-few c =
    omega (arith, cut-length 0 0 c.push_reserved.new.self.items c.extend_from_slice.new.self.items c.extend_from_slice-2.new.self.items, ap length (entries c), length-append c.self.inside.entries.items (Made c ∷ []), few c)

pub returns-clause-list : goal.returns-clause-list
returns-clause-list c =
    rw (entries c, drains c, reads c) (cut-more 0 0 c.self.inside.entries.items c.self.inside.drains.items c.args.drains.now c.self.inside.reads.items c.args.reads.now (Made c) (drains_stop c) (reads_stop c) c.self.invariant.0)
    ∙ ap (λ s. s.list ++ kept_of c.args.step c.args.drains.now c.args.reads.now ∷ []) c.self.view_is
