use Rattle.std.proofs.Common.{◌≡◌, ◌++◌, [], ◌∙◌, ap, arith, drop, filter, length, map, refl, sym, take}
use Rattle.std.specs.List.{filter_map}
use Rattle.std.proofs.lemmas.Bool.Decides.{nat_tests}
use Rattle.std.proofs.lemmas.List.{nil_from_length}
use Rattle.client_scope.specs.Changes.{hidden}
use Rattle.client_scope.specs.Marks.{marked, aged, stays}
use Rattle.client_scope.proofs.Lists.{written_back}
use Rattle.client_scope.proofs.Sifting.{sifted, none_hidden, aged_there}
use Rattle.client_scope.proofs.walks.go_on.Goals as goal

pub returns-then-is_empty-clause-shown : goal.returns-then-is_empty-clause-shown
returns-then-is_empty-clause-shown c =
    let v = c.args.shown.now in
    let now = c.age.new.shown in
    let level = marked c.args.marks.now in
    let wrote : take v.len (now ++ drop (length now) v.items) ≡ now = written_back now v.items v.len (length v.items) v.ok.0 refl (c.age.ensures.length ∙ ap length c.deref_mut.ensures.value) in
    let empty : length c.age.new.hides.items ≡ 0 = grind (arith, nat_tests, c.is_empty.ensures, c.if-is_empty.true) in
    let none : filter_map (hidden level) v.items ≡ [] = sym (c.age.ensures.hides ∙ ap (filter_map (hidden level)) c.deref_mut.ensures.value) ∙ nil_from_length c.age.new.hides.items empty in
    wrote ∙ (c.age.ensures.aged ∙ ap (map (aged (marked c.args.marks.now))) c.deref_mut.ensures.value) ∙ none_hidden level v.items none

pub sift-requires-clause-there : goal.sift-requires-clause-there
sift-requires-clause-there c =
    let v = c.args.shown.now in
    let now = c.age.new.shown in
    let wrote : take v.len (now ++ drop (length now) v.items) ≡ now = written_back now v.items v.len (length v.items) v.ok.0 refl (c.age.ensures.length ∙ ap length c.deref_mut.ensures.value) in
    aged_there 1024 (marked c.args.marks.now) v.items c.deref.result.now c.requires.there (c.deref.ensures.value ∙ wrote ∙ (c.age.ensures.aged ∙ ap (map (aged (marked c.args.marks.now))) c.deref_mut.ensures.value))

pub returns-clause-shown : goal.returns-clause-shown
returns-clause-shown c =
    let v = c.args.shown.now in
    let now = c.age.new.shown in
    let level = marked c.args.marks.now in
    let wrote : take v.len (now ++ drop (length now) v.items) ≡ now = written_back now v.items v.len (length v.items) v.ok.0 refl (c.age.ensures.length ∙ ap length c.deref_mut.ensures.value) in
    let aged_ones : c.deref.result.now ≡ map (aged level) v.items = c.deref.ensures.value ∙ wrote ∙ (c.age.ensures.aged ∙ ap (map (aged (marked c.args.marks.now))) c.deref_mut.ensures.value) in
    ap (λ w. w.items) c.swap.ensures.x_after ∙ c.sift.ensures.kept ∙ ap (filter (stays level)) aged_ones ∙ sifted level v.items
