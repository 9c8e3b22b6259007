use Rattle.std.proofs.Common.{◌≡◌, ◌+◌, ◌<◌, true, length, ap, arith, rules}
use Rattle.std.specs.Prelude.{nat_lt, nat_le, vec_len, vec_capacity}
use Rattle.std.proofs.lemmas.Bool.{lt-ltb}
use Rattle.kept_pair.proofs.Cutting.{all-three, cut-length}
use Rattle.kept_pair.proofs.step_list.StepList.prepare.Goals as goal

pub returns-clause-room : goal.returns-clause-room
returns-clause-room c =
    let count = cut-length 0 0 c.self.inside.entries.items c.self.inside.drains.items c.self.inside.reads.items in
    let view = ap (λ s. length s.list) c.self.view_is in
    let ok = c.self.inside.entries.ok in
    let few : vec_len c.reserve-2.new.self < 65536 = let r = c.requires.few in let l = c.reserve-2.ensures.len in omega arith in
    let entries : nat_lt (vec_len c.reserve-2.new.self) (vec_capacity c.reserve-2.new.self) ≡ true = search rules in
    let reads : nat_le (vec_len c.reserve-3.new.self + 2048) (vec_capacity c.reserve-3.new.self) ≡ true = search rules in
    all-three (nat_lt (vec_len c.reserve-2.new.self) 65536) (nat_lt (vec_len c.reserve-2.new.self) (vec_capacity c.reserve-2.new.self)) (nat_le (vec_len c.reserve-3.new.self + 2048) (vec_capacity c.reserve-3.new.self)) (lt-ltb (vec_len c.reserve-2.new.self) 65536 few) entries reads
