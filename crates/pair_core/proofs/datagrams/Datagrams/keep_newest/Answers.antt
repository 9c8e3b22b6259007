use Rattle.std.proofs.Common.{◌≡◌, ◌∙◌, ◌-◌, ◌<◌, ◌∷◌, ◌++◌, [], suc, length, List, ℕ, ap, sym, arith}
use Rattle.pair_core.specs.Keeping.{newest_alone}
use Rattle.pair_core.proofs.Flat.{cut-length}
use Rattle.pair_core.proofs.Keeping.{alone-of-few, alone-cut, alone-flat, rise-at}
use Rattle.pair_core.proofs.datagrams.Datagrams.keep_newest.Goals as goal

pub returns-then-count-lt2 : goal.returns-then-count-lt2
returns-then-count-lt2 c =
    let count = cut-length 0 c.self.inside.ends.items c.self.inside.bytes.items in
    let view = ap (λ d. length d.list) c.self.view_is in
    let own = c.len-count.ensures in let ok = c.self.inside.ends.ok in
    sym (alone-of-few c.args.self.now.list (omega (arith, c.if-count-lt2.true)))

pub remove_front-requires : goal.remove_front-requires
remove_front-requires c =
    let own = c.len-count.ensures in let ok = c.self.inside.ends.ok in let bytes_ok = c.self.inside.bytes.ok in
    let lt : c.len-count.result - 2 < length c.self.inside.ends.items = omega (arith, c.if-count-lt2.false) in
    omega (arith, c.index-start.ensures, rise-at 0 c.self.inside.ends.items (length c.self.inside.bytes.items) (c.len-count.result - 2) c.index-start.result.now lt c.self.invariant.rise)

pub invariant_of-self : goal.invariant_of-self
invariant_of-self c =
    let own = c.len-count.ensures in let ok = c.self.inside.ends.ok in let left_ok = c.remove_front.new.bytes.ok in
    let long : length c.self.inside.ends.items ≡ suc (suc (c.len-count.result - 2)) = omega (arith, c.if-count-lt2.false) in
    let so : c.push_reserved.new.self.items ≡ c.len.result ∷ [] = c.push_reserved.ensures.items ∙ ap (λ (l : List ℕ). l ++ c.len.result ∷ []) c.clear.ensures.items in
    let end : c.len.result ≡ length c.remove_front.new.bytes.items = let l = c.len.ensures in omega arith in
    alone-flat c.self.inside.ends.items c.self.inside.bytes.items c.push_reserved.new.self.items c.remove_front.new.bytes.items (c.len-count.result - 2) c.index-start.result.now c.len.result long c.self.invariant c.index-start.ensures c.remove_front.ensures so end

pub returns : goal.returns
returns c =
    let own = c.len-count.ensures in let ok = c.self.inside.ends.ok in let left_ok = c.remove_front.new.bytes.ok in
    let long : length c.self.inside.ends.items ≡ suc (suc (c.len-count.result - 2)) = omega (arith, c.if-count-lt2.false) in
    let so : c.push_reserved.new.self.items ≡ c.len.result ∷ [] = c.push_reserved.ensures.items ∙ ap (λ (l : List ℕ). l ++ c.len.result ∷ []) c.clear.ensures.items in
    let end : c.len.result ≡ length c.remove_front.new.bytes.items = let l = c.len.ensures in omega arith in
    alone-cut c.self.inside.ends.items c.self.inside.bytes.items c.push_reserved.new.self.items c.remove_front.new.bytes.items (c.len-count.result - 2) c.index-start.result.now c.len.result long c.self.invariant c.index-start.ensures c.remove_front.ensures so end
    ∙ ap (λ d. newest_alone d.list) c.self.view_is
