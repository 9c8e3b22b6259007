use Rattle.std.proofs.Common.{◌≡◌, ◌∙◌, ◌++◌, ◌∷◌, [], ◌+◌, ◌<◌, ℕ, List, length, ap, arith, if◌then◌else◌, length-append}
use Rattle.pair_core.proofs.Flat.{flat-more, cut-more, cut-length}
use Rattle.pair_core.proofs.datagrams.Datagrams.push.Goals as goal
use Rattle.pair_core.proofs.datagrams.Datagrams.push.Goals.{After-push_reserved}

module _ (c : After-push_reserved) where
  ends : c.push_reserved.new.self.items ≡ c.self.inside.ends.items ++ c.len.result ∷ []
  ends = c.push_reserved.ensures.items

  bytes : c.extend_from_slice.new.self.items ≡ c.self.inside.bytes.items ++ c.args.bytes.now
  bytes = c.extend_from_slice.ensures.items ∙ ap (λ ok. if ok then c.self.inside.bytes.items ++ c.args.bytes.now else c.self.inside.bytes.items) c.if-is_err.ensures.negation

  stop : c.len.result ≡ length c.self.inside.bytes.items + length c.args.bytes.now
  stop = let ok = c.extend_from_slice.new.self.ok in let l = c.len.ensures in omega (arith, ap (λ (l : List ℕ). length l) bytes, length-append c.self.inside.bytes.items c.args.bytes.now)

pub invariant_of-self : goal.invariant_of-self
invariant_of-self g =
    let c = (goal.at.invariant_of-self g).After-push_reserved in
    let few : length g.self.inside.ends.items < 4294967295 = omega (arith, cut-length 0 g.self.inside.ends.items g.self.inside.bytes.items, ap (λ d. length d.list) g.self.view_is, g.requires.few) in
    rw (ends c, bytes c) (flat-more g.self.inside.ends.items g.self.inside.bytes.items g.args.bytes.now g.len.result (stop c) few g.requires.fits g.self.invariant)

pub returns : goal.returns
returns g =
    let c = (goal.at.returns g).After-push_reserved in
    rw (ends c, bytes c) (cut-more 0 g.self.inside.ends.items g.self.inside.bytes.items g.args.bytes.now g.len.result (stop c) g.self.invariant.rise) ∙ ap (λ d. d.list ++ g.args.bytes.now ∷ []) g.self.view_is
