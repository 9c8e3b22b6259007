use Rattle.std.proofs.Common.{◌≡◌, ◌∙◌, sym, ap, subst}
use Rattle.conn_packing.specs.stream_manager.Limits.{Terms}
use Rattle.conn_packing.specs.stream_manager.Server.{posted_at_server}
use Rattle.pair_core.specs.History.{history}
use Rattle.pair_core.specs.Stands.{PairState, StandsFor}
use Rattle.pair_core.specs.contracts.pair.Pair.{the_view}
use Rattle.pair_core.proofs.Posting.{server_posted}
use Rattle.pair_core.proofs.pair.Pair.post.Goals as goal

pub returns-in-Guaranteed-clause-stands : goal.returns-in-Guaranteed-clause-stands
returns-in-Guaranteed-clause-stands c = λ t log before.
    let p : PairState = the_view c.self.inside in
    let h : StandsFor p t log = subst (λ (x : PairState). StandsFor x t log) (sym c.self.view_is) before in
    let config = ap (λ (x : Terms). x.config) h.terms in
    rw c.in-Guaranteed.is
    (server_posted p t log c.args.payload h c.post.new.self c.post.result
    (c.post.ensures.answer (history t log).server h.conn ∙ ap (λ x. posted_at_server x (history t log).server) config)
    c.post.ensures.stands c.post.ensures.unchanged c.post.ensures.keeps.terms)
