use Rattle.std.proofs.Common.{◌≡◌, ◌∙◌, sym, ap, subst}
use Rattle.conn_packing.specs.stream_manager.Client.{posted_at_client}
use Rattle.pair_core.specs.History.{history}
use Rattle.pair_core.specs.Stands.{PairState, StandsFor}
use Rattle.pair_core.specs.contracts.pair.Pair.{the_view}
use Rattle.pair_core.proofs.Posting.{client_posted}
use Rattle.pair_core.proofs.pair.Pair.client_post.Goals as goal

pub returns-in-Guaranteed-clause-stands : goal.returns-in-Guaranteed-clause-stands
returns-in-Guaranteed-clause-stands c = λ t log before.
    let p : PairState = the_view c.self.inside in
    let h : StandsFor p t log = subst (λ (x : PairState). StandsFor x t log) (sym c.self.view_is) before in
    rw c.in-Guaranteed.is
    (client_posted p t log c.args.payload h c.post.new.self c.post.result
    (c.post.ensures.answer (history t log).client h.client ∙ ap (λ x. posted_at_client x (history t log).client) h.client_config)
    c.post.ensures.stands c.post.ensures.unchanged c.post.ensures.keeps.terms)
