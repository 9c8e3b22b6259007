use Rattle.std.proofs.Common.{◌≡◌, ◌∙◌, ◌<◌, List, sym, subst, arith}
use Rattle.match_script.specs.declared.types.BodyLine.{BodyLine}
use Rattle.match_script.specs.declared.types.Head.{Head}
use Rattle.own_lists.specs.Past.{after, taken_from}
use Rattle.own_items.specs.Source.{SourceState, StandsFor}
use Rattle.own_items.proofs.MadeItems.{takes_none, takes_one}
use Rattle.own_items.proofs.source.OwnSource.taken.Goals as goal

below : (v : SourceState) (past : List BodyLine) → StandsFor v past → v.client < v.game.game.head.clients
below v past s = subst (λ (h : Head). v.client < h.clients) (sym (s.game.head ∙ s.head)) s.client

pub returns-then-waiting-eq0 : goal.returns-then-waiting-eq0
returns-then-waiting-eq0 c =
    let v : SourceState = record { script = c.self.inside.script.now; client = c.self.inside.client; game = c.self.inside.game; place = c.self.inside.place } in
    subst (λ (x : SourceState). (past : List BodyLine) → StandsFor x past → 0 ≡ taken_from x.script.head (after x.script.head past) x.client) c.self.view_is
    (λ past s. subst (λ (h : Head). 0 ≡ taken_from h (after h past) v.client) (s.game.head ∙ s.head)
    (takes_none v.game.game past v.client (below v past s) s.game.game c.waiting.result c.waiting.ensures (omega (arith, c.if-waiting-eq0.true))))

pub returns-else-waiting-eq0 : goal.returns-else-waiting-eq0
returns-else-waiting-eq0 c =
    let v : SourceState = record { script = c.self.inside.script.now; client = c.self.inside.client; game = c.self.inside.game; place = c.self.inside.place } in
    subst (λ (x : SourceState). (past : List BodyLine) → StandsFor x past → 1 ≡ taken_from x.script.head (after x.script.head past) x.client) c.self.view_is
    (λ past s. subst (λ (h : Head). 1 ≡ taken_from h (after h past) v.client) (s.game.head ∙ s.head)
    (takes_one v.game.game past v.client (below v past s) s.game.game c.waiting.result c.waiting.ensures (omega (arith, c.if-waiting-eq0.false))))
