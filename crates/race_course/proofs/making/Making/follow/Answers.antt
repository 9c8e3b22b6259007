use Rattle.std.proofs.Common.{◌≡◌, ◌∙◌, ◌∷◌, ℕ, List, ap, sym, subst}
use Rattle.std.specs.Prelude.{OnOk}
use Rattle.match_script.specs.declared.types.BodyLine.{BodyLine}
use Rattle.match_script.specs.declared.types.BodyLine.TheVariants as script
use Rattle.race_course.specs.Course.{Follows, IsMadeOf}
use Rattle.race_course.proofs.making.Making.follow.Goals as goal

pub returns-in-Tick : goal.returns-in-Tick
returns-in-Tick c = subst (λ (line : BodyLine). OnOk c.tick.result (Follows c.args.self.now c.tick.new.self c.args.moves.now line)) (sym c.in-Tick.is) c.tick.ensures

pub returns-in-Ok : goal.returns-in-Ok
returns-in-Ok c = λ first clients past h.
    let line : script.Post c.in-Post.client c.in-Post.class c.payload.result ≡ c.args.line.now =
    ap (λ (payload : List ℕ). script.Post c.in-Post.client c.in-Post.class payload) c.payload.ensures ∙ sym c.in-Post.is in
    subst (λ (l : BodyLine). IsMadeOf c.post.new.self first c.args.moves.now clients (l ∷ past)) line (c.in-Ok.ensures c.args.moves.now first clients past h)
