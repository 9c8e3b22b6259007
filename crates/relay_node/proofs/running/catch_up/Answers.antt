use Rattle.std.proofs.Common.{◌≡◌, ◌∙◌, ◌+◌, ◌<◌, ◌∷◌, ℕ, List, length, get_or, sym, ap, subst, arith}
use Rattle.std.proofs.lemmas.List.Elements.{All-get_or}
use Rattle.match_script.specs.declared.types.BodyLine.{BodyLine}
use Rattle.match_script.specs.declared.types.Script.{Script}
use Rattle.match_script.specs.Ranges.{LineFits}
use Rattle.relay_script.specs.declared.entries.Entry.{Entry}
use Rattle.relay_script.specs.declared.entries.Entry.TheVariants.{OfMatch}
use Rattle.relay_report.specs.Met.{past_of}
use Rattle.relay_node.specs.Node.{Stands}
use Rattle.relay_node.specs.Running.{IsAt}
use Rattle.relay_node.proofs.Places.{past_more, behind_later, few_past}
use Rattle.relay_node.proofs.running.catch_up.Goals as goal

pub play-requires : goal.play-requires
play-requires c =
    let r = c.requires in
    let s = c.args.script.now in
    let body = s.script.body in
    let i = c.loop-i.i in
    let line = c.index-lines-i.result in
    let here : line ≡ get_or body i line = c.index-lines-i.is ∙ ap (λ (l : List BodyLine). get_or l i line) c.as_slice-lines.ensures in
    let lt : i < length body = omega (arith, c.loop-i-test.true, r.within) in
    let few = few_past body r.earlier i (behind_later r.earlier c.args.from i r.behind c.loop-i.auto.i) in
    let small = r.few in
    record {
      past = past_of body i r.earlier;
      stands = c.loop-i.invariant.goes r.earlier r.at r.behind r.few;
      fits = subst (λ (x : Script). LineFits x.head.clients line) (sym (c.loop-i.invariant.keeps.script ∙ r.script))
          (subst (LineFits s.script.head.clients) (sym here) (All-get_or (LineFits s.script.head.clients) body i line lt r.fits));
      few = omega (arith, few, small, c.loop-i-test.true);
    }

pub loop-i-preserved : goal.loop-i-preserved
loop-i-preserved c =
    let r = c.requires in
    let s = c.args.script.now in
    let body = s.script.body in
    let i = c.loop-i.i in
    let line = c.index-lines-i.result in
    let here : line ≡ get_or body i line = c.index-lines-i.is ∙ ap (λ (l : List BodyLine). get_or l i line) c.as_slice-lines.ensures in
    let lt : i < length body = omega (arith, c.loop-i-test.true, r.within) in
    record {
      goes = λ earlier at behind few.
          let later = behind_later earlier c.args.from i behind c.loop-i.auto.i in
          let small = few_past body earlier i later in
          let next : past_of body (i + 1) earlier ≡ OfMatch line ∷ past_of body i earlier =
          past_more body earlier i line later lt ∙ ap (λ (l : BodyLine). OfMatch l ∷ past_of body i earlier) (sym here) in
          subst (λ (l : List Entry). Stands c.play.new.self l) (sym next)
          (c.in-Ok.ensures.plays (past_of body i earlier) (c.loop-i.invariant.goes earlier at behind few) (omega (arith, small, few, c.loop-i-test.true)));
      keeps = record {
        relay = c.in-Ok.ensures.keeps.relay ∙ c.loop-i.invariant.keeps.relay;
        script = c.in-Ok.ensures.keeps.script ∙ c.loop-i.invariant.keeps.script;
        spectators = c.in-Ok.ensures.keeps.spectators ∙ c.loop-i.invariant.keeps.spectators;
      };
    }

pub returns-clause-goes : goal.returns-clause-goes
returns-clause-goes c earlier at behind few =
    let order = c.requires.order in
    let all : c.loop-i.i ≡ c.args.to = omega (arith, c.loop-i-test.false, c.loop-i.auto.i-end order) in
    subst (λ (n : ℕ). IsAt c.loop-i.node c.args.script.now n earlier) all (c.loop-i.invariant.goes earlier at behind few)
