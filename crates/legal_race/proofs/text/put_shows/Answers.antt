use Rattle.std.proofs.Common.{◌∙◌, ℕ, arith}
use Rattle.race_history.specs.declared.race.RaceClient.{RaceClient}
use Rattle.race_text.specs.Showing.{show_line}
use Rattle.legal_race.proofs.Places.{lent_at, told_more}
use Rattle.legal_race.proofs.text.put_shows.Goals as goal

pub loop-c-preserved : goal.loop-c-preserved
loop-c-preserved c =
    let at = lent_at c.as_slice-all.result.now c.args.race.now.clients c.args.clients c.loop-c.c c.index-all-c.result c.as_slice-all.ensures c.requires.clients (omega (arith, c.loop-c-test.true)) c.index-all-c.is in
    record {
      added =
          told_more c.args.race.now (λ (n : ℕ) (k : RaceClient). show_line n k.pair k.objects c.args.race.now.words c.args.race.now.moves) c.loop-c.c c.index-all-c.result c.args.text.now.added c.loop-c.text.added c.put_show.new.text.added
          at c.loop-c.invariant.added c.in_ok-put_show.ensures.added;
      before = c.in_ok-put_show.ensures.before ∙ c.loop-c.invariant.before;
    }
