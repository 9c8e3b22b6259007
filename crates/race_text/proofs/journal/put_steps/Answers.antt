use Rattle.std.proofs.Common.{◌≡◌, ◌+◌, ◌<◌, ◌++◌, ◌∙◌, length, ap, sym, arith, get_or}
use Rattle.std.proofs.lemmas.List.Sums.{count_by_more_yes, count_by_more_no}
use Rattle.std.proofs.lemmas.Option.{slice_get-get_or}
use Rattle.kept_pair.specs.pair_core.History.{PairStep, ClientPack}
use Rattle.race_text.proofs.Each.{each_more}
use Rattle.race_text.specs.Journal.{is_show, step_line}
use Rattle.race_text.proofs.journal.put_steps.Goals as goal
use Rattle.race_text.proofs.journal.put_steps.Goals.{then-shows, else-shows}

pub loop-place-preserved : goal.loop-place-preserved
loop-place-preserved c =
    let steps = c.args.steps.now.list in
    let place = c.loop-place.place in
    let lt : place < length steps = omega arith in
    let step : PairStep = get_or steps place ClientPack in
    let told : c.shows.result ≡ is_show step = c.shows.ensures step (slice_get-get_or steps place ClientPack lt) in
    record {
      added =
          c.in_ok-put_line.ensures.added
          ∙ ap (λ l. l ++ step_line c.args.client c.args.objects.now steps place) c.loop-place.invariant.added
          ∙ each_more (step_line c.args.client c.args.objects.now steps) place c.args.text.now.added;
      before = c.put_line.ensures.before ∙ c.loop-place.invariant.before;
      shown = elim c.if-shows.branch [
        | then-shows w ↦
            (w.shown-is ∙ ap (λ n. n + 1) c.loop-place.invariant.shown
            ∙ sym (count_by_more_yes is_show steps place ClientPack lt (sym told ∙ w.if-shows.true)))
        | else-shows w ↦
            (w.shown-is ∙ c.loop-place.invariant.shown ∙ sym (count_by_more_no is_show steps place ClientPack lt (sym told ∙ w.if-shows.false)))
      ];
      few = elim c.if-shows.branch [ then-shows w ↦ omega arith | else-shows w ↦ omega arith ];
    }
