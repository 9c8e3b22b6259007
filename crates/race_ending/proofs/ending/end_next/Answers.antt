use Rattle.std.proofs.Common.{◌≡◌, ℕ, ◌+◌, ◌*◌, ◌<◌, ◌||◌, [], length, None, get_or, ◌∙◌, subst, ap, arith}
use Rattle.std.proofs.lemmas.List.{get_or_read}
use Rattle.race_ending.specs.Ended.{met_no_room, fault_of, TakesLeft}
use Rattle.race_ending.proofs.ending.end_next.Goals as goal

pub returns-clause-ended : goal.returns-clause-ended
returns-clause-ended g c =
    let kept = c.in_ok-keep.ensures.clients in
    let full = c.in_ok-full.ensures in
    let at : c.len-i.result ≡ length c.args.seats.now.items = omega (arith, c.len-i.ensures, c.args.seats.now.ok.0) in
    let within : c.len-i.result < length c.args.waiting.now.items = omega (arith, at, c.requires.waiting) in
    let waited : c.index_mut.result.now ≡ get_or c.args.waiting.now.items c.len-i.result [] = get_or_read _ _ _ within c.index_mut.ensures.value [] in (
      kept.0,
      kept.1,
      record {
        before = c.open-locked.result;
        after = c.finish_steps.new.locked;
        result = full.0;
        held = c.open-locked.ensures;
        takes = subst (λ w. TakesLeft g.N.LaneName.objects c.open-locked.result w c.finish_steps.new.locked full.0)
            (waited ∙ ap (λ n. get_or c.args.waiting.now.items n []) at) full.1;
        pair = kept.2 ∙ c.finish.ensures.pair;
        own = kept.3 ∙ c.finish.ensures.objects;
        full = kept.4 ∙ subst (λ (n : ℕ). c.in_ok-full.full ≡ (met_no_room (fault_of full.0) || (met_no_room (get_or c.args.stopped.now (2 * n) None)
            || met_no_room (get_or c.args.stopped.now (2 * n + 1) None)))) at full.2;
      },
    )
