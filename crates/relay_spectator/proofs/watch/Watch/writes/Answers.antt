use Rattle.std.proofs.Common.{◌∙◌, ◌++◌, ◌∷◌, ℕ, pos, [], List, map, Option, get_or, take, sym, ap, append-nil, SFits, w64, rules}
use Rattle.std.proofs.lemmas.Int.{to_z-of_z}
use Rattle.std.specs.List.{filter_map, cons_option}
use Rattle.std.specs.Option.{option_map}
use Rattle.std.proofs.lemmas.List.{map-append}
use Rattle.own_lists.specs.Own.{OwnWrite as Told}
use Rattle.alone_server.specs.own_items.declared.items.OwnWrite.{OwnWrite}
use Rattle.alone_server.specs.own_items.Items.{write_of}
use Rattle.relay_board.specs.declared.board.Change.{Change}
use Rattle.relay_spectator.specs.Watches.{write_at}
use Rattle.relay_spectator.proofs.Watching.{mapped_more}
use Rattle.relay_spectator.proofs.watch.Watch.writes.Goals as goal
use Rattle.relay_spectator.proofs.watch.Watch.writes.Goals.{in-Some+in_ok-push, in_default}

nothing : Change
nothing = record { slot = 0; field = 0; value = pos 0 }

pub loop-change-preserved : goal.loop-change-preserved
unfolding nothing
loop-change-preserved c =
    let periods = c.args.self.now.periods in
    let changed = c.args.changed.now in
    let i = c.loop-change.change-index in
    let change : Change = get_or changed i nothing in
    let told : ℕ → Told = λ n. record { n = n; field = change.field; value = change.value } in
    let more = mapped_more (write_at periods) changed i nothing c.loop-change-test.true in
    let by : Option ℕ → List Told = λ o. filter_map (write_at periods) (take i changed) ++ cons_option (option_map told o) [] in
    elim c.match-period.branch [
      | in-Some+in_ok-push w ↦ (let fits : SFits w64 change.value = search rules in
          ap (λ v. map write_of v.items) w.writes-is ∙ ap (λ (l : List OwnWrite). map write_of l) w.in_ok-push.ensures.items
          ∙ ap (λ v. map write_of (c.loop-change.writes.items ++ record { n = w.in-Some.n; field = change.field; value = v } ∷ [])) (to_z-of_z w64 change.value fits)
          ∙ map-append write_of c.loop-change.writes.items (record { n = w.in-Some.n; field = change.field; value = change.value } ∷ [])
          ∙ ap (λ (l : List Told). l ++ told w.in-Some.n ∷ []) c.loop-change.invariant ∙ ap by (sym w.in-Some.is ∙ c.period.ensures) ∙ sym more)
      | in_default w ↦ ap (λ v. map write_of v.items) w.writes-is ∙ c.loop-change.invariant ∙ sym (append-nil (filter_map (write_at periods) (take i changed)))
          ∙ ap by (sym w.in_default.is ∙ c.period.ensures) ∙ sym more
    ]
