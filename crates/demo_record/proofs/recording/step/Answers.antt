use Rattle.std.proofs.Common.{◌≡◌, ◌∙◌, Ok, Bool, true, false, List, Some, reverse, take, sym, ap, subst}
use Rattle.std.specs.Prelude.{Result, slice_get}
use Rattle.std.proofs.lemmas.Result.{err_from_is_err_and}
use Rattle.tn_outside.specs.Totals.{AddsFront}
use Rattle.match_script.specs.declared.types.BodyLine.{BodyLine}
use Rattle.match_script.specs.declared.types.Script.{Script}
use Rattle.demo_format.specs.Records.{spell_records}
use Rattle.demo_record.specs.Recording.{taken_by}
use Rattle.match_engine.proofs.Continued.{few_done, more_lines}
use Rattle.demo_record.proofs.More.{played-next}
use Rattle.demo_record.proofs.recording.step.Goals as goal

not_both : {E : Type 0} (r : Result Bool E) (b : Bool) → r ≡ Ok b → b ≡ true → r ≡ Ok false → ⊥
not_both {E} r b is made ended = let e : ◌≡◌ {A = Result Bool E} (Ok true) (Ok false) = ap (λ (x : Bool). Ok x) (sym made) ∙ sym is ∙ ended in cc

pub note-requires-clause-stands : goal.note-requires-clause-stands
note-requires-clause-stands g c =
    let made = c.in-Ok-true.field-0-test in
    let place = c.next.ensures.place (c.in-Ok-true.is ∙ ap (λ (x : Bool). Ok x) made) in
    let played = c.in-Ok-true.ensures.played c.requires.played in
    let more = more_lines c.args.game.now c.next.new.self (λ past. not_both c.next.result c.in-Ok-true.field-0 c.in-Ok-true.is made (c.next.ensures.end.1 past)) c.next.ensures.script place played in
    played-next c.args.game.now c.next.new.self more c.next.ensures.script place played

pub next-requires-clause-few : goal.next-requires-clause-few
next-requires-clause-few g c = few_done c.args.game.now c.requires.played c.requires.ranges

pub returns-in_err-note-clause-front : goal.returns-in_err-note-clause-front
returns-in_err-note-clause-front g c =
    let p = err_from_is_err_and c.from_residual.result c.from_residual.ensures.1 in
    let made = c.in-Ok-true.is ∙ ap (λ (x : Bool). Ok x) c.in-Ok-true.field-0-test in
    let m = c.args.game.now in
    let w = g.K.Sink.written c.args.sink.now in
    let w' = g.K.Sink.written c.note.new.sink in
    let past : List BodyLine = reverse (take m.place m.script.body) in
    rw (p.1) (λ (line : BodyLine) (there : slice_get m.script.body m.place ≡ Some line).
    subst (λ (s : Script). AddsFront w w' (spell_records (taken_by s.head past c.args.client line))) c.next.ensures.script
    (c.in_err-note.ensures.front line past (c.next.ensures.stands made line there past c.requires.played)))
