use Rattle.std.proofs.Common.{◌≡◌, ◌∙◌, ℕ, ◌≤◌, List, [], ◌∷◌, ◌++◌, length, Some, sym, ap, subst}
use Rattle.std.specs.Option.{option_copied}
use Rattle.std.specs.List.{AllByRecursion}
use Rattle.std.proofs.lemmas.List.{append-nil}
use Rattle.tn_outside.specs.Totals.{Adds, AddsFront}
use Rattle.tn_outside.proofs.Totals.{adds_nothing}
use Rattle.match_engine.specs.Match.{last_told}
use Rattle.demo_format.specs.Records.{spell_record, spell_records, IsRecord}
use Rattle.demo_record.specs.Recording.{place_taken}
use Rattle.demo_record.proofs.More.{sent-bytes, none-taken, never-none, same-some, map-ok, map-err}
use Rattle.demo_record.proofs.recording.note.Goals as goal

pub returns-in_default-place_taken-clause-written : goal.returns-in_default-place_taken-clause-written
returns-in_default-place_taken-clause-written g c line past s =
    let w = g.K.Sink.written c.args.sink.now in
    let told : Some c.in-Some.told.now ≡ last_told c.args.game.now.script.head (line ∷ past) = sym (ap (λ o. option_copied o) c.in-Some.is) ∙ c.told.ensures.last (line ∷ past) s in
    let none = none-taken c.args.game.now line past c.args.client c.in-Some.told.now told (sym c.place_taken.ensures ∙ c.in_default-place_taken.is) in
    subst (λ (l : List (List ℕ)). Adds w w (spell_records l)) (sym none) (adds_nothing w)

pub returns-in_default-place_taken-clause-short : goal.returns-in_default-place_taken-clause-short
returns-in_default-place_taken-clause-short g c line past s =
    let told : Some c.in-Some.told.now ≡ last_told c.args.game.now.script.head (line ∷ past) = sym (ap (λ o. option_copied o) c.in-Some.is) ∙ c.told.ensures.last (line ∷ past) s in
    let none = none-taken c.args.game.now line past c.args.client c.in-Some.told.now told (sym c.place_taken.ensures ∙ c.in_default-place_taken.is) in
    subst (λ (l : List (List ℕ)). AllByRecursion IsRecord l) (sym none) tt

pub unreachable-requires-in_default-datagram : goal.unreachable-requires-in_default-datagram
unreachable-requires-in_default-datagram g c =
    let r = c.requires.stands in
    let told : Some c.in-Some.told.now ≡ last_told c.args.game.now.script.head (r.0 ∷ r.1) = sym (ap (λ o. option_copied o) c.in-Some.is) ∙ c.told.ensures.last (r.0 ∷ r.1) r.2 in
    let n = sent-bytes c.args.game.now r.0 r.1 r.2 c.args.client c.in-Some-place_taken.k c.requires.client c.in-Some.told.now told (sym c.place_taken.ensures ∙ c.in-Some-place_taken.is) c.pair.result.now c.pair.ensures in
    never-none (sym (ap (λ o. option_copied o) c.in_default-datagram.is) ∙ c.datagram.ensures.value ∙ n.1.sent)

pub put_record-requires : goal.put_record-requires
put_record-requires g c =
    let r = c.requires.stands in
    let told : Some c.in-Some.told.now ≡ last_told c.args.game.now.script.head (r.0 ∷ r.1) = sym (ap (λ o. option_copied o) c.in-Some.is) ∙ c.told.ensures.last (r.0 ∷ r.1) r.2 in
    let n = sent-bytes c.args.game.now r.0 r.1 r.2 c.args.client c.in-Some-place_taken.k c.requires.client c.in-Some.told.now told (sym c.place_taken.ensures ∙ c.in-Some-place_taken.is) c.pair.result.now c.pair.ensures in
    let same : c.in-Some-datagram.bytes.now ≡ n.0 = same-some _ _ (sym (ap (λ o. option_copied o) c.in-Some-datagram.is) ∙ c.datagram.ensures.value ∙ n.1.sent) in
    record { some = subst (λ (l : List ℕ). 1 ≤ length l) (sym same) n.1.some; most = c.in-Some-datagram.ensures.fits }

pub returns-clause-written : goal.returns-clause-written
returns-clause-written g c =
    let w = g.K.Sink.written c.args.sink.now in
    let w' = g.K.Sink.written c.hand_on.new.sink in
    map-ok c.hand_on.result (λ (adds : Adds w w' c.as_slice.result.now) line past s.
    let told : Some c.in-Some.told.now ≡ last_told c.args.game.now.script.head (line ∷ past) = sym (ap (λ o. option_copied o) c.in-Some.is) ∙ c.told.ensures.last (line ∷ past) s in
    let n = sent-bytes c.args.game.now line past s c.args.client c.in-Some-place_taken.k c.requires.client c.in-Some.told.now told (sym c.place_taken.ensures ∙ c.in-Some-place_taken.is) c.pair.result.now c.pair.ensures in
    let same : c.in-Some-datagram.bytes.now ≡ n.0 = same-some _ _ (sym (ap (λ o. option_copied o) c.in-Some-datagram.is) ∙ c.datagram.ensures.value ∙ n.1.sent) in
    let piece : c.as_slice.result.now ≡ spell_records (n.0 ∷ []) =
    c.as_slice.ensures.value ∙ c.in-Ok.ensures ∙ ap (λ (l : List ℕ). l ++ spell_record c.in-Some-datagram.bytes.now) c.clear.ensures.items ∙ ap spell_record same ∙ sym (append-nil (spell_record n.0)) in
    subst (λ (l : List ℕ). Adds w w' l) (piece ∙ ap (λ (l : List (List ℕ)). spell_records l) (sym n.1.taken)) adds) c.hand_on.ensures.written

pub returns-clause-front : goal.returns-clause-front
returns-clause-front g c =
    let w = g.K.Sink.written c.args.sink.now in
    let w' = g.K.Sink.written c.hand_on.new.sink in
    map-err c.hand_on.result (λ (adds : AddsFront w w' c.as_slice.result.now) line past s.
    let told : Some c.in-Some.told.now ≡ last_told c.args.game.now.script.head (line ∷ past) = sym (ap (λ o. option_copied o) c.in-Some.is) ∙ c.told.ensures.last (line ∷ past) s in
    let n = sent-bytes c.args.game.now line past s c.args.client c.in-Some-place_taken.k c.requires.client c.in-Some.told.now told (sym c.place_taken.ensures ∙ c.in-Some-place_taken.is) c.pair.result.now c.pair.ensures in
    let same : c.in-Some-datagram.bytes.now ≡ n.0 = same-some _ _ (sym (ap (λ o. option_copied o) c.in-Some-datagram.is) ∙ c.datagram.ensures.value ∙ n.1.sent) in
    let piece : c.as_slice.result.now ≡ spell_records (n.0 ∷ []) =
    c.as_slice.ensures.value ∙ c.in-Ok.ensures ∙ ap (λ (l : List ℕ). l ++ spell_record c.in-Some-datagram.bytes.now) c.clear.ensures.items ∙ ap spell_record same ∙ sym (append-nil (spell_record n.0)) in
    subst (λ (l : List ℕ). AddsFront w w' l) (piece ∙ ap (λ (l : List (List ℕ)). spell_records l) (sym n.1.taken)) adds) c.hand_on.ensures.front

pub returns-clause-short : goal.returns-clause-short
returns-clause-short g c =
    let w = g.K.Sink.written c.args.sink.now in
    let w' = g.K.Sink.written c.hand_on.new.sink in
    map-ok c.hand_on.result (λ (adds : Adds w w' c.as_slice.result.now) line past s.
    let told : Some c.in-Some.told.now ≡ last_told c.args.game.now.script.head (line ∷ past) = sym (ap (λ o. option_copied o) c.in-Some.is) ∙ c.told.ensures.last (line ∷ past) s in
    let n = sent-bytes c.args.game.now line past s c.args.client c.in-Some-place_taken.k c.requires.client c.in-Some.told.now told (sym c.place_taken.ensures ∙ c.in-Some-place_taken.is) c.pair.result.now c.pair.ensures in
    let same : c.in-Some-datagram.bytes.now ≡ n.0 = same-some _ _ (sym (ap (λ o. option_copied o) c.in-Some-datagram.is) ∙ c.datagram.ensures.value ∙ n.1.sent) in
    let is : IsRecord n.0 = record { some = n.1.some; most = subst (λ (l : List ℕ). length l ≤ 1200) same c.in-Some-datagram.ensures.fits } in
    subst (λ (l : List (List ℕ)). AllByRecursion IsRecord l) (sym n.1.taken) (is, tt)) c.hand_on.ensures.written
