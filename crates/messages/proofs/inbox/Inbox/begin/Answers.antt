use Rattle.std.proofs.Common.{◌≡◌, List, ◌∷◌, sym, subst}
use Rattle.std.specs.Prelude.{ℕ, Result, Ok, Err, OnOk}
use Rattle.tn_types.specs.Histories.{Does}
use Rattle.messages.specs.declared.form.Form.{Form}
use Rattle.messages.specs.declared.form.ParcelKind.TheVariants.{Event, Message}
use Rattle.messages.specs.declared.faults.PieceFault.{PieceFault}
use Rattle.messages.specs.Forms.{form_byte}
use Rattle.messages.specs.InboxState.{InboxState}
use Rattle.messages.specs.InboxStands.{Took, InboxStandsFor, TakesAlone}
use Rattle.messages.proofs.CutPieces.{event-pieces, short-message}
use Rattle.messages.proofs.inbox.Inbox.begin.Goals as goal

on-ok : (r : Result (Unit {0}) PieceFault) (P Q : Type 0) → (P → Q) → OnOk r P → OnOk r Q
on-ok (Ok x) P Q f h = f h
on-ok (Err e) P Q f h = tt

by-form : (old new : InboxState) (f g : Form) (bytes : List ℕ) → g ≡ f → Does InboxStandsFor old (Took (form_byte f ∷ bytes)) new → Does InboxStandsFor old (Took (form_byte g ∷ bytes)) new
by-form old new f g bytes e h = subst (λ (x : Form). Does InboxStandsFor old (Took (form_byte x ∷ bytes)) new) (sym e) h

pub returns-in-Short-clause-stands : goal.returns-in-Short-clause-stands
returns-in-Short-clause-stands c =
    on-ok c.take_alone.result (TakesAlone c.args.self.now Event c.args.bytes.now c.take_alone.new.self) _
    (λ h. by-form c.args.self.now c.take_alone.new.self _ c.args.form c.args.bytes.now c.in-Short.is (h (0 ∷ c.args.bytes.now) (event-pieces c.args.bytes.now)))
    c.take_alone.ensures.stands

pub returns-in-Alone-clause-stands : goal.returns-in-Alone-clause-stands
returns-in-Alone-clause-stands c =
    on-ok c.take_alone-in-Alone.result (TakesAlone c.args.self.now Message c.args.bytes.now c.take_alone-in-Alone.new.self) _
    (λ h. by-form c.args.self.now c.take_alone-in-Alone.new.self _ c.args.form c.args.bytes.now c.in-Alone.is (h (1 ∷ c.args.bytes.now) (short-message c.args.bytes.now c.requires.few)))
    c.take_alone-in-Alone.ensures.stands
