-- Reads that are made one after another: none at all, and more behind others.
use Rattle.std.specs.Prelude.{◌≡◌, refl, true, List, [], ◌∷◌, ◌++◌}
use Rattle.std.specs.List.{AllByRecursion, AllZip}
use Rattle.std.proofs.Common.{◌∙◌, sym, ap, subst}
use Rattle.tn_types.specs.declared.choices.Read.{Read}
use Rattle.dirty_lanes.specs.declared.view.ReadField.{ReadField}
use Rattle.dirty_lanes.specs.declared.view.PackStep.{PackStep}
use Rattle.dirty_lanes.specs.declared.view.PackStep.TheVariants as step
use Rattle.lane_periods.specs.Periods.{PeriodList, has}
use Rattle.lane_periods.specs.Views.{IsTheRead, read_onto, ReadsOnto}

all_append : (P : Read → Type 0) (xs ys : List Read) → AllByRecursion P xs → AllByRecursion P ys → AllByRecursion P (xs ++ ys)
all_append P [] ys h k = k
all_append P (x ∷ xs) ys h k = (h.0, all_append P xs ys h.1 k)

pub zip_append : (R : ReadField → Read → Type 0) (us vs : List ReadField) (xs ys : List Read)
    → AllZip R us xs → AllZip R vs ys → AllZip R (us ++ vs) (xs ++ ys)
zip_append R [] vs [] ys h k = k
zip_append R [] vs (x ∷ xs) ys h k = absurd h
zip_append R (u ∷ us) vs [] ys h k = absurd h
zip_append R (u ∷ us) vs (x ∷ xs) ys h k = (h.0, zip_append R us vs xs ys h.1 k)

onto_append : (us vs : List ReadField) (view : List PackStep) → read_onto (us ++ vs) view ≡ read_onto vs (read_onto us view)
onto_append [] vs view = refl
onto_append (u ∷ us) vs view = onto_append us vs (step.Read u ∷ view)

pub reads_none : (p : PeriodList) (view : List PackStep) → ReadsOnto p view [] view
reads_none p view = record { added = []; each = tt; up = tt; onto = refl }

pub reads_more : (p q : PeriodList) (one two three : List PackStep) (first later : List Read) → q ≡ p
    → ReadsOnto p one first two → ReadsOnto q two later three → ReadsOnto p one (first ++ later) three
reads_more p q one two three first later same a b = record {
  added = a.added ++ c.added;
  each = zip_append (IsTheRead p.objects p.kinds p.table) a.added c.added first later a.each c.each;
  up = all_append (λ (r : Read). has r.n p.up ≡ true) first later a.up c.up;
  onto = c.onto ∙ ap (read_onto c.added) a.onto ∙ sym (onto_append a.added c.added one);
}
  where
    c : ReadsOnto p two later three
    c = subst (λ x. ReadsOnto x two later three) same b
