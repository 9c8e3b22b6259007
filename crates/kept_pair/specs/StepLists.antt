-- A list of steps that were made, the oldest first. A step that was given says of a pack no more than that it is one; what it
-- drained and read is kept beside it, behind that of all steps before.
use Rattle.std.specs.Prelude.{◌≡◌, refl, pos, ℕ, zero, suc, ◌-◌, ◌≤◌, Bool, true, false, Option, Some, List, [], ◌∷◌, take, drop, slice_get}
use Rattle.tn_types.specs.declared.choices.Drain.{Drain}
use Rattle.tn_types.specs.declared.choices.Read.{Read}
use Rattle.pair_core.specs.declared.step.PairStep.{PairStep as GivenStep}
use Rattle.pair_core.specs.declared.step.PairStep.TheVariants as given
use Rattle.pair_core.specs.History.{PairStep, Hide, Pack}
use Rattle.pair_core.specs.Calls.{step_of}
use Rattle.kept_pair.specs.declared.entry.Entry.{Entry}

-- what was made, whether there is room for one more step and its reads, and for how many drains of it
pub record Steps : Type 0 where
  pub list : List PairStep
  pub has_room : Bool
  pub drain_room : ℕ

-- the step that was made when this one was given, where a pack drained and read these
abbrev pub kept_of : GivenStep → List Drain → List Read → PairStep
kept_of given.Pack drains reads = Pack drains reads
kept_of other drains reads = step_of other

abbrev pub is_pack : GivenStep → Bool
is_pack given.Pack = true
is_pack other = false

-- what a step drained and read: nothing where it is no pack
abbrev pub drains_in : Option PairStep → List Drain
drains_in (Some (Pack drains reads)) = drains
drains_in other = []

abbrev pub reads_in : Option PairStep → List Read
reads_in (Some (Pack drains reads)) = reads
reads_in other = []

abbrev pub drains_at : List PairStep → ℕ → List Drain
drains_at steps i = drains_in (slice_get steps i)

abbrev pub reads_at : List PairStep → ℕ → List Read
reads_at steps i = reads_in (slice_get steps i)

-- ---- how they lie

-- from place a to place b
abbrev pub part : {A : Type 0} → ℕ → ℕ → List A → List A
part a b xs = take (b - a) (drop a xs)

-- each has the drains and reads from where those of the step before end
abbrev pub cut : ℕ → ℕ → List Entry → List Drain → List Read → List PairStep
cut d r [] drains reads = []
cut d r (e ∷ es) drains reads =
    kept_of e.step (part d e.drains_end drains) (part r e.reads_end reads) ∷ cut e.drains_end e.reads_end es drains reads

-- where the drains and the reads of a place begin
abbrev pub drains_start : ℕ → List Entry → ℕ → ℕ
drains_start d es zero = d
drains_start d [] (suc i) = d
drains_start d (e ∷ es) (suc i) = drains_start e.drains_end es i

abbrev pub reads_start : ℕ → List Entry → ℕ → ℕ
reads_start r es zero = r
reads_start r [] (suc i) = r
reads_start r (e ∷ es) (suc i) = reads_start e.reads_end es i

-- ends rise, from the starts to the numbers of all drains and reads
abbrev pub Rise : ℕ → ℕ → List Entry → ℕ → ℕ → Type 0
Rise d r [] drains reads = (d ≡ drains) × (r ≡ reads)
Rise d r (e ∷ es) drains reads = (d ≤ e.drains_end) × (r ≤ e.reads_end) × Rise e.drains_end e.reads_end es drains reads

-- ---- examples: period 4 is hidden, and then a pack drains period 7 and reads two of its fields

hide_and_pack : List Entry
hide_and_pack = record { step = given.Hide 4; drains_end = 0; reads_end = 0 } ∷ record { step = given.Pack; drains_end = 1; reads_end = 2 } ∷ []

one_drain : List Drain
one_drain = record { n = 7; bits = 6 } ∷ []

two_reads : List Read
two_reads = record { n = 7; field = 1; version = 3; value = pos 5 } ∷ record { n = 7; field = 2; version = 1; value = pos 0 } ∷ []

two_steps : cut 0 0 hide_and_pack one_drain two_reads ≡ Hide 4 ∷ Pack one_drain two_reads ∷ []
unfolding hide_and_pack one_drain two_reads
two_steps = refl

hide_reads_nothing : reads_at (Hide 4 ∷ Pack one_drain two_reads ∷ []) 0 ≡ []
hide_reads_nothing = refl
