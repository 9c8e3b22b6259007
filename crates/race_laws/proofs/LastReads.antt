-- The last read of a field among many: its version, and its value, are what the races' rules and the laws on copies speak of.
use Rattle.std.proofs.Common.{◌≡◌, ℕ, ℤ, Bool, true, false, ◌==◌, List, [], ◌∷◌, ◌++◌, Option, Some, None, refl, sym, ap, ◌∙◌, subst}
use Rattle.std.specs.Prelude.{if◌then◌else◌, option_map, reverse}
use Rattle.std.specs.Option.{option_or}
use Rattle.std.specs.List.{AllByRecursion}
use Rattle.std.proofs.lemmas.Bool.{and_parts, eqb-true}
use Rattle.std.proofs.lemmas.List.{reverse-append, reverse-reverse}
use Rattle.tn_types.specs.declared.choices.Read.{Read}
use Rattle.pair_core.specs.History.{PairStep, Show, Hide, Near, Post, ClientPost, Sample, Pack, ClientPack, Down, Up, Raw}
use Rattle.pair_copies.specs.Reads.{newest_in}
use Rattle.pair_copies.specs.Reads as copies
use Rattle.legal_race.specs.race_history.kept_pair.StepLists.{reads_in}
use Rattle.legal_race.specs.race_reads.Reads.{is_read_of, or_earlier}
use Rattle.legal_race.specs.race_reads.Reads as races
use Rattle.legal_race.specs.race_reads.Legal.{reads_of}

abbrev pub if-read : Bool → Read → Option Read
if-read b r = if b then Some r else None

-- the last one that is of the field
abbrev pub last_of : List Read → ℕ → ℕ → Option Read
last_of [] n f = None
last_of (r ∷ reads) n f = option_or (last_of reads n f) (if-read (is_read_of n f r) r)

-- ---- its version

version-step : (later : Option Read) (b : Bool) (r : Read)
    → or_earlier (option_map (λ (x : Read). x.version) later) b r.version ≡ option_map (λ (x : Read). x.version) (option_or later (if-read b r))
version-step None true r = refl
version-step None false r = refl
version-step (Some x) b r = refl

pub version_is : (reads : List Read) (n f : ℕ) → races.last_read reads n f ≡ option_map (λ (r : Read). r.version) (last_of reads n f)
version_is [] n f = refl
version_is (r ∷ reads) n f =
    ap (λ o. or_earlier o (is_read_of n f r) r.version) (version_is reads n f) ∙ version-step (last_of reads n f) (is_read_of n f r) r

-- ---- its value

abbrev value-of : Option Read → Option ℤ
value-of o = option_map (λ (r : Read). r.value) o

value-step : (later : Option Read) (b : Bool) (r : Read) (older : Option ℤ)
    → option_or (value-of later) (if b then Some r.value else older) ≡ option_or (value-of (option_or later (if-read b r))) older
value-step None true r older = refl
value-step None false r older = refl
value-step (Some x) b r older = refl

newest-is : (reads : List Read) (n f : ℕ) (older : Option ℤ) → newest_in reads n f older ≡ option_or (value-of (last_of reads n f)) older
newest-is [] n f older = refl
newest-is (r ∷ reads) n f older =
    newest-is reads n f (if is_read_of n f r then Some r.value else older) ∙ value-step (last_of reads n f) (is_read_of n f r) r older

-- ---- of steps

or-assoc : (a b c : Option Read) → option_or (option_or a b) c ≡ option_or a (option_or b c)
or-assoc None b c = refl
or-assoc (Some x) b c = refl

or-none : (a : Option Read) → option_or a None ≡ a
or-none None = refl
or-none (Some x) = refl

last-append : (xs ys : List Read) (n f : ℕ) → last_of (xs ++ ys) n f ≡ option_or (last_of ys n f) (last_of xs n f)
last-append [] ys n f = sym (or-none (last_of ys n f))
last-append (r ∷ xs) ys n f =
    ap (λ o. option_or o (if-read (is_read_of n f r) r)) (last-append xs ys n f)
    ∙ or-assoc (last_of ys n f) (last_of xs n f) (if-read (is_read_of n f r) r)

reads-append : (xs ys : List PairStep) → reads_of (xs ++ ys) ≡ reads_of xs ++ reads_of ys
reads-append [] ys = refl
reads-append (step ∷ xs) ys = ap (λ (l : List Read). reads_in (Some step) ++ l) (reads-append xs ys) ∙ sym (assoc (reads_in (Some step)) (reads_of xs) (reads_of ys))
  where
    assoc : (a b c : List Read) → (a ++ b) ++ c ≡ a ++ (b ++ c)
    assoc [] b c = refl
    assoc (x ∷ a) b c = ap (λ (l : List Read). x ∷ l) (assoc a b c)

no-more : (l : List Read) → l ++ [] ≡ l
no-more [] = refl
no-more (x ∷ l) = ap (λ (k : List Read). x ∷ k) (no-more l)

-- a step behind others
last-more : (steps : List PairStep) (step : PairStep) (n f : ℕ)
    → last_of (reads_of (steps ++ step ∷ [])) n f ≡ option_or (last_of (reads_in (Some step)) n f) (last_of (reads_of steps) n f)
last-more steps step n f =
    ap (λ l. last_of l n f) (reads-append steps (step ∷ []) ∙ ap (λ (l : List Read). reads_of steps ++ l) (no-more (reads_in (Some step))))
    ∙ last-append (reads_of steps) (reads_in (Some step)) n f

-- what was read last of a field, where the newest step stands first
value-more : (step : PairStep) (past : List PairStep) (n f : ℕ)
    → copies.last_read (step ∷ past) n f ≡ option_or (value-of (last_of (reads_in (Some step)) n f)) (copies.last_read past n f)
value-more (Pack drains reads) past n f = newest-is reads n f (copies.last_read past n f)
value-more (Show kind block level control) past n f = refl
value-more (Hide m) past n f = refl
value-more (Near m level) past n f = refl
value-more (Post class v) past n f = refl
value-more (ClientPost class v) past n f = refl
value-more (Sample m) past n f = refl
value-more ClientPack past n f = refl
value-more (Down k) past n f = refl
value-more (Up k room) past n f = refl
value-more (Raw bytes room) past n f = refl

or-value : (a b : Option Read) → value-of (option_or a b) ≡ option_or (value-of a) (value-of b)
or-value None b = refl
or-value (Some x) b = refl

value-past : (past : List PairStep) (n f : ℕ) → copies.last_read past n f ≡ value-of (last_of (reads_of (reverse past)) n f)
value-past [] n f = refl
value-past (step ∷ past) n f =
    value-more step past n f
    ∙ ap (option_or (value-of (last_of (reads_in (Some step)) n f))) (value-past past n f)
    ∙ sym (or-value (last_of (reads_in (Some step)) n f) (last_of (reads_of (reverse past)) n f))
    ∙ sym (ap (λ o. value-of o) (last-more (reverse past) step n f))
    ∙ sym (ap (λ l. value-of (last_of (reads_of l) n f)) (reverse-append (step ∷ []) past))

pub value_is : (steps : List PairStep) (n f : ℕ) → copies.last_read (reverse steps) n f ≡ value-of (last_of (reads_of steps) n f)
value_is steps n f = value-past (reverse steps) n f ∙ ap (λ l. value-of (last_of (reads_of l) n f)) (reverse-reverse steps)

-- ---- what it is

pub record IsOf (P : Read → Type 0) (n f : ℕ) (r : Read) : Type 0 where
  pub holds : P r
  pub period : r.n ≡ n
  pub field : r.field ≡ f

-- what holds of all reads holds of the last one
pub last_holds : (P : Read → Type 0) (reads : List Read) (n f : ℕ) (r : Read) → AllByRecursion P reads → last_of reads n f ≡ Some r → IsOf P n f r
last_holds P [] n f r all is = absurd (cc)
last_holds P (x ∷ reads) n f r all is =
    by (λ e. last_holds P reads n f r all.1 e) (last_of reads n f) refl (is_read_of n f x) refl is
  where
    here : is_read_of n f x ≡ true → x ≡ r → IsOf P n f r
    here e same =
        let parts = and_parts (x.n == n) (x.field == f) e in
        subst (IsOf P n f) same (record { holds = all.0; period = eqb-true x.n n parts.0; field = eqb-true x.field f parts.1 })

    by : (last_of reads n f ≡ Some r → IsOf P n f r) → (o : Option Read) → last_of reads n f ≡ o → (b : Bool) → is_read_of n f x ≡ b
        → option_or o (if-read b x) ≡ Some r → IsOf P n f r
    by later (Some y) found b e is = later (found ∙ is)
    by later None found true e is = here e (let same : x ≡ r = cc in same)
    by later None found false e is = absurd (cc)
