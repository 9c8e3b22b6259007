-- Storing some fields and then others is storing both.
use Rattle.std.proofs.Common.{◌≡◌, ℕ, ◌+◌, Bool, true, false, ◌&&◌, ◌||◌, ◌==◌, if◌then◌else◌, List, ◌∙◌, refl, sym, ap, subst, arith, nat_lt}
use Rattle.std.specs.Prelude.{is_some}
use Rattle.std.proofs.lemmas.Bool.Decides.{nat_tests}
use Rattle.tn_types.specs.BitWords.{has_bit}
use Rattle.dirty_lanes.specs.declared.limits.TheConstants.{MAX_LANE_FIELDS}
use Rattle.dirty_lanes.specs.declared.view.SimStep.{SimStep}
use Rattle.dirty_lanes.specs.Views.{newest, newest_value}
use Rattle.world_sim.specs.Worlds.{Worlds, value_at, version_at}
use Rattle.world_lanes.specs.Behind.{is_unwritten, is_behind, fields_below, objects_below, IsWordOf, Brings}

-- the same place is behind where it was written as often
pub behind_by : (w : Worlds) (a b : List SimStep) (o f : ℕ) → newest b o f ≡ newest a o f → is_behind w b o f ≡ is_behind w a o f
behind_by w a b o f same = ap (λ (n : ℕ). is_some (value_at w o f) && is_unwritten n (version_at w o f)) same

-- one place of two storings
record One (chosen behind : Bool) (version value version' value' : ℕ) (P : ℕ → Type 0) : Type 0 where
  pub versions : version' ≡ (if chosen && behind then version + 1 else version)
  pub values : (chosen && behind) ≡ true → P value'
  pub others : (chosen && behind) ≡ false → value' ≡ value

chain : (d n ba bb : Bool) (na va nb vb nc vc : ℕ) (P : ℕ → Type 0) → (d && n) ≡ false → (nb ≡ na → bb ≡ ba)
    → One d ba na va nb vb P → One n bb nb vb nc vc P → One (d || n) ba na va nc vc P
chain true true ba bb na va nb vb nc vc P alone same x y = absurd (cc)
chain true false true bb na va nb vb nc vc P alone same x y = record {
  versions = y.versions ∙ x.versions;
  values = λ e. subst P (sym (y.others refl)) (x.values refl);
  others = λ e. absurd (cc);
}
chain true false false bb na va nb vb nc vc P alone same x y = record {
  versions = y.versions ∙ x.versions;
  values = λ e. absurd (cc);
  others = λ e. y.others refl ∙ x.others refl;
}
chain false true ba bb na va nb vb nc vc P alone same x y =
    let now : bb ≡ ba = same x.versions in
    let z : One true ba nb vb nc vc P = subst (λ (b : Bool). One true b nb vb nc vc P) now y in
    record {
      versions = subst (λ (m : ℕ). nc ≡ (if true && ba then m + 1 else m)) x.versions z.versions;
      values = z.values;
      others = λ e. z.others e ∙ x.others refl;
    }
chain false false ba bb na va nb vb nc vc P alone same x y = record {
  versions = y.versions ∙ x.versions;
  values = λ e. absurd (cc);
  others = λ e. y.others refl ∙ x.others refl;
}

module _ (w : Worlds) (first second both : ℕ → ℕ → Bool) (a b c : List SimStep) where
  pub brings_more : Brings w first a b → Brings w second b c → ((o f : ℕ) → (first o f && second o f) ≡ false)
      → ((o f : ℕ) → both o f ≡ (first o f || second o f)) → Brings w both a c
  brings_more x y apart all =
      let at : (o f : ℕ) → One (both o f) (is_behind w a o f) (newest a o f) (newest_value a o f) (newest c o f) (newest_value c o f) (IsWordOf w o f) = λ o f.
      subst (λ (d : Bool). One d (is_behind w a o f) (newest a o f) (newest_value a o f) (newest c o f) (newest_value c o f) (IsWordOf w o f)) (sym (all o f))
      (chain (first o f) (second o f) (is_behind w a o f) (is_behind w b o f) (newest a o f) (newest_value a o f) (newest b o f) (newest_value b o f) (newest c o f) (newest_value c o f) (IsWordOf w o f)
      (apart o f) (behind_by w a b o f)
      (record { versions = x.versions o f; values = x.values o f; others = x.others o f })
      (record { versions = y.versions o f; values = y.values o f; others = y.others o f })) in
      record { versions = λ o f. (at o f).versions; values = λ o f. (at o f).values; others = λ o f. (at o f).others }

-- one choice does what another does that has the same of what the lanes are behind in
pub brings_by : (w : Worlds) (first second : ℕ → ℕ → Bool) (a b : List SimStep) → ((o f : ℕ) → (first o f && is_behind w a o f) ≡ (second o f && is_behind w a o f))
    → Brings w first a b → Brings w second a b
brings_by w first second a b same x = record {
  versions = λ o f. x.versions o f ∙ ap (λ (t : Bool). if t then newest a o f + 1 else newest a o f) (same o f);
  values = λ o f e. x.values o f (same o f ∙ e);
  others = λ o f e. x.others o f (same o f ∙ e);
}

-- nothing was chosen
pub brings_none : (w : Worlds) (chosen : ℕ → ℕ → Bool) (a : List SimStep) → ((o f : ℕ) → chosen o f ≡ false) → Brings w chosen a a
brings_none w chosen a none =
    let at : (o f : ℕ) → One (chosen o f) (is_behind w a o f) (newest a o f) (newest_value a o f) (newest a o f) (newest_value a o f) (IsWordOf w o f) = λ o f.
    subst (λ (d : Bool). One d (is_behind w a o f) (newest a o f) (newest_value a o f) (newest a o f) (newest_value a o f) (IsWordOf w o f)) (sym (none o f))
    (record { versions = refl; values = λ e. absurd (cc); others = λ e. refl }) in
    record { versions = λ o f. (at o f).versions; values = λ o f. (at o f).values; others = λ o f. (at o f).others }

-- ---- fields and objects one after another

pub one_more : (f k : ℕ) → nat_lt f (k + 1) ≡ (nat_lt f k || (f == k))
one_more f k = grind (arith, nat_tests)

pub below_other : (f k : ℕ) → nat_lt f k ≡ true → (f == k) ≡ false
below_other f k e = grind (arith, nat_tests)

pub same_place : (f k : ℕ) → (f == k) ≡ true → f ≡ k
same_place f k e = grind (arith, nat_tests)

self_below : (k : ℕ) → nat_lt k k ≡ false
self_below k = grind (arith, nat_tests)

and_false : (b : Bool) → (b && false) ≡ false
and_false true = refl
and_false false = refl

-- a place that was not chosen has as many versions as before
pub unchosen : (w : Worlds) (chosen : ℕ → ℕ → Bool) (a b : List SimStep) (o f : ℕ) → Brings w chosen a b → chosen o f ≡ false → newest b o f ≡ newest a o f
unchosen w chosen a b o f x out =
    x.versions o f ∙ ap (λ (t : Bool). if t && is_behind w a o f then newest a o f + 1 else newest a o f) out

pub unstored : (w : Worlds) (object k : ℕ) (a b : List SimStep) → Brings w (fields_below object k) a b → newest b object k ≡ newest a object k
unstored w object k a b x = unchosen w (fields_below object k) a b object k x (ap (λ (t : Bool). (object == object) && t) (self_below k) ∙ and_false (object == object))

apart_in : (e lt eq : Bool) → (lt ≡ true → eq ≡ false) → ((e && lt) && (e && eq)) ≡ false
apart_in true true eq alone = alone refl
apart_in true false eq alone = refl
apart_in false lt eq alone = refl

both_in : (e lt eq : Bool) → (e && (lt || eq)) ≡ ((e && lt) || (e && eq))
both_in true lt eq = refl
both_in false lt eq = refl

pub one_field_more : (w : Worlds) (object k : ℕ) (a b c : List SimStep) → Brings w (fields_below object k) a b
    → Brings w (λ o f. (o == object) && (f == k)) b c → Brings w (fields_below object (k + 1)) a c
one_field_more w object k a b c x y = brings_more w (fields_below object k) (λ o f. (o == object) && (f == k)) (fields_below object (k + 1)) a b c x y
    (λ o f. apart_in (o == object) (nat_lt f k) (f == k) (below_other f k))
    (λ o f. ap (λ (t : Bool). (o == object) && t) (one_more f k) ∙ both_in (o == object) (nat_lt f k) (f == k))

apart_out : (e lt eq : Bool) → (lt ≡ true → eq ≡ false) → ((lt && e) && (eq && e)) ≡ false
apart_out true true true alone = let wrong : true ≡ false = alone refl in absurd (cc)
apart_out true true false alone = refl
apart_out true false eq alone = refl
apart_out false true eq alone = refl
apart_out false false eq alone = refl

both_out : (e lt eq : Bool) → ((lt || eq) && e) ≡ ((lt && e) || (eq && e))
both_out true true eq = refl
both_out true false true = refl
both_out true false false = refl
both_out false true true = refl
both_out false true false = refl
both_out false false true = refl
both_out false false false = refl

pub one_object_more : (w : Worlds) (k : ℕ) (a b c : List SimStep) → Brings w (objects_below k) a b
    → Brings w (fields_below k MAX_LANE_FIELDS) b c → Brings w (objects_below (k + 1)) a c
one_object_more w k a b c x y = brings_more w (objects_below k) (fields_below k MAX_LANE_FIELDS) (objects_below (k + 1)) a b c x y
    (λ o f. apart_out (nat_lt f MAX_LANE_FIELDS) (nat_lt o k) (o == k) (below_other o k))
    (λ o f. ap (λ (t : Bool). t && nat_lt f MAX_LANE_FIELDS) (one_more o k) ∙ both_out (nat_lt f MAX_LANE_FIELDS) (nat_lt o k) (o == k))

told_both : (lt eq e old here : Bool) → (lt ≡ true → eq ≡ false) → (eq ≡ true → here ≡ old)
    → (((lt && e) && old) || (eq && (e && here))) ≡ (((lt || eq) && e) && old)
told_both true true e old here alone same = let wrong : true ≡ false = alone refl in absurd (cc)
told_both true false true true here alone same = refl
told_both true false true false here alone same = refl
told_both true false false old here alone same = refl
told_both false true true old here alone same = same refl
told_both false true false old here alone same = refl
told_both false false e old here alone same = refl

turned : (k o : ℕ) → (k == o) ≡ (o == k)
turned k o = grind (arith, nat_tests)

-- what was told of the objects below this one, and what is told of it
pub told_of : (w : Worlds) (k : ℕ) (a b : List SimStep) (told : ℕ → ℕ → Bool) (bits : ℕ) → Brings w (objects_below k) a b
    → ((o f : ℕ) → told o f ≡ (objects_below k o f && is_behind w a o f))
    → ((f : ℕ) → has_bit bits f ≡ (nat_lt f MAX_LANE_FIELDS && is_behind w b k f))
    → (o f : ℕ) → (told o f || ((k == o) && has_bit bits f)) ≡ (objects_below (k + 1) o f && is_behind w a o f)
told_of w k a b told bits x below here o f =
    let same : (o == k) ≡ true → is_behind w b k f ≡ is_behind w a o f = λ e.
    behind_by w a b k f (unchosen w (objects_below k) a b k f x (ap (λ (t : Bool). t && nat_lt f MAX_LANE_FIELDS) (self_below k)))
    ∙ ap (λ (n : ℕ). is_behind w a n f) (sym (same_place o k e)) in
    ap (λ (t : Bool). t || ((k == o) && has_bit bits f)) (below o f)
    ∙ ap (λ (t : Bool). (objects_below k o f && is_behind w a o f) || ((k == o) && t)) (here f)
    ∙ ap (λ (t : Bool). (objects_below k o f && is_behind w a o f) || (t && (nat_lt f MAX_LANE_FIELDS && is_behind w b k f))) (turned k o)
    ∙ told_both (nat_lt o k) (o == k) (nat_lt f MAX_LANE_FIELDS) (is_behind w a o f) (is_behind w b k f) (below_other o k) same
    ∙ ap (λ (t : Bool). (t && nat_lt f MAX_LANE_FIELDS) && is_behind w a o f) (sym (one_more o k))
