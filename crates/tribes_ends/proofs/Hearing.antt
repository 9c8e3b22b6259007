-- What a timeline takes: no call is refused, and what each adds adds up.
use Rattle.std.proofs.Common.{◌≡◌, ◌∙◌, ℕ, zero, suc, ◌+◌, ◌*◌, ◌/◌, ◌<◌, Bool, true, false, cond, ◌||◌, ◌==◌, List, [], ◌∷◌, ◌++◌, length, take, drop, get_or, Option, Some, None, Ok, Err, refl, sym, ap, subst, arith, append_assoc, append-nil, add-one}
use Rattle.std.specs.Prelude.{ℤ, pos, ◌+ℤ◌, nat_lt, nat_le, slice_get, All, IsTrue}
use Rattle.std.specs.Option.{option_or, option_map, option_and_then}
use Rattle.std.specs.Result.{result_err}
use Rattle.std.proofs.Math.Seq.{drop-cons}
use Rattle.std.proofs.Math.Nat.{mul_comm, mul_assoc}
use Rattle.std.proofs.lemmas.Nat.{div-mul-add}
use Rattle.std.proofs.lemmas.List.{take_more}
use Rattle.std.proofs.lemmas.Bool.Decides.{nat_tests}
use Rattle.std.proofs.lemmas.Option.{slice_get-get_or, same_Some}
use Rattle.tn_types.specs.Checks.{Checked, then_check}
use Rattle.tn_types.specs.BitWords.{has_bit}
use Rattle.tn_types.specs.declared.limits.TheConstants.{MAX_LIFE}
use Rattle.wire_format.specs.declared.ghosts.GhostItem.{GhostItem}
use Rattle.wire_format.specs.declared.ghosts.GhostItem.TheVariants.{Kill, Create, Update}
use Rattle.timeline.specs.declared.refusal.Refusal.{Refusal}
use Rattle.timeline.specs.declared.refusal.Refusal.TheVariants.{NoSlot, NoPacket, GoesBack, NoKind}
use Rattle.timeline.specs.Telling.{Told}
use Rattle.timeline.specs.Standing.{Drawing, StandsFor, Hears, KeepsShape, slot_check, packet_check, kind_check}
use Rattle.quantised_fields.specs.declared.field.FieldSpec.{FieldSpec}
use Rattle.quantised_fields.specs.declared.kind.Kind.{Kind}
use Rattle.quantised_fields.specs.Kinds.{IsWithinLimits}
use Rattle.quantised_fields.specs.Levels.{is_sound, range_of, greatest_of, shown_in, shown_of}
use Rattle.ghost_client.specs.declared.copy.GhostCopy.{GhostCopy}
use Rattle.ghost_client.specs.State.{State, IsInRange, copy_in, field_value, value_of}
use Rattle.ghost_client.proofs.OfKind.{level_fits, slice_get_in}
use Rattle.stream_manager.specs.Stands.{ClientState}
use Rattle.stream_manager.specs.ClientCalls.{Answers}
use Rattle.tribes_ends.specs.Drawing.{FitFields, value_shown, told_value, told_field, told_fields, told_item, told_items, item_fault, items_fault, hearing_fault, packet_of, HearsOf}

-- ---- checks that pass

test-passed : (b : Bool) (e : Refusal) (rest : Checked Refusal) → cond b (Err e) rest ≡ Ok tt → b ≡ false
test-passed false e rest h = refl
test-passed true e rest h = absurd (cc)

-- a packet that may tell may tell more
pub still_heard : (old new : Drawing) (packet : ℕ) → packet_check old packet ≡ Ok tt → new.latest ≡ packet → packet_check new packet ≡ Ok tt
still_heard old new packet h e =
    let low : (packet == 0 || nat_lt MAX_LIFE packet) ≡ false = test-passed (packet == 0 || nat_lt MAX_LIFE packet) NoPacket (cond (nat_lt packet old.latest) (Err GoesBack) (Ok tt)) h in
    let same : nat_lt packet new.latest ≡ false = grind (arith, nat_tests) in
    ap (λ (b : Bool). cond b (Err NoPacket) (cond (nat_lt packet new.latest) (Err GoesBack) (Ok tt))) low
    ∙ ap (λ (b : Bool). cond b (Err GoesBack) (Ok tt)) same

-- ---- what is told one after another

pub hears-more : (a b c : Drawing) (before after : List Told) → Hears a before b → Hears b after c → Hears a (after ++ before) c
hears-more a b c before after h k log s = subst (StandsFor c) (sym (append_assoc after before log)) (k (before ++ log) (h log s))

pub keeps-more : (a b c : Drawing) → KeepsShape a b → KeepsShape b c → KeepsShape a c
keeps-more a b c h k = record { ways = k.ways ∙ h.ways; fields = k.fields ∙ h.fields; depth = k.depth ∙ h.depth; slots = k.slots ∙ h.slots }

-- ---- fields

none-of : (b : Bool) (packet slot field : ℕ) (o : Option ℤ) → o ≡ None → cond b (told_value packet slot field o) [] ≡ []
none-of true packet slot field o e = ap (told_value packet slot field) e
none-of false packet slot field o e = refl

-- of a slot that shows no value nothing is told
pub none-told : (packet slot mask count : ℕ) (value : ℕ → ℕ → Option ℤ) → ((field : ℕ) → value slot field ≡ None) → [] ≡ told_fields packet value slot mask count
none-told packet slot mask zero value none = refl
none-told packet slot mask (suc n) value none =
    none-told packet slot mask n value none
    ∙ sym (ap (λ l. l ++ told_fields packet value slot mask n) (none-of (has_bit mask n) packet slot n (value slot n) (none n)))

-- what a slot's copy shows, by its kind's fields and its levels
pub value-is : (fields : List FieldSpec) (levels : List ℕ) (field : ℕ) (spec : FieldSpec) (level : ℕ) → slice_get fields field ≡ Some spec → slice_get levels field ≡ Some level
    → value_shown fields levels field ≡ Some (shown_of spec level)
value-is fields levels field spec level a b =
    ap (option_and_then (λ s. option_map (shown_of s) (slice_get levels field))) a ∙ ap (option_map (shown_of spec)) b

pub value-here : (c : State) (slot field : ℕ) (copy : GhostCopy) (kind : Kind) → Some copy ≡ copy_in c.slots slot → Some kind ≡ slice_get c.kinds copy.kind
    → value_shown kind.fields copy.levels field ≡ value_of c slot field
value-here c slot field copy kind a b =
    ap (option_and_then (λ (k : Kind). value_shown k.fields copy.levels field)) b ∙ ap (option_and_then (field_value c.kinds field)) a

pub value-none : (c : State) (slot field : ℕ) (copy : GhostCopy) → Some copy ≡ copy_in c.slots slot → None ≡ slice_get c.kinds copy.kind → value_of c slot field ≡ None
value-none c slot field copy a b =
    sym (ap (option_and_then (λ (k : Kind). value_shown k.fields copy.levels field)) b ∙ ap (option_and_then (field_value c.kinds field)) a)

-- where a field has as many levels as values, each level shows the value so far above the least
own_level : (level greatest : ℕ) → 0 < greatest → shown_in level greatest greatest ≡ level
own_level level greatest some =
    let e : 2 * level * greatest ≡ level * (2 * greatest) = ap (λ n. n * greatest) (mul_comm 2 level) ∙ mul_assoc level 2 greatest in
    ap (λ n. (n + greatest) / (2 * greatest)) e ∙ div-mul-add level (2 * greatest) greatest (omega (arith, some))

pub own_value : (spec : FieldSpec) (level : ℕ) → 0 < greatest_of spec → range_of spec ≡ greatest_of spec → shown_of spec level ≡ spec.lo +ℤ pos level
own_value spec level some same =
    ap (λ (r : ℕ). spec.lo +ℤ pos (shown_in level r (greatest_of spec))) same ∙ ap (λ (n : ℕ). spec.lo +ℤ pos n) (own_level level (greatest_of spec) some)

sound-at : (fields : List FieldSpec) (field : ℕ) (spec : FieldSpec) → All (λ f. IsTrue (is_sound f)) fields → slice_get fields field ≡ Some spec → IsTrue (is_sound spec)
sound-at fields field spec all a =
    let less = slice_get_in fields field spec a in
    let same : get_or fields field spec ≡ spec = same_Some (get_or fields field spec) spec (sym (slice_get-get_or fields field spec less) ∙ a) in
    subst (λ f. IsTrue (is_sound f)) same (all field spec less)

pub fits-here : (kinds : List Kind) (copy : GhostCopy) (kind : Kind) → IsInRange kinds copy → Some kind ≡ slice_get kinds copy.kind → IsWithinLimits kind → FitFields kind.fields copy.levels
fits-here kinds copy kind range its limits field spec level a b = (sound-at kind.fields field spec limits.sound a, level_fits kinds copy range kind (sym its) field spec level a b)

-- a field of the mask, and one that is none of it
pub told-here : (packet slot mask field : ℕ) (value : ℕ → ℕ → Option ℤ) (o : Option ℤ) → has_bit mask field ≡ true → o ≡ value slot field
    → told_value packet slot field o ≡ told_field packet value slot mask field
told-here packet slot mask field value o t e = ap (told_value packet slot field) e ∙ sym (ap (λ (b : Bool). cond b (told_value packet slot field (value slot field)) []) t)

pub told-not : (packet slot mask field : ℕ) (value : ℕ → ℕ → Option ℤ) → has_bit mask field ≡ false → [] ≡ told_field packet value slot mask field
told-not packet slot mask field value f = sym (ap (λ (b : Bool). cond b (told_value packet slot field (value slot field)) []) f)

-- with what is told of the next field
pub field-heard : (a b c : Drawing) (packet slot mask field : ℕ) (value : ℕ → ℕ → Option ℤ) → Hears a (told_fields packet value slot mask field) b
    → Hears b (told_field packet value slot mask field) c → Hears a (told_fields packet value slot mask (field + 1)) c
field-heard a b c packet slot mask field value h k =
    subst (λ (n : ℕ). Hears a (told_fields packet value slot mask n) c) (sym (add-one field))
    (hears-more a b c (told_fields packet value slot mask field) (told_field packet value slot mask field) h k)

-- ---- items

slot-same : (a b : Drawing) (slot : ℕ) → KeepsShape a b → slot_check b slot ≡ slot_check a slot
slot-same a b slot k = ap (λ (n : ℕ). cond (nat_le n slot) (Err NoSlot) (Ok tt)) k.slots

kind-same : (a b : Drawing) (kind : ℕ) → KeepsShape a b → kind_check b kind ≡ kind_check a kind
kind-same a b kind k =
    ap (λ ways. cond (nat_le (length ways) (kind * b.fields)) (Err NoKind) (Ok tt)) k.ways
    ∙ ap (λ (n : ℕ). cond (nat_le (length a.ways) (kind * n)) (Err NoKind) (Ok tt)) k.fields

item-same : (a b : Drawing) (item : GhostItem) → KeepsShape a b → item_fault b item ≡ item_fault a item
item-same a b (Kill slot) k = ap result_err (slot-same a b slot k)
item-same a b (Create slot kind block levels) k =
    ap (λ c. result_err (then_check c (kind_check b kind))) (slot-same a b slot k) ∙ ap (λ c. result_err (then_check (slot_check a slot) c)) (kind-same a b kind k)
item-same a b (Update slot kind mask levels) k = ap result_err (slot-same a b slot k)

pub items-same : (a b : Drawing) (items : List GhostItem) → KeepsShape a b → items_fault b items ≡ items_fault a items
items-same a b [] k = refl
items-same a b (item ∷ items) k = ap (λ o. option_or o (items_fault b items)) (item-same a b item k) ∙ ap (option_or (item_fault a item)) (items-same a b items k)

rest-none : {E : Type 0} (a b : Option E) → option_or a b ≡ None → b ≡ None
rest-none None b h = h
rest-none (Some e) b h = absurd (cc)

module _ (items : List GhostItem) (i : ℕ) (item : GhostItem) (less : i < length items) (at : item ≡ get_or items i item) where
  cut : drop i items ≡ item ∷ drop (i + 1) items
  cut = drop-cons items i item less ∙ ap (λ x. x ∷ drop (suc i) items) (sym at) ∙ ap (λ n. item ∷ drop n items) (sym (add-one i))

  pub rest-of-none : (t : Drawing) → items_fault t (drop i items) ≡ None → items_fault t (drop (i + 1) items) ≡ None
  rest-of-none t h = rest-none (item_fault t item) (items_fault t (drop (i + 1) items)) (sym (ap (items_fault t) cut) ∙ h)

  pub told-more : (packet : ℕ) (value : ℕ → ℕ → Option ℤ) (fields : ℕ)
      → told_items packet value fields (take (i + 1) items) ≡ told_item packet value fields item ++ told_items packet value fields (take i items)
  told-more packet value fields =
      ap (told_items packet value fields) (take_more items i item less ∙ ap (λ x. take i items ++ x ∷ []) (sym at)) ∙ told-last packet value fields (take i items) item
    where
      told-last : (packet : ℕ) (value : ℕ → ℕ → Option ℤ) (fields : ℕ) (xs : List GhostItem) (x : GhostItem)
          → told_items packet value fields (xs ++ x ∷ []) ≡ told_item packet value fields x ++ told_items packet value fields xs
      told-last packet value fields [] x = sym (append-nil (told_item packet value fields x))
      told-last packet value fields (y ∷ ys) x =
          ap (λ l. l ++ told_item packet value fields y) (told-last packet value fields ys x)
          ∙ append_assoc (told_item packet value fields x) (told_items packet value fields ys) (told_item packet value fields y)

-- ---- the packet that a client took last

pub all_told : (c : ClientState) (old new : Drawing) (packet : ℕ) (copies : State) (items : List GhostItem) → Answers c packet_of packet → copies ≡ c.copies → items ≡ c.changes
    → Hears old (told_items packet (value_of copies) old.fields items) new → HearsOf c old new
all_told c old new packet copies items at same these h log s =
    let one : Hears old (told_items packet (value_of c.copies) old.fields items) new = subst (λ (k : State). Hears old (told_items packet (value_of k) old.fields items) new) same h in
    let two : Hears old (told_items packet (value_of c.copies) old.fields c.changes) new =
    subst (λ (l : List GhostItem). Hears old (told_items packet (value_of c.copies) old.fields l) new) these one in
    subst (λ (p : ℕ). Hears old (told_items p (value_of c.copies) old.fields c.changes) new) (at log s) two

pub all_refused : (c : ClientState) (t : Drawing) (packet : ℕ) (items : List GhostItem) (o : Option Refusal) → Answers c packet_of packet → items ≡ c.changes
    → o ≡ hearing_fault t packet items → Answers c (λ log. hearing_fault t (packet_of log) c.changes) o
all_refused c t packet items o at these is log s = is ∙ ap (hearing_fault t packet) these ∙ ap (λ p. hearing_fault t p c.changes) (at log s)
