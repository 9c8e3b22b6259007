-- Fields that are noted for a caller one after another.
use Rattle.std.proofs.Common.{◌≡◌, ◌∙◌, ℕ, ◌+◌, ◌<◌, Bool, true, false, cond, List, [], ◌∷◌, ◌++◌, length, take, set, sym, ap, append_assoc, append-nil}
use Rattle.std.specs.Prelude.{map, filter}
use Rattle.std.proofs.lemmas.List.{map-append, take_more_set}
use Rattle.tn_types.specs.BitWords.{has_bit}
use Rattle.tn_types.specs.declared.choices.Choice.{Choice}
use Rattle.ghost_model.specs.Words.{upto}
use Rattle.conn_packing.specs.Reads.{asked_by, asked_by_all}
use Rattle.conn_packing.proofs.Asked.{fields-first, fields-next, all-push}
use Rattle.tribes_ends.specs.declared.asking.Ask.{Ask}
use Rattle.tribes_ends.specs.Lists.{ask_of}

-- the fields of an item below one, as its caller reads them
abbrev pub asks_below : ℕ → ℕ → ℕ → List Ask
asks_below n mask f = map ask_of (map {B = ℕ × ℕ} (λ f. (n, f)) (filter (has_bit mask) (upto f)))

pub none-below : (n mask : ℕ) (before : List Ask) → before ≡ before ++ asks_below n mask 0
none-below n mask before = sym (ap (λ (l : List (ℕ × ℕ)). before ++ map ask_of l) (fields-first n mask) ∙ append-nil before)

one-more : (n mask f : ℕ) → asks_below n mask (f + 1) ≡ asks_below n mask f ++ map ask_of (cond (has_bit mask f) ((n, f) ∷ []) [])
one-more n mask f =
    ap (λ (l : List (ℕ × ℕ)). map ask_of l) (fields-next n mask f)
    ∙ map-append ask_of (map {B = ℕ × ℕ} (λ f. (n, f)) (filter (has_bit mask) (upto f))) (cond (has_bit mask f) ((n, f) ∷ []) [])

-- a field whose bit is set is noted behind the others, and one whose bit isn't is passed over
pub noted : (n mask f count : ℕ) (asks before : List Ask) → has_bit mask f ≡ true → count < length asks → take count asks ≡ before ++ asks_below n mask f
    → take (count + 1) (set asks count (ask_of (n, f))) ≡ before ++ asks_below n mask (f + 1)
noted n mask f count asks before bit room so =
    take_more_set asks count (ask_of (n, f)) room
    ∙ ap (λ (l : List Ask). l ++ ask_of (n, f) ∷ []) so
    ∙ append_assoc before (asks_below n mask f) (ask_of (n, f) ∷ [])
    ∙ ap (λ (b : Bool). before ++ (asks_below n mask f ++ map ask_of (cond b ((n, f) ∷ []) []))) (sym bit)
    ∙ ap (λ (l : List Ask). before ++ l) (sym (one-more n mask f))

pub passed : (n mask f : ℕ) (now before : List Ask) → has_bit mask f ≡ false → now ≡ before ++ asks_below n mask f → now ≡ before ++ asks_below n mask (f + 1)
passed n mask f now before bit so =
    so ∙ ap (λ (l : List Ask). before ++ l) (sym (append-nil (asks_below n mask f)))
    ∙ ap (λ (b : Bool). before ++ (asks_below n mask f ++ map ask_of (cond b ((n, f) ∷ []) []))) (sym bit)
    ∙ ap (λ (l : List Ask). before ++ l) (sym (one-more n mask f))

-- a further item
pub item-noted : (cs : List Choice) (i : ℕ) (c : Choice) (now before : List Ask) → i < length cs → take (i + 1) cs ≡ take i cs ++ c ∷ []
    → now ≡ before ++ map ask_of (asked_by c) → before ≡ map ask_of (asked_by_all (take i cs)) → now ≡ map ask_of (asked_by_all (take (i + 1) cs))
item-noted cs i c now before within more so were =
    so ∙ ap (λ (l : List Ask). l ++ map ask_of (asked_by c)) were
    ∙ sym (map-append ask_of (asked_by_all (take i cs)) (asked_by c))
    ∙ ap (λ (l : List (ℕ × ℕ)). map ask_of l) (sym (ap asked_by_all more ∙ all-push (take i cs) c))
