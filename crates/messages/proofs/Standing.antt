-- An inbox after one more piece.
use Rattle.std.proofs.Common.{◌≡◌, ℕ, suc, ◌+◌, ◌-◌, ◌*◌, ◌/◌, ◌%◌, ◌<◌, ◌≤◌, List, [], ◌∷◌, ◌++◌, length, take, drop, refl, sym, ◌∙◌, ap, subst, arith, length-append, length-drop, append_assoc}
use Rattle.std.specs.Prelude.{Option}
use Rattle.std.proofs.lemmas.List.{take_all, drop_all, take-append-le, drop-append-le}
use Rattle.messages.specs.declared.form.Form.TheVariants.{Middle, Last}
use Rattle.messages.specs.declared.form.ParcelKind.TheVariants.{Message}
use Rattle.messages.specs.declared.faults.PieceFault.{PieceFault}
use Rattle.messages.specs.declared.inbox.Stage.{Stage}
use Rattle.messages.specs.declared.inbox.Stage.TheVariants.{Idle, Begun, Whole}
use Rattle.messages.specs.Forms.{form_byte}
use Rattle.messages.specs.Pieces.{first_piece, pieces_by, rest_of, all_pieces}
use Rattle.messages.specs.InboxState.{InboxState}
use Rattle.messages.specs.InboxStands.{InboxEvent, Took, InboxStandsFor, IsBegun, ComesTo, middle_pieces, took_of, handed_out}
use Rattle.messages.proofs.CutPieces.{long-message, middle-push, rest-begun}

pushed : (b : InboxState) (log : List InboxEvent) (s : InboxStandsFor b log) (piece : List ℕ) (last : List (List ℕ)) → s.last_pieces ++ piece ∷ [] ≡ last
    → took_of log ++ piece ∷ [] ≡ all_pieces (handed_out log) ++ last
pushed b log s piece last e =
    ap (λ (t : List (List ℕ)). t ++ piece ∷ []) s.took
    ∙ append_assoc (all_pieces (handed_out log)) s.last_pieces (piece ∷ [])
    ∙ ap (λ (t : List (List ℕ)). all_pieces (handed_out log) ++ t) e

at_stage : (b : InboxState) (log : List InboxEvent) (s : InboxStandsFor b log) (stage : Stage) → b.stage ≡ stage → ComesTo stage b.gathered s.last_pieces
at_stage b log s stage e = subst (λ (t : Stage). ComesTo t b.gathered s.last_pieces) e s.comes

pub begins : (old : InboxState) (log : List InboxEvent) (n room : ℕ) (bytes : List ℕ) (fault : Option PieceFault) → InboxStandsFor old log → old.stage ≡ Idle
    → 23 < n → length bytes ≡ 21
    → InboxStandsFor (record { gathered = bytes; room = room; stage = Begun n; fault = fault }) (Took (first_piece n bytes) ∷ log)
begins old log n room bytes fault s idle long few =
    let nil : s.last_pieces ≡ [] = at_stage old log s Idle idle in
    let none : drop 21 bytes ≡ [] = drop_all 21 bytes (omega arith) in
    record {
      last_pieces = first_piece n bytes ∷ [];
      took = pushed old log s (first_piece n bytes) _ (ap (λ (t : List (List ℕ)). t ++ first_piece n bytes ∷ []) nil);
      comes = record { more = 0; long = long; open_end = omega arith; count = few; are = refl };
    }

pub goes_on : (old : InboxState) (log : List InboxEvent) (n room : ℕ) (bytes : List ℕ) (fault : Option PieceFault) → InboxStandsFor old log → old.stage ≡ Begun n
    → length bytes ≡ 23 → 23 < n - length old.gathered
    → InboxStandsFor (record { gathered = old.gathered ++ bytes; room = room; stage = Begun n; fault = fault }) (Took (form_byte Middle ∷ bytes) ∷ log)
goes_on old log n room bytes fault s begun whole left =
    let h : IsBegun n old.gathered s.last_pieces = at_stage old log s (Begun n) begun in
    let g : List ℕ = old.gathered in
    let front : take 21 (g ++ bytes) ≡ take 21 g = take-append-le 21 g bytes (omega (arith, h.count)) in
    let rest : drop 21 (g ++ bytes) ≡ drop 21 g ++ bytes = drop-append-le 21 g bytes (omega (arith, h.count)) in
    let count : length (drop 21 g) ≡ 23 * h.more = omega (arith, length-drop 21 g, h.count) in
    let are : s.last_pieces ++ (form_byte Middle ∷ bytes) ∷ [] ≡ first_piece n (g ++ bytes) ∷ middle_pieces (suc h.more) (drop 21 (g ++ bytes)) =
    ap (λ (t : List (List ℕ)). t ++ (form_byte Middle ∷ bytes) ∷ []) h.are
    ∙ ap (λ (t : List (List ℕ)). first_piece n g ∷ t) (sym (middle-push h.more (drop 21 g) bytes count whole))
    ∙ ap (λ (t : List ℕ). (2 ∷ n % 256 ∷ n / 256 ∷ t) ∷ middle_pieces (suc h.more) (drop 21 g ++ bytes)) (sym front)
    ∙ ap (λ (t : List ℕ). first_piece n (g ++ bytes) ∷ middle_pieces (suc h.more) t) (sym rest) in
    record {
      last_pieces = first_piece n (g ++ bytes) ∷ middle_pieces (suc h.more) (drop 21 (g ++ bytes));
      took = pushed old log s (form_byte Middle ∷ bytes) _ are;
      comes = record {
        more = suc h.more;
        long = h.long;
        open_end = omega (arith, length-append g bytes);
        count = omega (arith, length-append g bytes, h.count);
        are = refl;
      };
    }

pub ends : (old : InboxState) (log : List InboxEvent) (n room : ℕ) (bytes : List ℕ) (fault : Option PieceFault) → InboxStandsFor old log → old.stage ≡ Begun n
    → length bytes ≤ 23 → length bytes ≡ n - length old.gathered
    → InboxStandsFor (record { gathered = old.gathered ++ bytes; room = room; stage = Whole Message; fault = fault }) (Took (form_byte Last ∷ bytes) ∷ log)
ends old log n room bytes fault s begun few left =
    let h : IsBegun n old.gathered s.last_pieces = at_stage old log s (Begun n) begun in
    let g : List ℕ = old.gathered in
    let all : length (g ++ bytes) ≡ n = omega (arith, length-append g bytes, h.open_end) in
    let front : take 21 (g ++ bytes) ≡ take 21 g = take-append-le 21 g bytes (omega (arith, h.count)) in
    let rest : drop 21 (g ++ bytes) ≡ drop 21 g ++ bytes = drop-append-le 21 g bytes (omega (arith, h.count)) in
    let count : length (drop 21 g) ≡ 23 * h.more = omega (arith, length-drop 21 g, h.count) in
    let are : s.last_pieces ++ (form_byte Last ∷ bytes) ∷ [] ≡ first_piece n (g ++ bytes) ∷ rest_of (drop 21 (g ++ bytes)) =
    ap (λ (t : List (List ℕ)). t ++ (form_byte Last ∷ bytes) ∷ []) h.are
    ∙ ap (λ (t : List (List ℕ)). first_piece n g ∷ t) (sym (rest-begun h.more (drop 21 g) bytes count (omega (arith, h.open_end)) few))
    ∙ ap (λ (t : List ℕ). (2 ∷ n % 256 ∷ n / 256 ∷ t) ∷ rest_of (drop 21 g ++ bytes)) (sym front)
    ∙ ap (λ (t : List ℕ). first_piece n (g ++ bytes) ∷ rest_of t) (sym rest) in
    let message : first_piece n (g ++ bytes) ∷ rest_of (drop 21 (g ++ bytes)) ≡ pieces_by Message (g ++ bytes) =
    ap (λ (m : ℕ). first_piece m (g ++ bytes) ∷ rest_of (drop 21 (g ++ bytes))) (sym all) ∙ sym (long-message (g ++ bytes) (omega (arith, h.long))) in
    record { last_pieces = pieces_by Message (g ++ bytes); took = pushed old log s (form_byte Last ∷ bytes) _ (are ∙ message); comes = refl }

-- the first piece of a message of this length, by its bytes
pub first-again : (n low high : ℕ) (bytes : List ℕ) → n ≡ low + 256 * high → low < 256 → length bytes ≡ 21 → first_piece n bytes ≡ 2 ∷ low ∷ high ∷ bytes
first-again n low high bytes e h l =
    let one : n % 256 ≡ low = omega arith in
    let two : n / 256 ≡ high = omega arith in
    let all : take 21 bytes ≡ bytes = take_all 21 bytes (omega arith) in
    ap (λ (t : ℕ). 2 ∷ t ∷ n / 256 ∷ take 21 bytes) one ∙ ap (λ (t : ℕ). 2 ∷ low ∷ t ∷ take 21 bytes) two ∙ ap (λ (t : List ℕ). 2 ∷ low ∷ high ∷ t) all
