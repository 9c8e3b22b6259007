-- Pieces of a list, one after another.
use Rattle.std.proofs.Common.{◌≡◌, ◌∙◌, ℕ, zero, suc, ◌+◌, ◌<◌, ◌≤◌, List, [], ◌∷◌, ◌++◌, length, take, get_or, sym, ap, refl, arith, inl, inr, Option, Some, None}
use Rattle.std.specs.Prelude.{slice_get}
use Rattle.std.specs.List.{flat_map}
use Rattle.std.proofs.lemmas.List.{take_more, flat_map_more, append_assoc, append-nil, take_all}
use Rattle.quantised_fields.specs.declared.kind.Kind.{Kind}
use Rattle.protocol_number.specs.Protocol.{kind_bytes, bytes_if, bytes_at}

next_at : (kinds : List Kind) (k : ℕ) → flat_map kind_bytes (take k kinds) ++ bytes_at kinds k ≡ flat_map kind_bytes (take (suc k) kinds)
next_at [] zero = refl
next_at [] (suc k) = refl
next_at (x ∷ xs) zero = sym (append-nil (kind_bytes x))
next_at (x ∷ xs) (suc k) =
    append_assoc (kind_bytes x) (flat_map kind_bytes (take k xs)) (bytes_at xs k) ∙ ap (λ (l : List ℕ). kind_bytes x ++ l) (next_at xs k)

pub next_kind : (m : List ℕ) (kinds : List Kind) (k : ℕ)
    → (m ++ flat_map kind_bytes (take k kinds)) ++ bytes_at kinds k ≡ m ++ flat_map kind_bytes (take (k + 1) kinds)
next_kind m kinds k =
    let e : suc k ≡ k + 1 = omega arith in
    append_assoc m (flat_map kind_bytes (take k kinds)) (bytes_at kinds k) ∙ ap (λ (l : List ℕ). m ++ l) (next_at kinds k)
    ∙ ap (λ (n : ℕ). m ++ flat_map kind_bytes (take n kinds)) e
