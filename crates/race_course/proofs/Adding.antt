-- Messages that are added one by one.
use Rattle.std.proofs.Common.{◌≡◌, ℕ, ◌<◌, ◌+◌, List, [], ◌∷◌, ◌++◌, map, take, length, get_or, append_assoc, sym, ap, ◌∙◌}
use Rattle.std.proofs.lemmas.List.{map_more}

pub one_added : {A B : Type 0} (f : A → B) (before now : List B) (xs : List A) (i : ℕ) (d : A) (b : B) → now ≡ before ++ map f (take i xs) → i < length xs → b ≡ f (get_or xs i d) → now ++ b ∷ [] ≡ before ++ map f (take (i + 1) xs)
one_added {A} {B} f before now xs i d b e l is =
    (λ j. e j ++ is j ∷ [])
    ∙ append_assoc before (map f (take i xs)) (f (get_or xs i d) ∷ [])
    ∙ ap (λ (ys : List B). before ++ ys) (sym (map_more f xs i d l))
