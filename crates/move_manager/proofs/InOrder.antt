-- Accepted moves are the first of those sampled, after any steps.
use Rattle.std.proofs.Common.{◌≡◌, ℕ, zero, suc, ◌+◌, ◌-◌, ◌≤◌, Bool, true, false, nat_le, List, [], ◌∷◌, ◌++◌, if◌then◌else◌, length, take, drop, Option, Some, None, refl, sym, ◌∙◌, ap, subst, arith, length-append, length-drop, length-take}
use Rattle.std.specs.Prelude.{slice_get}
use Rattle.std.specs.List.{AllByRecursion}
use Rattle.std.proofs.lemmas.Bool.Decides.{nat_tests}
use Rattle.std.proofs.lemmas.List.{take-append-drop, take-append-le, drop-append-le, drop-take, drop-drop, take_all, append-nil}
use Rattle.std.proofs.Math.Seq.{take-add}
use Rattle.tn_types.specs.declared.moves.MoveBits.{MoveBits}
use Rattle.move_manager.specs.Sending.{Packet, sampled_of, acked_of, packet_of}
use Rattle.move_manager.specs.Accepting.{new_count, accept, accepted_of}
use Rattle.move_manager.specs.InOrder.{Ends, Step, Sample, ClientPack, Pack, Up, Down, came_up, came_down, happens, history}
use Rattle.tn_types.specs.Prefix.{IsPrefixOf}

-- a packet holds the sampled moves from its first one on
pub record Holds (p : Packet) (sampled : List MoveBits) : Type 0 where
  pub within : p.first + length p.moves ≤ length sampled
  pub moves : p.moves ≡ take (length p.moves) (drop p.first sampled)

all-push : {A : Type 0} (P : A → Type 0) (xs : List A) (x : A) → AllByRecursion P xs → P x → AllByRecursion P (xs ++ x ∷ [])
all-push P [] x h k = (k, tt)
all-push P (y ∷ xs) x h k = (h.0, all-push P xs x h.1 k)

all-map : {A : Type 0} (P Q : A → Type 0) (xs : List A) → ((x : A) → P x → Q x) → AllByRecursion P xs → AllByRecursion Q xs
all-map P Q [] f h = tt
all-map P Q (x ∷ xs) f h = (f x h.0, all-map P Q xs f h.1)

pub all-at : {A : Type 0} (P : A → Type 0) (xs : List A) (k : ℕ) (x : A) → slice_get xs k ≡ Some x → AllByRecursion P xs → P x
all-at P [] k x e h = cc
all-at P (y ∷ xs) zero x e h = let s : y ≡ x = cc in subst P s h.0
all-at P (y ∷ xs) (suc k) x e h = all-at P xs k x e h.1

take-take : (m n : ℕ) (xs : List MoveBits) → m ≤ n → take m (take n xs) ≡ take m xs
take-take zero n xs l = refl
take-take (suc m) zero xs l = absurd (omega arith)
take-take (suc m) (suc n) [] l = refl
take-take (suc m) (suc n) (x ∷ xs) l = ap (λ t. x ∷ t) (take-take m n xs (omega arith))

pub holds-push : (p : Packet) (s : List MoveBits) (v : MoveBits) → Holds p s → Holds p (s ++ v ∷ [])
holds-push p s v h = record {
  within = omega (arith, h.within, length-append s (v ∷ []));
  moves = h.moves ∙ sym (ap (λ t. take (length p.moves) t) (drop-append-le p.first s (v ∷ []) (omega (arith, h.within))) ∙ take-append-le (length p.moves) (drop p.first s) (v ∷ []) (omega (arith, h.within, length-drop p.first s)));
}

-- what is accepted stays the first of what was sampled
pub record IsFront (acc s : List MoveBits) : Type 0 where
  pub within : length acc ≤ length s
  pub first : acc ≡ take (length acc) s

pub front-push : (acc s : List MoveBits) (v : MoveBits) → IsFront acc s → IsFront acc (s ++ v ∷ [])
front-push acc s v h = record {
  within = omega (arith, h.within, length-append s (v ∷ []));
  first = h.first ∙ sym (take-append-le (length acc) s (v ∷ []) h.within);
}

-- m further moves of a packet are the next m that were sampled
more : (m : ℕ) (acc s : List MoveBits) (p : Packet) → p.first ≤ length acc → m ≤ p.first + length p.moves - length acc → Holds p s → IsFront acc s →
    (acc ++ take m (drop (length acc - p.first) p.moves) ≡ take (length acc + m) s) × (length acc + m ≤ length s)
more zero acc s p l few h f = let z : length acc + 0 ≡ length acc = omega arith in rw (z, append-nil) (f.first, f.within)
more (suc m) acc s p l few h f =
    let left = p.first + length p.moves - length acc in
    let gap : length p.moves ≡ (length acc - p.first) + left = omega arith in
    let at : p.first + (length acc - p.first) ≡ length acc = omega arith in
    let rest : drop (length acc - p.first) p.moves ≡ take left (drop (length acc) s) =
    ap (λ t. drop (length acc - p.first) t) (h.moves ∙ ap (λ n. take n (drop p.first s)) gap) ∙ drop-take (length acc - p.first) left (drop p.first s)
    ∙ ap (λ t. take left t) (drop-drop (length acc - p.first) p.first s ∙ ap (λ n. drop n s) at) in (
      ap (λ t. acc ++ take (suc m) t) rest ∙ ap (λ t. acc ++ t) (take-take (suc m) left (drop (length acc) s) few) ∙ ap (λ t. t ++ take (suc m) (drop (length acc) s)) f.first ∙ sym (take-add (length acc) (suc m) s),
      omega (arith, h.within),
    )

pub record Grows (acc new s : List MoveBits) : Type 0 where
  pub front : IsFront new s
  pub longer : length acc ≤ length new

pub front-accept : (life room : ℕ) (p : Packet) (acc s : List MoveBits) → Holds p s → IsFront acc s → Grows acc (accept life room p acc) s
front-accept life room p acc s h f = go (nat_le p.first (length acc)) refl
  where
    taken : List MoveBits
    taken = acc ++ take (new_count life room (length acc) p) (drop (length acc - p.first) p.moves)

    both : p.first ≤ length acc → Grows acc taken s
    both l =
        let m = more (new_count life room (length acc) p) acc s p l (omega arith) h f in
        let n : length taken ≡ length acc + new_count life room (length acc) p = ap (λ (t : List MoveBits). length t) m.0 ∙ length-take _ s ∙ omega (arith, m.1) in
        record {
          front = record { within = omega (arith, n, m.1); first = m.0 ∙ ap (λ k. take k s) (sym n) };
          longer = omega (arith, n);
        }

    go : (b : Bool) → nat_le p.first (length acc) ≡ b → Grows acc (if b then taken else acc) s
    go true e = both (grind (arith, nat_tests))
    go false e = record { front = f; longer = omega arith }

-- a packet on its way up
abbrev Sound : ℕ → Ends → Packet → Type 0
Sound life e p = Holds p (sampled_of e.client) × (p.first ≤ length (accepted_of life e.server))

pub record InOrder (life : ℕ) (e : Ends) : Type 0 where
  pub up : AllByRecursion (Sound life e) e.up
  pub down : AllByRecursion (λ n. n ≤ length (accepted_of life e.server)) e.down
  pub acked : acked_of e.client ≤ length (accepted_of life e.server)
  pub front : IsFront (accepted_of life e.server) (sampled_of e.client)

ups : (life room : ℕ) (e : Ends) (o : Option Packet) → ((p : Packet) → o ≡ Some p → Holds p (sampled_of e.client)) → InOrder life e → InOrder life (came_up room o e)
ups life room e None h i = i
ups life room e (Some p) h i =
    let a = front-accept life room p (accepted_of life e.server) (sampled_of e.client) (h p refl) i.front in
    record {
      up = all-map _ _ e.up (λ q g. (g.0, omega (arith, g.1, a.longer))) i.up;
      down = all-map _ _ e.down (λ n g. omega (arith, g, a.longer)) i.down;
      acked = omega (arith, i.acked, a.longer);
      front = a.front;
    }

downs : (life : ℕ) (e : Ends) (o : Option ℕ) → ((n : ℕ) → o ≡ Some n → n ≤ length (accepted_of life e.server)) → InOrder life e → InOrder life (came_down o e)
downs life e None h i = i
downs life e (Some n) h i = record { up = i.up; down = i.down; acked = omega (arith, i.acked, h n refl); front = i.front }

sampled : (life : ℕ) (m : MoveBits) (e : Ends) → InOrder life e → InOrder life (happens life (Sample m) e)
sampled life m e i = record {
  up = all-map _ _ e.up (λ q g. (holds-push q (sampled_of e.client) m g.0, g.1)) i.up;
  down = i.down;
  acked = i.acked;
  front = front-push _ _ m i.front;
}

packed : (life : ℕ) (e : Ends) → InOrder life e → InOrder life (happens life ClientPack e)
packed life e i =
    let l = length-drop (acked_of e.client) (sampled_of e.client) in
    let whole : Holds (packet_of e.client) (sampled_of e.client) = record { within = omega (arith, i.acked, i.front.within, l); moves = sym (take_all _ _ (omega arith)) } in
    record { up = all-push _ e.up (packet_of e.client) i.up (whole, i.acked); down = i.down; acked = i.acked; front = i.front }

told : (life : ℕ) (e : Ends) → InOrder life e → InOrder life (happens life Pack e)
told life e i = record { up = i.up; down = all-push _ e.down _ i.down (omega arith); acked = i.acked; front = i.front }

pub in_order : (life : ℕ) (steps : List Step) → InOrder life (history life steps)
in_order life [] = record { up = tt; down = tt; acked = omega arith; front = record { within = omega arith; first = refl } }
in_order life (Sample m ∷ steps) = sampled life m (history life steps) (in_order life steps)
in_order life (ClientPack ∷ steps) = packed life (history life steps) (in_order life steps)
in_order life (Pack ∷ steps) = told life (history life steps) (in_order life steps)
in_order life (Up k room ∷ steps) =
    let i = in_order life steps in
    ups life room (history life steps) _ (λ p e. (all-at _ (history life steps).up k p e i.up).0) i
in_order life (Down k ∷ steps) =
    let i = in_order life steps in
    downs life (history life steps) _ (λ n e. all-at _ (history life steps).down k n e i.down) i

pub front_is_prefix : (acc s : List MoveBits) → IsFront acc s → IsPrefixOf acc s
front_is_prefix acc s f = (drop (length acc) s, ap (λ t. t ++ drop (length acc) s) f.first ∙ take-append-drop (length acc) s)
