-- What a channel did, and then one piece more.
use Rattle.std.proofs.Common.{◌≡◌, ◌∙◌, ℕ, min, Bool, true, false, leb, length, take, List, [], ◌∷◌, ◌++◌, drop, map, Option, Some, None, refl, sym, ap, subst, append_assoc, arith}
use Rattle.std.proofs.lemmas.List.{take_all}
use Rattle.std.proofs.lemmas.Bool.{leb-true, leb-false}
use Rattle.std.proofs.Math.Seq.{take-length}
use Rattle.std.specs.Prelude.{slice_get, IsSome}
use Rattle.tn_types.specs.declared.choices.Class.{Class}
use Rattle.tn_types.specs.declared.choices.Class.TheVariants.{Guaranteed}
use Rattle.tn_types.specs.Histories.{Does}
use Rattle.messages.specs.OutboxStands.{OutboxState, OutboxEvent, OutboxStandsFor, HandedOn}
use Rattle.messages.specs.InboxState.{InboxState}
use Rattle.messages.specs.InboxStands.{InboxEvent, InboxStandsFor, Took}
use Rattle.stream_manager.specs.EndStands.{EndState}
use Rattle.stream_manager.specs.EndCalls.{popped}
use Rattle.stream_manager.specs.Server as server
use Rattle.stream_manager.specs.Client as client
use Rattle.stream_manager.specs.Stands.{ConnState, ClientState, ConnStandsFor, ClientStandsFor}
use Rattle.tribes_channel.specs.Channel.{after_each, ready_of, with_ready, PostsAll, PopsAtEnd, PopsAll, Sends, Gathers, guaranteed}
use Rattle.tribes_ends.specs.Refusals.{PostRefused}
use Rattle.tribes_ends.specs.Sides.{Posts, Pops}
use Rattle.tribes_ends.specs.declared.refusal.Refusal.{Refusal}
use Rattle.tribes_ends.specs.declared.link.Side.{Side}
use Rattle.tribes_ends.specs.declared.link.Side.TheVariants.{Server, Client}

after-each-more : {A E : Type 0} (event : A → E) (xs : List A) (x : A) (log : List E)
    → after_each event (xs ++ x ∷ []) log ≡ event x ∷ after_each event xs log
after-each-more event [] x log = refl
after-each-more event (y ∷ xs) x log = after-each-more event xs x (event y ∷ log)

head-first : {A : Type 0} (xs : List A) (x : A) → slice_get xs 0 ≡ Some x → xs ≡ x ∷ drop 1 xs
head-first [] x e = absurd (cc)
head-first (y ∷ ys) x e = let same : y ≡ x = cc in ap (λ z. z ∷ ys) same

-- of these and one more
one-behind : {A : Type 0} (all before rest : List A) (x : A) → all ≡ before ++ rest → slice_get rest 0 ≡ Some x
    → all ≡ (before ++ x ∷ []) ++ drop 1 rest
one-behind all before rest x is first = is ∙ ap (λ r. before ++ r) (head-first rest x first) ∙ sym (append_assoc before (x ∷ []) (drop 1 rest))

never-empty : {A : Type 0} (xs : List A) (x : A) → xs ++ x ∷ [] ≡ [] → ⊥
never-empty [] x e = absurd (cc)
never-empty (y ∷ ys) x e = absurd (cc)

map-more : {A B : Type 0} (f : A → B) (xs : List A) (x : A) → map f (xs ++ x ∷ []) ≡ map f xs ++ f x ∷ []
map-more f [] x = refl
map-more f (y ∷ ys) x = ap (λ l. f y ∷ l) (map-more f ys x)

-- ---- posts

posts-none : (s : Side) → PostsAll s [] s
posts-none (Server c) = λ log s. s
posts-none (Client c) = λ log s. s

posts-more : (a b c : Side) (ps : List (List ℕ)) (p : List ℕ) → PostsAll a ps b → Posts b Guaranteed p c → PostsAll a (ps ++ p ∷ []) c
posts-more (Server a) (Server b) (Server c) ps p all one = λ log s.
    subst (λ l. ConnStandsFor c l) (sym (after-each-more (server.Posted Guaranteed) ps p log)) (one (after_each (server.Posted Guaranteed) ps log) (all log s))
posts-more (Client a) (Client b) (Client c) ps p all one = λ log s.
    subst (λ l. ClientStandsFor c l) (sym (after-each-more (client.Posted Guaranteed) ps p log)) (one (after_each (client.Posted Guaranteed) ps log) (all log s))
posts-more (Server a) (Server b) (Client c) ps p all one = absurd one
posts-more (Client a) (Client b) (Server c) ps p all one = absurd one
posts-more (Server a) (Client b) c ps p all one = absurd all
posts-more (Client a) (Server b) c ps p all one = absurd all

pub sends_none : (o : OutboxState) (s : Side) → Sends o s o s
sends_none o s = record { pieces = []; held = refl; places = refl; stands = λ log st. st; posted = posts-none s; same = λ e. refl }

pub sends_more : (o o1 o2 : OutboxState) (a b c : Side) (p : List ℕ) → Sends o a o1 b → slice_get o1.held 0 ≡ Some p
    → Posts b Guaranteed p c → Does OutboxStandsFor o1 (HandedOn p) o2 → o2.held ≡ drop 1 o1.held → o2.places ≡ o1.places
    → Sends o a o2 c
sends_more o o1 o2 a b c p all first one does rest places = record {
  pieces = all.pieces ++ p ∷ [];
  held = one-behind o.held all.pieces o1.held p all.held first ∙ ap (λ r. (all.pieces ++ p ∷ []) ++ r) (sym rest);
  places = places ∙ all.places;
  stands = λ log s. subst (λ l. OutboxStandsFor o2 l) (sym (after-each-more HandedOn all.pieces p log)) (does (after_each HandedOn all.pieces log) (all.stands log s));
  posted = posts-more a b c all.pieces p all.posted one;
  same = λ e. absurd (never-empty all.pieces p e);
}

-- ---- events that are handed out

pops-none : (s : Side) → PopsAll s [] s
pops-none (Server c) = (refl, record { first = refl; rest = refl }, λ log s. s)
pops-none (Client c) = (refl, record { first = refl; rest = refl }, λ log s. s)

end-more : (a b c : EndState) (es : List (Class × List ℕ)) (x : Class × List ℕ) → PopsAtEnd a es b → slice_get b.receiver.ready 0 ≡ Some x
    → c ≡ popped b → PopsAtEnd a (es ++ x ∷ []) c
end-more a b c es x all first is =
    let left : c.receiver.ready ≡ drop 1 b.receiver.ready = ap (λ (e : EndState). e.receiver.ready) is in
    record {
      first = one-behind a.receiver.ready es b.receiver.ready x all.first first ∙ ap (λ r. (es ++ x ∷ []) ++ r) (sym left);
      rest = is ∙ ap popped all.rest ∙ ap (λ r. with_ready r a) (sym left);
    }

pops-more : (a b c : Side) (es : List (Class × List ℕ)) (class : Class) (p : List ℕ) → PopsAll a es b → Pops b class p c → PopsAll a (es ++ (class, p) ∷ []) c
pops-more (Server a) (Server b) (Server c) es class p all one =
    let common : c.common ≡ popped b.common = ap (λ (s : ConnState). s.common) one.rest in (
      one.rest ∙ ap (λ (s : ConnState). record s { common = popped b.common }) all.0 ∙ ap (λ (e : EndState). record a { common = e }) (sym common),
      end-more a.common b.common c.common es (class, p) all.1 one.first common,
      λ log s. one.stands log (all.2 log s),
    )
pops-more (Client a) (Client b) (Client c) es class p all one =
    let common : c.common ≡ popped b.common = ap (λ (s : ClientState). s.common) one.rest in (
      one.rest ∙ ap (λ (s : ClientState). record s { common = popped b.common }) all.0 ∙ ap (λ (e : EndState). record a { common = e }) (sym common),
      end-more a.common b.common c.common es (class, p) all.1 one.first common,
      λ log s. one.stands log (all.2 log s),
    )
pops-more (Server a) (Server b) (Client c) es class p all one = absurd one
pops-more (Client a) (Client b) (Server c) es class p all one = absurd one
pops-more (Server a) (Client b) c es class p all one = absurd all
pops-more (Client a) (Server b) c es class p all one = absurd all

pub gathers_none : (b : InboxState) (s : Side) → b.fault ≡ None → Gathers b s b s
gathers_none b s sound = record { pieces = []; popped = pops-none s; stands = λ log st. st; room = refl; sound = sound; still_sound = sound }

pub gathers_more : (b b1 b2 : InboxState) (a s c : Side) (p : List ℕ) → Gathers b a b1 s → Pops s Guaranteed p c → Does InboxStandsFor b1 (Took p) b2
    → b2.room ≡ b1.room → b2.fault ≡ None → Gathers b a b2 c
gathers_more b b1 b2 a s c p all one does room sound = record {
  pieces = all.pieces ++ p ∷ [];
  popped = subst (λ es. PopsAll a es c) (sym (map-more guaranteed all.pieces p)) (pops-more a s c (map guaranteed all.pieces) Guaranteed p all.popped one);
  stands = λ log st. subst (λ l. InboxStandsFor b2 l) (sym (after-each-more Took all.pieces p log)) (does (after_each Took all.pieces log) (all.stands log st));
  room = room ∙ all.room;
  sound = all.sound;
  still_sound = sound;
}

-- ---- the oldest event that waits is one fewer

pub fewer_wait : (b c : Side) (class : Class) (p : List ℕ) → Pops b class p c → ready_of b ≡ (class, p) ∷ ready_of c
fewer_wait (Server b) (Server c) class p one = head-first b.common.receiver.ready (class, p) one.first
    ∙ ap (λ r. (class, p) ∷ r) (sym (ap (λ (s : ConnState). s.common.receiver.ready) one.rest))
fewer_wait (Client b) (Client c) class p one = head-first b.common.receiver.ready (class, p) one.first
    ∙ ap (λ r. (class, p) ∷ r) (sym (ap (λ (s : ClientState). s.common.receiver.ready) one.rest))
fewer_wait (Server b) (Client c) class p one = absurd one
fewer_wait (Client b) (Server c) class p one = absurd one

-- ---- refusals

pub refused_some : (piece : List ℕ) (side : Side) (refusal : Refusal) → PostRefused piece Guaranteed side (λ r. Some refusal ≡ r) → PostRefused piece Guaranteed side IsSome
refused_some piece (Server c) refusal h = λ log s. subst IsSome (h log s) refl
refused_some piece (Client c) refusal h = λ log s. subst IsSome (h log s) refl

-- as many as there are, at most
pub take_within : (xs : List ℕ) (n : ℕ) → take (min n (length xs)) xs ≡ take n xs
take_within xs n = go (leb (length xs) n) refl
  where
    go : (b : Bool) → leb (length xs) n ≡ b → take (min n (length xs)) xs ≡ take n xs
    go true e =
        let le = leb-true (length xs) n e in
        ap (λ k. take k xs) (let same : min n (length xs) ≡ length xs = omega arith in same) ∙ take-length xs ∙ sym (take_all n xs le)
    go false e =
        let lt = leb-false (length xs) n e in
        ap (λ k. take k xs) (let same : min n (length xs) ≡ n = omega arith in same)
