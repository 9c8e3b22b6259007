-- Calls one behind the other: what they do, write and send together.
use Rattle.std.proofs.Common.{◌≡◌, ◌∙◌, ℕ, ◌+◌, ◌<◌, ◌==◌, Bool, true, false, if◌then◌else◌, List, [], ◌∷◌, ◌++◌, length, reverse, take, drop, get_or, Option, sym, ap, subst, refl, arith, append_assoc, add-one, take-append-drop}
use Rattle.std.proofs.lemmas.List.{reverse-append, take_more}
use Rattle.tn_types.specs.declared.choices.Class.TheVariants.{Guaranteed}
use Rattle.tn_outside.specs.Links.{Datagram}
use Rattle.tn_outside.specs.Totals.{Adds, AddsFront}
use Rattle.match_script.specs.declared.types.BodyLine.{BodyLine}
use Rattle.match_script.specs.declared.types.BodyLine.TheVariants.{Post}
use Rattle.match_script.specs.declared.types.Script.{Script}
use Rattle.match_engine.specs.Served.{ServedState, Does}
use Rattle.net_serve.specs.Lines.{post_to, post_all, posts, text_so_far}
use Rattle.net_serve.specs.Outgoing.{Outgoing, datagrams}
use Rattle.net_serve.specs.Stages.{ServerState, Plays, Same, PlaysOn, Writes, WritesFront, SendsMore, SendsFront}
use Rattle.net_serve.proofs.Texts.{front_grows, nothing_more}
use Rattle.net_serve.proofs.Sending.{sends_grow, sends_whole}
use Rattle.net_serve.proofs.Growing.{Behind, Before, post_all_more, posts_append}

abbrev pub Lines : Type 0
Lines = List BodyLine → List BodyLine

abbrev pub Outs : Type 0
Outs = List BodyLine → List Outgoing

-- ---- nothing done yet

pub plays_none : (a : ServerState) → PlaysOn a (λ past. past) a
plays_none a past p = p

pub writes_none : (a : ServerState) (w : Option (List ℕ)) → Writes a (λ past. past) w w
writes_none a w first past p h = h

pub same_none : (a : ServerState) → Same a a
same_none a = record { script = refl; peers = refl }

pub same_then : (a b c : ServerState) → Same a b → Same b c → Same a c
same_then a b c s t = record { script = t.script ∙ s.script; peers = t.peers ∙ s.peers }

-- ---- the same said otherwise

module _ (a : ServerState) (f g : Lines) (is : (past : List BodyLine) → f past ≡ g past) where
  pub plays_as : (b : ServerState) → PlaysOn a f b → PlaysOn a g b
  plays_as b plays past p = subst (λ (x : List BodyLine). Plays b x) (is past) (plays past p)

  pub writes_as : (w w' : Option (List ℕ)) → Writes a f w w' → Writes a g w w'
  writes_as w w' wrote first past p before = subst (λ (x : List BodyLine). Adds first w' (text_so_far a.script.head x)) (is past) (wrote first past p before)

  pub front_as : (w w' : Option (List ℕ)) → WritesFront a f w w' → WritesFront a g w w'
  front_as w w' wrote first past p before = subst (λ (x : List BodyLine). AddsFront first w' (text_so_far a.script.head x)) (is past) (wrote first past p before)

-- ---- a line

pub line_plays : (old : ServerState) (line : BodyLine) (game : ServedState) → Does old.game line game → game.script ≡ old.game.script
    → PlaysOn old (λ past. line ∷ past) (record { script = old.script; game = game; peers = old.peers })
line_plays old line game does same past p = record {
  game = does past p.game;
  script = same ∙ p.script;
}

-- ---- two calls

module _ (a b : ServerState) (f g h : Lines) (plays : PlaysOn a f b) where
  pub plays_then : (c : ServerState) → PlaysOn b g c → ((past : List BodyLine) → Plays a past → g (f past) ≡ h past) → PlaysOn a h c
  plays_then c more is past p = subst (λ (x : List BodyLine). Plays c x) (is past p) (more (f past) (plays past p))

  module _ (w w' w'' : Option (List ℕ)) (wrote : Writes a f w w') (same : Same a b) where
    so_far : (first : Option (List ℕ)) (past : List BodyLine) → Plays a past → Adds first w (text_so_far a.script.head past)
        → Adds first w' (text_so_far b.script.head (f past))
    so_far first past p before =
        subst (λ (s : Script). Adds first w' (text_so_far s.head (f past))) (sym same.script) (wrote first past p before)

    pub writes_then : Writes b g w' w'' → ((past : List BodyLine) → Plays a past → g (f past) ≡ h past) → Writes a h w w''
    writes_then more is first past p before =
        let all = more first (f past) (plays past p) (so_far first past p before) in
        let there = subst (λ (s : Script). Adds first w'' (text_so_far s.head (g (f past)))) same.script all in
        subst (λ (x : List BodyLine). Adds first w'' (text_so_far a.script.head x)) (is past p) there

    pub front_then : WritesFront b g w' w'' → ((past : List BodyLine) → Plays a past → Behind (g (f past)) (h past)) → WritesFront a h w w''
    front_then more behind first past p before =
        let all = more first (f past) (plays past p) (so_far first past p before) in
        let there = subst (λ (s : Script). AddsFront first w'' (text_so_far s.head (g (f past)))) same.script all in
        let r = behind past p in
        front_grows a.script.head first w'' r.0 (g (f past)) (h past) r.1 there

    -- the second call wrote nothing
    pub front_stays : w'' ≡ w' → ((past : List BodyLine) → Plays a past → Behind (f past) (h past)) → WritesFront a h w w''
    front_stays e behind first past p before =
        let r = behind past p in
        let now = subst (λ (x : Option (List ℕ)). Adds first x (text_so_far a.script.head (f past))) (sym e) (wrote first past p before) in
        nothing_more a.script.head first w'' r.0 (f past) (h past) r.1 now

pub front_first : (a : ServerState) (f h : Lines) (w w' : Option (List ℕ)) → WritesFront a f w w'
    → ((past : List BodyLine) → Plays a past → Behind (f past) (h past)) → WritesFront a h w w'
front_first a f h w w' front behind first past p before =
    let r = behind past p in front_grows a.script.head first w' r.0 (f past) (h past) r.1 (front first past p before)

pub front_none : (a : ServerState) (h : Lines) (w : Option (List ℕ)) → ((past : List BodyLine) → Plays a past → Behind past (h past)) → WritesFront a h w w
front_none a h w behind first past p before =
    let r = behind past p in nothing_more a.script.head first w r.0 past (h past) r.1 before

-- ---- sends

pub sends_none : (a : ServerState) (d : Option (List Datagram)) → (first : Option (List Datagram)) (before : List Outgoing) (past : List BodyLine) → Plays a past → Adds first d (datagrams before) → AddsFront first d (datagrams before)
sends_none a d first before past p s = sends_whole first d before s

module _ (a b : ServerState) (f : Lines) (plays : PlaysOn a f b) (d d' d'' : Option (List Datagram)) (out more_out all : Outs) (sent : SendsMore a out d d') where
  pub sends_then : SendsMore b more_out d' d'' → ((past : List BodyLine) → Plays a past → out past ++ more_out (f past) ≡ all past) → SendsMore a all d d''
  sends_then more is first before past p s =
      let t = more first (before ++ out past) (f past) (plays past p) (sent first before past p s) in
      subst (λ (x : List Outgoing). Adds first d'' (datagrams x)) (append_assoc before (out past) (more_out (f past)) ∙ ap (λ (x : List Outgoing). before ++ x) (is past p)) t

  pub sends_front_then : SendsFront b more_out d' d'' → ((past : List BodyLine) → Plays a past → Before (out past ++ more_out (f past)) (all past)) → SendsFront a all d d''
  sends_front_then more front first before past p s =
      let t = more first (before ++ out past) (f past) (plays past p) (sent first before past p s) in
      let r = front past p in
      let whole : before ++ all past ≡ ((before ++ out past) ++ more_out (f past)) ++ r.0 =
      ap (λ (x : List Outgoing). before ++ x) r.1 ∙ sym (append_assoc before (out past ++ more_out (f past)) r.0)
      ∙ ap (λ (x : List Outgoing). x ++ r.0) (sym (append_assoc before (out past) (more_out (f past)))) in
      sends_grow first d'' ((before ++ out past) ++ more_out (f past)) r.0 (before ++ all past) whole t

-- nothing was sent, and something is to be sent
pub sends_front_none : (a : ServerState) (all : Outs) (d d' : Option (List Datagram)) → d' ≡ d → SendsFront a all d d'
sends_front_none a all d d' e first before past p s =
    let now = subst (λ (x : Option (List Datagram)). Adds first x (datagrams before)) (sym e) s in
    sends_grow first d' before (all past) (before ++ all past) refl (sends_whole first d' before now)

-- ---- posts

if_own : (b : Bool) (line : BodyLine) (before : List BodyLine) → b ≡ true → before ≡ (if b then before else line ∷ before)
if_own b line before e = rw e refl

if_other : (b : Bool) (line : BodyLine) (before : List BodyLine) → b ≡ false → line ∷ before ≡ (if b then before else line ∷ before)
if_other b line before e = rw e refl

pub to_own : (c : ℕ) (payload : List ℕ) (d : ℕ) → (d == c) ≡ true → (before : List BodyLine) → before ≡ post_to c payload d before
to_own c payload d e before = if_own (d == c) (Post d Guaranteed payload) before e

pub to_other : (c : ℕ) (payload : List ℕ) (d : ℕ) → (d == c) ≡ false → (before : List BodyLine) → Post d Guaranteed payload ∷ before ≡ post_to c payload d before
to_other c payload d e before = if_other (d == c) (Post d Guaranteed payload) before e

pub post_all_next : (c : ℕ) (payload : List ℕ) (d : ℕ) (before : List BodyLine) → post_to c payload d (post_all c payload d before) ≡ post_all c payload (d + 1) before
post_all_next c payload d before = ap (λ (n : ℕ). post_all c payload n before) (sym (add-one d))

-- the next event of a list
pub reverse_next : {X : Type 0} (xs : List X) (i : ℕ) (x : X) → i < length xs → x ≡ get_or xs i x → reverse (take (i + 1) xs) ≡ x ∷ reverse (take i xs)
reverse_next xs i x lt e =
    ap reverse (take_more xs i x lt) ∙ reverse-append (take i xs) (get_or xs i x ∷ []) ∙ ap (λ y. y ∷ reverse (take i xs)) (sym e)

pub post_next : (count c : ℕ) (payloads : List (List ℕ)) (i : ℕ) (payload : List ℕ) (before : List BodyLine) → i < length payloads → payload ≡ get_or payloads i payload
    → post_all c payload count (posts count c (reverse (take i payloads)) before) ≡ posts count c (reverse (take (i + 1) payloads)) before
post_next count c payloads i payload before lt e = ap (λ (ps : List (List ℕ)). posts count c ps before) (sym (reverse_next payloads i payload lt e))

pub posts_rest : (count c : ℕ) (payloads : List (List ℕ)) (i : ℕ) (before : List BodyLine) → Behind (posts count c (reverse (take i payloads)) before) (posts count c (reverse payloads) before)
posts_rest count c payloads i before =
    let parts : reverse payloads ≡ reverse (drop i payloads) ++ reverse (take i payloads) =
    ap reverse (sym (take-append-drop i payloads)) ∙ reverse-append (take i payloads) (drop i payloads) in
    let r = posts_append count c (reverse (drop i payloads)) (reverse (take i payloads)) before in
    (r.0, ap (λ (ps : List (List ℕ)). posts count c ps before) parts ∙ r.1)

pub posts_rest_next : (count c : ℕ) (payloads : List (List ℕ)) (i : ℕ) (payload : List ℕ) (before : List BodyLine) → i < length payloads → payload ≡ get_or payloads i payload
    → Behind (post_all c payload count (posts count c (reverse (take i payloads)) before)) (posts count c (reverse payloads) before)
posts_rest_next count c payloads i payload before lt e =
    let r = posts_rest count c payloads (i + 1) before in
    (r.0, r.1 ∙ ap (λ (t : List BodyLine). r.0 ++ t) (sym (post_next count c payloads i payload before lt e)))

pub post_all_rest : (c : ℕ) (payload : List ℕ) (n m : ℕ) (before : List BodyLine) → n < m → Behind (post_to c payload n (post_all c payload n before)) (post_all c payload m before)
post_all_rest c payload n m before lt =
    let r = post_all_more c payload (n + 1) m before (omega (arith, lt)) in
    (r.0, r.1 ∙ ap (λ (t : List BodyLine). r.0 ++ t) (sym (post_all_next c payload n before)))
