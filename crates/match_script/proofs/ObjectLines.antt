-- The objects of a header, line by line.
use Rattle.std.proofs.Common.{◌≡◌, ℕ, suc, ◌+◌, ◌<◌, ◌≤◌, Bool, true, false, ◌&&◌, List, [], ◌∷◌, ◌++◌, map, nat_le, nat_lt, Result, Ok, Err, Option, Some, None, cond, arith, refl, sym, ◌∙◌, append_assoc, add-one}
use Rattle.std.proofs.lemmas.List.{append-nil, map-append}
use Rattle.std.proofs.lemmas.Bool.{and_parts}
use Rattle.std.proofs.lemmas.List.Folds.{list_all-append}
use Rattle.std.specs.List.{list_all}
use Rattle.world_rules.specs.declared.setup.Spawn.{Spawn}
use Rattle.world_rules.specs.Spawning.{OwnerFits, SpawnFits}
use Rattle.world_rules.specs.Identity.{OwnersRise, HaveNoOwner}
use Rattle.match_script.specs.declared.types.ScriptFault.{ScriptFault}
use Rattle.match_script.specs.declared.types.ScriptFault.TheVariants.{BadHeader}
use Rattle.match_script.specs.declared.objects.Place.{Place}
use Rattle.match_script.specs.Header.{is_go, is_earlier_player, may_follow, object_line}
use Rattle.match_script.specs.Script.{Fault, ◌>>=◌, text_line, header_words, stands, objects_of}
use Rattle.match_script.specs.Following.{Follows}

-- ---- one line

abbrev Read : Type 0
Read = Result (List Spawn × List (List ℕ)) Fault

abbrev pub behind_objects : List Spawn → Read → Read
behind_objects front (Ok x) = Ok (front ++ x.0, x.1)
behind_objects front (Err e) = Err e

abbrev then_objects : Spawn → Read → Read
then_objects s rest = rest >>= λ x. Ok (s ∷ x.0, x.1)

-- the objects behind these, by the words of the next line and the lines after it
abbrev after_line : ℕ → ℕ → ℕ → List Spawn → List (List ℕ) × List (List ℕ) → Read
after_line clients blocks n before x =
    cond (is_go x.0) (Ok ([], x.1)) (stands n (object_line clients blocks before x.0) >>= λ s. then_objects s (objects_of clients blocks (suc n) (before ++ s ∷ []) x.1))

by_words : (clients blocks n : ℕ) (before : List Spawn) (lines : List (List ℕ)) (words : Result (List (List ℕ)) Fault) → (words >>= λ w. after_line clients blocks n before (w, lines)) ≡ ((words >>= λ w. Ok (w, lines)) >>= after_line clients blocks n before)
by_words clients blocks n before lines (Ok words) = refl
by_words clients blocks n before lines (Err e) = refl

by_line : (clients blocks n : ℕ) (before : List Spawn) (lines : List (List ℕ)) → objects_of clients blocks n before lines ≡ (header_words n lines >>= after_line clients blocks n before)
unfolding objects_of header_words
by_line clients blocks n before [] = refl
by_line clients blocks n before (line ∷ lines) = by_words clients blocks n before lines (text_line n line)

moved : (front : List Spawn) (s : Spawn) (rest : Read) → behind_objects front (then_objects s rest) ≡ behind_objects (front ++ s ∷ []) rest
moved front s (Ok x) = rw append_assoc refl
moved front s (Err e) = refl

pub objects_go_on : (front : List Spawn) (clients blocks n : ℕ) (lines words after : List (List ℕ)) (s : Spawn) → header_words n lines ≡ Ok (words, after) → is_go words ≡ false → object_line clients blocks front words ≡ Some s
    → behind_objects front (objects_of clients blocks n front lines) ≡ behind_objects (front ++ s ∷ []) (objects_of clients blocks (n + 1) (front ++ s ∷ []) after)
objects_go_on front clients blocks n lines words after s e go o = rw (by_line clients blocks n front lines, e, go, o, add-one) (moved front s (objects_of clients blocks (suc n) (front ++ s ∷ []) after))

pub objects_end : (front : List Spawn) (clients blocks n : ℕ) (lines words after : List (List ℕ)) → header_words n lines ≡ Ok (words, after) → is_go words ≡ true → behind_objects front (objects_of clients blocks n front lines) ≡ Ok (front, after)
objects_end front clients blocks n lines words after e go = rw (by_line clients blocks n front lines, e, go, append-nil) refl

pub objects_stop : (front : List Spawn) (clients blocks n m : ℕ) (fault : ScriptFault) (lines : List (List ℕ)) → header_words n lines ≡ Err (m, fault) → behind_objects front (objects_of clients blocks n front lines) ≡ Err (m, fault)
objects_stop front clients blocks n m fault lines e = rw (by_line clients blocks n front lines, e) refl

pub objects_misplaced : (front : List Spawn) (clients blocks n : ℕ) (lines words after : List (List ℕ)) → header_words n lines ≡ Ok (words, after) → is_go words ≡ false → object_line clients blocks front words ≡ None → behind_objects front (objects_of clients blocks n front lines) ≡ Err (n, BadHeader)
objects_misplaced front clients blocks n lines words after e go o = rw (by_line clients blocks n front lines, e, go, o) refl

-- ---- who may follow

earlier_more : (client : ℕ) (before : List Spawn) (s : Spawn) → may_follow (before ++ s ∷ []) (Some client) ≡ (may_follow before (Some client) && (is_earlier_player client s.owner && true))
earlier_more client before s = list_all-append (λ x. is_earlier_player client x.owner) before (s ∷ [])

none_behind : (b : Bool) → (b && (false && true)) ≡ false
none_behind true = refl
none_behind false = refl

-- behind a player of this client those of greater clients may play
pub follows_player : (place : Place) (before : List Spawn) (s : Spawn) (client : ℕ) → s.owner ≡ Some client → may_follow before (Some client) ≡ true → Follows place before → (c : ℕ) → may_follow (before ++ s ∷ []) (Some c) ≡ (place.open && nat_le (client + 1) c)
follows_player place before s client o m h c =
    earlier_more c before s ∙ rw (o, h c) (by place.open (rw (h client) at m))
  where
    by : (open_ : Bool) → (open_ && nat_le place.least client) ≡ true → ((open_ && nat_le place.least c) && (nat_lt client c && true)) ≡ (open_ && nat_le (client + 1) c)
    by false e = refl
    by true e = grind arith

pub follows_other : (place : Place) (before : List Spawn) (s : Spawn) → s.owner ≡ None → Follows place before → (c : ℕ) → may_follow (before ++ s ∷ []) (Some c) ≡ false
follows_other place before s o h c = earlier_more c before s ∙ rw o (none_behind (may_follow before (Some c)))

-- ---- the owners rise

no_owner_more : (owners : List (Option ℕ)) → HaveNoOwner owners → HaveNoOwner (owners ++ None ∷ [])
no_owner_more [] h = tt
no_owner_more (None ∷ owners) h = no_owner_more owners h
no_owner_more (Some o ∷ owners) h = absurd h

rises_by_none : (clients least : ℕ) (owners : List (Option ℕ)) → OwnersRise clients least owners → OwnersRise clients least (owners ++ None ∷ [])
rises_by_none clients least [] h = tt
rises_by_none clients least (None ∷ owners) h = no_owner_more owners h
rises_by_none clients least (Some o ∷ owners) h = (h.0, h.1, rises_by_none clients (suc o) owners h.2)

behind_by : (clients least client : ℕ) (owner : Option ℕ) (others : List (Option ℕ)) → is_earlier_player client owner ≡ true
    → ((o : ℕ) → o < client → OwnersRise clients (suc o) others → OwnersRise clients (suc o) (others ++ Some client ∷ []))
    → OwnersRise clients least (owner ∷ others) → OwnersRise clients least (owner ∷ (others ++ Some client ∷ []))
behind_by clients least client None others e rest h = absurd (cc)
behind_by clients least client (Some o) others e rest h = (h.0, h.1, rest o (below o client e) h.2)
  where
    below : (o client : ℕ) → nat_lt o client ≡ true → o < client
    below o client e = grind arith

rises_by_player : (clients least client : ℕ) (before : List Spawn) → client < clients → least ≤ client → list_all (λ s. is_earlier_player client s.owner) before ≡ true → OwnersRise clients least (map (λ s. s.owner) before) → OwnersRise clients least (map (λ s. s.owner) before ++ Some client ∷ [])
rises_by_player clients least client [] w l m h = (l, w, tt)
rises_by_player clients least client (s ∷ before) w l m h =
    let p = and_parts (is_earlier_player client s.owner) (list_all (λ x. is_earlier_player client x.owner) before) m in
    behind_by clients least client s.owner (map (λ x. x.owner) before) p.0 (λ o b r. rises_by_player clients (suc o) client before w (omega (arith, b)) p.1 r) h

rises_by : (clients : ℕ) (before : List Spawn) (owner : Option ℕ) → ((client : ℕ) → owner ≡ Some client → client < clients) → may_follow before owner ≡ true → OwnersRise clients 0 (map (λ s. s.owner) before) → OwnersRise clients 0 (map (λ s. s.owner) before ++ owner ∷ [])
rises_by clients before None w m h = rises_by_none clients 0 (map (λ s. s.owner) before) h
rises_by clients before (Some client) w m h = rises_by_player clients 0 client before (w client refl) (omega arith) m h

owner_below : (clients kind : ℕ) (owner : Option ℕ) → OwnerFits clients kind owner → (client : ℕ) → owner ≡ Some client → client < clients
owner_below clients kind None f client e = absurd (cc)
owner_below clients kind (Some o) f client e = let same : o ≡ client = cc in rw (sym same) f.1

pub rises_more : (clients : ℕ) (before : List Spawn) (s : Spawn) → SpawnFits clients s → may_follow before s.owner ≡ true → OwnersRise clients 0 (map (λ x. x.owner) before) → OwnersRise clients 0 (map (λ x. x.owner) (before ++ s ∷ []))
rises_more clients before s f m h = rw (map-append (λ (x : Spawn). x.owner) before (s ∷ [])) (rises_by clients before s.owner (owner_below clients s.kind s.owner f.owner) m h)
