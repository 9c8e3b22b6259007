-- Each line that is printed is read again, and the script with it.
use Rattle.std.proofs.Common.{◌≡◌, ℕ, zero, suc, ◌+◌, ◌^◌, ◌<◌, ◌≤◌, true, false, List, [], ◌∷◌, ◌++◌, length, map, arith, Ok, nat_lt, nat_le, nat_eq, refl, ap, sym, subst, ◌&&◌, length-append, ◌∙◌, append_assoc, Some, None, Option, Bool}
use Rattle.std.specs.Prelude.{codes, ℤ, pos, negsuc, ◌≤ℤ◌}
use Rattle.std.specs.List.{list_all, All}
use Rattle.std.proofs.lemmas.List.Elements.{All-head, All-tail}
use Rattle.std.specs.Fmt.{decimal, signed_decimal, digits}
use Rattle.std.proofs.lemmas.Bool.{and_parts}
use Rattle.std.proofs.lemmas.Bool.Decides.{nat_tests}
use Rattle.std.proofs.lemmas.Int.{ints}
use Rattle.std.proofs.lemmas.List.Folds.{list_all-append}
use Rattle.match_script.specs.Words.{number}
use Rattle.tn_types.specs.declared.moves.Move.{Move as PlayerMove}
use Rattle.world_rules.specs.declared.setup.Spawn.{Spawn}
use Rattle.world_rules.specs.Spawning.{OwnerFits, SpawnFits}
use Rattle.world_rules.specs.Kinds.{kind_word}
use Rattle.world_rules.proofs.KindWords.{of_kind_word}
use Rattle.world_rules.specs.Identity.{OwnersRise, HaveNoOwner}
use Rattle.match_script.specs.declared.types.BodyLine.{BodyLine}
use Rattle.match_script.specs.declared.types.BodyLine.TheVariants.{Tick, Scan, Post, ClientPost, Pack, ClientPack, Down, Up, Raw, Move, Show, World}
use Rattle.match_script.specs.declared.types.Head.{Head}
use Rattle.match_script.specs.declared.types.Script.{Script}
use Rattle.std.proofs.lemmas.List.{map-append}
use Rattle.match_script.specs.Text.{words_of, is_text, spelled}
use Rattle.match_script.specs.Lines.{body_line, scan_line, post_line, client_post_line, pack_line, client_pack_line, down_line, up_line, raw_line, move_line, show_line}
use Rattle.match_script.specs.Header.{match_numbers, version_named, version_line, match_line, block_line, is_go, is_earlier_player, may_follow, kind_named, placed, player_words, spawn_words, named, object_line}
use Rattle.match_script.specs.Script.{script_in, script_of, body_of, line_at, opening, header, header_length, text_line, header_words, block_in, blocks_of, objects_of, with_objects}
use Rattle.match_script.specs.Ranges.{LineFits, BlockFits, HeadFits, HasRanges}
use Rattle.match_script.specs.Print.{line_words, version_words, match_words, block_words, place_words, owned_line, object_words, go_words, hex_word, flag_word, joined, text_of}
use Rattle.match_script.specs.Print.{header_words as printed_header}
use Rattle.match_script.proofs.MoveLines.{move_read}
use Rattle.match_script.proofs.Printing.{is_plain, lines_joined, words_spelled, text_spelled, number_decimal, number_from_decimal, plain_decimal, step_back, plain_step, flag_back, plain_flag, class_back, plain_class, hex_back, plain_hex, bytes_are}

read_at : (clients k : ℕ) (w : List ℕ) (ws : List (List ℕ)) (line : BodyLine) → k < 100000 → list_all is_plain (w ∷ ws) ≡ true → body_line clients (w ∷ ws) ≡ Ok line → line_at clients k (spelled (w ∷ ws)) ≡ Ok line
unfolding line_at
read_at clients k w ws line few plain e =
    let f : nat_le 100000 k ≡ false = grind arith in
    rw (text_spelled (w ∷ ws) plain, f, words_spelled w ws plain, e) refl

-- the lines of one client and no more
client_plain : (clients c : ℕ) → clients ≤ 16 → c < clients → is_plain (decimal c) ≡ true
client_plain clients c small h = plain_decimal c (omega arith)

client_back : (clients c : ℕ) → clients ≤ 16 → c < clients → number clients (decimal c) ≡ Ok c
client_back clients c small h = number_decimal clients c h (omega arith)

place_plain : (k : ℕ) → k < 2 ^ 32 → is_plain (decimal k) ≡ true
place_plain k h = plain_decimal k (omega arith)

place_back : (k : ℕ) → k < 2 ^ 32 → number (2 ^ 32) (decimal k) ≡ Ok k
place_back k h = number_decimal (2 ^ 32) k h (omega arith)

line_plain : (clients : ℕ) (line : BodyLine) → clients ≤ 16 → LineFits clients line → list_all is_plain (line_words line) ≡ true
line_plain clients Tick small h = refl
line_plain clients World small h = refl
line_plain clients (Scan c) small h = rw (client_plain clients c small h) refl
line_plain clients (Post c class bytes) small h = rw (client_plain clients c small h.0, plain_class class, plain_hex bytes (bytes_are bytes h.1.1)) refl
line_plain clients (ClientPost c class bytes) small h = rw (client_plain clients c small h.0, plain_class class, plain_hex bytes (bytes_are bytes h.1.1)) refl
line_plain clients (Pack c) small h = rw (client_plain clients c small h) refl
line_plain clients (ClientPack c) small h = rw (client_plain clients c small h) refl
line_plain clients (Down c k) small h = rw (client_plain clients c small h.0, place_plain k h.1) refl
line_plain clients (Up c k) small h = rw (client_plain clients c small h.0, place_plain k h.1) refl
line_plain clients (Raw c bytes) small h = rw (client_plain clients c small h.0, plain_hex bytes (bytes_are bytes h.1.1)) refl
line_plain clients (Move c m) small h = rw (client_plain clients c small h, plain_step m.dx m.dx_range, plain_step m.dy m.dy_range, plain_flag m.fire, plain_flag m.act) refl
line_plain clients (Show c) small h = rw (client_plain clients c small h) refl

-- a move that is printed is read again
move_back : (clients c : ℕ) (m : PlayerMove) → clients ≤ 16 → c < clients → move_line clients (decimal c) (signed_decimal m.dx) (signed_decimal m.dy) (flag_word m.fire) (flag_word m.act) ≡ Ok (Move c m)
move_back clients c m small h =
    move_read clients (decimal c) (signed_decimal m.dx) (signed_decimal m.dy) (flag_word m.fire) (flag_word m.act) c m (client_back clients c small h) (step_back m.dx m.dx_range) (step_back m.dy m.dy_range) (flag_back m.fire) (flag_back m.act)

line_read : (clients : ℕ) (line : BodyLine) → clients ≤ 16 → LineFits clients line → body_line clients (line_words line) ≡ Ok line
unfolding body_line scan_line pack_line client_pack_line down_line up_line raw_line post_line client_post_line show_line
line_read clients Tick small h = refl
line_read clients World small h = refl
line_read clients (Scan c) small h = rw (client_back clients c small h) refl
line_read clients (Post c class bytes) small h = rw (class_back class, client_back clients c small h.0, hex_back 24 bytes (bytes_are bytes h.1.1) h.1.0) refl
line_read clients (ClientPost c class bytes) small h = rw (class_back class, client_back clients c small h.0, hex_back 24 bytes (bytes_are bytes h.1.1) h.1.0) refl
line_read clients (Pack c) small h = rw (client_back clients c small h) refl
line_read clients (ClientPack c) small h = rw (client_back clients c small h) refl
line_read clients (Down c k) small h = rw (client_back clients c small h.0, place_back k h.1) refl
line_read clients (Up c k) small h = rw (client_back clients c small h.0, place_back k h.1) refl
line_read clients (Raw c bytes) small h = rw (client_back clients c small h.0, hex_back 1200 bytes (bytes_are bytes h.1.1) h.1.0) refl
line_read clients (Move c m) small h = move_back clients c m small h
line_read clients (Show c) small h = rw (client_back clients c small h) refl

-- a line has a first word
line_back : (clients k : ℕ) (line : BodyLine) → k < 100000 → clients ≤ 16 → LineFits clients line → line_at clients k (spelled (line_words line)) ≡ Ok line
line_back clients k Tick few small h = read_at clients k _ _ Tick few refl (line_read clients Tick small h)
line_back clients k World few small h = read_at clients k _ _ World few refl (line_read clients World small h)
line_back clients k (Scan c) few small h = read_at clients k _ _ (Scan c) few (line_plain clients (Scan c) small h) (line_read clients (Scan c) small h)
line_back clients k (Post c class bytes) few small h = read_at clients k _ _ (Post c class bytes) few (line_plain clients (Post c class bytes) small h) (line_read clients (Post c class bytes) small h)
line_back clients k (ClientPost c class bytes) few small h = read_at clients k _ _ (ClientPost c class bytes) few (line_plain clients (ClientPost c class bytes) small h) (line_read clients (ClientPost c class bytes) small h)
line_back clients k (Pack c) few small h = read_at clients k _ _ (Pack c) few (line_plain clients (Pack c) small h) (line_read clients (Pack c) small h)
line_back clients k (ClientPack c) few small h = read_at clients k _ _ (ClientPack c) few (line_plain clients (ClientPack c) small h) (line_read clients (ClientPack c) small h)
line_back clients k (Down c n) few small h = read_at clients k _ _ (Down c n) few (line_plain clients (Down c n) small h) (line_read clients (Down c n) small h)
line_back clients k (Up c n) few small h = read_at clients k _ _ (Up c n) few (line_plain clients (Up c n) small h) (line_read clients (Up c n) small h)
line_back clients k (Raw c bytes) few small h = read_at clients k _ _ (Raw c bytes) few (line_plain clients (Raw c bytes) small h) (line_read clients (Raw c bytes) small h)
line_back clients k (Move c m) few small h = read_at clients k _ _ (Move c m) few (line_plain clients (Move c m) small h) (line_read clients (Move c m) small h)
line_back clients k (Show c) few small h = read_at clients k _ _ (Show c) few (line_plain clients (Show c) small h) (line_read clients (Show c) small h)

body_back : (clients n k : ℕ) (lines : List BodyLine) → k + length lines ≤ 100000 → clients ≤ 16 → All (LineFits clients) lines → body_of None clients n k (map spelled (map line_words lines)) ≡ Ok lines
unfolding body_of
body_back clients n k [] few small h = refl
body_back clients n k (line ∷ lines) few small h =
    let one = line_back clients k line (omega arith) small (All-head (LineFits clients) line lines h) in
    let rest = body_back clients n (suc k) lines (omega arith) small (All-tail (LineFits clients) line lines h) in
    rw (one, rest) refl

lines_plain : (clients : ℕ) (lines : List BodyLine) → clients ≤ 16 → All (LineFits clients) lines → list_all (list_all is_plain) (map line_words lines) ≡ true
lines_plain clients [] small h = refl
lines_plain clients (line ∷ lines) small h = rw (line_plain clients line small (All-head (LineFits clients) line lines h), lines_plain clients lines small (All-tail (LineFits clients) line lines h)) refl

all_plain_text : (ws : List (List (List ℕ))) → list_all (list_all is_plain) ws ≡ true → list_all is_text (map spelled ws) ≡ true
all_plain_text [] h = refl
all_plain_text (w ∷ ws) h =
    let p = and_parts (list_all is_plain w) (list_all (list_all is_plain) ws) h in
    rw (text_spelled w p.0, all_plain_text ws p.1) refl

header_line_back : (n : ℕ) (w : List ℕ) (ws rest : List (List ℕ)) → list_all is_plain (w ∷ ws) ≡ true → header_words n (spelled (w ∷ ws) ∷ rest) ≡ Ok (w ∷ ws, rest)
unfolding header_words text_line
header_line_back n w ws rest plain = rw (text_spelled (w ∷ ws) plain, words_spelled w ws plain) refl

version_plain : (h : Head) → HeadFits h → list_all is_plain (version_words h.version) ≡ true
version_plain h f = rw (plain_decimal h.version (omega (arith, f.version))) refl

match_plain : (h : Head) → HeadFits h → list_all is_plain (match_words h) ≡ true
match_plain h f = rw (plain_decimal h.seed (omega (arith, f.seed)), plain_decimal h.clients (omega (arith, f.clients)), plain_decimal h.life (omega (arith, f.life)), plain_decimal h.size (omega (arith, f.size)), plain_decimal h.radius (omega (arith, f.radius))) refl

block_plain : (block : List ℕ) → BlockFits block → list_all is_plain (block_words block) ≡ true
block_plain block h = rw (plain_hex block (bytes_are block h.1)) refl

blocks_plain : (blocks : List (List ℕ)) → All BlockFits blocks → list_all (list_all is_plain) (map block_words blocks) ≡ true
blocks_plain [] h = refl
blocks_plain (block ∷ blocks) h = rw (block_plain block (All-head BlockFits block blocks h), blocks_plain blocks (All-tail BlockFits block blocks h)) refl

version_read : (h : Head) → HeadFits h → version_line (version_words h.version) ≡ Some h.version
unfolding version_line version_named digits
version_read h f = named h.version f.version_least f.version
  where
    named : (v : ℕ) → 1 ≤ v → v ≤ 2 → version_line (version_words v) ≡ Some v
    named zero least most = absurd (omega (arith, least))
    named (suc zero) least most = refl
    named (suc (suc zero)) least most = refl
    named (suc (suc (suc v))) least most = absurd (omega (arith, most))

match_read : (h : Head) → HeadFits h → match_line h.version (match_words h) ≡ Some (with_objects h [] [])
unfolding match_line match_numbers
match_read h f =
    rw (number_decimal (2 ^ 32) h.seed f.seed (omega arith), number_from_decimal 1 16 h.clients f.clients_least f.clients (omega arith), number_from_decimal 1 16777215 h.life f.life_least f.life (omega arith), number_from_decimal 128 1200 h.size f.size_least f.size (omega arith), number_from_decimal 0 65535 h.radius (omega arith) f.radius (omega arith)) refl

block_read : (k : ℕ) (block : List ℕ) → k < 64 → BlockFits block → block_line k (block_words block) ≡ Some block
unfolding block_line
block_read k block few h =
    let lt : nat_lt k 64 ≡ true = grind arith in
    rw (lt, hex_back 40 block (bytes_are block h.1) h.0) refl

block_read_in : (k : ℕ) (block : List ℕ) → k < 64 → BlockFits block → block_in k (spelled (block_words block)) ≡ Some block
unfolding block_in
block_read_in k block few h =
    let plain = block_plain block h in
    rw (text_spelled (block_words block) plain, words_spelled (codes "block") (hex_word block ∷ []) plain) (block_read k block few h)

block_back : (k : ℕ) (block : List ℕ) (rest : List (List ℕ)) (after : List (List ℕ) × List (List ℕ)) → k < 64 → BlockFits block → blocks_of (suc k) rest ≡ after → blocks_of k (spelled (block_words block) ∷ rest) ≡ (block ∷ after.0, after.1)
unfolding blocks_of
block_back k block rest after few h e = rw (block_read_in k block few h, e) refl

-- a line that begins with another word gives no block
no_block_in : (k : ℕ) (w : List ℕ) (ws : List (List ℕ)) → list_all is_plain (w ∷ ws) ≡ true → block_line k (w ∷ ws) ≡ None → block_in k (spelled (w ∷ ws)) ≡ None
unfolding block_in
no_block_in k w ws plain e = rw (text_spelled (w ∷ ws) plain, words_spelled w ws plain) e

stop_at : (k : ℕ) (line : List ℕ) (rest : List (List ℕ)) → block_in k line ≡ None → blocks_of k (line ∷ rest) ≡ ([], line ∷ rest)
unfolding blocks_of
stop_at k line rest e = rw e refl

-- ---- objects

kind_plain : (kind : ℕ) → is_plain (kind_word kind) ≡ true
kind_plain kind = of_kind_word (λ word. is_plain word ≡ true) refl refl refl refl refl refl refl kind

kind_back : (kind : ℕ) → 2 ≤ kind → kind ≤ 5 → kind_named (kind_word kind) ≡ Ok kind
unfolding kind_named
kind_back kind l m = by (nat_eq kind 2) (nat_eq kind 3) (nat_eq kind 4) refl refl refl
  where
    by : (a b c : Bool) → nat_eq kind 2 ≡ a → nat_eq kind 3 ≡ b → nat_eq kind 4 ≡ c → kind_named (kind_word kind) ≡ Ok kind
    by true b c e f g = let k : kind ≡ 2 = grind (arith, nat_tests) in rw k refl
    by false true c e f g = let k : kind ≡ 3 = grind (arith, nat_tests) in rw k refl
    by false false true e f g = let k : kind ≡ 4 = grind (arith, nat_tests) in rw k refl
    by false false false e f g = let k : kind ≡ 5 = grind (arith, nat_tests) in rw k refl

-- a coordinate in its range is a number
record IsCoordinate (z : ℤ) : Type 0 where
  number : ℕ
  is : z ≡ pos number
  few : number ≤ 65535

coordinate : (z : ℤ) → pos 0 ≤ℤ z → z ≤ℤ pos 65535 → IsCoordinate z
coordinate (pos n) low high = record { number = n; is = refl; few = grind (arith, ints) }
coordinate (negsuc n) low high = absurd (grind (arith, ints))

place_plain_at : (clients : ℕ) (s : Spawn) → SpawnFits clients s → list_all is_plain (place_words s) ≡ true
place_plain_at clients s f =
    let x = coordinate s.x f.x_least f.x_most in
    let y = coordinate s.y f.y_least f.y_most in
    rw (plain_decimal s.block (omega (arith, f.block)), plain_decimal s.team (omega (arith, f.team)), x.is, y.is, plain_decimal x.number (omega (arith, x.few)), plain_decimal y.number (omega (arith, y.few))) refl

owned_plain : (clients : ℕ) (owner : Option ℕ) (s : Spawn) → clients ≤ 16 → OwnerFits clients s.kind owner → SpawnFits clients s → list_all is_plain (owned_line owner s) ≡ true
owned_plain clients (Some c) s small o f = rw (plain_decimal c (omega (arith, o.1)), place_plain_at clients s f) refl
owned_plain clients None s small o f = rw (kind_plain s.kind, place_plain_at clients s f) refl

object_plain : (clients : ℕ) (s : Spawn) → clients ≤ 16 → SpawnFits clients s → list_all is_plain (object_words s) ≡ true
object_plain clients s small f = owned_plain clients s.owner s small f.owner f

placed_back : (clients blocks kind : ℕ) (owner : Option ℕ) (s : Spawn) → blocks ≤ 64 → SpawnFits clients s → s.block < blocks → placed blocks kind owner (decimal s.block) (decimal s.team) (signed_decimal s.x) (signed_decimal s.y) ≡ Ok (record { kind = kind; block = s.block; team = s.team; x = s.x; y = s.y; owner = owner })
unfolding placed
placed_back clients blocks kind owner s few f b =
    let x = coordinate s.x f.x_least f.x_most in
    let y = coordinate s.y f.y_least f.y_most in
    rw (
      number_decimal blocks s.block b (omega (arith, few)),
      number_decimal 2 s.team f.team (omega arith),
      x.is,
      y.is,
      number_from_decimal 0 65535 x.number (omega arith) x.few (omega arith),
      number_from_decimal 0 65535 y.number (omega arith) y.few (omega arith),
    ) refl

same_object : (s : Spawn) (kind : ℕ) (owner : Option ℕ) → s.kind ≡ kind → s.owner ≡ owner → ◌≡◌ {A = Spawn} (record { kind = kind; block = s.block; team = s.team; x = s.x; y = s.y; owner = owner }) s
same_object s kind owner k o = rw (sym k, sym o) refl

-- an object is read as it was
owned_back : (clients blocks : ℕ) (owner : Option ℕ) (s : Spawn) → clients ≤ 16 → blocks ≤ 64 → s.owner ≡ owner → OwnerFits clients s.kind owner → SpawnFits clients s → s.block < blocks → named clients blocks (owned_line owner s) ≡ Some s
unfolding named player_words spawn_words
owned_back clients blocks (Some c) s small few e o f b =
    rw (number_decimal clients c o.1 (omega (arith, small)), placed_back clients blocks 0 (Some c) s few f b) (ap Some (same_object s 0 (Some c) o.0 e))
owned_back clients blocks None s small few e o f b =
    rw (kind_back s.kind o.0 o.1, placed_back clients blocks s.kind None s few f b) (ap Some (same_object s s.kind None refl e))

-- ---- objects behind objects

-- a player behind others comes of a greater client than all of them
least_of : (clients least c : ℕ) (before rest : List (Option ℕ)) → OwnersRise clients least (before ++ Some c ∷ rest) → least ≤ c
least_of clients least c [] rest h = h.0
least_of clients least c (None ∷ before) rest h = absurd (no_player before h)
  where
    no_player : (xs : List (Option ℕ)) → HaveNoOwner (xs ++ Some c ∷ rest) → ⊥
    no_player [] h = h
    no_player (None ∷ xs) h = no_player xs h
    no_player (Some o ∷ xs) h = h
least_of clients least c (Some o ∷ before) rest h = let l = least_of clients (suc o) c before rest h.2 in omega (arith, h.0, l)

all_earlier : (clients least c : ℕ) (before : List Spawn) (rest : List (Option ℕ)) → OwnersRise clients least (map (λ s. s.owner) before ++ Some c ∷ rest) → list_all (λ s. is_earlier_player c s.owner) before ≡ true
all_earlier clients least c [] rest h = refl
all_earlier clients least c (s ∷ before) rest h = by s.owner (λ o k. all_earlier clients (suc o) c before rest k) h
  where
    no_player : (xs : List (Option ℕ)) → HaveNoOwner (xs ++ Some c ∷ rest) → ⊥
    no_player [] h = h
    no_player (None ∷ xs) h = no_player xs h
    no_player (Some o ∷ xs) h = h

    by : (o : Option ℕ) → ((o : ℕ) → OwnersRise clients (suc o) (map (λ x. x.owner) before ++ Some c ∷ rest) → list_all (λ x. is_earlier_player c x.owner) before ≡ true)
        → OwnersRise clients least (o ∷ (map (λ x. x.owner) before ++ Some c ∷ rest)) → (is_earlier_player c o && list_all (λ x. is_earlier_player c x.owner) before) ≡ true
    by None rest_ h = absurd (no_player (map (λ x. x.owner) before) h)
    by (Some o) rest_ h =
        let l = least_of clients (suc o) c (map (λ x. x.owner) before) rest h.2 in
        let t : nat_lt o c ≡ true = grind (arith, l) in
        rw t (rest_ o h.2)

may_stand : (clients : ℕ) (before : List Spawn) (owner : Option ℕ) (rest : List (Option ℕ)) → OwnersRise clients 0 (map (λ s. s.owner) before ++ owner ∷ rest) → may_follow before owner ≡ true
may_stand clients before None rest h = refl
may_stand clients before (Some c) rest h = all_earlier clients 0 c before rest h

-- what holds of objects behind others
record Stand (clients blocks : ℕ) (before objects : List Spawn) : Type 0 where
  small : clients ≤ 16
  few_blocks : blocks ≤ 64
  few : length before + length objects ≤ 1024
  fit : All (SpawnFits clients) objects
  blocks_fit : All (λ s. s.block < blocks) objects
  order : OwnersRise clients 0 (map (λ s. s.owner) before ++ map (λ s. s.owner) objects)

object_read : (clients blocks : ℕ) (before : List Spawn) (s : Spawn) (objects : List Spawn) → Stand clients blocks before (s ∷ objects) → object_line clients blocks before (object_words s) ≡ Some s
object_read clients blocks before s objects h =
    let f = All-head (SpawnFits clients) s objects h.fit in
    let b = All-head (λ (x : Spawn). x.block < blocks) s objects h.blocks_fit in
    let read = owned_back clients blocks s.owner s h.small h.few_blocks refl f.owner f b in
    let may = may_stand clients before s.owner (map (λ x. x.owner) objects) h.order in
    let room : nat_lt (length before) 1024 ≡ true = grind (arith, h.few) in
    rw (read, may, room) refl

words_of_object : (owner : Option ℕ) (s : Spawn) → list_all is_plain (owned_line owner s) ≡ true → words_of (spelled (owned_line owner s)) ≡ owned_line owner s
words_of_object (Some c) s plain = words_spelled (codes "player") (decimal c ∷ place_words s) plain
words_of_object None s plain = words_spelled (codes "spawn") (kind_word s.kind ∷ place_words s) plain

not_go : (owner : Option ℕ) (s : Spawn) → is_go (owned_line owner s) ≡ false
unfolding is_go
not_go (Some c) s = refl
not_go None s = refl

object_go_on : (clients blocks n : ℕ) (before : List Spawn) (s : Spawn) (objects : List Spawn) (lines after : List (List ℕ)) → Stand clients blocks before (s ∷ objects) → objects_of clients blocks (suc n) (before ++ s ∷ []) lines ≡ Ok (objects, after)
    → objects_of clients blocks n before (spelled (object_words s) ∷ lines) ≡ Ok (s ∷ objects, after)
unfolding objects_of text_line
object_go_on clients blocks n before s objects lines after h e =
    let f = All-head (SpawnFits clients) s objects h.fit in
    let plain = object_plain clients s h.small f in
    rw (text_spelled (object_words s) plain, words_of_object s.owner s plain, not_go s.owner s, object_read clients blocks before s objects h, e) refl

go_ends : (clients blocks n : ℕ) (before : List Spawn) (rest : List (List ℕ)) → objects_of clients blocks n before (spelled go_words ∷ rest) ≡ Ok ([], rest)
unfolding objects_of text_line is_go spelled
go_ends clients blocks n before rest = rw (words_spelled (codes "go") [] refl) refl

-- what holds of these behind others holds of the others with the first one, and of the rest
stand_on : (clients blocks : ℕ) (before : List Spawn) (s : Spawn) (objects : List Spawn) → Stand clients blocks before (s ∷ objects) → Stand clients blocks (before ++ s ∷ []) objects
stand_on clients blocks before s objects h =
    let long = length-append before (s ∷ []) in
    record {
      small = h.small;
      few_blocks = h.few_blocks;
      few = omega (arith, long, h.few);
      fit = All-tail (SpawnFits clients) s objects h.fit;
      blocks_fit = All-tail (λ (x : Spawn). x.block < blocks) s objects h.blocks_fit;
      order = rw (map-append (λ (x : Spawn). x.owner) before (s ∷ []), append_assoc) h.order;
    }

objects_back : (clients blocks n : ℕ) (before objects : List Spawn) (rest : List (List (List ℕ))) → Stand clients blocks before objects → objects_of clients blocks n before (map spelled (map object_words objects ++ go_words ∷ rest)) ≡ Ok (objects, map spelled rest)
objects_back clients blocks n before [] rest h = go_ends clients blocks n before (map spelled rest)
objects_back clients blocks n before (s ∷ objects) rest h =
    object_go_on clients blocks n before s objects (map spelled (map object_words objects ++ go_words ∷ rest)) (map spelled rest) h
    (objects_back clients blocks (suc n) (before ++ s ∷ []) objects rest (stand_on clients blocks before s objects h))

-- ---- the blocks in front of them

no_block_at_object : (k : ℕ) (owner : Option ℕ) (s : Spawn) → list_all is_plain (owned_line owner s) ≡ true → block_in k (spelled (owned_line owner s)) ≡ None
unfolding block_line
no_block_at_object k (Some c) s plain = no_block_in k (codes "player") (decimal c ∷ place_words s) plain refl
no_block_at_object k None s plain = no_block_in k (codes "spawn") (kind_word s.kind ∷ place_words s) plain refl

no_block_at_go : (k : ℕ) → block_in k (spelled go_words) ≡ None
unfolding block_line spelled
no_block_at_go k = no_block_in k (codes "go") [] refl refl

blocks_end_here : (clients k : ℕ) (objects : List Spawn) (rest : List (List (List ℕ))) → clients ≤ 16 → All (SpawnFits clients) objects → blocks_of k (map spelled (map object_words objects ++ go_words ∷ rest)) ≡ ([], map spelled (map object_words objects ++ go_words ∷ rest))
blocks_end_here clients k [] rest small f = stop_at k (spelled go_words) (map spelled rest) (no_block_at_go k)
blocks_end_here clients k (s ∷ objects) rest small f =
    stop_at k (spelled (object_words s)) (map spelled (map object_words objects ++ go_words ∷ rest)) (no_block_at_object k s.owner s (object_plain clients s small (All-head (SpawnFits clients) s objects f)))

blocks_back : (clients k : ℕ) (blocks : List (List ℕ)) (objects : List Spawn) (rest : List (List (List ℕ))) → clients ≤ 16 → k + length blocks ≤ 64 → All BlockFits blocks → All (SpawnFits clients) objects
    → blocks_of k (map spelled (map block_words blocks ++ (map object_words objects ++ go_words ∷ rest))) ≡ (blocks, map spelled (map object_words objects ++ go_words ∷ rest))
blocks_back clients k [] objects rest small few h f = blocks_end_here clients k objects rest small f
blocks_back clients k (block ∷ blocks) objects rest small few h f =
    block_back k block (map spelled (map block_words blocks ++ (map object_words objects ++ go_words ∷ rest))) (blocks, map spelled (map object_words objects ++ go_words ∷ rest)) (omega arith) (All-head BlockFits block blocks h)
    (blocks_back clients (suc k) blocks objects rest small (omega arith) (All-tail BlockFits block blocks h) f)

-- ---- a header

-- the lines of a header from its objects on, and from its blocks on
abbrev from_objects : Head → List (List (List ℕ)) → List (List (List ℕ))
from_objects h rest = map object_words h.setup.spawns ++ go_words ∷ rest

abbrev from_blocks : Head → List (List (List ℕ)) → List (List (List ℕ))
from_blocks h rest = map block_words h.blocks ++ from_objects h rest

abbrev all_words : Head → List (List (List ℕ)) → List (List (List ℕ))
all_words h rest = version_words h.version ∷ match_words h ∷ from_blocks h rest

-- the clients and the radius of its setup are the header's
same_head : (h : Head) → h.setup.clients ≡ h.clients → h.setup.radius ≡ h.radius → with_objects h h.blocks h.setup.spawns ≡ h
same_head h c r = rw (sym c, sym r) refl

stands_first : (h : Head) → HeadFits h → Stand h.clients (length h.blocks) [] h.setup.spawns
stands_first h f = record {
  small = f.clients;
  few_blocks = f.blocks_few;
  few = omega (arith, f.setup.few);
  fit = subst (λ c. All (SpawnFits c) h.setup.spawns) f.same_clients f.setup.spawns;
  blocks_fit = f.objects;
  order = subst (λ c. OwnersRise c 0 (map (λ (s : Spawn). s.owner) h.setup.spawns)) f.same_clients f.setup.owners;
}

header_back : (h : Head) (rest : List (List (List ℕ))) → HeadFits h → header (map spelled (all_words h rest)) ≡ Ok (h, map spelled rest)
unfolding header opening
header_back h rest f =
    let stand = stands_first h f in
    rw (
      header_line_back 1 (codes "tribes") (decimal h.version ∷ []) (spelled (match_words h) ∷ map spelled (from_blocks h rest)) (version_plain h f),
      version_read h f,
      header_line_back 2 (codes "match") (decimal h.seed ∷ decimal h.clients ∷ decimal h.life ∷ decimal h.size ∷ decimal h.radius ∷ []) (map spelled (from_blocks h rest)) (match_plain h f),
      match_read h f,
      blocks_back h.clients 0 h.blocks h.setup.spawns rest f.clients (omega (arith, f.blocks_few)) f.blocks stand.fit,
      objects_back h.clients (length h.blocks) (3 + length h.blocks) [] h.setup.spawns rest stand,
      same_head h f.same_clients f.same_radius,
    ) refl

objects_plain : (clients : ℕ) (objects : List Spawn) → clients ≤ 16 → All (SpawnFits clients) objects → list_all (list_all is_plain) (map object_words objects) ≡ true
objects_plain clients [] small h = refl
objects_plain clients (s ∷ objects) small h = rw (object_plain clients s small (All-head (SpawnFits clients) s objects h), objects_plain clients objects small (All-tail (SpawnFits clients) s objects h)) refl

script_back : (s : Script) → HasRanges s → script_in None (map spelled (all_words s.head (map line_words s.body))) ≡ Ok s
unfolding script_in
script_back s f = rw (header_back s.head (map line_words s.body) f.head, body_back s.head.clients (header_length s.head) 0 s.body (omega (arith, f.few)) f.head.clients f.lines) refl

from_objects_plain : (s : Script) → HasRanges s → list_all (list_all is_plain) (from_objects s.head (map line_words s.body)) ≡ true
from_objects_plain s f = list_all-append (list_all is_plain) (map object_words s.head.setup.spawns) (go_words ∷ map line_words s.body) ∙ rw (objects_plain s.head.clients s.head.setup.spawns f.head.clients (stands_first s.head f.head).fit, lines_plain s.head.clients s.body f.head.clients f.lines) refl

from_blocks_plain : (s : Script) → HasRanges s → list_all (list_all is_plain) (from_blocks s.head (map line_words s.body)) ≡ true
from_blocks_plain s f = list_all-append (list_all is_plain) (map block_words s.head.blocks) (from_objects s.head (map line_words s.body)) ∙ rw (blocks_plain s.head.blocks f.head.blocks, from_objects_plain s f) refl

script_plain : (s : Script) → HasRanges s → list_all (list_all is_plain) (all_words s.head (map line_words s.body)) ≡ true
script_plain s f = rw (version_plain s.head f.head, match_plain s.head f.head, from_blocks_plain s f) refl

regroup : {A : Type 0} (a b g : A) (bs os ls : List A) → (a ∷ b ∷ (bs ++ (os ++ g ∷ []))) ++ ls ≡ a ∷ b ∷ (bs ++ (os ++ g ∷ ls))
regroup a b g bs os ls = ap (λ xs. a ∷ b ∷ xs) (rw (append_assoc, append_assoc) refl)

pub read_again : (s : Script) → HasRanges s → script_of (text_of s) ≡ Ok s
read_again s f =
    let words = all_words s.head (map line_words s.body) in
    let same : printed_header s.head ++ map line_words s.body ≡ words = regroup (version_words s.head.version) (match_words s.head) go_words (map block_words s.head.blocks) (map object_words s.head.setup.spawns) (map line_words s.body) in
    ap (λ (ws : List (List (List ℕ))). script_of (joined (map spelled ws))) same
    ∙ ap (script_in None) (lines_joined (map spelled words) (all_plain_text words (script_plain s f))) ∙ script_back s f
