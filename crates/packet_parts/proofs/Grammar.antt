-- The same of each item and each packet.
use Rattle.std.proofs.Common.{◌≡◌, ℕ, suc, ◌+◌, ◌/◌, ◌%◌, ◌*◌, ◌^◌, Bool, true, false, cond, List, [], ◌∷◌, length, Option, Some, None, Result, Ok, refl, sym, ap, subst, ◌∙◌, arith}
use Rattle.std.specs.Prelude.{◌==◌, ◌-◌, ◌≤◌, min, nat_le, nat_lt}
use Rattle.std.proofs.lemmas.Bool.Decides.{nat_tests}
use Rattle.std.proofs.Math.Nat.{pow-suc}
use native.Mathlib.Nat as nat
use Rattle.quantised_fields.specs.declared.kind.Kind.{Kind}
use Rattle.bit_stream.specs.Bits.{number}
use Rattle.bit_stream.specs.Reading.{Unread, number_at}
use Rattle.bit_stream.specs.declared.reader.Short.{Short}
use Rattle.bit_stream.proofs.Reading.{number_at-again}
use Rattle.wire_format.specs.declared.fault.BitsFault.{BitsFault}
use Rattle.wire_format.specs.declared.fault.BitsCause.TheVariants as causes
use Rattle.wire_format.specs.Reading.{part_at}
use Rattle.wire_format.specs.declared.header.Header.{Header}
use Rattle.wire_format.specs.Header.{header_at}
use Rattle.wire_format.specs.Blocks.{block_at}
use Rattle.wire_format.specs.Events.{event_at, is_low, number_width}
use Rattle.wire_format.specs.declared.wire.Wire.{Wire}
use Rattle.wire_format.specs.Moves.{move_at, side_by_side_at, world_parts, wide_parts}
use Rattle.wire_format.specs.Ghosts.{ghost_at, create_at, update_at, updated_at, update_kind_at, known_kind_at, levels_at, chosen, widths}
use Rattle.wire_format.specs.Server.{server_at, server_body_at}
use Rattle.wire_format.specs.Client.{client_at, client_body_at}
use Rattle.packet_parts.specs.declared.part.PartName.TheVariants as names
use Rattle.packet_parts.specs.Parts.{Told, Stop, goes_on, told}
use Rattle.packet_parts.specs.Telling.{header_told, byte_told, block_told, event_told, world_move_told, wide_move_told, move_told, level_told, levels_told, create_told, held_told, update_kind_told, update_told, ghost_told, server_body_told, server_told, client_body_told, client_told}
use Rattle.packet_parts.proofs.Erasing.{read_of, Same, same_then, left_then, last, same_if, part_same, such_same, only_left, optional_same, byte_same, counted_same, listed_same}

pub header_same : (s : Told) → Same (header_at s.unread) (header_told s)
unfolding header_at header_told
header_same s =
    same_then _ _ _ _ (part_same names.Client 4 s) (λ client t.
    same_then _ _ _ _ (such_same names.Seq causes.ZeroSeq _ 24 t) (λ seq u.
    same_then _ _ _ _ (part_same names.Horizon 24 u) (λ horizon v.
    same_then _ _ _ _ (part_same names.Mask 32 v) (λ mask x. refl))))

block_same : (s : Told) → Same (block_at s.unread) (block_told s)
unfolding block_at block_told
block_same s =
    same_then _ _ _ _ (part_same names.BlockNumber 6 s) (λ number t.
    same_then _ _ _ _ (such_same names.BlockLength causes.LengthBits _ 6 t) (λ count u.
    last _ _ _ (counted_same (part_at 8) (byte_told names.BlockByte) (byte_same names.BlockByte) count u) (λ x. refl)))

event_same : (version : ℕ) (s : Told) → Same (event_at version s.unread) (event_told version s)
unfolding event_at event_told
event_same version s =
    left_then _ _ _ _ (optional_same names.EventFlag names.EventNumber (number_width version) s) (λ number y t.
    same_then _ _ _ _ (such_same names.EventLength causes.LengthBits _ 5 t) (λ count u.
    last _ _ _ (counted_same (part_at 8) (byte_told names.EventByte) (byte_same names.EventByte) count u) (λ x. refl)))

world_move_same : (s : Told) → Same (side_by_side_at world_parts s.unread) (world_move_told s)
unfolding side_by_side_at world_move_told
world_move_same s =
    same_then _ _ _ _ (part_same names.StepX 4 s) (λ dx t. last _ _ _ (
    same_then _ _ _ _ (part_same names.StepY 4 t) (λ dy u. last _ _ _ (
    same_then _ _ _ _ (part_same names.Fire 1 u) (λ fire v. last _ _ _ (
    same_then _ _ _ _ (part_same names.Use 1 v) (λ act x. refl))
    (λ x. refl)))
    (λ x. refl)))
    (λ x. refl))

made_at : ℕ → Unread → Result (ℕ × Unread) Short
made_at k u = Ok (0, record { place = k; rest = u.rest })

-- a part of no bits is always there
no_bits : (u : Unread) → part_at 0 u ≡ Ok (0, u)
unfolding part_at number made_at
no_bits u =
    let here : number_at 0 u ≡ Ok (0, u) = number_at-again 0 0 u.place u.rest (omega arith) ∙ ap (λ (k : ℕ). made_at k u) (omega arith) in
    rw here refl

narrow_same : (n : ℕ) (s : Told) → n ≤ 32 → Same (side_by_side_at (wide_parts n) s.unread) (goes_on (told names.MoveLow n (part_at n) s) (λ low. Ok (tt {0}, low.1)))
unfolding side_by_side_at
narrow_same n s few =
    let low : min n 32 ≡ n = omega (arith, few) in
    let high : n - 32 ≡ 0 = omega (arith, few) in
    rw (low, high) (same_then _ _ _ _ (part_same names.MoveLow n s) (λ x t. rw (no_bits t.unread) refl))

wide_same : (n : ℕ) (s : Told) → 32 ≤ n → Same (side_by_side_at (wide_parts n) s.unread)
    (goes_on (told names.MoveLow 32 (part_at 32) s) (λ low. goes_on (told names.MoveHigh (n - 32) (part_at (n - 32)) low.1) (λ high. Ok (tt {0}, high.1))))
unfolding side_by_side_at
wide_same n s many =
    let low : min n 32 ≡ 32 = omega (arith, many) in
    rw low (same_then _ _ _ _ (part_same names.MoveLow 32 s) (λ x t. last _ _ _ (
    same_then _ _ _ _ (part_same names.MoveHigh (n - 32) t) (λ y u. refl))
    (λ z. refl)))

own_move_same : (n : ℕ) (s : Told) → Same (side_by_side_at (wide_parts n) s.unread) (wide_move_told n s)
unfolding wide_move_told
own_move_same n s = by_width (nat_le n 32) refl
  where
    by_width : (b : Bool) → nat_le n 32 ≡ b → Same (side_by_side_at (wide_parts n) s.unread)
        (cond b (goes_on (told names.MoveLow n (part_at n) s) (λ low. Ok (tt {0}, low.1)))
        (goes_on (told names.MoveLow 32 (part_at 32) s) (λ low. goes_on (told names.MoveHigh (n - 32) (part_at (n - 32)) low.1) (λ high. Ok (tt {0}, high.1)))))
    by_width true e = narrow_same n s (grind (arith, nat_tests, e))
    by_width false e = wide_same n s (grind (arith, nat_tests, e))

move_same : (w : Wire) (s : Told) → Same (move_at w s.unread) (move_told w s)
unfolding move_at
move_same w s = last _ _ _ (by_version (nat_lt w.version 3)) (λ x. refl)
  where
    by_version : (b : Bool) → Same (side_by_side_at (cond b world_parts (wide_parts (min w.move_bits 64))) s.unread) (cond b (world_move_told s) (wide_move_told (min w.move_bits 64) s))
    by_version true = world_move_same s
    by_version false = own_move_same (min w.move_bits 64) s

-- ---- levels

by_bit : (b : Bool) (w : ℕ) (cs : List ℕ) (s : Told) (m : Result (ℕ × Told) Stop) (f : Unit {0} × Told → Result (Unit {0} × Told) Stop) → read_of m ≡ part_at w s.unread
    → ((t : Told) → Same (levels_at cs t.unread) (f (tt, t))) → Same (levels_at (cond b (w ∷ cs) cs) s.unread) (goes_on (cond b (goes_on m (λ l. Ok (tt {0}, l.1))) (Ok (tt {0}, s))) f)
unfolding levels_at
by_bit true w cs s m f e k = left_then _ _ _ _ (only_left _ _ e) (λ l y t. last _ _ _ (k t) (λ x. refl))
by_bit false w cs s m f e k = k s

all_levels : (kind field : ℕ) (ws : List ℕ) (s : Told) → Same (levels_at ws s.unread) (levels_told kind None field ws s)
unfolding levels_at levels_told level_told
all_levels kind field [] s = refl
all_levels kind field (w ∷ ws) s = by_bit true w ws s _ _ (part_same (names.Level kind field) w s) (all_levels kind (field + 1) ws)

next_half : (mask field : ℕ) → mask / 2 ^ field / 2 ≡ mask / 2 ^ (field + 1)
next_half mask field =
    let p : 2 ^ suc field ≡ 2 * 2 ^ field = grind (arith, pow-suc) in
    let k : field + 1 ≡ suc field = omega arith in
    let q : 2 ^ (field + 1) ≡ 2 ^ suc field = ap (λ (n : ℕ). 2 ^ n) k in
    nat.div-div-eq-div-mul mask (2 ^ field) 2 ∙ ap (λ (n : ℕ). mask / n) (omega (arith, p, q))

masked_levels : (kind mask field : ℕ) (ws : List ℕ) (s : Told) → Same (levels_at (chosen (mask / 2 ^ field) ws) s.unread) (levels_told kind (Some mask) field ws s)
unfolding levels_at levels_told level_told
masked_levels kind mask field [] s = refl
masked_levels kind mask field (w ∷ ws) s =
    by_bit (mask / 2 ^ field % 2 == 1) w (chosen (mask / 2 ^ field / 2) ws) s _ _ (part_same (names.Level kind field) w s) (λ t.
    subst (λ (h : ℕ). Same (levels_at (chosen h ws) t.unread) (levels_told kind (Some mask) (field + 1) ws t)) (sym (next_half mask field)) (masked_levels kind mask (field + 1) ws t))

-- ---- ghosts

create_same : (kinds : List Kind) (slot : ℕ) (s : Told) → Same (create_at kinds slot s.unread) (create_told kinds s)
unfolding create_at create_told
create_same kinds slot s =
    same_then _ _ _ _ (such_same names.GhostKind causes.UnknownKind _ 4 s) (λ kind t.
    same_then _ _ _ _ (part_same names.GhostBlock 6 t) (λ block u.
    last _ _ _ (all_levels kind 0 (widths kinds kind) u) (λ x. refl)))

held_same : (held : Option ℕ) (s : Told) → read_of (held_told held s) ≡ known_kind_at held s.unread
held_same None s = refl
held_same (Some kind) s = refl

either_same : (b : Bool) (m1 m2 : Result (ℕ × Told) Stop) (r1 r2 : Result (ℕ × Unread) BitsFault) → read_of m1 ≡ r1 → read_of m2 ≡ r2 → read_of (cond b m1 m2) ≡ cond b r1 r2
either_same true m1 m2 r1 r2 h k = h
either_same false m1 m2 r1 r2 h k = k

kind_same : (version : ℕ) (kinds : List Kind) (held : Option ℕ) (s : Told) → read_of (update_kind_told version kinds held s) ≡ update_kind_at version kinds held s.unread
kind_same version kinds held s = either_same (is_low version) _ _ _ _ (held_same held s) (such_same names.GhostKind causes.UnknownKind _ 4 s)

updated_same : (version : ℕ) (kinds : List Kind) (held : Option ℕ) (s : Told) → Same (updated_at version kinds held s.unread) (update_told version kinds held s)
unfolding updated_at update_told
updated_same version kinds held s =
    same_then _ _ _ _ (kind_same version kinds held s) (λ kind t.
    same_then _ _ _ _ (such_same (names.FieldMask kind) causes.EmptyMask _ (length (widths kinds kind)) t) (λ mask u.
    last _ _ _ (subst (λ (m : ℕ). Same (levels_at (chosen m (widths kinds kind)) u.unread) (levels_told kind (Some mask) 0 (widths kinds kind) u)) (omega arith) (masked_levels kind mask 0 (widths kinds kind) u)) (λ x. refl)))

update_same : (version : ℕ) (kinds : List Kind) (held : ℕ → Option ℕ) (slot : ℕ) (s : Told) → Same (update_at version kinds held slot s.unread) (update_told version kinds (held slot) s)
unfolding update_at
update_same version kinds held slot s = last _ _ _ (updated_same version kinds (held slot) s) (λ x. refl)

ghost_same : (version : ℕ) (kinds : List Kind) (held : ℕ → Option ℕ) (s : Told) → Same (ghost_at version kinds held s.unread) (ghost_told version kinds held s)
unfolding ghost_at ghost_told
ghost_same version kinds held s =
    same_then _ _ _ _ (part_same names.Slot 8 s) (λ slot t.
    same_then _ _ _ _ (such_same names.Op causes.OpBits _ 2 t) (λ op u.
    same_if (op == 0) _ _ _ _ refl
    (same_if (op == 1) _ _ _ _ (create_same kinds slot u) (update_same version kinds held slot u))))

-- ---- packets

server_body_same : (version : ℕ) (kinds : List Kind) (held : ℕ → Option ℕ) (head : Header) (s : Told) → Same (server_body_at version kinds held head s.unread) (server_body_told version kinds held s)
unfolding server_body_at server_body_told
server_body_same version kinds held head s =
    same_then _ _ _ _ (part_same names.Accepted 24 s) (λ accepted t.
    left_then _ _ _ _ (optional_same names.ControlFlag names.ControlSlot 8 t) (λ control y u.
    left_then _ _ _ _ (listed_same names.BlockCount 15 4 block_at block_told block_same u) (λ blocks y v.
    left_then _ _ _ _ (listed_same names.EventCount 31 5 (event_at version) (event_told version) (event_same version) v) (λ events y x.
    last _ _ _ (listed_same names.GhostCount 128 8 (ghost_at version kinds held) (ghost_told version kinds held) (ghost_same version kinds held) x) (λ z. refl)))))

pub server_same : (version : ℕ) (kinds : List Kind) (held : ℕ → Option ℕ) (s : Told) → Same (server_at version kinds held s.unread) (server_told version kinds held s)
unfolding server_at server_told
server_same version kinds held s =
    same_then _ _ _ _ (such_same names.Kind causes.KindBits _ 2 s) (λ kind t.
    left_then _ _ _ _ (header_same t) (λ head y u.
    same_if (kind == 1) _ _ _ _ refl
    (last _ _ _ (server_body_same version kinds held head u) (λ x. refl))))

client_body_same : (wire : Wire) (head : Header) (s : Told) → Same (client_body_at wire head s.unread) (client_body_told wire s)
unfolding client_body_at client_body_told
client_body_same wire head s =
    same_then _ _ _ _ (part_same names.FirstMove 24 s) (λ first t.
    left_then _ _ _ _ (listed_same names.MoveCount 32 6 (move_at wire) (move_told wire) (move_same wire) t) (λ moves y u.
    last _ _ _ (listed_same names.EventCount 31 5 (event_at wire.version) (event_told wire.version) (event_same wire.version) u) (λ z. refl)))

pub client_same : (wire : Wire) (s : Told) → Same (client_at wire s.unread) (client_told wire s)
unfolding client_at client_told
client_same wire s =
    same_then _ _ _ _ (such_same names.Kind causes.KindBits _ 2 s) (λ kind t.
    left_then _ _ _ _ (header_same t) (λ head y u.
    same_if (kind == 1) _ _ _ _ refl
    (last _ _ _ (client_body_same wire head u) (λ x. refl))))
