-- What a match stands for after a line of one client: all other clients are as they were.
use Rattle.std.proofs.Common.{◌≡◌, ◌≢◌, ℕ, zero, suc, ◌+◌, ◌<◌, ◌≤◌, ◌==◌, Bool, true, false, cond, List, [], ◌∷◌, length, Option, Some, get_or, set, refl, sym, ap, ◌∙◌, subst, arith, inl, inr, length-set, get_or-set_same, get_or-set_other}
use Rattle.std.specs.Prelude.{Result, Ok, Err, IfOk, OnOk}
use Rattle.std.specs.List.{All}
use Rattle.std.proofs.lemmas.Bool.Decides.{nat_tests}
use Rattle.std.proofs.lemmas.Bool.{cases_eq}
use Rattle.match_script.specs.declared.types.BodyLine.{BodyLine}
use Rattle.match_script.specs.declared.types.BodyLine.TheVariants as script
use Rattle.match_script.specs.declared.types.Head.{Head}
use Rattle.match_script.specs.Ranges.{LineFits}
use Rattle.stream_manager.specs.Limits.{Terms}
use Rattle.world_scope.specs.declared.viewer.Seen.{Seen}
use Rattle.client_scope.specs.Scans.{shown}
use Rattle.client_scope.specs.StandsFor.{Table}
use Rattle.dirty_lanes.specs.Words.{Words}
use Rattle.match_script.specs.Named.{client_named}
use Rattle.match_laws.specs.own_lists.Own.{OwnItem, Line, StandsAlone}
use Rattle.match_laws.specs.own_lists.Counted.{counted, counted_in}
use Rattle.match_laws.specs.own_lists.Kept.{Kept, kept, follows, put}
use Rattle.match_laws.specs.own_lists.Past.{Past, client_terms, kept_by, after}
use Rattle.match_laws.specs.own_lists.Agreement.{AreLines}
use Rattle.match_laws.proofs.Below.own_lists.Counting.{counted_item, counted_items, one_counted}
use Rattle.match_laws.specs.client_seat.Stands.{SeatState, StandsFor as SeatStandsFor}
use Rattle.match_engine.specs.Stands.{GameState, ClientHolds, StandsFor, IsDirect}
use Rattle.match_engine.specs.Serving.{Serves, OthersStay}

-- ---- a list with another entry at one place

pub record IsPut {X : Type 0} (n : ℕ) (old new : List X) (x : X) : Type 0 where
  pub many : length new ≡ length old
  pub there : (d : X) → get_or new n d ≡ x
  pub others : (c : ℕ) (d : X) → c ≢ n → get_or new c d ≡ get_or old c d

pub put_set : {X : Type 0} (n : ℕ) (old : List X) (x : X) → n < length old → IsPut n old (set old n x) x
put_set n old x lt = record {
  many = length-set old n x;
  there = λ d. get_or-set_same old n x d lt;
  others = λ c d apart. get_or-set_other old n c x d apart;
}

same_entry : {X : Type 0} (xs : List X) (n : ℕ) (d e : X) → n < length xs → get_or xs n d ≡ get_or xs n e
same_entry [] n d e lt = absurd (omega (arith, lt))
same_entry (x ∷ xs) zero d e lt = refl
same_entry (x ∷ xs) (suc n) d e lt = same_entry xs n d e (omega (arith, lt))

pub put_none : {X : Type 0} (n : ℕ) (old : List X) (x : X) (d : X) → n < length old → x ≡ get_or old n d → IsPut n old old x
put_none n old x d lt is = record {
  many = refl;
  there = λ e. same_entry old n e d lt ∙ sym is;
  others = λ c e apart. refl;
}

-- ---- lines

-- a line that fits names one of the clients
pub names_client : (clients : ℕ) (line : BodyLine) (c : ℕ) → client_named line ≡ Some c → LineFits clients line → c < clients
names_client clients script.Tick c e h = absurd (cc)
names_client clients (script.Scan d) c e h = let same : d ≡ c = cc in rw (sym same) h
names_client clients (script.Post d class payload) c e h = let same : d ≡ c = cc in rw (sym same) h.0
names_client clients (script.ClientPost d class payload) c e h = let same : d ≡ c = cc in rw (sym same) h.0
names_client clients (script.Pack d) c e h = let same : d ≡ c = cc in rw (sym same) h
names_client clients (script.ClientPack d) c e h = let same : d ≡ c = cc in rw (sym same) h
names_client clients (script.Down d k) c e h = let same : d ≡ c = cc in rw (sym same) h.0
names_client clients (script.Up d k) c e h = let same : d ≡ c = cc in rw (sym same) h.0
names_client clients (script.Raw d bytes) c e h = let same : d ≡ c = cc in rw (sym same) h.0
names_client clients (script.Move d m) c e h = let same : d ≡ c = cc in rw (sym same) h
names_client clients (script.Show d) c e h = let same : d ≡ c = cc in rw (sym same) h
names_client clients script.World c e h = absurd (cc)

pub put_there : {A : Type 0} (f : ℕ → A) (d c : ℕ) (x : A) → ◌≡◌ {A = Option ℕ} (Some d) (Some c) → put f d x c ≡ x
put_there f d c x e = let same : d ≡ c = cc in let yes : (c == d) ≡ true = grind (arith, nat_tests) in ap (λ b. cond b x (f c)) yes

pub put_elsewhere : {A : Type 0} (f : ℕ → A) (d n c : ℕ) (x : A) → ◌≡◌ {A = Option ℕ} (Some d) (Some n) → c ≢ n → put f d x c ≡ f c
put_elsewhere f d n c x e apart = let same : d ≡ n = cc in let no : (c == d) ≡ false = grind (arith, nat_tests) in ap (λ b. cond b x (f c)) no

put_few : (f : ℕ → List OwnItem) (d c : ℕ) (x : OwnItem) (most : ℕ) → counted_items (f c) ≤ most → counted_items (f d) ≤ most
    → counted_items (put f d (x ∷ f d) c) ≤ counted_item x + most
put_few f d c x most here there = by (c == d)
  where
    by : (b : Bool) → counted_items (cond b (x ∷ f d) (f c)) ≤ counted_item x + most
    by true = omega (arith, there)
    by false = omega (arith, here)

-- what a line leaves of other clients and of the world
pub record AsBefore (p q : Past) (n : ℕ) : Type 0 where
  pub world : q.world ≡ p.world
  pub scans : (c : ℕ) → c ≢ n → q.scans c ≡ p.scans c
  pub own : (c : ℕ) → c ≢ n → q.own c ≡ p.own c

pub as_before : (head : Head) (line : BodyLine) (past : List BodyLine) (n : ℕ) → client_named line ≡ Some n → AsBefore (after head past) (after head (line ∷ past)) n
as_before head script.Tick past n e = absurd (cc)
as_before head (script.Scan d) past n e = record { world = refl; scans = λ c apart. put_elsewhere (after head past).scans d n c _ e apart; own = λ c apart. put_elsewhere (after head past).own d n c _ e apart }
as_before head (script.Post d class payload) past n e = record { world = refl; scans = λ c apart. refl; own = λ c apart. put_elsewhere (after head past).own d n c _ e apart }
as_before head (script.ClientPost d class payload) past n e = record { world = refl; scans = λ c apart. refl; own = λ c apart. put_elsewhere (after head past).own d n c _ e apart }
as_before head (script.Pack d) past n e = record { world = refl; scans = λ c apart. refl; own = λ c apart. put_elsewhere (after head past).own d n c _ e apart }
as_before head (script.ClientPack d) past n e = record { world = refl; scans = λ c apart. refl; own = λ c apart. put_elsewhere (after head past).own d n c _ e apart }
as_before head (script.Down d k) past n e = record { world = refl; scans = λ c apart. refl; own = λ c apart. put_elsewhere (after head past).own d n c _ e apart }
as_before head (script.Up d k) past n e = record { world = refl; scans = λ c apart. refl; own = λ c apart. put_elsewhere (after head past).own d n c _ e apart }
as_before head (script.Raw d bytes) past n e = record { world = refl; scans = λ c apart. refl; own = λ c apart. put_elsewhere (after head past).own d n c _ e apart }
as_before head (script.Move d m) past n e = record { world = refl; scans = λ c apart. refl; own = λ c apart. put_elsewhere (after head past).own d n c _ e apart }
as_before head (script.Show d) past n e = record { world = refl; scans = λ c apart. refl; own = λ c apart. put_elsewhere (after head past).own d n c _ e apart }
as_before head script.World past n e = absurd (cc)

all_more : {X : Type 0} (P : X → Type 0) (x : X) (xs : List X) → P x → All P xs → All P (x ∷ xs)
all_more P x xs h rest zero d lt = h
all_more P x xs h rest (suc i) d lt = rest i d (omega (arith, lt))

pub more_lines : (head : Head) (line : BodyLine) (past : List BodyLine) → AreLines head past → LineFits head.clients line → counted_in past < 4000000 → AreLines head (line ∷ past)
more_lines head line past s fits few = record {
  fits = s.fits;
  lines = all_more (LineFits head.clients) line past fits s.lines;
  few = omega (arith, few, one_counted line);
}

-- ---- one client's line

pub fed : (m : GameState) (past : List BodyLine) (line : BodyLine) (n : ℕ) (seats : List SeatState) (seat : SeatState) (scopes : List Table) (scope : Table) (lanes : Words)
    → client_named line ≡ Some n → LineFits m.head.clients line → m.done < 4000000 → StandsFor m past
    → IsPut n m.seats seats seat → IsPut n m.scopes scopes scope → OthersStay n m.lanes lanes
    → ClientHolds seat scope lanes n (client_terms m.head n) ((after m.head (line ∷ past)).scans n) (kept_by m.head (after m.head (line ∷ past)) n)
    → StandsFor (record { head = m.head; seats = seats; scopes = scopes; world = m.world; lanes = lanes; done = m.done + counted line }) (line ∷ past)
fed m past line n seats seat scopes scope lanes named fits few s put_seat put_scope others now =
    let same = as_before m.head line past n named in
    record {
      lines = more_lines m.head line past s.lines fits (omega (arith, few, s.counted));
      seat_count = put_seat.many ∙ s.seat_count;
      scope_count = put_scope.many ∙ s.scope_count;
      same_world = s.same_world ∙ sym same.world;
      counted = omega (arith, s.counted);
      objects = others.objects ∙ s.objects;
      clients = others.clients ∙ s.clients;
      client = λ c d e lt. elim (cases_eq c n) [
        | inl is ↦ subst (λ k. ClientHolds (get_or seats k d) (get_or scopes k e) lanes k (client_terms m.head k) ((after m.head (line ∷ past)).scans k) (kept_by m.head (after m.head (line ∷ past)) k)) (sym is)
            (subst (λ (x : SeatState). ClientHolds x (get_or scopes n e) lanes n (client_terms m.head n) ((after m.head (line ∷ past)).scans n) (kept_by m.head (after m.head (line ∷ past)) n)) (sym (put_seat.there d))
            (subst (λ (x : Table). ClientHolds seat x lanes n (client_terms m.head n) ((after m.head (line ∷ past)).scans n) (kept_by m.head (after m.head (line ∷ past)) n)) (sym (put_scope.there e)) now))
        | inr apart ↦ subst (λ (x : SeatState). ClientHolds x (get_or scopes c e) lanes c (client_terms m.head c) ((after m.head (line ∷ past)).scans c) (kept_by m.head (after m.head (line ∷ past)) c)) (sym (put_seat.others c d apart))
            (subst (λ (x : Table). ClientHolds (get_or m.seats c d) x lanes c (client_terms m.head c) ((after m.head (line ∷ past)).scans c) (kept_by m.head (after m.head (line ∷ past)) c)) (sym (put_scope.others c e apart))
            (subst (λ (x : List (List Seen)). ClientHolds (get_or m.seats c d) (get_or m.scopes c e) lanes c (client_terms m.head c) x (kept_by m.head (after m.head (line ∷ past)) c)) (sym (same.scans c apart))
            (subst (λ (x : List OwnItem). ClientHolds (get_or m.seats c d) (get_or m.scopes c e) lanes c (client_terms m.head c) ((after m.head past).scans c) (kept (client_terms m.head c) x)) (sym (same.own c apart))
            (stays c (get_or m.seats c d) (get_or m.scopes c e) (omega (arith, lt, s.lines.fits.clients)) apart ((after m.head past).scans c) (kept_by m.head (after m.head past) c) (s.client c d e lt)))))
      ];
    }
  where
    stays : (c : ℕ) (x : SeatState) (y : Table) → c < 16 → c ≢ n → (scans : List (List Seen)) (k : Kept) → ClientHolds x y m.lanes c (client_terms m.head c) scans k → ClientHolds x y lanes c (client_terms m.head c) scans k
    stays c x y lt apart scans k h = record {
      course = h.course;
      periods = h.periods;
      marks = λ i d l. others.masks c (get_or (shown scans) i d).object lt apart ∙ h.marks i d l;
    }

-- what a client's line finds
pub serves : (m : GameState) (past : List BodyLine) (n : ℕ) (seat d : SeatState) (scope e : Table) → n < m.head.clients → StandsFor m past → seat ≡ get_or m.seats n d → scope ≡ get_or m.scopes n e
    → Serves seat scope m.world m.lanes n m.head past
serves m past n seat d scope e lt s is_seat is_scope = record {
  lines = s.lines;
  below = lt;
  same_world = s.same_world;
  objects = s.objects;
  clients = s.clients;
  holds = subst (λ (x : SeatState). ClientHolds x scope m.lanes n (client_terms m.head n) ((after m.head past).scans n) (kept_by m.head (after m.head past) n)) (sym is_seat)
      (subst (λ (x : Table). ClientHolds (get_or m.seats n d) x m.lanes n (client_terms m.head n) ((after m.head past).scans n) (kept_by m.head (after m.head past) n)) (sym is_scope) (s.client n d e lt));
}

-- ---- counts

-- an own list has no more counted items than counted lines were done
pub own_few : (head : Head) (past : List BodyLine) (n : ℕ) → counted_items ((after head past).own n) ≤ counted_in past
own_few head [] n = omega arith
own_few head (script.Tick ∷ past) n = let h = own_few head past n in omega (arith, h)
own_few head (script.World ∷ past) n = let h = own_few head past n in omega (arith, h)
own_few head (script.Scan d ∷ past) n = put_few (after head past).own d n _ (counted_in past) (own_few head past n) (own_few head past d)
own_few head (script.Post d class payload ∷ past) n = put_few (after head past).own d n _ (counted_in past) (own_few head past n) (own_few head past d)
own_few head (script.ClientPost d class payload ∷ past) n = put_few (after head past).own d n _ (counted_in past) (own_few head past n) (own_few head past d)
own_few head (script.Pack d ∷ past) n = put_few (after head past).own d n _ (counted_in past) (own_few head past n) (own_few head past d)
own_few head (script.ClientPack d ∷ past) n = put_few (after head past).own d n _ (counted_in past) (own_few head past n) (own_few head past d)
own_few head (script.Down d k ∷ past) n = put_few (after head past).own d n _ (counted_in past) (own_few head past n) (own_few head past d)
own_few head (script.Up d k ∷ past) n = put_few (after head past).own d n _ (counted_in past) (own_few head past n) (own_few head past d)
own_few head (script.Raw d bytes ∷ past) n = put_few (after head past).own d n _ (counted_in past) (own_few head past n) (own_few head past d)
own_few head (script.Move d m ∷ past) n = put_few (after head past).own d n _ (counted_in past) (own_few head past n) (own_few head past d)
own_few head (script.Show d ∷ past) n = put_few (after head past).own d n _ (counted_in past) (own_few head past n) (own_few head past d)

-- ---- direct lines

pub own_line : (head : Head) (line : BodyLine) (past : List BodyLine) (n : ℕ) → StandsAlone line → client_named line ≡ Some n
    → ((after head (line ∷ past)).own n ≡ Line line ∷ (after head past).own n) × ((after head (line ∷ past)).scans n ≡ (after head past).scans n)
own_line head script.Tick past n alone e = absurd alone
own_line head (script.Scan d) past n alone e = absurd alone
own_line head script.World past n alone e = absurd alone
own_line head (script.Post d class payload) past n alone e = let same : d ≡ n = cc in rw same (put_there (after head past).own n n _ refl, refl)
own_line head (script.ClientPost d class payload) past n alone e = let same : d ≡ n = cc in rw same (put_there (after head past).own n n _ refl, refl)
own_line head (script.Pack d) past n alone e = let same : d ≡ n = cc in rw same (put_there (after head past).own n n _ refl, refl)
own_line head (script.ClientPack d) past n alone e = let same : d ≡ n = cc in rw same (put_there (after head past).own n n _ refl, refl)
own_line head (script.Down d k) past n alone e = let same : d ≡ n = cc in rw same (put_there (after head past).own n n _ refl, refl)
own_line head (script.Up d k) past n alone e = let same : d ≡ n = cc in rw same (put_there (after head past).own n n _ refl, refl)
own_line head (script.Raw d bytes) past n alone e = let same : d ≡ n = cc in rw same (put_there (after head past).own n n _ refl, refl)
own_line head (script.Move d m) past n alone e = let same : d ≡ n = cc in rw same (put_there (after head past).own n n _ refl, refl)
own_line head (script.Show d) past n alone e = let same : d ≡ n = cc in rw same (put_there (after head past).own n n _ refl, refl)

direct_alone : (line : BodyLine) → IsDirect line → StandsAlone line
direct_alone script.Tick h = absurd h
direct_alone (script.Scan d) h = absurd h
direct_alone (script.Pack d) h = absurd h
direct_alone (script.Show d) h = absurd h
direct_alone script.World h = absurd h
direct_alone (script.Post d class payload) h = tt
direct_alone (script.ClientPost d class payload) h = tt
direct_alone (script.ClientPack d) h = tt
direct_alone (script.Down d k) h = tt
direct_alone (script.Up d k) h = tt
direct_alone (script.Raw d bytes) h = tt
direct_alone (script.Move d m) h = tt

-- it writes and drains nothing
same_bits : (t : Terms) (line : BodyLine) (k : Kept) → IsDirect line → (follows t (Line line) k).written ≡ k.written
same_bits t script.Tick k h = absurd h
same_bits t (script.Scan d) k h = absurd h
same_bits t (script.Pack d) k h = absurd h
same_bits t (script.Show d) k h = absurd h
same_bits t script.World k h = absurd h
same_bits t (script.Post d class payload) k h = refl
same_bits t (script.ClientPost d class payload) k h = refl
same_bits t (script.ClientPack d) k h = refl
same_bits t (script.Down d place) k h = refl
same_bits t (script.Up d place) k h = refl
same_bits t (script.Raw d bytes) k h = refl
same_bits t (script.Move d m) k h = refl

pub after_direct : (head : Head) (line : BodyLine) (past : List BodyLine) (n : ℕ) (seat new : SeatState) (scope : Table) (lanes : Words) → IsDirect line → client_named line ≡ Some n
    → ClientHolds seat scope lanes n (client_terms head n) ((after head past).scans n) (kept_by head (after head past) n)
    → SeatStandsFor new (client_terms head n) (follows (client_terms head n) (Line line) (kept_by head (after head past) n)).course
    → ClientHolds new scope lanes n (client_terms head n) ((after head (line ∷ past)).scans n) (kept_by head (after head (line ∷ past)) n)
after_direct head line past n seat new scope lanes direct named h course =
    let own = own_line head line past n (direct_alone line direct) named in
    subst (λ (x : List (List Seen)). ClientHolds new scope lanes n (client_terms head n) x (kept_by head (after head (line ∷ past)) n)) (sym own.1)
    (subst (λ (x : List OwnItem). ClientHolds new scope lanes n (client_terms head n) ((after head past).scans n) (kept (client_terms head n) x)) (sym own.0) (record {
      course = course;
      periods = h.periods;
      marks = λ i d lt. h.marks i d lt ∙ ap (λ (f : ℕ → ℕ). f (get_or (shown ((after head past).scans n)) i d).n) (sym (same_bits (client_terms head n) line (kept_by head (after head past) n) direct));
    }))

pub map_if_ok : {T E : Type 0} (r : Result T E) (P Q : T → Type 0) → ((t : T) → P t → Q t) → IfOk r P → IfOk r Q
map_if_ok (Ok t) P Q f p = f t p
map_if_ok (Err e) P Q f p = tt

pub map_on_ok : {T E : Type 0} (r : Result T E) (A C : Type 0) → (A → C) → OnOk r A → OnOk r C
map_on_ok (Ok t) A C f a = f a
map_on_ok (Err e) A C f a = tt

pub both_ok : {T E : Type 0} (r : Result T E) (A B C : Type 0) → (A → B → C) → OnOk r A → OnOk r B → OnOk r C
both_ok (Ok t) A B C f a b = f a b
both_ok (Err e) A B C f a b = tt

pub ok_of : {T E : Type 0} (r : Result T E) (A : Type 0) → A → OnOk r A
ok_of (Ok t) A a = a
ok_of (Err e) A a = tt
