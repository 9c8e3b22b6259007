-- After any lines of a match each client's own list is one that its server may be fed, and agrees with the world.
use Rattle.std.proofs.Common.{◌≡◌, ℕ, suc, ◌≤◌, Bool, true, false, cond, nat_eq, List, [], ◌∷◌, length, refl, sym, subst, arith}
use Rattle.std.proofs.lemmas.Bool.{eqb-true}
use Rattle.std.proofs.lemmas.List.Elements.{All-from_recursion}
use Rattle.tn_types.specs.declared.limits.TheConstants.{MAX_SHOWS}
use Rattle.match_script.specs.declared.limits.TheConstants.{MAX_COUNTED_LINES}
use Rattle.ghost_model.specs.Words.{upto}
use Rattle.pair_steps.specs.stream_manager.Limits.{Terms}
use Rattle.match_script.specs.declared.types.BodyLine.{BodyLine}
use Rattle.match_script.specs.declared.types.BodyLine.TheVariants as script
use Rattle.match_script.specs.declared.types.Head.{Head}
use Rattle.match_script.specs.Ranges.{HeadFits}
use Rattle.world_sim.specs.Worlds.{Worlds, IsWorld, first_world}
use Rattle.client_scope.specs.world_scope.declared.viewer.Seen.{Seen}
use Rattle.client_scope.specs.world_scope.Scope.{visible_list}
use Rattle.client_scope.proofs.Below.world_scope.SeenList.{all_there}
use Rattle.client_scope.specs.declared.period.ShownPeriod.{ShownPeriod}
use Rattle.client_scope.specs.Scans.{periods, shown}
use Rattle.own_lists.specs.Own.{OwnItem, Line, StandsAlone}
use Rattle.own_lists.specs.Kept.{Kept, after_line, kept}
use Rattle.own_lists.specs.Conditions.{AreOwn}
use Rattle.own_lists.specs.Counted.{counted_in}
use Rattle.own_lists.specs.Past.{Past, client_terms, kept_by, after, happens, scan_item}
use Rattle.own_lists.specs.Agreement.{IsPeriodOf, OwnListsHold}
use Rattle.own_lists.proofs.ScanFacts.{periods_few}
use Rattle.own_lists.proofs.WorldFacts.{world_after, visible_is_sight, scans_are_sights, scans_few}
use Rattle.own_lists.proofs.Standing.{Stands, same_stands}
use Rattle.own_lists.proofs.Scanning.{scan_stands}
use Rattle.own_lists.proofs.Ticking.{tick_stands}

-- what holds of a client after any lines
pub record Holds (head : Head) (c : ℕ) (w : Worlds) (scans : List (List Seen)) (items : List OwnItem) : Type 0 where
  pub own : AreOwn (client_terms head c) items
  pub stands : Stands w c (length (periods scans)) (shown scans) (kept (client_terms head c) items)

-- ---- before the first line

start_stands : (head : Head) (c : ℕ) (w : Worlds) → Stands w c 0 [] (kept (client_terms head c) [])
unfolding upto
start_stands head c w = record {
  shown = record { rising = tt; apart = tt; below = tt };
  many = refl;
  up = refl;
  later = λ n l. refl;
  each = tt;
}

start_holds : (head : Head) (c : ℕ) (w : Worlds) → Holds head c w [] []
start_holds head c w = record { own = tt; stands = start_stands head c w }

-- ---- a line that stands as it is

-- it says nothing of periods
line_stands : (t : Terms) (w : Worlds) (c count : ℕ) (ps : List ShownPeriod) (k : Kept) (line : BodyLine) → Stands w c count ps k
    → Stands w c count ps (after_line t line k)
line_stands t w c count ps k script.Tick st = st
line_stands t w c count ps k (script.Scan d) st = st
line_stands t w c count ps k (script.Post d class payload) st =
    same_stands w c count ps k (after_line t (script.Post d class payload) k) refl refl (λ n. refl) (λ n. refl) (λ n. refl) st
line_stands t w c count ps k (script.ClientPost d class payload) st =
    same_stands w c count ps k (after_line t (script.ClientPost d class payload) k) refl refl (λ n. refl) (λ n. refl) (λ n. refl) st
line_stands t w c count ps k (script.Pack d) st =
    same_stands w c count ps k (after_line t (script.Pack d) k) refl refl (λ n. refl) (λ n. refl) (λ n. refl) st
line_stands t w c count ps k (script.ClientPack d) st =
    same_stands w c count ps k (after_line t (script.ClientPack d) k) refl refl (λ n. refl) (λ n. refl) (λ n. refl) st
line_stands t w c count ps k (script.Down d place) st =
    same_stands w c count ps k (after_line t (script.Down d place) k) refl refl (λ n. refl) (λ n. refl) (λ n. refl) st
line_stands t w c count ps k (script.Up d place) st =
    same_stands w c count ps k (after_line t (script.Up d place) k) refl refl (λ n. refl) (λ n. refl) (λ n. refl) st
line_stands t w c count ps k (script.Raw d bytes) st =
    same_stands w c count ps k (after_line t (script.Raw d bytes) k) refl refl (λ n. refl) (λ n. refl) (λ n. refl) st
line_stands t w c count ps k (script.Move d m) st =
    same_stands w c count ps k (after_line t (script.Move d m) k) refl refl (λ n. refl) (λ n. refl) (λ n. refl) st
line_stands t w c count ps k (script.Show d) st = st
line_stands t w c count ps k script.World st = st

-- what holds of each client before a line
abbrev HoldAll : Head → Past → Type 0
HoldAll head p = (c : ℕ) → Holds head c p.world (p.scans c) (p.own c)

chosen : {X : Type 0} (P : X → Type 0) (b : Bool) (x y : X) → (b ≡ true → P x) → (b ≡ false → P y) → P (cond b x y)
chosen P true x y p q = p refl
chosen P false x y p q = q refl

-- the line stands in the own list of the client that it names
named_holds : (head : Head) (p : Past) (d : ℕ) (line : BodyLine) → StandsAlone line → HoldAll head p → (c : ℕ)
    → Holds head c p.world (p.scans c) (cond (nat_eq c d) (Line line ∷ p.own d) (p.own c))
named_holds head p d line alone all c =
    let t = client_terms head c in
    let h = all c in
    let more : Holds head c p.world (p.scans c) (Line line ∷ p.own c) = record {
      own = (alone, h.own);
      stands = line_stands t p.world c (length (periods (p.scans c))) (shown (p.scans c)) (kept t (p.own c)) line h.stands;
    } in
    chosen (λ (items : List OwnItem). Holds head c p.world (p.scans c) items) (nat_eq c d) (Line line ∷ p.own d) (p.own c)
    (λ e. subst (λ x. Holds head c p.world (p.scans c) (Line line ∷ p.own x)) (eqb-true c d e) more) (λ e. h)

-- ---- a scan

chosen_both : {X Y : Type 0} (P : X → Y → Type 0) (b : Bool) (x y : X) (u v : Y) → (b ≡ true → P x u) → (b ≡ false → P y v)
    → P (cond b x y) (cond b u v)
chosen_both P true x y u v p q = p refl
chosen_both P false x y u v p q = q refl

abbrev HasRoom : Past → ℕ → Type 0
HasRoom p c = length (periods (visible_list p.world c ∷ p.scans c)) ≤ MAX_SHOWS

one_scan : (head : Head) (p : Past) (c : ℕ) → IsWorld p.world → HasRoom p c → Holds head c p.world (p.scans c) (p.own c)
    → Holds head c p.world (visible_list p.world c ∷ p.scans c) (scan_item p.world c (visible_list p.world c ∷ p.scans c) ∷ p.own c)
one_scan head p c world room h =
    let done = scan_stands head p.world c (visible_list p.world c) (p.scans c) (kept (client_terms head c) (p.own c)) world
    (visible_is_sight p.world c world) (all_there p.world c) room h.stands in
    record { own = (done.follows, h.own); stands = done.stands }

scan_holds : (head : Head) (p : Past) (d : ℕ) → IsWorld p.world → HasRoom p d → HoldAll head p
    → HoldAll head (happens head (script.Scan d) p)
scan_holds head p d world room all c =
    let w = p.world in
    let Was : ℕ → Type 0 = λ x. Holds head c w (visible_list w x ∷ p.scans x) (scan_item w x (visible_list w x ∷ p.scans x) ∷ p.own x) in
    chosen_both (λ (scans : List (List Seen)) (items : List OwnItem). Holds head c w scans items) (nat_eq c d)
    (visible_list w d ∷ p.scans d) (p.scans c) (scan_item w d (visible_list w d ∷ p.scans d) ∷ p.own d) (p.own c)
    (λ e. let same : c ≡ d = eqb-true c d e in subst Was same (one_scan head p c world (subst (HasRoom p) (sym same) room) (all c)))
    (λ e. all c)

-- ---- a tick

tick_holds : (head : Head) (p : Past) → IsWorld p.world → HoldAll head p → HoldAll head (happens head script.Tick p)
tick_holds head p world all c =
    let done = tick_stands head p c (length (periods (p.scans c))) (shown (p.scans c)) world (all c).stands in
    let own = (all c).own in
    record { own = (done.follows, own); stands = done.stands }

-- ---- any lines

happens_holds : (head : Head) (line : BodyLine) (p : Past) → IsWorld p.world → ((c : ℕ) → HasRoom p c) → HoldAll head p
    → HoldAll head (happens head line p)
happens_holds head script.Tick p world room all = tick_holds head p world all
happens_holds head (script.Scan d) p world room all = scan_holds head p d world (room d) all
happens_holds head (script.Post d class payload) p world room all = named_holds head p d (script.Post d class payload) tt all
happens_holds head (script.ClientPost d class payload) p world room all = named_holds head p d (script.ClientPost d class payload) tt all
happens_holds head (script.Pack d) p world room all = named_holds head p d (script.Pack d) tt all
happens_holds head (script.ClientPack d) p world room all = named_holds head p d (script.ClientPack d) tt all
happens_holds head (script.Down d place) p world room all = named_holds head p d (script.Down d place) tt all
happens_holds head (script.Up d place) p world room all = named_holds head p d (script.Up d place) tt all
happens_holds head (script.Raw d bytes) p world room all = named_holds head p d (script.Raw d bytes) tt all
happens_holds head (script.Move d m) p world room all = named_holds head p d (script.Move d m) tt all
happens_holds head (script.Show d) p world room all = named_holds head p d (script.Show d) tt all
happens_holds head script.World p world room all = all

-- as many counted lines as may be begin no more periods than may be
has_room : (head : Head) (past : List BodyLine) (c : ℕ) → HeadFits head → counted_in past ≤ MAX_COUNTED_LINES
    → HasRoom (after head past) c
has_room head past c h few =
    let w = (after head past).world in
    let scans = (after head past).scans c in
    let periods_are = periods_few (visible_list w c ∷ scans)
    (visible_is_sight w c (world_after head past h), scans_are_sights head past c h) in
    let scans_are = scans_few head past c in
    omega (arith, few, periods_are, scans_are)

all_hold : (head : Head) (past : List BodyLine) → HeadFits head → counted_in past ≤ MAX_COUNTED_LINES → HoldAll head (after head past)
all_hold head [] h few = λ c. start_holds head c (first_world head.seed head.setup)
all_hold head (line ∷ past) h few =
    happens_holds head line (after head past) (world_after head past h) (λ c. has_room head past c h (omega (arith, few)))
    (all_hold head past h (omega (arith, few)))

pub own_lists_agree : OwnListsHold
own_lists_agree = λ head past c lines below.
    let h = all_hold head past lines.fits lines.few c in
    let scans = (after head past).scans c in (
      h.own,
      record {
        count = h.stands.many;
        up = h.stands.up;
        periods = All-from_recursion (IsPeriodOf (after head past).world c (kept_by head (after head past) c)) (shown scans) h.stands.each;
      },
    )
