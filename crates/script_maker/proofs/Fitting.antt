-- The lines of a made script are in their ranges.
use Rattle.std.proofs.Common.{ℕ, ◌-◌, ◌<◌, ◌≤◌, ◌^◌, ◌&&◌, ◌==◌, Bool, true, false, nat_lt, if◌then◌else◌, List, [], ◌∷◌, ◌++◌, length, arith}
use Rattle.std.specs.List.{All}
use Rattle.std.proofs.lemmas.List.{length-take}
use Rattle.std.proofs.lemmas.List.Elements.{All-nil, All-cons, All-append, All-take}
use Rattle.rand_pcg.specs.Lcg.{Lcg}
use Rattle.match_script.specs.declared.limits.TheConstants.{MAX_BODY_LINES}
use Rattle.match_script.specs.declared.types.BodyLine.{BodyLine}
use Rattle.match_script.specs.declared.types.BodyLine.TheVariants.{Tick, Scan, Pack, ClientPack, Down, Up}
use Rattle.match_script.specs.Ranges.{LineFits}
use Rattle.script_maker.specs.declared.numbers.TheConstants.{CHANCES}
use Rattle.script_maker.specs.Draws.{just, draw}
use Rattle.script_maker.specs.Lines.{sample, brought, delivery, event, post, client_lines, round}
use Rattle.script_maker.specs.Made.{first_lines}
use Rattle.script_maker.proofs.Drawing.{draw_below, all_drawn}

abbrev Fit : ℕ → List BodyLine → Type 0
Fit clients lines = All (LineFits clients) lines

sample_fits : (clients c : ℕ) (g : Lcg) → c < clients → LineFits clients (sample c g).0
unfolding sample
sample_fits clients c g h = h

brought_fits : (clients : ℕ) (line : ℕ → BodyLine) (k d : ℕ) → ((i : ℕ) → i ≤ k → LineFits clients (line i)) → Fit clients (brought line k d)
brought_fits clients line k d each = by (d == 0) (d == 1) ((d == 2) && nat_lt 0 k)
  where
    one : (i : ℕ) → i ≤ k → Fit clients (line i ∷ [])
    one i h = All-cons (LineFits clients) (line i) [] (each i h) (All-nil (LineFits clients))

    two : (i : ℕ) → i ≤ k → Fit clients (line k ∷ line i ∷ [])
    two i h = All-cons (LineFits clients) (line k) (line i ∷ []) (each k (omega arith)) (one i h)

    by : (none twice late : Bool)
        → Fit clients (if none then [] else if twice then line k ∷ line k ∷ [] else if late then line k ∷ line (k - 1) ∷ [] else line k ∷ [])
    by true twice late = All-nil (LineFits clients)
    by false true late = two k (omega arith)
    by false false true = two (k - 1) (omega arith)
    by false false false = one k (omega arith)

delivery_fits : (clients : ℕ) (line : ℕ → BodyLine) (k : ℕ) (g : Lcg) → ((i : ℕ) → i ≤ k → LineFits clients (line i)) → Fit clients (delivery line k g).0
unfolding delivery
delivery_fits clients line k g each = brought_fits clients line k (draw CHANCES g).0 each

event_fits : (clients c : ℕ) (g : Lcg) → c < clients → Fit clients (event c g).0
unfolding event
event_fits clients c g h =
    let below : (draw 65536 g).0 < 65536 = draw_below 65536 g (omega arith) in
    All-cons (LineFits clients) _ [] (h, (omega arith, (omega arith, (omega arith, tt)))) (All-nil (LineFits clients))

post_fits : (clients c : ℕ) (g : Lcg) → c < clients → Fit clients (post c g).0
unfolding post
post_fits clients c g h = by ((draw 4 g).0 == 0) (draw 4 g).1
  where
    by : (posts : Bool) (next : Lcg) → Fit clients ((if posts then event c else just []) next).0
    by true next = event_fits clients c next h
    by false next = All-nil (LineFits clients)

client_fits : (clients k c : ℕ) (g : Lcg) → k < 2 ^ 32 → c < clients → Fit clients (client_lines k c g).0
unfolding client_lines
client_fits clients k c g few h =
    let P = LineFits clients in
    let s = sample c g in
    let u = delivery (Up c) k s.1 in
    let p = post c u.1 in
    let d = delivery (Down c) k p.1 in
    let downs : Fit clients d.0 = delivery_fits clients (Down c) k p.1 (λ i l. (h, omega arith)) in
    let ups : Fit clients u.0 = delivery_fits clients (Up c) k s.1 (λ i l. (h, omega arith)) in
    let posts : Fit clients p.0 = post_fits clients c u.1 h in
    let packed = Pack c ∷ d.0 in
    let posted = p.0 ++ packed in
    let scanned = Scan c ∷ posted in
    let raised = u.0 ++ scanned in
    let packed_fit : Fit clients packed = All-cons P (Pack c) d.0 h downs in
    let scanned_fit : Fit clients scanned = All-cons P (Scan c) posted h (All-append P p.0 packed posts packed_fit) in
    let raised_fit : Fit clients raised = All-append P u.0 scanned ups scanned_fit in
    All-cons P s.0 (ClientPack c ∷ raised) (sample_fits clients c g h) (All-cons P (ClientPack c) raised h raised_fit)

round_fits : (clients k : ℕ) (g : Lcg) → k < 2 ^ 32 → Fit clients (round clients k g).0
unfolding round
round_fits clients k g few =
    All-cons (LineFits clients) Tick _ tt (all_drawn (LineFits clients) (client_lines k) clients g (λ c h l. client_fits clients k c h few l))

pub lines_fit : (clients steps : ℕ) (g : Lcg) → steps ≤ MAX_BODY_LINES → Fit clients (first_lines clients steps g).0
unfolding first_lines
lines_fit clients steps g few =
    All-take (LineFits clients) steps _ (all_drawn (LineFits clients) (round clients) steps g (λ k h l. round_fits clients k h (omega arith)))

pub lines_few : (clients steps : ℕ) (g : Lcg) → length (first_lines clients steps g).0 ≤ steps
unfolding first_lines
lines_few clients steps g = omega (arith, length-take {A = BodyLine})
