-- Posts one after the other, and how many items are counted.
use Rattle.std.proofs.Common.{◌≡◌, ◌∙◌, ℕ, ◌+◌, ◌≤◌, Bool, true, false, List, [], ◌∷◌, ◌++◌, length, map, if◌then◌else◌, refl, ap, arith}
use Rattle.tn_types.specs.declared.choices.Class.{Class}
use Rattle.tn_types.specs.declared.choices.Class.TheVariants.{Guaranteed, Loose}
use Rattle.match_script.specs.declared.types.BodyLine.TheVariants as script
use Rattle.event_manager.specs.Posted.{guaranteed_of}
use Rattle.own_lists.specs.pair_core.stream_manager.Limits.{Terms}
use Rattle.own_lists.specs.Own.{OwnItem, Line}
use Rattle.relay_model.specs.Watching.{WatchEvent, Took, Scans, Own}
use Rattle.relay_model.specs.Items.{is_stopped, posting, news_by, hide_item, write_item, show_item, items_of}
use Rattle.alone_server.specs.Stands.{is_counted, counted_in}
use Rattle.alone_server.specs.own_items.client_seat.Told.{event_told}
use Rattle.alone_server.proofs.Feeding.{counted_more}
use Rattle.relay_spectator.specs.Spectators.{payloads_of}

-- ---- one after the other

pub posting_append : (t : Terms) (xs ys : List (List ℕ)) (items : List OwnItem) → posting t (xs ++ ys) items ≡ posting t ys (posting t xs items)
posting_append t [] ys items = refl
posting_append t (x ∷ xs) ys items =
    posting_append t xs ys (if is_stopped t items then items else Line (script.Post t.config.client Guaranteed x) ∷ items)

-- ---- counts

counted_post : (t : Terms) (x : List ℕ) (items : List OwnItem) (b : Bool)
    → counted_in (if b then items else Line (script.Post t.config.client Guaranteed x) ∷ items) ≡ counted_in items
counted_post t x items true = refl
counted_post t x items false = refl

pub counted_posting : (t : Terms) (xs : List (List ℕ)) (items : List OwnItem) → counted_in (posting t xs items) ≡ counted_in items
counted_posting t [] items = refl
counted_posting t (x ∷ xs) items =
    counted_posting t xs (if is_stopped t items then items else Line (script.Post t.config.client Guaranteed x) ∷ items)
    ∙ counted_post t x items (is_stopped t items)

one_counted : (item : OwnItem) (items : List OwnItem) → counted_in (item ∷ items) ≤ counted_in items + 1
one_counted item items = by (is_counted item) (counted_more item items)
  where
    by : (b : Bool) → counted_in (item ∷ items) ≡ counted_in items + (if b then 1 else 0) → counted_in (item ∷ items) ≤ counted_in items + 1
    by true e = omega (arith, e)
    by false e = omega (arith, e)

pub few_counted : (t : Terms) (events : List WatchEvent) → counted_in (items_of t events) ≤ length events
few_counted t [] = omega arith
few_counted t (Took p ∷ events) =
    let rest = few_counted t events in
    let same = counted_posting t (news_by p events) (write_item t.kinds p events ∷ hide_item p events ∷ items_of t events) in
    let write = counted_more (write_item t.kinds p events) (hide_item p events ∷ items_of t events) in
    let hide = one_counted (hide_item p events) (items_of t events) in
    omega (arith, rest, same, write, hide)
few_counted t (Scans ∷ events) =
    let rest = few_counted t events in
    let one = one_counted (show_item t.kinds events) (items_of t events) in
    omega (arith, rest, one)
few_counted t (Own line ∷ events) =
    let rest = few_counted t events in
    let one = one_counted (Line line) (items_of t events) in
    omega (arith, rest, one)

-- ---- what is delivered

pub payloads_are : (events : List (Class × List ℕ)) → payloads_of (map event_told events) ≡ guaranteed_of events
payloads_are [] = refl
payloads_are (event ∷ events) = by event.0 (payloads_are events)
  where
    open_class : Class → List (List ℕ) → List (List ℕ)
    open_class Guaranteed rest = event.1 ∷ rest
    open_class Loose rest = rest

    by : (c : Class) → payloads_of (map event_told events) ≡ guaranteed_of events
        → payloads_of (record { class = c; payload = event.1 } ∷ map event_told events) ≡ guaranteed_of ((c, event.1) ∷ events)
    by Guaranteed e = ap (λ (l : List (List ℕ)). event.1 ∷ l) e
    by Loose e = e
