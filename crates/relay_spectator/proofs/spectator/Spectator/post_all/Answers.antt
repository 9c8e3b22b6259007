use Rattle.std.proofs.Common.{◌≡◌, ◌∙◌, ◌+◌, ◌<◌, ◌++◌, ◌∷◌, ℕ, true, false, [], List, length, get_or, take, Option, Some, None, refl, sym, ap, subst, arith, append-nil}
use Rattle.std.specs.List.{cons_option}
use Rattle.std.proofs.lemmas.List.{take_all}
use Rattle.tn_types.specs.declared.choices.Class.{Class}
use Rattle.tn_types.specs.declared.choices.Class.TheVariants.{Guaranteed, Loose}
use Rattle.match_report.specs.declared.told.EventTold.{EventTold}
use Rattle.own_lists.specs.pair_core.stream_manager.Limits.{Terms}
use Rattle.own_lists.specs.Own.{OwnItem}
use Rattle.relay_model.specs.Items.{posting}
use Rattle.relay_spectator.specs.declared.spectator.Spectator.{Spectator}
use Rattle.relay_spectator.specs.Spectators.{Holds, is_guaranteed, guaranteed_payload, payloads_of}
use Rattle.relay_spectator.proofs.Posting.{posting_append, counted_posting}
use Rattle.relay_spectator.proofs.Watching.{mapped_more}
use Rattle.relay_spectator.proofs.spectator.Spectator.post_all.Goals as goal
use Rattle.relay_spectator.proofs.spectator.Spectator.post_all.Goals.{then-is_guaranteed+in_ok-post, else-is_guaranteed}

pub post-requires : goal.post-requires
post-requires c =
    let r = c.requires in
    let done = payloads_of (take c.loop-event.event-index c.args.events.now) in
    let same = counted_posting r.terms done r.items in
    record {
      terms = r.terms;
      items = posting r.terms done r.items;
      slots = r.slots;
      holds = c.loop-event.invariant r.terms r.items r.slots r.holds;
      few = (let lt = r.few in omega (arith, same, lt));
    }

-- what an event adds to what is posted
none_of : (event : EventTold) → event.class ≡ Loose → guaranteed_payload event.class event.payload ≡ None
none_of event e = ap (λ (c : Class). guaranteed_payload c event.payload) e

one_of : (event : EventTold) → event.class ≡ Guaranteed → guaranteed_payload event.class event.payload ≡ Some event.payload
one_of event e = ap (λ (c : Class). guaranteed_payload c event.payload) e

guaranteed : (c : Class) → is_guaranteed c ≡ true → c ≡ Guaranteed
guaranteed Guaranteed e = refl
guaranteed Loose e = absurd (cc)

not_guaranteed : (c : Class) → is_guaranteed c ≡ false → c ≡ Loose
not_guaranteed Guaranteed e = absurd (cc)
not_guaranteed Loose e = refl

module _ (t : Terms) (items : List OwnItem) (events : List EventTold) (i : ℕ) (event : EventTold) (lt : i < length events) (is : event ≡ get_or events i event) where
  abbrev done : List (List ℕ)
  done = payloads_of (take i events)

  more : payloads_of (take (i + 1) events) ≡ done ++ cons_option (guaranteed_payload event.class event.payload) []
  more =
      mapped_more (λ (e : EventTold). guaranteed_payload e.class e.payload) events i event lt
      ∙ ap (λ (e : EventTold). done ++ cons_option (guaranteed_payload e.class e.payload) []) (sym is)

  posted : event.class ≡ Guaranteed → posting t (event.payload ∷ []) (posting t done items) ≡ posting t (payloads_of (take (i + 1) events)) items
  posted e =
      sym (posting_append t done (event.payload ∷ []) items)
      ∙ ap (λ (o : Option (List ℕ)). posting t (done ++ cons_option o []) items) (sym (one_of event e))
      ∙ ap (λ (l : List (List ℕ)). posting t l items) (sym more)

  passed : event.class ≡ Loose → posting t done items ≡ posting t (payloads_of (take (i + 1) events)) items
  passed e =
      ap (λ (l : List (List ℕ)). posting t l items) (sym (append-nil done))
      ∙ ap (λ (o : Option (List ℕ)). posting t (done ++ cons_option o []) items) (sym (none_of event e))
      ∙ ap (λ (l : List (List ℕ)). posting t l items) (sym more)

pub loop-event-preserved : goal.loop-event-preserved
loop-event-preserved c t items w h =
    let events = c.args.events.now in
    let i = c.loop-event.event-index in
    let event = c.event-item.result in
    let before = c.loop-event.invariant t items w h in
    elim c.if-is_guaranteed.branch [
      | then-is_guaranteed+in_ok-post b ↦ subst (λ (s : Spectator). Holds s t (posting t (payloads_of (take (i + 1) events)) items) w) (sym b.self-is)
          (subst (λ (l : List OwnItem). Holds b.post.new.self t l w) (posted t items events i event c.loop-event-test.true c.event-item.is (guaranteed event.class (sym c.is_guaranteed.ensures ∙ b.if-is_guaranteed.true)))
          (b.in_ok-post.ensures t (posting t (payloads_of (take i events)) items) w before))
      | else-is_guaranteed b ↦ subst (λ (s : Spectator). Holds s t (posting t (payloads_of (take (i + 1) events)) items) w) (sym b.self-is)
          (subst (λ (l : List OwnItem). Holds c.loop-event.self t l w) (passed t items events i event c.loop-event-test.true c.event-item.is (not_guaranteed event.class (sym c.is_guaranteed.ensures ∙ b.if-is_guaranteed.false))) before)
    ]

pub returns : goal.returns
returns c t items w h =
    let events = c.args.events.now in
    let all = take_all c.loop-event.event-index events c.loop-event-test.false in
    subst (λ (l : List EventTold). Holds c.loop-event.self t (posting t (payloads_of l) items) w) all (c.loop-event.invariant t items w h)
