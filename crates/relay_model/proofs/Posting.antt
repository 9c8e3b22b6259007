-- What a relay posts to a spectator is the first of what was delivered to the relay.
use Rattle.std.proofs.Common.{◌≡◌, ℕ, Bool, true, false, ◌||◌, List, [], ◌∷◌, ◌++◌, length, drop, if◌then◌else◌, refl, sym, ◌∙◌, ap, subst, append_assoc}
use Rattle.std.proofs.lemmas.List.{append-nil}
use Rattle.std.proofs.Math.Seq.{drop-append_seam}
use Rattle.tn_types.specs.Prefix.{IsPrefixOf}
use Rattle.tn_types.specs.declared.choices.Class.{Class}
use Rattle.tn_types.specs.declared.choices.Class.TheVariants.{Guaranteed, Loose}
use Rattle.wire_format.specs.declared.events.EventItem.{EventItem}
use Rattle.wire_format.specs.declared.server.ServerPacket.{ServerPacket}
use Rattle.event_manager.specs.Receiving.{items_onto, delivered_of, news}
use Rattle.event_manager.specs.Posted.{guaranteed_of, of_guaranteed}
use Rattle.stream_manager.specs.Limits.{Terms}
use Rattle.stream_manager.specs.Client.{seen_down}
use Rattle.match_script.specs.declared.types.BodyLine.{BodyLine}
use Rattle.match_script.specs.declared.types.BodyLine.TheVariants as script
use Rattle.own_lists.specs.Own.{OwnItem, Line}
use Rattle.stream_manager.specs.Packets.{events_seen, delivered_to}
use Rattle.relay_model.specs.Watching.{WatchEvent, Took, Scans, Own, packets_in}
use Rattle.relay_model.specs.Items.{posting, is_refused_post, is_stopped, items_of, news_by, write_item, hide_item, show_item}
use Rattle.relay_model.specs.Laws.{IsSpectators}
use Rattle.relay_model.specs.Posts.{payload_of, posts_in, PostsInOrder, PostsWhatCame}

-- ---- what is delivered only grows

grows : (items came : List EventItem) → (es : List (Class × List ℕ)) × (delivered_of (items_onto items came) ≡ delivered_of came ++ es)
grows [] came = ([], sym (append-nil (delivered_of came)))
grows (item ∷ items) came =
    let more = grows items (item ∷ came) in
    (news item came ++ more.0, more.1 ∙ append_assoc (delivered_of came) (news item came) more.0)

packet-grows : (p : ServerPacket) (packets : List ServerPacket) → (es : List (Class × List ℕ)) × (delivered_to (p ∷ packets) ≡ delivered_to packets ++ es)
packet-grows p packets = grows (seen_down p).events (events_seen packets)

guaranteed-append : (xs ys : List (Class × List ℕ)) → guaranteed_of (xs ++ ys) ≡ guaranteed_of xs ++ guaranteed_of ys
guaranteed-append [] ys = refl
guaranteed-append (x ∷ xs) ys = go x.0 (guaranteed-append xs ys)
  where
    go : (c : Class) → guaranteed_of (xs ++ ys) ≡ guaranteed_of xs ++ guaranteed_of ys → of_guaranteed c x.1 (guaranteed_of (xs ++ ys)) ≡ of_guaranteed c x.1 (guaranteed_of xs) ++ guaranteed_of ys
    go Guaranteed e = ap (λ (l : List (List ℕ)). x.1 ∷ l) e
    go Loose e = e

pub delivers-more : (p : ServerPacket) (events : List WatchEvent) → guaranteed_of (delivered_to (p ∷ packets_in events)) ≡ guaranteed_of (delivered_to (packets_in events)) ++ news_by p events
delivers-more p events =
    let more = packet-grows p (packets_in events) in
    let before = delivered_to (packets_in events) in
    let behind : drop (length before) (delivered_to (p ∷ packets_in events)) ≡ more.0 = ap (drop (length before)) more.1 ∙ drop-append_seam before more.0 in
    ap guaranteed_of more.1 ∙ guaranteed-append before more.0 ∙ ap (λ (l : List (Class × List ℕ)). guaranteed_of before ++ guaranteed_of l) (sym behind)

-- ---- what is posted

-- an item that posts nothing
quiet : (t : Terms) (items : List OwnItem) (item : OwnItem) (events : List (List ℕ)) → payload_of item ≡ [] → is_refused_post t items item ≡ false → PostsInOrder t items events → PostsInOrder t (item ∷ items) events
quiet t items item events nothing kept posts =
    let same : posts_in (item ∷ items) ≡ posts_in items = ap (λ (l : List (List ℕ)). posts_in items ++ l) nothing ∙ append-nil (posts_in items) in
    record {
      front = subst (λ (l : List (List ℕ)). IsPrefixOf l events) (sym same) posts.front;
      whole = λ e. same ∙ posts.whole (ap (λ (b : Bool). b || is_stopped t items) (sym kept) ∙ e);
    }

own-quiet : (t : Terms) (items : List OwnItem) (line : BodyLine) (events : List (List ℕ)) → IsSpectators line → PostsInOrder t items events → PostsInOrder t (Line line ∷ items) events
own-quiet t items (script.Pack c) events is posts = quiet t items (Line (script.Pack c)) events refl refl posts
own-quiet t items (script.ClientPack c) events is posts = quiet t items (Line (script.ClientPack c)) events refl refl posts
own-quiet t items (script.Down c k) events is posts = quiet t items (Line (script.Down c k)) events refl refl posts
own-quiet t items (script.Up c k) events is posts = quiet t items (Line (script.Up c k)) events refl refl posts
own-quiet t items (script.Show c) events is posts = quiet t items (Line (script.Show c)) events refl refl posts
own-quiet t items (script.Post c class payload) events is posts = absurd is
own-quiet t items (script.ClientPost c class payload) events is posts = absurd is
own-quiet t items (script.Scan c) events is posts = absurd is
own-quiet t items (script.Raw c bytes) events is posts = absurd is
own-quiet t items (script.Move c m) events is posts = absurd is
own-quiet t items script.Tick events is posts = absurd is
own-quiet t items script.World events is posts = absurd is

-- one more event, posted unless a post was refused
abbrev one-more : Terms → List ℕ → List OwnItem → Bool → List OwnItem
one-more t v items b = if b then items else Line (script.Post t.config.client Guaranteed v) ∷ items

more-posted : (t : Terms) (v : List ℕ) (items : List OwnItem) (events : List (List ℕ)) (b : Bool) → is_stopped t items ≡ b → PostsInOrder t items events → PostsInOrder t (one-more t v items b) (events ++ v ∷ [])
more-posted t v items events true is posts = record {
  front = (posts.front.0 ++ v ∷ [], sym (append_assoc (posts_in items) posts.front.0 (v ∷ [])) ∙ ap (λ (l : List (List ℕ)). l ++ v ∷ []) posts.front.1);
  whole = λ e. cc;
}
more-posted t v items events false is posts =
    let same : posts_in items ++ v ∷ [] ≡ events ++ v ∷ [] = ap (λ (l : List (List ℕ)). l ++ v ∷ []) (posts.whole is) in
    record { front = ([], append-nil (posts_in items ++ v ∷ []) ∙ same); whole = λ e. same }

posting-keeps : (t : Terms) (vs : List (List ℕ)) (items : List OwnItem) (events : List (List ℕ)) → PostsInOrder t items events → PostsInOrder t (posting t vs items) (events ++ vs)
posting-keeps t [] items events posts = subst (λ (l : List (List ℕ)). PostsInOrder t items l) (sym (append-nil events)) posts
posting-keeps t (v ∷ vs) items events posts =
    subst (λ (l : List (List ℕ)). PostsInOrder t (posting t (v ∷ vs) items) l) (append_assoc events (v ∷ []) vs)
    (posting-keeps t vs (one-more t v items (is_stopped t items)) (events ++ v ∷ []) (more-posted t v items events (is_stopped t items) refl posts))

pub posts-what-came : PostsWhatCame
posts-what-came t [] own = record { front = ([], refl); whole = λ e. refl }
posts-what-came t (Took p ∷ events) own =
    let before = quiet t (items_of t events) (hide_item p events) (guaranteed_of (delivered_to (packets_in events))) refl refl (posts-what-came t events own) in
    let written = quiet t (hide_item p events ∷ items_of t events) (write_item t.kinds p events) (guaranteed_of (delivered_to (packets_in events))) refl refl before in
    subst (λ (l : List (List ℕ)). PostsInOrder t (items_of t (Took p ∷ events)) l) (sym (delivers-more p events))
    (posting-keeps t (news_by p events) (write_item t.kinds p events ∷ hide_item p events ∷ items_of t events) (guaranteed_of (delivered_to (packets_in events))) written)
posts-what-came t (Scans ∷ events) own =
    quiet t (items_of t events) (show_item t.kinds events) (guaranteed_of (delivered_to (packets_in events))) refl refl (posts-what-came t events own)
posts-what-came t (Own line ∷ events) own = own-quiet t (items_of t events) line (guaranteed_of (delivered_to (packets_in events))) own.0 (posts-what-came t events own.1)
