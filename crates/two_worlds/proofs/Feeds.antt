-- A server is fed with the items that the maker of its own list makes: the condition of each, and the text that grows by it.
use Rattle.std.proofs.Common.{◌≡◌, ◌∙◌, ◌<◌, ◌≤◌, ◌==◌, ℕ, Bool, true, false, cond, if◌then◌else◌, List, [], ◌∷◌, ◌++◌, length, take, drop, reverse, filter, refl, sym, ap, subst, arith, append_assoc, Option}
use Rattle.std.proofs.lemmas.Bool.Decides.{nat_tests}
use Rattle.std.proofs.lemmas.List.{append-nil, length-reverse, length-take, reverse-append, take-append-drop}
use Rattle.tn_outside.specs.Totals.{Adds, AddsFront}
use Rattle.tn_outside.proofs.Totals.{adds_then, adds_nothing, front_more}
use Rattle.match_script.specs.declared.types.BodyLine.{BodyLine}
use Rattle.match_script.specs.declared.types.BodyLine.TheVariants as script
use Rattle.match_script.specs.declared.types.Head.{Head}
use Rattle.own_lists.specs.pair_steps.stream_manager.Limits.{Terms}
use Rattle.own_lists.specs.Own.{OwnItem, Line, Scan, Tick}
use Rattle.own_lists.specs.Kept.{put}
use Rattle.own_lists.specs.Past.{client_terms, after}
use Rattle.own_lists.specs.Conditions.{AreOwn}
use Rattle.own_lists.specs.Agreement.{AreLines}
use Rattle.own_lists.proofs.Agreeing.{own_lists_agree}
use Rattle.own_lists.proofs.Counting.{counted_item, counted_items, counted_few as lines_few}
use Rattle.alone_server.proofs.Below.own_items.match_engine.Fed.{own_few}
use Rattle.two_worlds.specs.declared.alone.Alone.{Alone}
use Rattle.two_worlds.specs.Laws.{text_of}
use Rattle.alone_server.specs.Stands.{is_counted}
use Rattle.two_worlds.specs.Stands.{StandsFor, MayFeed, Feeds, Tells, item_text}
use Rattle.alone_server.specs.own_items.Source.{SourceState, Stands, first_lines, made, whole_own}
use Rattle.two_worlds.specs.Fed.{IsFed, terms_in, text_made, whole_text, Continues, Moves, Breaks}

-- ---- the text of a list stands in front of that of a longer one

module _ (t : Terms) where
  text_put : (f : ℕ → List OwnItem) (d c : ℕ) (i : OwnItem) → (rest : List ℕ) × (text_of t (put f d (i ∷ f d) c) ≡ text_of t (f c) ++ rest)
  text_put f d c i = by (c == d) refl
    where
      by : (b : Bool) → (c == d) ≡ b → (rest : List ℕ) × (text_of t (cond b (i ∷ f d) (f c)) ≡ text_of t (f c) ++ rest)
      by true e = let same : d ≡ c = grind (arith, nat_tests) in (item_text t (f d) i, ap (λ k. text_of t (f k) ++ item_text t (f d) i) same)
      by false e = ([], sym (append-nil (text_of t (f c))))

  text_line : (head : Head) (line : BodyLine) (past : List BodyLine) (c : ℕ)
      → (rest : List ℕ) × (text_of t ((after head (line ∷ past)).own c) ≡ text_of t ((after head past).own c) ++ rest)
  text_line head script.Tick past c = (_, refl)
  text_line head (script.Scan d) past c = text_put (after head past).own d c _
  text_line head (script.Post d class payload) past c = text_put (after head past).own d c _
  text_line head (script.ClientPost d class payload) past c = text_put (after head past).own d c _
  text_line head (script.Pack d) past c = text_put (after head past).own d c _
  text_line head (script.ClientPack d) past c = text_put (after head past).own d c _
  text_line head (script.Down d k) past c = text_put (after head past).own d c _
  text_line head (script.Up d k) past c = text_put (after head past).own d c _
  text_line head (script.Raw d bytes) past c = text_put (after head past).own d c _
  text_line head (script.Move d m) past c = text_put (after head past).own d c _
  text_line head (script.Show d) past c = text_put (after head past).own d c _
  text_line head script.World past c = ([], sym (append-nil (text_of t ((after head past).own c))))

  text_in_front : (head : Head) (later past : List BodyLine) (c : ℕ)
      → (rest : List ℕ) × (text_of t ((after head (later ++ past)).own c) ≡ text_of t ((after head past).own c) ++ rest)
  text_in_front head [] past c = ([], sym (append-nil (text_of t ((after head past).own c))))
  text_in_front head (line ∷ later) past c =
      let r = text_in_front head later past c in
      let more = text_line head line (later ++ past) c in
      (r.0 ++ more.0, more.1 ∙ ap (λ l. l ++ more.0) r.1 ∙ append_assoc (text_of t ((after head past).own c)) r.0 more.0)

text_rest : (s : SourceState) → (rest : List ℕ) × (whole_text s ≡ text_made s ++ rest)
text_rest s =
    let head = s.script.head in
    let b = s.script.body in
    let later : List BodyLine = reverse (drop s.place b) in
    let parts : reverse b ≡ later ++ first_lines s.script s.place = ap reverse (sym (take-append-drop s.place b)) ∙ reverse-append (take s.place b) (drop s.place b) in
    let r = text_in_front (terms_in s) head later (first_lines s.script s.place) s.client in
    (r.0, ap (λ (l : List BodyLine). text_of (terms_in s) ((after head l).own s.client)) parts ∙ r.1)

-- ---- the next item

-- an item that this server counts, its match counted as a line
one_item : (item : OwnItem) → (if is_counted item then 1 else 0) ≤ counted_item item
one_item (Line script.Tick) = omega arith
one_item (Line (script.Scan c)) = omega arith
one_item (Line (script.Post c class v)) = omega arith
one_item (Line (script.ClientPost c class v)) = omega arith
one_item (Line (script.Pack c)) = omega arith
one_item (Line (script.ClientPack c)) = omega arith
one_item (Line (script.Down c k)) = omega arith
one_item (Line (script.Up c k)) = omega arith
one_item (Line (script.Raw c bytes)) = omega arith
one_item (Line (script.Move c m)) = omega arith
one_item (Line (script.Show c)) = omega arith
one_item (Line script.World) = omega arith
one_item (Scan hides nears shows) = omega arith
one_item (Tick writes taken) = omega arith

counted_few : (items : List OwnItem) → length (filter is_counted items) ≤ counted_items items
counted_few [] = omega arith
counted_few (item ∷ items) = by (counted_few items) (is_counted item) (one_item item)
  where
    by : length (filter is_counted items) ≤ counted_items items → (b : Bool) → (if b then 1 else 0) ≤ counted_item item
        → length (cond b (item ∷ filter is_counted items) (filter is_counted items)) ≤ counted_items (item ∷ items)
    by h true one = omega (arith, h, one)
    by h false one = omega (arith, h)

module _ (s n : SourceState) (a : Alone) (item : OwnItem) (fed : IsFed s a) (stands : Stands n) (same : n.script ≡ s.script) (client : n.client ≡ s.client) (grown : made n ≡ item ∷ made s) where
  -- the new list in the words of the old state
  terms_same : terms_in n ≡ terms_in s
  terms_same = (λ j. client_terms (same j).head (client j))

  lines_are : AreLines n.script.head (first_lines n.script n.place)
  lines_are = subst (λ (h : Head). AreLines h (first_lines n.script n.place)) (stands.game.head ∙ stands.head) stands.game.game.lines

  are_own : AreOwn (terms_in s) (item ∷ made s)
  are_own = subst (λ (t : Terms). AreOwn t (item ∷ made s)) terms_same (subst (AreOwn (terms_in n)) grown (own_lists_agree n.script.head (first_lines n.script n.place) n.client lines_are stands.client).0)

  pub may_feed : MayFeed a item
  may_feed = record {
    terms = terms_in s;
    items = made s;
    stands = fed.server;
    follows = are_own.0;
    few =
        (let counted = fed.server.counted in
        let few = counted_few (made s) in
        let long = ap (λ l. counted_items l) grown in
        let own = own_few n.script.head (first_lines n.script n.place) n.client in
        let lines = lines_few (first_lines n.script n.place) in
        let front = length-take n.place n.script.body in
        let turned = length-reverse (take n.place n.script.body) in
        omega (arith, counted, few, long, own, lines, front, turned, stands.ranges.few));
  }

  module _ (b : Alone) (feeds : Feeds a item b) where
    pub fed_more : IsFed n b
    fed_more = record {
      source = stands;
      server = subst (λ (t : Terms). StandsFor b t (made n)) (sym terms_same) (subst (StandsFor b (terms_in s)) (sym grown) (feeds (terms_in s) (made s) fed.server are_own.0));
    }

  text_more : text_made n ≡ text_made s ++ item_text (terms_in s) (made s) item
  text_more = (λ j. text_of (terms_same j) (grown j))

  pub continues : (written written' : Option (List ℕ)) → Tells Adds a item written written' → Continues s n written written'
  continues written written' tells first so_far =
      adds_then first written written' (text_made s) (item_text (terms_in s) (made s) item) _ so_far (tells (terms_in s) (made s) fed.server.serves) text_more

  pub moves : (b : Alone) → Feeds a item b → s.place < n.place → (written written' : Option (List ℕ)) → Tells Adds a item written written' → Moves s n b written written'
  moves b feeds place written written' tells = record {
    fed = fed_more b feeds;
    script = same;
    client = client;
    more = (let within = stands.within in let long = ap (λ x. length x.body) same in omega (arith, within, long, place));
    place = place;
    written = continues written written' tells;
  }

  whole_same : whole_text n ≡ whole_text s
  whole_same = (λ j. text_of (terms_same j) (whole_own (same j) (client j)))

  pub breaks : (written written' : Option (List ℕ)) → Tells AddsFront a item written written' → Breaks s written written'
  breaks written written' tells first so_far =
      let rest = text_rest n in
      let piece = item_text (terms_in s) (made s) item in
      front_more first written written' (text_made s) piece rest.0 _ so_far (tells (terms_in s) (made s) fed.server.serves)
      (sym whole_same ∙ rest.1 ∙ ap (λ l. l ++ rest.0) text_more ∙ append_assoc (text_made s) piece rest.0)

-- where nothing was fed
pub breaks_here : (s : SourceState) (written : Option (List ℕ)) → Breaks s written written
breaks_here s written first so_far =
    let rest = text_rest s in
    front_more first written written (text_made s) [] rest.0 _ so_far (0, omega arith, adds_nothing written) rest.1
