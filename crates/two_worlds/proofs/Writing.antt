-- What a server that serves one client alone writes of what it is told: the report's line of a pack, and of nothing else.
use Rattle.std.proofs.Common.{◌≡◌, ◌∙◌, ℕ, Bool, true, false, List, [], Option, Some, None, Result, Ok, Err, if◌then◌else◌, refl, sym, ap, subst, arith}
use Rattle.std.specs.Prelude.{OnErr}
use Rattle.tn_outside.specs.Totals.{Adds, AddsFront}
use Rattle.tn_outside.proofs.Totals.{adds_nothing}
use Rattle.match_script.specs.declared.types.BodyLine.TheVariants as script
use Rattle.match_report.specs.declared.told.Told.{Told}
use Rattle.match_report.specs.Text.{report_line}
use Rattle.own_lists.specs.pair_steps.stream_manager.Limits.{Terms}
use Rattle.own_lists.specs.Own.{OwnItem, Line, Scan, Tick}
use Rattle.own_lists.specs.Kept.{Kept, kept}
use Rattle.alone_server.specs.own_items.client_seat.Told.{pack_told}
use Rattle.alone_server.specs.own_items.match_laws.Laws.{is_own_pack}
use Rattle.alone_server.specs.Telling.{item_told}
use Rattle.alone_server.specs.Stands as server
use Rattle.two_worlds.specs.declared.alone.Alone.{Alone}
use Rattle.two_worlds.specs.Stands.{Tells, item_text}

-- a pack tells what the report tells of it, whoever it names
module _ (t : Terms) (k : Kept) where
  pub pack_tells : (item : OwnItem) → is_own_pack item ≡ true → item_told t k item ≡ Some (pack_told t k t.config.client)
  pack_tells (Line (script.Pack n)) e = refl
  pack_tells (Line script.Tick) e = absurd (cc)
  pack_tells (Line (script.Scan n)) e = absurd (cc)
  pack_tells (Line (script.Post n class v)) e = absurd (cc)
  pack_tells (Line (script.ClientPost n class v)) e = absurd (cc)
  pack_tells (Line (script.ClientPack n)) e = absurd (cc)
  pack_tells (Line (script.Down n place)) e = absurd (cc)
  pack_tells (Line (script.Up n place)) e = absurd (cc)
  pack_tells (Line (script.Raw n bytes)) e = absurd (cc)
  pack_tells (Line (script.Move n m)) e = absurd (cc)
  pack_tells (Line (script.Show n)) e = absurd (cc)
  pack_tells (Line script.World) e = absurd (cc)
  pack_tells (Scan hides nears shows) e = absurd (cc)
  pack_tells (Tick writes taken) e = absurd (cc)

pack_is_for : (c : ℕ) (item : OwnItem) → is_own_pack item ≡ true → server.IsFor c item
pack_is_for c (Line (script.Pack n)) e = λ d. absurd d
pack_is_for c (Line script.Tick) e = absurd (cc)
pack_is_for c (Line (script.Scan n)) e = absurd (cc)
pack_is_for c (Line (script.Post n class v)) e = absurd (cc)
pack_is_for c (Line (script.ClientPost n class v)) e = absurd (cc)
pack_is_for c (Line (script.ClientPack n)) e = absurd (cc)
pack_is_for c (Line (script.Down n place)) e = absurd (cc)
pack_is_for c (Line (script.Up n place)) e = absurd (cc)
pack_is_for c (Line (script.Raw n bytes)) e = absurd (cc)
pack_is_for c (Line (script.Move n m)) e = absurd (cc)
pack_is_for c (Line (script.Show n)) e = absurd (cc)
pack_is_for c (Line script.World) e = absurd (cc)
pack_is_for c (Scan hides nears shows) e = tt
pack_is_for c (Tick writes taken) e = tt

some_is : (x y : Told) → ◌≡◌ {A = Option Told} (Some x) (Some y) → x ≡ y
some_is x y e = cc (e)

never : (y : Told) → ◌≡◌ {A = Option Told} None (Some y) → ⊥
never y e = cc (e)

module _ (a : Alone) (item : OwnItem) where
  module _ (told : Option Told) (pack : is_own_pack item ≡ true) (tells : server.Tells a.server item told) (t : Terms) (items : List OwnItem) (s : server.ServesBy a.server t items) where
    told_is : told ≡ Some (pack_told t (kept t items) t.config.client)
    told_is = tells t items s (pack_is_for t.config.client item pack) ∙ pack_tells t (kept t items) item pack

  -- so something is told of a pack
  pub tells_some : is_own_pack item ≡ true → server.Tells a.server item None → server.MayFeed a.server item → ⊥
  tells_some pack tells may =
      never _ (told_is None pack tells may.terms may.items may.stands.serves)

  -- and what is told of it makes its line
  pub writes : (told : Told) → is_own_pack item ≡ true → server.Tells a.server item (Some told)
      → (adds : Option (List ℕ) → Option (List ℕ) → List ℕ → Type 0) (w x : Option (List ℕ)) → adds w x (report_line told) → Tells adds a item w x
  writes told pack tells adds w x added t items s =
      let line = some_is told _ (told_is (Some told) pack tells t items s) in
      let text : item_text t items item ≡ report_line told =
      ap (λ (b : Bool). if b then report_line (pack_told t (kept t items) t.config.client) else []) pack ∙ ap report_line (sym line) in
      subst (adds w x) (sym text) added

  -- nothing is written of another item
  pub writes_nothing : is_own_pack item ≡ false → (w : Option (List ℕ)) → Tells Adds a item w w
  writes_nothing other w t items s =
      subst (Adds w w) (sym (ap (λ (b : Bool). if b then report_line (pack_told t (kept t items) t.config.client) else []) other)) (adds_nothing w)

  -- nor of any where nothing was done
  pub nothing_yet : (w : Option (List ℕ)) → Tells AddsFront a item w w
  nothing_yet w t items s = (0, omega arith, adds_nothing w)

-- ---- after an error

pub map_err : {T E P Q : Type 0} (r : Result T E) → (P → Q) → OnErr r P → OnErr r Q
map_err (Ok x) more h = h
map_err (Err e) more h = more h
