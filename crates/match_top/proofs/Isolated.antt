-- What `alone` writes, by isolation.
use Rattle.std.proofs.Common.{◌≡◌, ℕ, true, List, reverse, nat_lt, refl, sym, ap, arith}
use Rattle.std.specs.List.{flat_map}
use Rattle.match_count.specs.match_laws.Laws.{Isolation}
use Rattle.match_count.specs.match_laws.Report.{report}
use Rattle.two_worlds.specs.Text.{alone_text}
use Rattle.match_top.specs.Rows.{AloneIsOfRun}

pub alone_is_of_run : Isolation → AloneIsOfRun
unfolding report alone_text
alone_is_of_run isolated script client lt =
    let inside : nat_lt client script.head.clients ≡ true = grind (arith, lt) in
    (refl, rw inside (ap (flat_map (λ (line : List ℕ). line)) (sym (isolated script.head client (reverse script.body)))))
