use Rattle.std.proofs.Common.{◌≡◌, ◌∙◌, ℕ, List, [], length, max, ap, arith}
use Rattle.quantised_fields.specs.declared.kind.Kind.{Kind}
use Rattle.tn_types.specs.Checks.{first_fault}
use Rattle.ghost_client.specs.State.{copy_in}
use Rattle.ghost_client.specs.Faults.{item_fault}
use Rattle.stream_manager.specs.ClientCalls.{held_bits}
use Rattle.stream_manager.specs.Packets.{blocks_seen, events_seen, ghosts_seen}
use Rattle.stream_manager.proofs.Came.{held-word}
use Rattle.demo_view.specs.Viewing.{ViewTerms}
use Rattle.stream_manager.proofs.Clients.{ghosts-in_range}
use Rattle.demo_view.proofs.Keeping.{seen-more}
use Rattle.demo_view.proofs.Seen.{horizon-grows}
use Rattle.demo_view.proofs.viewer.take_body.Goals as goal

pub take_events-requires-clause-few : goal.take_events-requires-clause-few
take_events-requires-clause-few c = omega (arith, c.requires.few.counted, c.requires.few.horizon_most)

pub take_checked-requires-clause-none : goal.take_checked-requires-clause-none
take_checked-requires-clause-none c =
    let word : c.held.result ≡ held_bits c.take_blocks.new.blocks = held-word c.held.result c.take_blocks.new.blocks c.held.type_inv c.held.ensures.value in
    ap (λ (held : ℕ). first_fault (item_fault (copy_in c.args.copies.now.slots) held) [] c.args.body.now.ghosts) (word ∙ ap held_bits c.take_blocks.ensures.taken)
    ∙ c.requires.admits.ghosts

pub returns-clause-took : goal.returns-clause-took
returns-clause-took c client = record {
  stands = λ packets s. record {
    horizon = (let h : c.max.result ≡ max c.args.horizon.now c.args.body.now.head.seq = omega (arith, c.max.ensures) in h ∙ ap (λ (n : ℕ). max n c.args.body.now.head.seq) s.horizon);
    blocks = c.take_blocks.ensures.stands (blocks_seen packets) s.blocks;
    events = c.take_events.ensures.stands (events_seen packets) s.events;
    copies = c.take_checked.ensures.taken (ghosts_seen packets) s.copies;
  };
  handed = λ packets s. c.take_events.ensures.handed (events_seen packets) s.events;
  terms = ap (λ (kinds : List Kind). let t : ViewTerms = record { client = client; version = c.args.version; kinds = kinds } in t) c.take_checked.ensures.kinds;
}

pub returns-clause-few : goal.returns-clause-few
returns-clause-few c =
    let h : c.max.result ≡ max c.args.horizon.now c.args.body.now.head.seq = omega (arith, c.max.ensures) in
    record {
      horizon_most = omega (arith, h, c.requires.few.horizon_most, c.requires.fits.head.seq);
      counted = omega (arith, h, c.take_events.ensures.grown, c.requires.few.counted, horizon-grows c.args.body.now.head.seq c.args.horizon.now (length c.args.body.now.events) c.requires.admits.fresh (c.requires.fits.events.few));
    }

pub returns-clause-seen : goal.returns-clause-seen
returns-clause-seen c =
    seen-more c.args.copies.now c.take_checked.new.self c.args.body.now.ghosts c.requires.seen c.take_checked.ensures.kinds
    (ghosts-in_range c.args.version c.args.copies.now.kinds c.args.body.now c.requires.fits) c.take_checked.ensures.taken
