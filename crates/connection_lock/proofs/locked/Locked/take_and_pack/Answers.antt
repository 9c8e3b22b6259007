use Rattle.std.proofs.Common.{◌≡◌, ◌∙◌, Ok, refl, ap, subst}
use Rattle.rtrb.specs.Ring.{received, sent, known_items, known_free}
use Rattle.stream_manager.specs.Limits.{Terms}
use Rattle.stream_manager.specs.Stands.{terms_of}
use Rattle.kept_pair.specs.Kept.{terms_in}
use Rattle.connection_lock.specs.Taking.{Progress}
use Rattle.connection_lock.specs.Rule.{LockedState, progress_of}
use Rattle.connection_lock.specs.Turns.{PackTurn, Packs}
use Rattle.connection_lock.proofs.locked.Locked.take_and_pack.Goals as goal

pub returns-in-Ok-make_room : goal.returns-in-Ok-make_room
returns-in-Ok-make_room g c =
    let taken = c.in-Ok.ensures.taken in
    let room = c.make_room.ensures in
    let terms : terms_in c.make_room.new.pair ≡ terms_in c.self.inside.pair = ap terms_of room.conn ∙ c.take_messages.ensures.terms in
    let progress : progress_of c.make_room.new.pair c.take_messages.new.seat c.take_messages.new.periods.objects ≡ progress_of c.take_messages.new.pair c.take_messages.new.seat c.take_messages.new.periods.objects =
    (λ j. progress_of (record c.take_messages.new.pair { steps = room.steps j }) c.take_messages.new.seat c.take_messages.new.periods.objects) in
    let packs = subst (λ (x : Terms × Progress). Packs x.0 x.1 c.pack.result (progress_of c.pack.new.pair c.pack.new.seat c.take_messages.new.periods.objects)) (λ j. (terms j, progress j)) c.pack.ensures.packs in
    subst (λ (s : LockedState). PackTurn g.N.LaneName.objects s (record {
      kept = c.pack.new.pair;
      seat = c.pack.new.seat;
      objects = c.take_messages.new.periods.objects;
      received = received c.take_messages.new.inbox;
      known = known_items c.take_messages.new.inbox;
      sent = sent c.self.inside.outbox;
      free = known_free c.self.inside.outbox;
    }) (Ok c.pack.result)) c.self.view_is (record {
      messages = taken.0;
      mid = progress_of c.take_messages.new.pair c.take_messages.new.seat c.take_messages.new.periods.objects;
      received = taken.1;
      few = taken.2;
      takes = taken.3;
      packs = packs;
      refused = tt;
      emptied = taken.4;
      fault = tt;
      terms = c.pack.ensures.terms ∙ terms;
      client = c.pack.ensures.client ∙ c.take_messages.ensures.client;
      sent = refl;
    })
