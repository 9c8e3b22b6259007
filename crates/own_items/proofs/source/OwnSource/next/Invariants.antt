use Rattle.std.proofs.Common.{◌≡◌, ◌≤◌, ◌-◌, length}
use Rattle.own_items.specs.Source.{Stands, made}
use Rattle.own_items.proofs.source.OwnSource.next.Given as goal

abbrev pub invariant-lines : goal.invariant-lines
invariant-lines l = record {
  stands : Stands l.self;
  made : made l.self ≡ made l.fn.self;
  script : l.self.script ≡ l.fn.self.script;
  client : l.self.client ≡ l.fn.self.client;
  item : l.item ≡ l.fn.item;
  place : l.fn.self.place ≤ l.self.place;
  body : l.body ≡ l.self.script.body;
}

abbrev pub decreases-lines : goal.decreases-lines
decreases-lines l = length l.body - l.self.place
