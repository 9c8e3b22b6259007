-- The items that a server is fed, as items of own lists.
use Rattle.std.specs.Prelude.{map}
use Rattle.own_lists.specs.Own as own
use Rattle.own_items.specs.declared.items.OwnShow.{OwnShow}
use Rattle.own_items.specs.declared.items.OwnWrite.{OwnWrite}
use Rattle.own_items.specs.declared.items.OwnItem.{OwnItem}
use Rattle.own_items.specs.declared.items.OwnItem.TheVariants.{Line, Scan, Tick}

abbrev pub show_of : OwnShow → own.OwnShow
show_of s = record { how = record { kind = s.kind; block = s.block; level = s.level; control = s.control }; values = s.values }

abbrev pub write_of : OwnWrite → own.OwnWrite
write_of w = record { n = w.n; field = w.field; value = w.value }

abbrev pub item_of : OwnItem → own.OwnItem
item_of (Line line) = own.Line line
item_of (Scan hides nears shows) = own.Scan hides nears (map show_of shows)
item_of (Tick writes taken) = own.Tick (map write_of writes) taken
