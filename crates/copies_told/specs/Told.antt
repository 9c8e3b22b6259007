-- What is told of copies by the ghosts that came: each slot's copy by rising slot, each field with the value that its level shows. No
-- field is marked as settled, for only the server knows which are.
use Rattle.std.specs.Prelude.{ℕ, List, [], filter_map, false, Option, None, ◌≡◌, refl}
use Rattle.std.specs.Option.{option_map}
use Rattle.tn_types.specs.declared.limits.TheConstants.{MAX_SLOTS, MAX_FIELDS}
use Rattle.quantised_fields.specs.declared.kind.Kind.{Kind}
use Rattle.wire_format.specs.declared.ghosts.GhostItem.{GhostItem}
use Rattle.ghost_model.specs.Words.{upto}
use Rattle.ghost_client.specs.declared.copy.GhostCopy.{GhostCopy}
use Rattle.ghost_client.specs.Copies.{copy_of}
use Rattle.ghost_client.specs.State.{field_value}
use Rattle.match_report.specs.declared.copies.CopyTold.{CopyTold}
use Rattle.match_report.specs.declared.copies.FieldTold.{FieldTold}

abbrev pub field_told : List Kind → GhostCopy → ℕ → Option FieldTold
field_told kinds copy f = option_map (λ value. record { value = value; settled = false }) (field_value kinds f copy)

abbrev pub fields_told : List Kind → GhostCopy → List FieldTold
fields_told kinds copy = filter_map (field_told kinds copy) (upto MAX_FIELDS)

abbrev pub copy_told : List Kind → ℕ → GhostCopy → CopyTold
copy_told kinds at copy = record { slot = at; kind = copy.kind; block = copy.block; fields = fields_told kinds copy }

abbrev pub slot_told : List Kind → List GhostItem → ℕ → Option CopyTold
slot_told kinds items at = option_map (copy_told kinds at) (copy_of items at)

abbrev pub copies_told : List Kind → List GhostItem → List CopyTold
copies_told kinds items = filter_map (slot_told kinds items) (upto MAX_SLOTS)

-- ---- an example: a kind of one field of whole numbers from 0 to 3, and a copy of it in slot 2 that shows 1

no_copy : slot_told [] [] 2 ≡ None
no_copy = refl
