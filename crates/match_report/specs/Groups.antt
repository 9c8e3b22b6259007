-- What is told, in the groups in which the lines are written.
use Rattle.match_report.specs.declared.told.Told.{Told}
use Rattle.match_report.specs.declared.told.Told.TheVariants.{Post, PostLoose, Packed, PackWorn, Moved, Came, NotSent, ServerRefused, ClientRefused, Show, Tick, Scan, World}

-- an event or a move that an end is to send
abbrev pub IsGiven : Told → Type 0
IsGiven (Post by c number) = Unit {0}
IsGiven (PostLoose by c dropped) = Unit {0}
IsGiven (Moved c number) = Unit {0}
IsGiven other = ⊥

abbrev pub IsPack : Told → Type 0
IsPack (Packed by c place kind bytes) = Unit {0}
IsPack (PackWorn by c life) = Unit {0}
IsPack other = ⊥

abbrev pub IsDelivery : Told → Type 0
IsDelivery (Came way c k moves events) = Unit {0}
IsDelivery (NotSent way c k sent) = Unit {0}
IsDelivery (ServerRefused way c k fault) = Unit {0}
IsDelivery (ClientRefused c k fault) = Unit {0}
IsDelivery other = ⊥

abbrev pub IsShow : Told → Type 0
IsShow (Show c events sampled accepted taken control copies) = Unit {0}
IsShow other = ⊥

-- of the world, or of a client's scope in it
abbrev pub IsOfWorld : Told → Type 0
IsOfWorld (Tick ticks writes) = Unit {0}
IsOfWorld (Scan c hides nears shows) = Unit {0}
IsOfWorld (World ticks objects) = Unit {0}
IsOfWorld other = ⊥
