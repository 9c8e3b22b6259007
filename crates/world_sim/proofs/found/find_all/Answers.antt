use Rattle.std.proofs.Common.{◌≡◌, ◌∙◌, refl, filter}
use Rattle.world_rules.specs.Near.{is_standing}
use Rattle.world_sim.specs.declared.found.Found.{Found}
use Rattle.world_sim.specs.Found.{is_players}
use Rattle.world_sim.proofs.Gathered.{are_found}
use Rattle.world_sim.proofs.Glancing.{players_up_to, standing_up_to}
use Rattle.world_sim.proofs.found.find_all.Goals as goal

pub returns : goal.returns
returns c =
    let os = c.args.objects.now in
    let n = c.players_end.result in
    let end = c.players_end.ensures.end os c.requires.glances in
    let players : c.gather.new.players.items ≡ filter is_players os = c.in_ok-gather.ensures.players ∙ players_up_to os n c.requires.first end in
    let standing : c.gather.new.standing.items ≡ filter is_standing os = c.in_ok-gather.ensures.standing ∙ standing_up_to os n c.requires.first end in
    let found : Found = record { players = c.gather.new.players; standing = c.gather.new.standing; picked = c.gather_ending.new.picked } in
    are_found os found c.gather.new.standing.items players standing refl c.in_ok-gather_ending.ensures.flags
    c.in_ok-gather_ending.ensures.hitting
    (rw c.deref-2.ensures.value at c.in_ok-gather_ending.ensures.triggered)
    (rw c.deref-2.ensures.value at c.in_ok-gather_ending.ensures.marks)
