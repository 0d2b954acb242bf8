use Rattle.std.proofs.Common.{rules, ◌∙◌, ap, drop}
use Rattle.std.proofs.lemmas.List.{drop-drop}
use Rattle.link_doors.proofs.TownLemmas.{next_out}
use Rattle.link_doors.proofs.memory_town.hand_out.Goals as goal

pub loop-place-preserved : goal.loop-place-preserved
loop-place-preserved c =
    let before = c.loop-place.invariant in
    let rest = c.next_door-door.ensures.rest ∙ ap (drop 1) before.left in
    record {
      within = search rules;
      long = search rules;
      room = search rules;
      left = search (rules, rest, drop-drop);
      out = next_out _ _ _ _ _ _ _ _ before.left before.out c.next_door-door.ensures.first c.placed.ensures c.push_reserved.ensures.items;
    }
