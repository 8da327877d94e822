-- The table is made empty and then filled up with no letter at each place.
use Rattle.std.proofs.Common.{◌≡◌, map, replicate, None, vec_items, refl, ap, ◌∙◌}
use Rattle.std.specs.Option.{option_map}
use Rattle.frame.specs.Contents.{contents}
use Rattle.console.proofs.SessionLaws.{same_state, map_replicate, filled}
use Rattle.console.proofs.session.Session.new.Goals as goal
use Rattle.console.proofs.session.Session.new.Goals.{In_ok-resize}

no_letter : (c : In_ok-resize) → vec_items c.resize.new.self ≡ replicate 2048 None
no_letter c = filled _ _ _ 2048 None c.new-kept.ensures.items c.new-kept.ensures.len c.in_ok-resize.ensures.items

pub returns : goal.returns
returns c =
    same_state (ap (map (option_map contents)) (no_letter (goal.at.returns c).In_ok-resize) ∙ map_replicate (option_map contents) 2048 None) refl
