-- The letter stands at the place of its name, and its name is the current one.
use Rattle.std.proofs.Common.{Some, vec_items, refl, ◌∙◌}
use Rattle.std.proofs.lemmas.List.{map-set}
use Rattle.std.specs.Option.{option_map}
use Rattle.frame.specs.Contents.{contents, frame_data}
use Rattle.console.proofs.SessionLaws.{same_state, kept_at}
use Rattle.console.specs.Sessions.{state}
use Rattle.console.proofs.session.Session.keep.Goals as goal

pub returns : goal.returns
returns c =
    let frame = c.args.frame in
    let place = c.id-name.result in
    same_state (map-set (option_map contents) (vec_items c.args.self.now.kept) place (Some frame)) refl
    ∙ kept_at (state c.args.self.now) place frame.id (frame_data frame) c.id-name.ensures
