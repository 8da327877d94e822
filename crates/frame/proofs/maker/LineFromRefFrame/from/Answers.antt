-- The maker puts the row behind the start, and high bits behind it for the end.
use Rattle.std.proofs.Common.{◌∙◌}
use Rattle.frame.proofs.MakerLaws.{started_fits, line_fits, line_made}
use Rattle.frame.proofs.maker.LineFromRefFrame.from.Goals as goal

pub put_row-requires : goal.put_row-requires
put_row-requires c = started_fits c.args.frame.now c.new-maker.result c.new-maker.ensures

pub finish-requires : goal.finish-requires
finish-requires c = line_fits c.args.frame.now c.new-maker.result c.new-maker.ensures c.put_row.new.self c.put_row.ensures

pub returns : goal.returns
returns c = c.finish.ensures ∙ line_made c.args.frame.now c.new-maker.result c.new-maker.ensures c.put_row.new.self c.put_row.ensures
