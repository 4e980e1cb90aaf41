use Rattle.std.proofs.Common.{map}
use Rattle.std.specs.Option.{option_copied}
use Rattle.board_start.specs.Boards.{board_of}
use Rattle.text.specs.TextsShown.{option_bytes}
use Rattle.tool_images.specs.PrintingImages.{environment_in}
use Rattle.ubtool.proofs.BeginningLemmas.{from_image}
use Rattle.ubtool.proofs.beginning.begin.Goals as goal
use Rattle.ubtool.specs.ListsShown.{list_shown}

pub returns-in-Ok : goal.returns-in-Ok
returns-in-Ok c =
    from_image (environment_in c.args.order c.args.first.now (option_copied c.args.second)) c.args.shell (board_of (list_shown c.args.list)) c.args.list.taking c.args.name.now (option_bytes c.args.text) (map (λ n. n.now) c.args.names.now) c.in-Ok.ensures.0 c.in-Ok.env c.in-Ok.ensures.1 c.in-Ok.ensures.2 c.begin_in.result c.begin_in.ensures
