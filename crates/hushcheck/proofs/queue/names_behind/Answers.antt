use Rattle.std.proofs.Common.{[], map, sym, ap, ◌∙◌}
use Rattle.hushcheck.proofs.OrderLemmas.{with_names-append}
use Rattle.hushcheck.specs.Names.{run_by_found}
use Rattle.hushcheck.specs.Order.{with_names}
use Rattle.hushcheck.proofs.queue.names_behind.Goals as goal

pub returns : goal.returns
returns c =
    let run = run_by_found c.args.script in
    c.in_ok-add_found.ensures ∙ ap (λ names. with_names names run) c.in_ok-names.ensures ∙ sym (with_names-append [] (map (λ name. name.now) c.args.asked.now) run)
