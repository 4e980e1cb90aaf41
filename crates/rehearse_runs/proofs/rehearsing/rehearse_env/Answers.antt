use Rattle.rehearse_terms.specs.declared.wanted.Wanted.TheVariants.{Listing, Word}
use Rattle.rehearse_runs.proofs.HeadlineLemmas.{refused_with, rehearses_with}
use Rattle.rehearse_runs.proofs.rehearsing.rehearse_env.Goals as goal

pub returns-in-Listing : goal.returns-in-Listing
returns-in-Listing g c =
    let old = g.O.Out.sink c.args.out.now in
    let new = g.O.Out.sink c.list_runs.new.out in
    let wanted = Listing c.in-Listing.bounds c.in-Listing.after c.in-Listing.page in
    record {
      ok = rehearses_with c.list_runs.result c.args.env.now _ c.args.ask.now wanted old new c.in-Listing.is c.list_runs.ensures.ok;
      err = refused_with c.list_runs.result c.args.env.now _ c.args.ask.now wanted old new c.in-Listing.is c.list_runs.ensures.err;
    }

pub returns-in-Word : goal.returns-in-Word
returns-in-Word g c =
    let old = g.O.Out.sink c.args.out.now in
    let new = g.O.Out.sink c.list_one.new.out in
    let wanted = Word c.in-Word.bounds c.in-Word.word in
    record {
      ok = rehearses_with c.list_one.result c.args.env.now _ c.args.ask.now wanted old new c.in-Word.is c.list_one.ensures.ok;
      err = refused_with c.list_one.result c.args.env.now _ c.args.ask.now wanted old new c.in-Word.is c.list_one.ensures.err;
    }
