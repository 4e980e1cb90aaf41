use Rattle.output.proofs.page.put.Goals as goal

pub returns-else-extend : goal.returns-else-extend
returns-else-extend g c = rw c.if-extend.ensures.items at c.put_anew.ensures
