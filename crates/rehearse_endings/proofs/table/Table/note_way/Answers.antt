use Rattle.std.proofs.Common.{ℕ, cond, nat_eq, [], ◌∷◌, refl, sym}
use Rattle.std.specs.HashMap.{get}
use Rattle.rehearse_endings.specs.Indexed.{noted}
use Rattle.rehearse_reports.specs.Known.{key_of}
use Rattle.rehearse_endings.proofs.IndexLemmas.{first_way, further_way, forks_grow, leads_more, next_in_more, noted_one, onward_grows}
use Rattle.rehearse_endings.proofs.table.Table.note_way.Goals as goal
use Rattle.rehearse_endings.proofs.table.Table.note_way.Goals.{then-knows_next-via-then-knows_next, then-knows_next-via-else-knows_next+then-has_fork}

pub returns-in_default-clause-grows : goal.returns-in_default-clause-grows
returns-in_default-clause-grows c = onward_grows c.args.number c.args.entry (get nat_eq c.args.self.now.onward) (get nat_eq c.insert.new.self) (noted c.args.self.now.forks) (sym c.in_default.ensures.value) c.in_ok-insert.ensures.updates.0

pub returns-then-knows_next-clause-leads : goal.returns-then-knows_next-clause-leads
returns-then-knows_next-clause-leads c es begin _ =
    let key = key_of c.args.known.now in
    let table = c.args.self.now in
    let number = c.args.number in
    elim c.then-knows_next.branch [
      | then-knows_next-via-then-knows_next w ↦ (c.in-Some.first.now, first_way (get nat_eq table.onward number) c.in-Some.first.now (noted table.forks number) (sym c.in-Some.ensures.value), next_in_more table.entries.items es c.in-Some.first.now c.args.at key begin (w.if-knows_next.ensures refl))
      | then-knows_next-via-else-knows_next+then-has_fork w ↦ leads_more (noted table.forks number) _ table.entries.items es c.args.at key (λ place h. further_way (get nat_eq table.onward number) place (noted table.forks number) h) begin (w.if-has_fork.ensures refl)
    ]

pub returns-clause-leads : goal.returns-clause-leads
returns-clause-leads c es begin knows =
    let table = c.args.self.now in
    let number = c.args.number in
    (c.args.entry, further_way (get nat_eq table.onward number) c.args.entry (noted c.note.new.places number) (noted_one (noted table.forks number) (noted c.note.new.places number) number c.args.entry (c.in_ok-note.ensures.noted number)), knows)

pub returns-clause-grows : goal.returns-clause-grows
returns-clause-grows c n place h =
    let table = c.args.self.now in
    forks_grow (get nat_eq table.onward n) (noted table.forks n) (noted c.note.new.places n) (cond (nat_eq c.args.number n) (c.args.entry ∷ []) []) place (c.in_ok-note.ensures.noted n) h
