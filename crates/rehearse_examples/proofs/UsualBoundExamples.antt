-- Worked examples, computed: loops and texts that go on to the usual bound of 10,000 steps.
use Rattle.std.proofs.Common.{None, codes, refl, ◌≡◌}
use Rattle.rehearse_rules.proofs.ExampleRehearsals.{usual, cut_listing, bootcmd, z, listed, ends_along, listed_along, along}

-- the usual step bound is reached too
usual_bound_of_steps : listed (bootcmd usual (codes "while true; do true; done")) z None ≡ cut_listing
unfolding listed_along ends_along
usual_bound_of_steps = along 0 (bootcmd usual (codes "while true; do true; done")) z None cut_listing refl refl

usual_bound_of_texts : listed (bootcmd usual (codes "run bootcmd")) z None ≡ cut_listing
unfolding listed_along ends_along
usual_bound_of_texts = along 0 (bootcmd usual (codes "run bootcmd")) z None cut_listing refl refl
