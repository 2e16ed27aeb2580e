use Rattle.run_live.proofs.LiveRunsLemmas.{fits_book}
use Rattle.run_live.proofs.ran.crew_for.Goals as goal

pub make-requires : goal.make-requires
make-requires c = record {
  fits = fits_book c.args.host.now c.args.script.now c.args.live.now c.args.rounds c.requires.live c.requires.some c.requires.few c.requires.in_run;
}
