use Rattle.plan_make.proofs.SharesLemmas.{home_of_last}
use Rattle.plan_make.proofs.splitting.home_in.Goals as goal

pub returns : goal.returns
returns c = home_of_last c.args.pieces.now _ c.requires
