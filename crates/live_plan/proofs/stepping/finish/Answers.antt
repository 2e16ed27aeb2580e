use Rattle.std.proofs.Common.{ℕ, ap, subst}
use Rattle.round_words.specs.Seats.{view_of}
use Rattle.live_plan.specs.Actors.{LiveActorView}
use Rattle.live_plan.specs.Inside.Finishing.{LiveFinishTold}
use Rattle.live_plan.proofs.SteppingLemmas.{finish_since}
use Rattle.live_plan.proofs.stepping.finish.Goals as goal

pub returns-in-Ok-clause-told : goal.returns-in-Ok-clause-told
returns-in-Ok-clause-told g c =
    let b = c.args.book.now in
    let v = view_of c.args.seat.now in
    let w = view_of c.run.new.seat in
    let s = g.H.Shelf.state c.args.shelf.now in
    let t = g.H.Shelf.state c.run.new.shelf in
    subst (λ (i : ℕ). LiveFinishTold b i c.args.seen c.args.used v s c.run.result w t)
    (ap (λ (a : LiveActorView). a.state.core) c.actor.view_is)
    (finish_since b c.actor.inside.state.core c.args.seen c.args.used v w s (g.H.Shelf.state c.keep.new.shelf) t c.run.result
    c.keep.ensures.grows c.run.ensures.told)
