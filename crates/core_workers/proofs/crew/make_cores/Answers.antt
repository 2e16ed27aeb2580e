use Rattle.std.proofs.Common.{ℕ, List, sym, ap, subst, arith, length}
use Rattle.std.specs.Prelude.{slice_index}
use Rattle.round_words.proofs.ListLemmas.{length_push}
use Rattle.crew_turns.specs.declared.player.Player.{Player}
use Rattle.dispatch_core.specs.States.{ActorView}
use Rattle.core_workers.specs.Inside.Making.{ArePlayersNew, IsNewActor}
use Rattle.core_workers.proofs.MakingLemmas.{new_more}
use Rattle.core_workers.proofs.crew.make_cores.Goals as goal

pub loop-core-preserved : goal.loop-core-preserved
loop-core-preserved c =
    let inv = c.loop-core.invariant in
    let course = c.args.course.now in
    let keeps : List ℕ = c.args.keep.now in
    let ps : List (Player ActorView) = c.loop-core.cores.items in
    let p : Player ActorView = c.of.result in
    let made : IsNewActor course c.args.rounds c.loop-core.core (slice_index keeps c.loop-core.core) p.actor =
    subst (IsNewActor course c.args.rounds c.loop-core.core (slice_index keeps c.loop-core.core)) (sym {A = ActorView} c.of.ensures) c.in_ok-member.ensures in record {
      new = subst (ArePlayersNew course c.args.rounds keeps) (sym c.push_reserved.ensures.items) (new_more course c.args.rounds keeps ps p inv.new
          (subst (λ (k : ℕ). IsNewActor course c.args.rounds k (slice_index keeps k) p.actor) (sym inv.count) made));
      count = omega (arith, ap length c.push_reserved.ensures.items, length_push ps p, inv.count);
      room = omega (arith, inv.room, c.push_reserved.ensures.capacity);
    }
