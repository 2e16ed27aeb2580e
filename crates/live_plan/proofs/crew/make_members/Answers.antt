use Rattle.std.proofs.Common.{ℕ, List, length, sym, ap, subst, arith}
use Rattle.round_words.proofs.ListLemmas.{length_push}
use Rattle.crew_turns.specs.declared.player.Player.{Player}
use Rattle.live_plan.specs.Inside.Crewing.{AreNewMembers, IsNewMember}
use Rattle.live_plan.specs.Players.{MemberView}
use Rattle.live_plan.proofs.CrewsLemmas.{new_more}
use Rattle.live_plan.proofs.crew.make_members.Goals as goal

pub loop-core-preserved : goal.loop-core-preserved
loop-core-preserved c =
    let inv = c.loop-core.invariant in
    let b = c.args.book.now in
    let ps : List (Player MemberView) = c.loop-core.members.items in
    let p : Player MemberView = c.of-player.result in
    let made : IsNewMember b c.args.rounds c.loop-core.core p.actor =
    subst (IsNewMember b c.args.rounds c.loop-core.core) (sym {A = MemberView} c.of-player.ensures) c.in_ok-member.ensures in record {
      new = subst (AreNewMembers b c.args.rounds) (sym c.push_reserved.ensures.items)
          (new_more b c.args.rounds ps p inv.new (subst (λ (k : ℕ). IsNewMember b c.args.rounds k p.actor) (sym inv.count) made));
      count = omega (arith, ap length c.push_reserved.ensures.items, length_push ps p, inv.count);
      room = omega (arith, inv.room, c.push_reserved.ensures.capacity);
    }
