use Rattle.std.proofs.Common.{◌≡◌, [], ◌∷◌, ◌++◌, length, length-append, ap, subst, sym, ◌∙◌, arith}
use Rattle.burst_bound.specs.Inside.Runs.{AreRanBefore}
use Rattle.burst_bound.proofs.GatherLemmas.{sums_more}
use Rattle.burst_bound.proofs.runs.add_up.Goals as goal

pub loop-k-preserved : goal.loop-k-preserved
loop-k-preserved c =
    let inv = c.loop-k.invariant in
    let before = c.loop-k.before.items in
    let ticks = c.ran_so_far-ticks.result in
    let pushed : c.push_reserved.new.self.items ≡ before ++ ticks ∷ [] = c.push_reserved.ensures.items in
    record {
      size = ap length pushed ∙ length-append before (ticks ∷ []) ∙ omega (arith, inv.size);
      ran = λ rounds s few tell. subst (AreRanBefore s c.args.pieces.now) (sym pushed)
          (sums_more s c.args.pieces.now before c.loop-k.k ticks (inv.ran rounds s few tell) inv.size (λ p at.
          c.ran_so_far-ticks.ensures rounds s p few tell
          (subst (AreRanBefore s c.args.pieces.now) (sym c.deref.ensures.value) (inv.ran rounds s few tell)) at));
      capacity = c.push_reserved.ensures.capacity ∙ inv.capacity;
    }
