use Rattle.std.proofs.Common.{◌≡◌, ◌+◌, ◌&&◌, ℕ, List, suc, set, cond, not, ap, subst, ◌∙◌, arith}
use Rattle.std.specs.Prelude.{◌==◌, nat_lt, slice_index}
use Rattle.round_words.specs.Inside.Known.{raised}
use Rattle.round_words.proofs.heard.raise.Goals as goal

pub loop-core-preserved : goal.loop-core-preserved
loop-core-preserved c =
    let l = c.loop-core in
    let at : ℕ = l.core in
    let f : ℕ = c.args.floor in
    let a : ℕ = c.args.actor in
    let e : suc at ≡ at + 1 = omega arith in
    subst (λ (k : ℕ). set l.clocks at c.higher.result ≡ raised a f k c.args.clocks.now) e
    (ap (set l.clocks at) c.higher.ensures
    ∙ ap (λ (ys : List ℕ). set ys at (cond (nat_lt (slice_index ys at) f && not (at == a)) f (slice_index ys at))) l.invariant)
