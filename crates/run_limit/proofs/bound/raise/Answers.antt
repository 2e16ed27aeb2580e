use Rattle.std.proofs.Common.{◌≡◌, ℕ, max, length, set, inl, inr, ap, sym, subst, ◌∙◌, arith}
use Rattle.std.specs.Prelude.{slice_index}
use Rattle.std.proofs.lemmas.Bool.{cases_eq}
use Rattle.std.proofs.lemmas.List.{get_or-set_other, get_or-set_same}
use Rattle.run_limit.proofs.bound.raise.Goals as goal

pub loop-core-preserved : goal.loop-core-preserved
loop-core-preserved c =
    let was = c.loop-core.invariant in
    let core = c.loop-core.core in
    let old = c.loop-core.most in
    let new = c.larger.result in
    let few = c.items-core-end.ensures.few in
    let count = ap length c.items-core-end.ensures.same in
    record {
      raised = λ d lt. elim (cases_eq d core) [
        | inl here ↦
            let most = get_or-set_same old core new 0 (omega arith) in
            let same = was.rest core (omega arith) in
            let spans = c.spans_of_rows-spans.result in
            subst (λ (e : ℕ). slice_index (set old core new) e
            ≡ max (slice_index c.args.most.now e) (slice_index spans e)) (sym here)
            (most ∙ (c.larger.ensures ∙ ap (λ (n : ℕ). max n (slice_index spans core)) same))
        | inr ne ↦ get_or-set_other old core d new 0 ne ∙ was.raised d (omega arith)
      ];
      rest = λ d le. get_or-set_other old core d new 0 (omega arith) ∙ was.rest d (omega arith);
    }

pub returns : goal.returns
returns c = λ d lt. (
  slice_index c.spans_of_rows-spans.result d,
  c.spans_of_rows-spans.ensures d lt,
  (let count = ap length c.items-core-end.ensures.same in c.loop-core.invariant.raised d (omega arith)),
)
