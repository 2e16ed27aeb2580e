-- The line of a burst is that at its place.
use Rattle.std.proofs.Common.{◌≡◌, ℕ, ◌<◌, List, length, get_or, Some, sym, ap, ◌∙◌}
use Rattle.std.specs.Prelude.{slice_get}
use Rattle.std.proofs.lemmas.List.{get_or_default}
use Rattle.std.proofs.lemmas.Option.{get_or_from_slice_get}
use Rattle.vcpu_names.specs.Names.{name_at}
use Rattle.burst_bound.specs.BurstText.{burst_line, burst_line_at, no_answer, no_burst}
use Rattle.burst_bound.specs.ScriptBursts.{ScriptBurst}
use Rattle.burst_bound.specs.declared.answer.BurstAnswer.{BurstAnswer}

pub line_here : (names : List (List ℕ)) (bursts : List ScriptBurst) (answers : List BurstAnswer) (k : ℕ)
    (burst : ScriptBurst) (other : BurstAnswer) → slice_get bursts k ≡ Some burst → k < length answers
    → burst_line (name_at names burst.vcpu) k burst (get_or answers k other) ≡ burst_line_at names bursts answers k
line_here names bursts answers k burst other there lt =
    let one = get_or_from_slice_get bursts k burst no_burst there in
    let two = get_or_default answers k other no_answer lt in
    ap (λ (b : ScriptBurst). burst_line (name_at names b.vcpu) k b (get_or answers k other)) (sym one)
    ∙ ap (burst_line (name_at names (get_or bursts k no_burst).vcpu) k (get_or bursts k no_burst)) two
