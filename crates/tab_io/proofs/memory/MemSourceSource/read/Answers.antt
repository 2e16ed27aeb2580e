use Rattle.std.proofs.Common.{◌≡◌, ℕ, ◌+◌, List, ◌++◌, take, drop, sym, arith, ap, ◌∙◌}
use Rattle.std.proofs.lemmas.List.{take-append-drop, drop-drop}
use Rattle.std.proofs.lemmas.Grind.{common_steps}
use Rattle.tab_io.proofs.memory.MemSourceSource.read.Goals as goal

-- what was copied from the start of a rest, and then the rest after it
taken_front : (all into : List ℕ) (at n : ℕ) (left : List ℕ) → left ≡ drop at all → take n into ≡ take n left
    → drop at all ≡ take n into ++ drop (at + n) all
taken_front all into at n left is same =
    rw (same, is, ← drop-drop n at all) (sym (take-append-drop n (drop at all)))

pub returns-clause-gave : goal.returns-clause-gave
returns-clause-gave c =
    let source = c.args.self.now in
    let front = c.copy_front-count in
    let left = c.split_at.ensures.back ∙ ap (drop source.at) c.deref-2.ensures.value in (
      grind (arith, common_steps),
      grind (arith, common_steps),
      taken_front source.bytes.items front.new.into source.at front.result _ left front.ensures.copied,
    )
