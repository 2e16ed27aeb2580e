use Rattle.std.proofs.Common.{ℕ, List, Bool, [], ◌∷◌, ◌++◌, ap, ◌∙◌}
use Rattle.plan_book.specs.Inside.Making.{known_of}
use Rattle.plan_book.proofs.MakingLemmas.{invariant_first}
use Rattle.plan_book.proofs.make.known_at_first.Goals as goal

pub returns : goal.returns
returns c =
    let start = c.in_ok-so_far.ensures in
    let number : ℕ = (known_of c.in_ok-so_far.so_far).number in
    let set : List Bool = c.in_ok-so_far.so_far.runnable in
    let numbers = c.in_ok-add.ensures.numbers
    ∙ ap (λ (ns : List ℕ). ns ++ number ∷ []) c.in_ok-counts.ensures.numbers in
    let runnable = c.in_ok-add.ensures.runnable
    ∙ ap (λ (sets : List (List Bool)). sets ++ set ∷ []) c.in_ok-counts.ensures.runnable in
    invariant_first c.args.host.now c.args.script.now c.in_ok-so_far.so_far _ _ start.first start.one_plan start.fits numbers runnable
