use Rattle.std.proofs.Common.{◌≡◌, ◌∷◌, codes, arith, rules}
use Rattle.std.proofs.lemmas.Grind.{common_steps}
use Rattle.view_report.proofs.LineLemmas.{no_outcome}
use Rattle.view_report.proofs.line.became_of.Goals as goal

pub returns-in_err-name : goal.returns-in_err-name
returns-in_err-name c =
    let one : c.args.words.now ≡ c.in_ok-first.first.now ∷ c.next.new.self = grind (arith, common_steps) in
    let two : c.next.new.self ≡ c.in_ok-cause.cause.now ∷ c.next-2.new.self = grind (arith, common_steps) in
    let other : c.in_ok-first.first.now ≡ codes "planned" → ⊥ = search rules in
    rw c.from_residual-in_err-name.ensures (no_outcome _ _ _ _ _ _ _ one two c.in_ok-step_over.ensures other
    c.in_err-name.ensures)
