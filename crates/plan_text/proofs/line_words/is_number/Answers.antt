use Rattle.std.proofs.Common.{◌≡◌, arith}
use Rattle.std.proofs.lemmas.Bool.Decides.{nat_tests}
use Rattle.tab_words.proofs.NumberLemmas.{spelled_once}
use Rattle.plan_text.proofs.line_words.is_number.Goals as goal

pub returns-in-Some : goal.returns-in-Some
returns-in-Some c = (
  λ same. let is : c.in-Some.number ≡ c.args.n = grind (arith, nat_tests) in rw
      (← is) c.in-Some.ensures.some.digits,
  λ is. let same : c.in-Some.number ≡ c.args.n =
      spelled_once c.args.word.now c.in-Some.number c.args.n c.in-Some.ensures.some c.ranges.n.fits is in
      grind (arith, nat_tests),
)
