use Rattle.std.proofs.Common.{◌≢◌, ℕ, ◌<◌, get_or, add-one, arith}
use Rattle.std.proofs.lemmas.Bool.{eq-eqb, eqb-true}
use Rattle.tab_words.proofs.LineLemmas.{first_line, one_line}
use Rattle.tab_words.proofs.line.long_line.Goals as goal

pub returns-in-Some-clause-lines : goal.returns-in-Some-clause-lines
returns-in-Some-clause-lines c =
    let first = c.in-Some.ensures.0 in
    let none : (k : ℕ) → k < c.in-Some.end → get_or c.args.bytes.now k 0 ≢ 10 =
    λ k low is. first.before k (omega arith) low (eq-eqb _ _ is) in
    rw (c.split_at.ensures.front, c.split_at.ensures.back, add-one)
    (first_line c.args.bytes.now c.in-Some.end first.high (eqb-true _ _ c.in-Some.ensures.1) none)

pub returns-in-None-clause-lines : goal.returns-in-None-clause-lines
returns-in-None-clause-lines c = one_line c.args.bytes.now c.requires
    (λ k low is. c.in-None.ensures k (omega arith) low (eq-eqb _ _ is))
