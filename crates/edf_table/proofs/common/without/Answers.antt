use Rattle.std.proofs.Common.{◌≡◌, ℕ, ◌*◌, ◌/◌, ◌<◌, ap, sym, ◌∙◌, inl, inr, arith}
use Rattle.std.proofs.Math.Nat.{mod-add-div', mul-div_cancel, mul-le-mul_left}
use Rattle.std.proofs.lemmas.Bool.{cases_lt}
use Rattle.tab_core.specs.declared.TheConstants.{ROUND}
use Rattle.edf_table.proofs.common.without.Goals as goal

-- what a factor leaves of a number that it divides
some_left : (left factor q : ℕ) → q * factor ≡ left → 0 < left → 0 < q
some_left left factor q is some = elim (cases_lt 0 q) [
  | inl more ↦ more
  | inr none ↦
      (let zero : q ≡ 0 = omega arith in
      let e : q * factor ≡ 0 * factor = ap (λ n. n * factor) zero in
      absurd (omega arith))
]

-- divides what the number divides
whole_left : (left factor q : ℕ) → q * factor ≡ left → 0 < q → ROUND / left * left ≡ ROUND
    → ROUND / q * q ≡ ROUND
whole_left left factor q is some whole =
    let m = ROUND / left in
    let split : m * (q * factor) ≡ m * left = ap (λ n. m * n) is in
    let product : m * factor * q ≡ ROUND = omega (arith, whole) in
    let quotient : ROUND / q ≡ m * factor = ap (λ n. n / q) (sym product)
    ∙ mul-div_cancel (m * factor) some in
    ap (λ n. n * q) quotient ∙ product

pub loop-left-preserved : goal.loop-left-preserved
loop-left-preserved c =
    let left = c.loop-left.left in
    let factor = c.args.factor in
    let q = left / factor in
    let is : q * factor ≡ left = omega (arith, mod-add-div' left factor, c.loop-left-test.true) in
    let some = some_left left factor q is c.loop-left.invariant.some in
    record {
      some = some;
      small = omega (
        arith,
        mul-le-mul_left {m = 1} {n = factor} q (omega (arith, c.requires.factor)),
        c.loop-left.invariant.small,
      );
      whole = whole_left left factor q is some c.loop-left.invariant.whole;
      common = c.is_common.ensures c.if-is_common.true;
    }
