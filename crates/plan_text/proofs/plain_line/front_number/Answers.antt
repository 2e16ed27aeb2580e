use Rattle.std.proofs.Common.{◌≡◌, ◌<◌, ◌≤◌, ◌^◌, arith, length, take}
use Rattle.std.proofs.Math.Nat.{pow-le-pow_right}
use Rattle.std.proofs.lemmas.Int.Digits.{digits_more, digits_value-lt, digits_value_more}
use Rattle.std.proofs.lemmas.List.{length-take-le}
use Rattle.plan_text.proofs.plain_line.front_number.Goals as goal

-- fewer than nine digits make a number below 10^8
short_number : (c : goal.In-Some) → c.loop-count.number < 10 ^ 8
short_number c =
    let bytes = c.args.bytes.now in
    let n = c.loop-count.count in
    let size : length (take n bytes) ≡ n =
    length-take-le n bytes (omega (arith, c.loop-count-test.true, c.min-most.ensures)) in
    let few : 10 ^ length (take n bytes) ≤ 10 ^ 8 =
    pow-le-pow_right {n = 10} (omega arith) {i = length (take n bytes)} {j = 8}
    (omega (arith, size, c.loop-count-test.true, c.min-most.ensures)) in
    omega (arith, c.loop-count.invariant.value, digits_value-lt 10 (take n bytes) c.loop-count.invariant.digits, few)

pub overflow_mul-number : goal.overflow_mul-number
overflow_mul-number c = omega (arith, short_number c)

pub overflow_add-number : goal.overflow_add-number
overflow_add-number c = omega (arith, short_number c, c.in-Some.ensures.0, c.in-Some.ensures.1)

pub loop-count-preserved : goal.loop-count-preserved
loop-count-preserved c =
    let bytes = c.args.bytes.now in
    let n = c.loop-count.count in
    let low : n < length bytes = omega (arith, c.loop-count-test.true, c.min-most.ensures) in
    record {
      within = omega (arith, c.loop-count-test.true);
      digits = digits_more 10 bytes n low c.loop-count.invariant.digits c.in-Some.ensures.0;
      value = rw (digits_value_more 10 bytes n low)
          (omega (arith, c.loop-count.invariant.value, c.in-Some.ensures.1));
    }
