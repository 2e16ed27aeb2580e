use Rattle.std.proofs.Common.{◌≡◌, ◌≤◌, ap, arith, length, length-take, take, take_all, subst, ◌∙◌}
use Rattle.std.specs.Str.Parse.{AllDigits, digits_value}
use Rattle.std.proofs.lemmas.Int.Digits.{digits_more, digits_value_more}
use Rattle.tab_words.proofs.NumberLemmas.{digit_below}
use Rattle.sizes_doc.proofs.DecimalLemmas.{short_value}
use Rattle.sizes_doc.proofs.decimals.digits_of.Goals as goal

pub returns-in_default-clause-number : goal.returns-in_default-clause-number
returns-in_default-clause-number c = λ whole. c.in_default.ensures (digit_below 10 c.args.bytes.now
    c.loop-byte.byte-index c.loop-byte-test.true whole)

pub overflow_mul-number : goal.overflow_mul-number
overflow_mul-number c =
    let few : length (take c.loop-byte.byte-index c.args.bytes.now) ≤ 9 =
    omega (arith, c.requires, length-take c.loop-byte.byte-index c.args.bytes.now) in
    let low = short_value (take c.loop-byte.byte-index c.args.bytes.now) c.loop-byte.invariant.digits few in
    omega (arith, low, c.loop-byte.invariant.value)

pub overflow_add-number : goal.overflow_add-number
overflow_add-number c =
    let few : length (take c.loop-byte.byte-index c.args.bytes.now) ≤ 9 =
    omega (arith, c.requires, length-take c.loop-byte.byte-index c.args.bytes.now) in
    let low = short_value (take c.loop-byte.byte-index c.args.bytes.now) c.loop-byte.invariant.digits few in
    omega (arith, low, c.loop-byte.invariant.value, c.in-Some.ensures)

pub loop-byte-preserved : goal.loop-byte-preserved
loop-byte-preserved c = record {
  digits = digits_more 10 c.args.bytes.now c.loop-byte.byte-index c.loop-byte-test.true
      c.loop-byte.invariant.digits c.in-Some.ensures.0;
  value =
      rw (digits_value_more 10 c.args.bytes.now c.loop-byte.byte-index c.loop-byte-test.true)
      (omega (arith, c.loop-byte.invariant.value, c.in-Some.ensures.1));
}

pub returns-clause-number : goal.returns-clause-number
returns-clause-number c =
    let all : take c.loop-byte.byte-index c.args.bytes.now ≡ c.args.bytes.now =
    take_all c.loop-byte.byte-index c.args.bytes.now c.loop-byte-test.false in
    (subst (AllDigits 10) all c.loop-byte.invariant.digits, c.loop-byte.invariant.value ∙ ap (digits_value 10) all)

pub returns-clause-small : goal.returns-clause-small
returns-clause-small c =
    let all : take c.loop-byte.byte-index c.args.bytes.now ≡ c.args.bytes.now =
    take_all c.loop-byte.byte-index c.args.bytes.now c.loop-byte-test.false in
    let low = short_value c.args.bytes.now (subst (AllDigits 10) all c.loop-byte.invariant.digits) c.requires in
    omega (arith, low, c.loop-byte.invariant.value, ap (digits_value 10) all)
