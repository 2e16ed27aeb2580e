use Rattle.std.proofs.Common.{arith, ◌≡◌, take, take_all, ap, subst, ◌∙◌}
use Rattle.std.specs.Str.Parse.{AllDigits, digits_value}
use Rattle.std.proofs.lemmas.Int.Digits.{digits_more, digits_value_more}
use Rattle.tab_words.proofs.NumberLemmas.{digit_below, front_value}
use Rattle.tab_words.proofs.number.number_of_digits.Goals as goal

pub returns-in_default : goal.returns-in_default
returns-in_default c = λ whole. c.in_default.ensures (digit_below 10 c.args.bytes.now c.loop-byte.byte-index
    c.loop-byte-test.true whole.0)

pub returns-in_default-with_digit : goal.returns-in_default-with_digit
returns-in_default-with_digit c = λ whole.
    let most = front_value c.args.bytes.now c.loop-byte.byte-index c.loop-byte-test.true in
    c.in_default-with_digit.ensures (omega (arith, most, whole.1))

pub loop-byte-preserved : goal.loop-byte-preserved
loop-byte-preserved c = record {
  digits = digits_more 10 c.args.bytes.now c.loop-byte.byte-index c.loop-byte-test.true
      c.loop-byte.invariant.digits c.in-Some.ensures.0;
  value =
      rw (digits_value_more 10 c.args.bytes.now c.loop-byte.byte-index c.loop-byte-test.true)
      (c.in-Some-with_digit.ensures.1 ∙ omega (arith, c.loop-byte.invariant.value, c.in-Some.ensures.1));
  fits = rw c.in-Some-with_digit.ensures.1 c.in-Some-with_digit.ensures.0;
}

pub returns : goal.returns
returns c =
    let all : take c.loop-byte.byte-index c.args.bytes.now ≡ c.args.bytes.now =
    take_all c.loop-byte.byte-index c.args.bytes.now c.loop-byte-test.false in
    let value : c.loop-byte.number ≡ digits_value 10 c.args.bytes.now =
    c.loop-byte.invariant.value ∙ ap (digits_value 10) all in (
      (
        subst (AllDigits 10) all c.loop-byte.invariant.digits,
        omega (arith, value, c.loop-byte.invariant.fits),
      ),
      value,
    )
