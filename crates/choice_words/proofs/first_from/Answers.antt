use Rattle.std.proofs.Common.{arith, rules}
use Rattle.choice_words.proofs.BitsLemmas.{NoneBelow, both_at, first_of_all, found_there, none_there}
use Rattle.choice_words.proofs.first_from.Goals as goal

pub returns-then-first-lt-NOBODY : goal.returns-then-first-lt-NOBODY
returns-then-first-lt-NOBODY c =
    let a = c.args.a.now in
    let b = c.args.b.now in
    found_there a b 0 _ c.args.from _ (both_at a b 0 (omega arith) (search rules)) (λ w is le lt. omega (arith, lt))
    c.if-first-lt-NOBODY.true c.first_in-first.ensures

pub returns-then-second-lt-NOBODY : goal.returns-then-second-lt-NOBODY
returns-then-second-lt-NOBODY c =
    let a = c.args.a.now in
    let b = c.args.b.now in
    let from = c.args.from in
    let below : NoneBelow a b from 64 = none_there a b 0 _ from _ (both_at a b 0 (omega arith) (search rules))
    (λ w is le lt. omega (arith, lt)) (search rules) c.first_in-first.ensures in
    found_there a b 64 _ from _ (both_at a b 1 (omega arith) (search rules)) below
    c.if-second-lt-NOBODY.true c.first_in-second.ensures

pub returns-then-third-lt-NOBODY : goal.returns-then-third-lt-NOBODY
returns-then-third-lt-NOBODY c =
    let a = c.args.a.now in
    let b = c.args.b.now in
    let from = c.args.from in
    let below : NoneBelow a b from 64 = none_there a b 0 _ from _ (both_at a b 0 (omega arith) (search rules))
    (λ w is le lt. omega (arith, lt)) (search rules) c.first_in-first.ensures in
    let below2 : NoneBelow a b from 128 = none_there a b 64 _ from _ (both_at a b 1 (omega arith) (search rules))
    below (search rules) c.first_in-second.ensures in
    found_there a b 128 _ from _ (both_at a b 2 (omega arith) (search rules)) below2
    c.if-third-lt-NOBODY.true c.first_in-third.ensures

pub returns : goal.returns
returns c =
    let a = c.args.a.now in
    let b = c.args.b.now in
    let from = c.args.from in
    let below : NoneBelow a b from 64 = none_there a b 0 _ from _ (both_at a b 0 (omega arith) (search rules))
    (λ w is le lt. omega (arith, lt)) (search rules) c.first_in-first.ensures in
    let below2 : NoneBelow a b from 128 = none_there a b 64 _ from _ (both_at a b 1 (omega arith) (search rules))
    below (search rules) c.first_in-second.ensures in
    let below3 : NoneBelow a b from 192 = none_there a b 128 _ from _ (both_at a b 2 (omega arith) (search rules))
    below2 (search rules) c.first_in-third.ensures in
    first_of_all a b _ from _ (both_at a b 3 (omega arith) (search rules)) below3 c.first_in.ensures
