use Rattle.std.proofs.Common.{◌≡◌, ◌<◌, ◌*◌, ℕ, length, ap, ◌∙◌, rules, arith}
use Rattle.std.specs.Prelude.{slice_index}
use Rattle.std.proofs.lemmas.List.{length-set}
use Rattle.run_limit.specs.StintBounds.{stints_of_round}
use Rattle.run_limit.proofs.OneBound.{one_bound}
use Rattle.run_course.proofs.KeepLemmas.{part_within, room_more}
use Rattle.run_course.proofs.keeping.keep_of.Goals as goal

pub overflow_cast-keep : goal.overflow_cast-keep
overflow_cast-keep c =
    let course = c.args.course.now in
    let core = c.loop-core.core in
    let most : ℕ = slice_index c.of-spans.result core in
    let there : core < course.cores = omega (arith, c.loop-core-test.true, c.cores-core-end.ensures.cores) in
    let within = part_within course c.args.rounds c.bound-bound.result core most c.bound-bound.ensures there
    (c.of-spans.ensures core there) in
    let part : c.from.result * c.round_stints.result ≡ c.args.rounds * stints_of_round course most =
    ap (λ (r : ℕ). r * c.round_stints.result) c.from.ensures
    ∙ ap (λ (n : ℕ). c.args.rounds * n) c.round_stints.ensures.stints in
    omega (arith, part, within, c.if-bound-gt-TRACE_LIMIT.false)

pub loop-core-preserved : goal.loop-core-preserved
loop-core-preserved c =
    let course = c.args.course.now in
    let core = c.loop-core.core in
    let most : ℕ = slice_index c.of-spans.result core in
    let there : core < course.cores = omega (arith, c.loop-core-test.true, c.cores-core-end.ensures.cores) in
    let part : c.from.result * c.round_stints.result ≡ c.args.rounds * stints_of_round course most =
    ap (λ (r : ℕ). r * c.round_stints.result) c.from.ensures
    ∙ ap (λ (n : ℕ). c.args.rounds * n) c.round_stints.ensures.stints in
    let small : core < length c.loop-core.keep =
    omega (arith, there, c.cores-core-end.ensures.kept.form.outline.few_cores, c.loop-core.invariant.size) in
    record {
      keeps = room_more course c.args.rounds core most (c.from.result * c.round_stints.result) c.loop-core.keep
          c.loop-core.invariant.keeps small (c.of-spans.ensures core there) part;
      size = length-set c.loop-core.keep core (c.from.result * c.round_stints.result) ∙ c.loop-core.invariant.size;
    }

pub returns-clause-short : goal.returns-clause-short
returns-clause-short c = λ trace bound is.
    let same : bound ≡ c.bound-bound.result =
    one_bound c.args.course.now c.args.rounds bound c.bound-bound.result is c.bound-bound.ensures in
    omega (arith, same, c.if-bound-gt-TRACE_LIMIT.false)
