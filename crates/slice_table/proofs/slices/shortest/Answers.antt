use Rattle.std.proofs.Common.{◌≡◌, ◌-◌, ◌<◌, ℕ, inl, inr, ap, sym, ◌∙◌, arith, length}
use Rattle.std.specs.Prelude.{min, slice_index}
use Rattle.std.proofs.lemmas.Bool.{cases_lt}
use Rattle.std.proofs.lemmas.List.{length-map}
use Rattle.slice_table.specs.declared.full_span.FullSpan.{FullSpan}
use Rattle.slice_table.specs.Slices.{begin_at, ends_of}
use Rattle.slice_table.proofs.EndsLemmas.{next_begin}
use Rattle.slice_table.proofs.slices.shortest.Goals as goal

pub loop-number-preserved : goal.loop-number-preserved
loop-number-preserved c =
    let ends = ends_of c.args.spans.now in
    let was = c.loop-number.invariant in
    let number = c.loop-number.number in
    let size = length-map c.args.spans.now (λ (span : FullSpan). span.end) in
    let there : number < length ends = omega (arith, c.loop-number-test.true, c.len-number-end.ensures) in
    let rises : begin_at ends number < slice_index ends number = c.requires.rise number there in
    let ticks : c.shorter-least.result ≡ min c.loop-number.least
    (slice_index ends number - begin_at ends number) =
    c.shorter-least.ensures ∙ ap (λ (end : ℕ). min c.loop-number.least (end - c.loop-number.begin))
    c.end-end.ensures
    ∙ ap (λ (begin : ℕ). min c.loop-number.least (slice_index ends number - begin)) was.begin in
    record {
      begin = c.end-end.ensures ∙ sym (next_begin ends number);
      long = λ k lt. elim (cases_lt k number) [
        | inl before ↦ (let long = was.long k before in omega arith)
        | inr last ↦
            let here : k ≡ number = omega arith in
            let begin = ap (begin_at ends) here in
            let end = ap (slice_index ends) here in
            omega arith
      ];
      met = elim (cases_lt (slice_index ends number - begin_at ends number) c.loop-number.least) [
        | inl shorter ↦ (number, omega arith, omega arith)
        | inr longer ↦ (was.met.0, omega (arith, was.met.1), omega (arith, was.met.2))
      ];
    }
