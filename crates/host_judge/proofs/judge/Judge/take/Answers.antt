use Rattle.std.proofs.Common.{◌≡◌, Some, refl, rules, sym, ap, ◌∙◌}
use Rattle.std.specs.Option.{is_none}
use Rattle.host_judge.proofs.JudgedLemmas.{judged_known, judged_unknown, on_ok, same_terms}
use Rattle.host_judge.proofs.judge.Judge.take.Goals as goal

pub returns-in_default-clause-judged : goal.returns-in_default-clause-judged
returns-in_default-clause-judged c = λ marks has.
    let none : c.is_none.result ≡ is_none c.args.mark.now.vcpu = search rules in
    let unknown = rw none at c.counted_if-self-2.ensures.counted in
    judged_unknown marks c.args.mark.now c.args.self.now _ has c.max-self.ensures
    (c.counted_if-self.ensures.counted, unknown) c.in_default.is refl refl

pub returns-clause-terms : goal.returns-clause-terms
returns-clause-terms c =
    same_terms c.args.self.now.trackers.items c.index-2.result c.index_mut-tracker.result.now c.take-2.new.self
    (search rules) c.index_mut-tracker.ensures.value c.take-2.ensures.terms

pub returns-clause-judged : goal.returns-clause-judged
returns-clause-judged c = on_ok c.take-2.result (λ next marks has.
    let none : c.is_none.result ≡ is_none c.args.mark.now.vcpu = search rules in
    let unknown = rw none at c.counted_if-self-2.ensures.counted in
    judged_known marks c.args.mark.now c.args.self.now _ c.index-2.result c.index_mut-tracker.result.now c.take-2.new.self
    has c.max-self.ensures (c.counted_if-self.ensures.counted, unknown) (c.take.ensures.taken marks)
    (c.in-Some.is ∙ ap Some (sym c.index-2.ensures.value)) (search rules) c.index_mut-tracker.ensures.value refl
    (λ own is. rw (← c.max-self.ensures) (next own is))) c.take-2.ensures.tracked
