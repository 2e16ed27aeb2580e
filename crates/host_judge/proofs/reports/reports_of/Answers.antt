use Rattle.std.proofs.Common.{◌≡◌, [], ◌∷◌, ◌++◌, append_assoc, length, get_or, arith, ap, sym, ◌∙◌}
use Rattle.std.proofs.lemmas.Grind.{common_steps}
use Rattle.std.proofs.lemmas.List.{length_push}
use Rattle.host_judge.proofs.ReportLemmas.{next_is, reports_more, same_at, same_length}
use Rattle.host_judge.proofs.reports.reports_of.Goals as goal

pub report_of-requires-clause-terms : goal.report_of-requires-clause-terms
report_of-requires-clause-terms c =
    let whole : c.args.trackers.items ≡ c.loop-tracker.yielded ++ c.in-Some.tracker ∷ c.next.new.self.rest.items =
    c.loop-tracker.invariant.whole ∙ ap (λ rest. c.loop-tracker.yielded ++ rest) c.in-Some.ensures.steps.0 in
    let next = next_is _ _ _ _ whole in
    let long = same_length c.args.window_ns c.args.trackers.items c.args.vcpus.now c.requires.terms in
    let size : c.len.result ≡ length c.loop-tracker.yielded =
    omega (arith, c.len.ensures, c.loop-tracker.invariant.many) in
    let at : c.index-vcpus-len.result ≡ get_or c.args.vcpus.now (length c.loop-tracker.yielded) c.index-vcpus-len.result =
    c.index-vcpus-len.is
    ∙ ap (λ n. get_or c.args.vcpus.now n c.index-vcpus-len.result) size in
    same_at c.args.window_ns c.args.trackers.items c.args.vcpus.now (length c.loop-tracker.yielded) c.in-Some.tracker
    c.index-vcpus-len.result c.requires.terms next.1 (omega (arith, long, next.1)) next.0 at

pub loop-tracker-preserved : goal.loop-tracker-preserved
loop-tracker-preserved c =
    let pushed : c.push.new.self.items ≡ c.loop-tracker.reports.items ++ c.in_ok-one.one ∷ [] =
    grind (arith, common_steps) in
    let whole : c.args.trackers.items ≡ c.loop-tracker.yielded ++ c.in-Some.tracker ∷ c.next.new.self.rest.items =
    c.loop-tracker.invariant.whole ∙ ap (λ rest. c.loop-tracker.yielded ++ rest) c.in-Some.ensures.steps.0 in
    let next = next_is _ _ _ _ whole in
    let long = same_length c.args.window_ns c.args.trackers.items c.args.vcpus.now c.requires.terms in
    let size : c.len.result ≡ length c.loop-tracker.yielded =
    omega (arith, c.len.ensures, c.loop-tracker.invariant.many) in
    let at : c.index-vcpus-len.result ≡ get_or c.args.vcpus.now (length c.loop-tracker.yielded) c.index-vcpus-len.result =
    c.index-vcpus-len.is
    ∙ ap (λ n. get_or c.args.vcpus.now n c.index-vcpus-len.result) size in
    let second : c.len-in-loop-tracker.result ≡ length c.loop-tracker.yielded =
    omega (arith, c.len-in-loop-tracker.ensures, c.loop-tracker.invariant.many) in
    let owes : c.index-owed-len.result ≡ get_or c.args.owed.now (length c.loop-tracker.yielded) c.index-owed-len.result =
    c.index-owed-len.is
    ∙ ap (λ n. get_or c.args.owed.now n c.index-owed-len.result) second in
    let reports = length_push c.loop-tracker.reports.items c.in_ok-one.one in
    let yielded = length_push c.loop-tracker.yielded c.in-Some.tracker in
    rw pushed (record {
      many = omega (arith, reports, yielded, c.loop-tracker.invariant.many);
      whole = whole ∙ sym (append_assoc c.loop-tracker.yielded (c.in-Some.tracker ∷ []) c.next.new.self.rest.items);
      each = reports_more c.args.window_ns c.args.trackers.items c.args.vcpus.now c.args.owed.now c.args.end_ns
          c.loop-tracker.reports.items (length c.loop-tracker.yielded) c.in-Some.tracker c.index-vcpus-len.result
          c.index-owed-len.result
          c.in_ok-one.one c.loop-tracker.invariant.many c.loop-tracker.invariant.each next.1
          (omega (arith, long, next.1)) (omega (arith, long, next.1, c.requires.owed)) next.0 at owes
          c.in_ok-one.ensures;
    })
