use Rattle.std.proofs.Common.{◌+◌, ◌*◌, ◌++◌, ◌∷◌, [], ap, arith, map, sym, ◌∙◌}
use Rattle.std.specs.List.{range_with_len}
use Rattle.std.proofs.lemmas.List.{append_assoc}
use Rattle.std.proofs.lemmas.List.FromFn.{map-range_with_len_more}
use Rattle.view_schedulers.proofs.cpu_list.push_range.Goals as goal

pub loop-k-preserved : goal.loop-k-preserved
loop-k-preserved c =
    let range = c.args.range in
    c.in_ok-push.ensures.items
    ∙ (ap (λ xs. xs ++ (range.first + c.loop-k.k * range.step) ∷ []) c.loop-k.invariant
    ∙ (append_assoc c.args.cpus.now.items (map (λ k. range.first + k * range.step) (range_with_len 0 c.loop-k.k))
    ((range.first + c.loop-k.k * range.step) ∷ [])
    ∙ ap (λ xs. c.args.cpus.now.items ++ xs)
    (sym (map-range_with_len_more (λ k. range.first + k * range.step) 0 c.loop-k.k c.loop-k.k (omega arith)))))
