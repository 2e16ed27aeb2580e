use Rattle.std.proofs.Common.{◌+◌, ◌++◌, ◌∷◌, [], ap, arith, length-append, sym, ◌∙◌}
use Rattle.std.proofs.lemmas.List.FromFn.{map-range_with_len_more}
use Rattle.tool_hosts.proofs.lines.cpus_from.Goals as goal

pub loop-core-preserved : goal.loop-core-preserved
loop-core-preserved c =
    let before = c.loop-core.invariant in
    let size = before.size in
    let cpu = c.args.first + c.loop-core.core in
    rw c.in_ok-push.ensures.items (record {
      cpus = ap (λ xs. xs ++ cpu ∷ []) before.cpus
          ∙ sym (map-range_with_len_more (λ core. c.args.first + core) 0 c.loop-core.core c.loop-core.core (omega arith));
      size = omega (arith, size, length-append c.loop-core.cpus.items (cpu ∷ []));
    })
