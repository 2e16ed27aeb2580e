use Rattle.std.proofs.Common.{◌+◌, ◌∷◌, ◌++◌, [], length, take, arith, ap, sym, subst, ◌∙◌}
use Rattle.std.specs.List.{AllZip}
use Rattle.std.proofs.lemmas.List.{length_push, take_more}
use Rattle.cd_split.specs.Inside.Search.{left_of}
use Rattle.cd_split.specs.Splitting.{IsOverloadWith, rest_of}
use Rattle.tab_core.proofs.Lists.{zip_push}
use Rattle.cd_split.proofs.refusal.overloads_of.Goals as goal

pub loop-core-preserved : goal.loop-core-preserved
loop-core-preserved c =
    let before = c.loop-core.invariant in
    let unused = c.args.unused.now in
    let i = c.loop-core.core-index in
    let over = c.in_ok-overload_on.field-0 in
    let pushed = c.in_ok-push.ensures.items in
    let core = c.core-item.result in
    let Told = IsOverloadWith c.args.cores.now (rest_of (left_of c.args.left.now)) in
    record {
      as_many = ap length pushed ∙ length_push c.loop-core.overs.items over ∙ ap (λ n. n + 1) before.as_many;
      overloads =
          subst (λ cores. AllZip Told cores c.push.new.self.items)
          (sym (take_more unused i core (omega arith)
          ∙ ap (λ n. take i unused ++ n ∷ []) (sym c.core-item.is)))
          (subst (AllZip Told (take i unused ++ core ∷ [])) (sym pushed)
          (zip_push Told
          (take i unused) c.loop-core.overs.items core over before.overloads
          c.in_ok-overload_on.ensures));
    }
