use Rattle.std.proofs.Common.{◌≡◌, ◌∙◌, ◌++◌, [], ◌∷◌, ap, subst, sym}
use Rattle.std.specs.List.{All}
use Rattle.tab_core.specs.declared.piece.Piece.{Piece}
use Rattle.table_form.specs.Planning.Windows.{DistinctVcpus}
use Rattle.cd_split.specs.Cores.{LackVcpu, pieces_on}
use Rattle.cd_split.proofs.Trials.{distinct_push, told_beside}
use Rattle.cd_split.proofs.trial.overload_with.Goals as goal

pub find_overload-requires : goal.find_overload-requires
find_overload-requires c =
    let pieces = c.of_core.result.now in
    let piece = c.args.piece in
    let lack = c.requires.new piece.core [] c.requires.there in
    record {
      distinct = subst DistinctVcpus (sym (c.deref.ensures.value ∙ c.in_ok-trial.ensures))
          (distinct_push pieces piece c.of_core.ensures.distinct
          (subst (LackVcpu piece.vcpu) (sym c.of_core.ensures.same) lack));
    }

pub returns : goal.returns
returns c =
    let piece = c.args.piece in
    let pieces = pieces_on c.args.cores.now piece.core in
    let same = c.of_core.ensures.same in
    told_beside pieces piece c.deref.result.now c.find_overload.result
    (c.deref.ensures.value ∙ c.in_ok-trial.ensures ∙ ap (λ ps. ps ++ piece ∷ []) same)
    (subst (All (λ (p : Piece). p.core ≡ piece.core)) same c.of_core.ensures.own)
    c.find_overload.ensures.fits c.find_overload.ensures.overload
