use Rattle.std.proofs.Common.{◌≡◌, [], length, get_or, subst, sym, ap, ◌∙◌, arith}
use Rattle.std.specs.List.{All}
use Rattle.std.proofs.lemmas.List.{length-replicate}
use Rattle.std.proofs.lemmas.List.Elements.{All-nil}
use Rattle.tab_core.specs.declared.piece.Piece.{Piece}
use Rattle.tab_core.proofs.Lists.{get_or-replicate_same}
use Rattle.cd_split.specs.Cores.{ShareCore}
use Rattle.cd_split.proofs.Trials.{none_share}
use Rattle.cd_split.proofs.core_pieces.CorePieces.empty.Goals as goal

pub invariant_of-result : goal.invariant_of-result
invariant_of-result c = record {
  share = λ core. (
      let none : get_or c.loop.lists.items core [] ≡ [] =
      ap (λ lists. get_or lists core []) c.loop.invariant
      ∙ get_or-replicate_same c.loop.counter core [] in
      subst ShareCore (sym none) none_share);
  few = (let count = ap length c.loop.invariant ∙ length-replicate c.loop.counter [] in omega arith);
  own = λ core. (
      let none : get_or c.loop.lists.items core [] ≡ [] =
      ap (λ lists. get_or lists core []) c.loop.invariant
      ∙ get_or-replicate_same c.loop.counter core [] in
      subst (All (λ p. p.core ≡ core)) (sym none) (All-nil (λ (p : Piece). p.core ≡ core)));
}
