use Rattle.std.proofs.Common.{◌≡◌, [], get_or, length, subst, sym, ap, ◌∙◌, arith}
use Rattle.std.specs.List.{All}
use Rattle.std.proofs.lemmas.List.{get_or_default}
use Rattle.tab_core.specs.declared.piece.Piece.{Piece}
use Rattle.cd_split.specs.Cores.{ShareCore, pieces_on}
use Rattle.cd_split.proofs.core_pieces.CorePieces.of_core.Goals as goal

-- the list that is handed out is the core's
handed_out : (c : goal.After-items) → pieces_on c.self.inside.cores.items c.args.core ≡ c.items.result.now
handed_out c =
    let cores = c.self.inside.cores.items in
    let core = c.args.core in
    let found = c.index-2.result.now in
    let read : found ≡ get_or cores core found =
    c.index-2.ensures ∙ ap (λ i. get_or cores i found) c.index.ensures.value in
    let count = ap length c.self.view_is in
    get_or_default cores core [] found (omega arith) ∙ sym read ∙ sym c.items.ensures

pub returns-clause-own : goal.returns-clause-own
returns-clause-own c =
    let core = c.args.core in
    subst (All (λ (p : Piece). p.core ≡ core)) (handed_out c) (c.self.invariant.own core)

pub returns-clause-distinct : goal.returns-clause-distinct
returns-clause-distinct c =
    let share = subst ShareCore (handed_out c) (c.self.invariant.share c.args.core) in
    share.distinct

pub returns-clause-fit : goal.returns-clause-fit
returns-clause-fit c =
    let share = subst ShareCore (handed_out c) (c.self.invariant.share c.args.core) in
    share.fit
