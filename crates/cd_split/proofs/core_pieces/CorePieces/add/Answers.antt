use Rattle.std.proofs.Common.{◌≡◌, ◌<◌, ◌∙◌, [], ap, get_or, length, set, subst, sym, arith}
use Rattle.std.proofs.lemmas.List.{get_or_default}
use Rattle.cd_split.specs.Cores.{HaveRoomFor, KeepCores, LackVcpu, pieces_on}
use Rattle.cd_split.proofs.CoresLemmas.{keep_push}
use Rattle.cd_split.proofs.core_pieces.CorePieces.add.Goals as goal

pub invariant_of-self : goal.invariant_of-self
invariant_of-self c =
    let cores = c.self.inside.cores.items in
    let piece = c.args.piece in
    let before = c.index_mut.result.now in
    let there : piece.core < length cores = (let count = ap length c.self.view_is in omega arith) in
    let read : before ≡ get_or cores piece.core before =
    c.index_mut.ensures.value ∙ ap (λ i. get_or cores i before) c.index.ensures.value in
    let here : before ≡ pieces_on cores piece.core =
    read ∙ sym (get_or_default cores piece.core [] before there) in
    let old : before ≡ pieces_on c.args.self.now piece.core = cc in
    subst (λ i. KeepCores (set cores i c.push.new.self)) (sym c.index.ensures.value)
    (keep_push c.push.result cores piece before c.push.new.self c.self.invariant there here
    (subst (LackVcpu piece.vcpu) (sym old) c.requires.new)
    (subst (λ ps. HaveRoomFor ps piece) (sym old) c.requires.room) c.push.ensures.ok c.push.ensures.err)
