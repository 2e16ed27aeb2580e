use Rattle.std.proofs.Common.{◌≡◌, ℕ, ◌<◌, ◌≤◌, ◌*◌, ◌/◌, ◌%◌, List, length, ap, subst, sym, ◌∙◌, arith}
use Rattle.std.specs.Prelude.{slice_index, slice_index_or}
use Rattle.std.proofs.Math.Nat.{div-lt_iff_lt-mul}
use Rattle.std.proofs.lemmas.List.{get_or_default}
use Rattle.std.proofs.lemmas.List.Elements.{All-get_or}
use Rattle.tab_core.specs.declared.TheConstants.{ROUND}
use Rattle.slice_table.specs.declared.slice_list.Block.{Block}
use Rattle.slice_table.specs.Inside.SliceLists.{number_in, numbers_of}
use Rattle.slice_table.proofs.SliceListLemmas.{number_read, numbers_count}
use Rattle.slice_table.proofs.slice_list.SliceList.number.Goals as goal

-- a slice below the count of numbers is in a block that is there
block_there : (blocks : List Block) (count slice : ℕ) (numbers : List ℕ) → numbers_of blocks count ≡ numbers
    → count ≤ length blocks * 32 → slice < length numbers → (slice < count) × (slice / 32 < length blocks)
block_there blocks count slice numbers view enough lt =
    let size : length numbers ≡ count = ap length (sym view) ∙ numbers_count blocks count in
    let small : slice < count = omega arith in
    (small, (div-lt_iff_lt-mul {k = 32} {x = slice} {y = length blocks} (omega arith)).1 (omega arith))

pub index-requires : goal.index-requires
index-requires c =
    let list = c.self.inside in
    let there =
    block_there list.blocks.items list.count c.args.slice c.args.self.now c.self.view_is c.self.invariant.0 c.requires in
    subst (λ n. c.args.slice / 32 < n) (sym list.blocks.ok.0) there.1

pub number-requires-clause-small : goal.number-requires-clause-small
number-requires-clause-small c =
    let list = c.self.inside in
    let blocks = list.blocks.items in
    let there = block_there blocks list.count c.args.slice c.args.self.now c.self.view_is c.self.invariant.0 c.requires in
    subst (λ (b : Block). b.first ≤ ROUND) (sym c.index.ensures)
    (All-get_or (λ (b : Block). b.first ≤ ROUND) blocks (c.args.slice / 32) c.index.result.now there.1
    c.self.invariant.1)

pub returns : goal.returns
returns c =
    let list = c.self.inside in
    let blocks = list.blocks.items in
    let none : Block = record { first = 0; rises = 0 } in
    let there = block_there blocks list.count c.args.slice c.args.self.now c.self.view_is c.self.invariant.0 c.requires in
    let is : c.index.result.now ≡ slice_index_or blocks (c.args.slice / 32) none =
    c.index.ensures ∙ get_or_default blocks (c.args.slice / 32) c.index.result.now none there.1 in
    c.number.ensures
    ∙ ap (λ (b : Block). number_in b (c.args.slice % 32)) is
    ∙ sym (number_read blocks list.count c.args.slice there.0)
    ∙ ap (λ (numbers : List ℕ). slice_index numbers c.args.slice) c.self.view_is
