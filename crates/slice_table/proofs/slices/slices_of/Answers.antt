use Rattle.std.proofs.Common.{◌≡◌, ℕ, ◌+◌, ◌-◌, ◌*◌, ◌/◌, List, [], ◌∷◌, ◌++◌, ap, length, subst, sym, ◌∙◌, arith}
use native.Mathlib.Nat.{add-mul}
use Rattle.std.proofs.Math.Nat.{div-mul-le_self, lt-div-mul-add}
use Rattle.std.proofs.lemmas.List.{length_push}
use Rattle.slice_table.specs.declared.slice_list.Block.{Block}
use Rattle.slice_table.specs.Inside.Spans.{IsNear}
use Rattle.slice_table.specs.Slices.{AreSlices, ends_of}
use Rattle.slice_table.proofs.EndsLemmas.{shortest_some}
use Rattle.slice_table.proofs.SliceListLemmas.{AreSlicedTo, near_first, sliced_last, sliced_more, sliced_none, sliced_whole, slices_fit}
use Rattle.slice_table.proofs.slices.slices_of.Goals as goal

pub loop-block-init : goal.loop-block-init
loop-block-init c =
    let ends = ends_of c.args.spans.now in
    record {
      count = ap length c.in_ok-blocks.ensures.items;
      near = subst (IsNear ends c.args.size 0) (omega arith) (near_first ends c.args.size (shortest_some c.args.size ends c.requires.ends c.requires.shortest) c.requires.ends);
      sliced = subst (λ (bs : List Block). AreSlicedTo ends c.args.size bs 0) (sym c.in_ok-blocks.ensures.items)
          (sliced_none ends c.args.size);
    }

pub loop-block-preserved : goal.loop-block-preserved
loop-block-preserved c =
    let ends = ends_of c.args.spans.now in
    let size = c.args.size in
    let was = c.loop-block.invariant in
    let block = c.loop-block.block in
    let blocks = c.loop-block.blocks.items in
    let next = c.block_from-last.result.0 in
    let pushed = c.in_ok-push.ensures.items in
    let told = c.block_from-last.ensures in
    let same : block * 32 + 32 ≡ (block + 1) * 32 = omega arith in
    let start : block * 32 ≡ length blocks * 32 = omega (arith, was.count) in
    record {
      count = ap length pushed ∙ length_push blocks next ∙ ap (λ n. n + 1) was.count;
      near = subst (λ n. IsNear ends size c.block_from-last.result.1 (n * size)) same told.near;
      sliced = subst (λ (bs : List Block). AreSlicedTo ends size bs ((block + 1) * 32)) (sym pushed)
          (subst (AreSlicedTo ends size (blocks ++ next ∷ [])) same
          (sliced_more ends size blocks next (block * 32) 32 was.sliced start (omega arith) told.small told.holds));
    }

pub of-requires-clause-small : goal.of-requires-clause-small
of-requires-clause-small c =
    let was = c.loop-block.invariant in
    let count = 102599 / c.args.size + 1 in
    let end : c.loop-block.block ≡ (count - 1) / 32 = omega (arith, c.loop-block-test.false, c.loop-block.auto.block-end) in
    (sliced_last (ends_of c.args.spans.now) c.args.size count c.loop-block.block c.loop-block.blocks.items
    c.push-2.new.self.items c.block_from.result.0 was.sliced was.count end (omega arith)
    c.in_ok-push-2.ensures.items c.block_from.ensures.small c.block_from.ensures.holds).small

pub returns : goal.returns
returns c =
    let ends = ends_of c.args.spans.now in
    let size = c.args.size in
    let was = c.loop-block.invariant in
    let count = 102599 / size + 1 in
    let end : c.loop-block.block ≡ (count - 1) / 32 = omega (arith, c.loop-block-test.false, c.loop-block.auto.block-end) in
    let past = lt-div-mul-add {a = 102599} {b = size} (shortest_some size ends c.requires.ends c.requires.shortest) in
    let product : count * size ≡ 102599 / size * size + size = add-mul (102599 / size) 1 size ∙ omega arith in
    subst (λ (slices : List ℕ). AreSlices size slices ends) (sym c.of.ensures)
    (sliced_whole ends size c.push-2.new.self.items count (omega arith)
    (sliced_last ends size count c.loop-block.block c.loop-block.blocks.items c.push-2.new.self.items
    c.block_from.result.0 was.sliced was.count end (omega arith) c.in_ok-push-2.ensures.items
    c.block_from.ensures.small c.block_from.ensures.holds))

pub block_from-last-requires-clause-in_round : goal.block_from-last-requires-clause-in_round
block_from-last-requires-clause-in_round c =
    let size = c.args.size in
    let ends = ends_of c.args.spans.now in
    let below = div-mul-le_self (102599 / size + 1 - 1) 32 in
    slices_fit size (c.loop-block.block * 32 + 32) (shortest_some size ends c.requires.ends c.requires.shortest)
    (omega (arith, c.loop-block-test.true))

pub block_from-requires-clause-in_round : goal.block_from-requires-clause-in_round
block_from-requires-clause-in_round c =
    let size = c.args.size in
    let ends = ends_of c.args.spans.now in
    let count = 102599 / size + 1 in
    let begin = (count - 1) / 32 * 32 in
    let below = div-mul-le_self (count - 1) 32 in
    slices_fit size (begin + (count - begin)) (shortest_some size ends c.requires.ends c.requires.shortest)
    (omega arith)
