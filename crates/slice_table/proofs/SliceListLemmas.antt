-- Numbers of slices in blocks of 32.
use lib.Count.{ones-ones}
use native.Mathlib.Nat.{add-mul, mod-eq_of_lt, mul-add-mod_self_left, mul-le-mul_right, mul_assoc, mul_comm}
use Rattle.std.proofs.Common.{◌≡◌, ℕ, zero, suc, ◌+◌, ◌-◌, ◌*◌, ◌/◌, ◌%◌, ◌^◌, ◌<◌, ◌≤◌, List, [], ◌∷◌, ◌++◌, length, length-append, All, inl, inr, refl, ap, sym, subst, ◌∙◌, arith}
use Rattle.std.specs.Prelude.{count_ones, slice_index, slice_index_or}
use Rattle.std.proofs.Math.Nat.{div-lt_iff_lt-mul, div-mul-le_self, lt-div-mul-add}
use Rattle.std.proofs.Math.Seq.{get_or-append_seam}
use Rattle.std.proofs.lemmas.Bool.{cases_lt}
use Rattle.std.proofs.lemmas.List.{get_or_append_left}
use Rattle.std.proofs.lemmas.List.Elements.{All-append, All-cons, All-nil}
use Rattle.std.proofs.lemmas.Nat.{div-mul-add, mod-mul-add, ones_cat, pow-add}
use Rattle.tab_core.specs.declared.TheConstants.{ROUND}
use Rattle.slice_table.specs.declared.slice_list.Block.{Block}
use Rattle.slice_table.specs.Inside.SliceLists.{number_in, numbers_of, slice_number_at}
use Rattle.slice_table.specs.Inside.Spans.{AreEnds, IsNear}
use Rattle.slice_table.specs.Slices.{AreSlices, HoldsTick, IsShortest}
use Rattle.slice_table.proofs.EndsLemmas.{next_begin, one_more}

-- a rise further up changes none of the lower ones
pub low_same : (p j d r : ℕ) → j ≤ p → (d * 2 ^ p + r) % 2 ^ j ≡ r % 2 ^ j
low_same p j d r le =
    let up : p ≡ p - j + j = omega arith in
    let power : 2 ^ p ≡ 2 ^ (p - j) * 2 ^ j = ap (λ k. 2 ^ k) up ∙ pow-add 2 (p - j) j in
    let high : d * 2 ^ p ≡ 2 ^ j * (d * 2 ^ (p - j)) =
    ap (λ n. d * n) power ∙ sym (mul_assoc d (2 ^ (p - j)) (2 ^ j)) ∙ mul_comm (d * 2 ^ (p - j)) (2 ^ j) in
    ap (λ n. (n + r) % 2 ^ j) high ∙ mul-add-mod_self_left (2 ^ j) (d * 2 ^ (p - j)) r

-- a one that is put above lower bits is counted with them
pub ones_more : (p d r : ℕ) → r < 2 ^ p → d ≤ 1 → count_ones (d * 2 ^ p + r) ≡ d + count_ones r
ones_more p d r low one = ones_cat p d r low ∙ ap (λ n. n + count_ones r) (ones_bit d one)
  where
    ones_bit : (d : ℕ) → d ≤ 1 → count_ones d ≡ d
    ones_bit zero one = ones-ones 0
    ones_bit (suc zero) one = ones-ones 1
    ones_bit (suc (suc d)) one = absurd (omega arith)

-- a block more changes no number of the others
pub number_before : (blocks : List Block) (block : Block) (slice : ℕ) → slice < length blocks * 32
    → slice_number_at (blocks ++ block ∷ []) slice ≡ slice_number_at blocks slice
number_before blocks block slice lt =
    let none : Block = record { first = 0; rises = 0 } in
    let there : slice / 32 < length blocks =
    (div-lt_iff_lt-mul {k = 32} {x = slice} {y = length blocks} (omega arith)).1 lt in
    ap (λ (b : Block). number_in b (slice % 32)) (get_or_append_left blocks (block ∷ []) none (slice / 32) there)

-- a block that is added has its own number after the others
pub number_behind : (blocks : List Block) (block : Block) (slice place : ℕ) → slice ≡ length blocks * 32 + place
    → place < 32 → slice_number_at (blocks ++ block ∷ []) slice ≡ number_in block place
number_behind blocks block slice place is lt =
    let none : Block = record { first = 0; rises = 0 } in
    let at : slice / 32 ≡ length blocks = ap (λ n. n / 32) is ∙ div-mul-add (length blocks) 32 place lt in
    let here : slice % 32 ≡ place = ap (λ n. n % 32) is ∙ mod-mul-add (length blocks) 32 place lt in
    ap (λ (n : ℕ). number_in (slice_index_or (blocks ++ block ∷ []) n none) (slice % 32)) at
    ∙ ap (λ (b : Block). number_in b (slice % 32)) (get_or-append_seam blocks block [] none)
    ∙ ap (number_in block) here

-- there are so many numbers
pub numbers_count : (blocks : List Block) (count : ℕ) → length (numbers_of blocks count) ≡ count
numbers_count blocks zero = refl
numbers_count blocks (suc n) =
    (let more = length-append (numbers_of blocks n) (slice_number_at blocks n ∷ []) in
    let rest = numbers_count blocks n in omega arith)

-- each is that of its slice
pub number_read : (blocks : List Block) (count slice : ℕ) → slice < count
    → slice_index (numbers_of blocks count) slice ≡ slice_number_at blocks slice
number_read blocks zero slice lt = absurd (omega arith)
number_read blocks (suc n) slice lt =
    let size = numbers_count blocks n in
    elim (cases_lt slice n) [
      | inl before ↦ get_or_append_left (numbers_of blocks n) (slice_number_at blocks n ∷ []) 0 slice (omega arith)
          ∙ number_read blocks n slice before
      | inr past ↦
          let here : slice ≡ n = omega arith in
          let at : slice ≡ length (numbers_of blocks n) = omega arith in
          ap (slice_index (numbers_of blocks n ++ slice_number_at blocks n ∷ [])) at
          ∙ get_or-append_seam (numbers_of blocks n) (slice_number_at blocks n) [] 0 ∙ ap (slice_number_at blocks) (sym here)
    ]

-- what is known of the first slices: their blocks, and that their numbers' spans hold their first ticks
pub record AreSlicedTo (ends : List ℕ) (size : ℕ) (blocks : List Block) (slices : ℕ) : Type 0 where
  pub small : All (λ (block : Block). block.first ≤ ROUND) blocks
  pub holds : (slice : ℕ) → slice < slices → HoldsTick ends (slice_number_at blocks slice) (slice * size)

-- no slice yet
pub sliced_none : (ends : List ℕ) (size : ℕ) → AreSlicedTo ends size [] 0
sliced_none ends size = record { small = All-nil (λ (b : Block). b.first ≤ ROUND); holds = λ slice lt. absurd (omega arith) }

-- a block more
pub sliced_more : (ends : List ℕ) (size : ℕ) (blocks : List Block) (block : Block) (slices places : ℕ)
    → AreSlicedTo ends size blocks slices → slices ≡ length blocks * 32 → places ≤ 32 → block.first ≤ ROUND
    → ((place : ℕ) → place < places → HoldsTick ends (number_in block place) ((slices + place) * size))
    → AreSlicedTo ends size (blocks ++ block ∷ []) (slices + places)
sliced_more ends size blocks block slices places are whole few first holds = record {
  small = All-append (λ (b : Block). b.first ≤ ROUND) blocks (block ∷ []) are.small
      (All-cons (λ (b : Block). b.first ≤ ROUND) block [] first (All-nil (λ (b : Block). b.first ≤ ROUND)));
  holds = λ slice lt. elim (cases_lt slice slices) [
    | inl before ↦ subst (λ n. HoldsTick ends n (slice * size))
        (sym (number_before blocks block slice (omega arith))) (are.holds slice before)
    | inr past ↦
        let place = slice - slices in
        let at : slice ≡ slices + place = omega arith in
        subst (λ n. HoldsTick ends n (slice * size))
        (sym (number_behind blocks block slice place (omega arith) (omega arith)))
        (subst (λ n. HoldsTick ends (number_in block place) (n * size)) (sym at) (holds place (omega arith)))
  ];
}

-- the last block, which may have fewer
pub sliced_last : (ends : List ℕ) (size count block : ℕ) (blocks all : List Block) (last : Block)
    → AreSlicedTo ends size blocks (block * 32) → length blocks ≡ block → block ≡ (count - 1) / 32 → 0 < count
    → all ≡ blocks ++ last ∷ [] → last.first ≤ ROUND
    → ((place : ℕ) → place < count - (count - 1) / 32 * 32
    → HoldsTick ends (number_in last place) (((count - 1) / 32 * 32 + place) * size))
    → AreSlicedTo ends size all count
sliced_last ends size count block blocks all last are long is some pushed small holds =
    let whole = (count - 1) / 32 in
    let below : whole * 32 ≤ count - 1 = div-mul-le_self (count - 1) 32 in
    let above : count - 1 < whole * 32 + 32 = lt-div-mul-add {a = count - 1} {b = 32} (omega arith) in
    let from = subst (λ n. AreSlicedTo ends size blocks (n * 32)) is are in
    let start : whole * 32 ≡ length blocks * 32 = ap (λ n. n * 32) (sym (long ∙ is)) in
    let end : whole * 32 + (count - whole * 32) ≡ count = omega arith in
    subst (λ (bs : List Block). AreSlicedTo ends size bs count) (sym pushed)
    (subst (AreSlicedTo ends size (blocks ++ last ∷ [])) end
    (sliced_more ends size blocks last (whole * 32) (count - whole * 32) from start (omega arith) small holds))

-- over a whole round they are its slices
pub sliced_whole : (ends : List ℕ) (size : ℕ) (blocks : List Block) (count : ℕ) → ROUND ≤ count * size
    → AreSlicedTo ends size blocks count → AreSlices size (numbers_of blocks count) ends
sliced_whole ends size blocks count whole are = record {
  whole = subst (λ n. ROUND ≤ n * size) (sym (numbers_count blocks count)) whole;
  first = λ slice lt.
      (let small : slice < count = subst (λ n. slice < n) (numbers_count blocks count) lt in
      subst (λ n. HoldsTick ends n (slice * size)) (sym (number_read blocks count slice small))
      (are.holds slice small));
}

-- the first span is near the first tick
pub near_first : (ends : List ℕ) (size : ℕ) → 0 < size → AreEnds ends → IsNear ends size 0 0
near_first ends size some are = record {
  there = are.some;
  begun = omega arith;
  soon = omega arith;
}

-- the span that holds a tick is near the tick that is so many after it
pub near_next : (ends : List ℕ) (size number tick : ℕ) → HoldsTick ends number tick
    → IsNear ends size number (tick + size)
near_next ends size number tick holds = record {
  there = holds.there;
  begun = (let from = holds.from in omega arith);
  soon = (let before = holds.before in omega arith);
}

-- where a near one doesn't hold the tick, the next does
pub held_behind : (ends : List ℕ) (size number tick : ℕ) → AreEnds ends → IsShortest size ends
    → IsNear ends size number tick → tick < ROUND → slice_index ends number ≤ tick → HoldsTick ends (number + 1) tick
held_behind ends size number tick are shortest near in_round ended =
    let more = one_more ends number tick are near.there ended in_round in
    let begin = next_begin ends number in
    let long = shortest.least (number + 1) more in
    let soon = near.soon in
    record {
      there = more;
      from = omega arith;
      before = omega arith;
    }

-- what is known of the first places of a block: its last number is that of the place, which holds its tick
pub record IsBlockTo (ends : List ℕ) (size slice : ℕ) (block : Block) (place last : ℕ) : Type 0 where
  pub below : block.rises < 2 ^ place
  pub last_is : last ≡ block.first + count_ones block.rises
  pub last_holds : HoldsTick ends last ((slice + place) * size)
  pub holds : (k : ℕ) → k < place + 1 → HoldsTick ends (number_in block k) ((slice + k) * size)

-- before its second slice
pub block_first : (ends : List ℕ) (size slice first : ℕ) → HoldsTick ends first (slice * size)
    → IsBlockTo ends size slice (record { first = first; rises = 0 }) 0 first
block_first ends size slice first held =
    let none : count_ones 0 ≡ 0 = ones-ones 0 in
    let here : HoldsTick ends first ((slice + 0) * size) =
    subst (λ n. HoldsTick ends first (n * size)) (omega arith) held in
    record {
      below = omega arith;
      last_is = omega arith;
      last_holds = here;
      holds = λ k lt.
          let at : 0 ≡ k = omega arith in
          subst (λ n. HoldsTick ends (first + count_ones (0 % 2 ^ n)) ((slice + n) * size)) at
          (subst (λ n. HoldsTick ends n ((slice + 0) * size)) (omega arith) here);
    }

-- a slice more
pub block_more : (ends : List ℕ) (size slice first rises more place last next : ℕ)
    → IsBlockTo ends size slice (record { first = first; rises = rises }) place last
    → last ≤ next → next ≤ last + 1 → more ≡ (next - last) * 2 ^ place + rises
    → HoldsTick ends next ((slice + place + 1) * size)
    → IsBlockTo ends size slice (record { first = first; rises = more }) (place + 1) next
block_more ends size slice first rises more place last next is from to grown held =
    let d = next - last in
    let one : d ≤ 1 = omega arith in
    let up : d * 2 ^ place ≤ 1 * 2 ^ place = mul-le-mul_right (2 ^ place) one in
    let twice : 2 ^ (place + 1) ≡ 2 ^ place * 2 ^ 1 = pow-add 2 place 1 in
    let low : rises < 2 ^ place = is.below in
    let below : more < 2 ^ (place + 1) = omega arith in
    let counted : count_ones more ≡ d + count_ones rises =
    ap count_ones grown ∙ ones_more place d rises low one in
    let was = is.last_is in
    let here : HoldsTick ends next ((slice + (place + 1)) * size) =
    subst (λ n. HoldsTick ends next (n * size)) (omega arith) held in
    record {
      below = below;
      last_is = omega arith;
      last_holds = here;
      holds = λ k lt. elim (cases_lt k (place + 1)) [
        | inl before ↦
            let same : more % 2 ^ k ≡ rises % 2 ^ k =
            ap (λ n. n % 2 ^ k) grown ∙ low_same place k d rises (omega arith) in
            subst (λ n. HoldsTick ends (first + count_ones n) ((slice + k) * size)) (sym same) (is.holds k before)
        | inr last ↦
            let at : place + 1 ≡ k = omega arith in
            let whole : more % 2 ^ (place + 1) ≡ more = mod-eq_of_lt below in
            let number : next ≡ first + count_ones (more % 2 ^ (place + 1)) =
            subst (λ n. next ≡ first + count_ones n) (sym whole) (omega arith) in
            subst (λ n. HoldsTick ends (first + count_ones (more % 2 ^ n)) ((slice + n) * size)) at
            (subst (λ n. HoldsTick ends n ((slice + (place + 1)) * size)) number here)
      ];
    }

-- no more slices than the round needs end after it by less than one
pub slices_fit : (size slices : ℕ) → 0 < size → slices ≤ 102599 / size + 1 → slices * size < ROUND + size
slices_fit size slices some few =
    let most : slices * size ≤ (102599 / size + 1) * size = mul-le-mul_right size few in
    let product : (102599 / size + 1) * size ≡ 102599 / size * size + size =
    add-mul (102599 / size) 1 size ∙ omega arith in
    let low = div-mul-le_self 102599 size in
    omega arith
