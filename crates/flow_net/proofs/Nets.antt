-- Moves of one tick in rows of ticks.
use Rattle.std.proofs.Common.{◌≡◌, ℕ, ◌+◌, ◌-◌, ◌<◌, ◌≤◌, List, get_or, ap, sym, ◌∙◌, arith, inl, inr}
use Rattle.std.proofs.lemmas.Bool.{cases_eq}
use Rattle.flow_net.specs.Load.{Load, IsLoad, span, job, jobs}
use Rattle.flow_net.specs.Rows.{ticks_at, with_ticks, IsPlace}
use Rattle.flow_net.specs.Flows.{IsNet, flow_of, lack_of}
use Rattle.flow_net.proofs.Cells.{ticks-with_here, ticks-with_else, length-with, length-row-with}
use Rattle.flow_net.proofs.Moves.{Raised, close_flow, shift_flow}
use Rattle.flow_net.proofs.Spans.{job_in, marks_le}

-- each pair of an interval and a vCPU has its place
pub net_place : (l : Load) (rows lacks : List (List ℕ)) (room : List ℕ) (hole v i : ℕ)
    → IsNet l rows lacks room hole
    → v < l.width → i < l.count → IsPlace rows i v
net_place l rows lacks room hole v i net h lt = record {
  row = omega (arith, net.rows_len);
  within = omega (arith, net.row_len i lt);
}

-- each job has its place
pub lack_place : (l : Load) (rows lacks : List (List ℕ)) (room : List ℕ) (hole v k : ℕ)
    → IsNet l rows lacks room hole
    → v < l.width → k < jobs l v → IsPlace lacks v k
lack_place l rows lacks room hole v k net h lt = record {
  row = omega (arith, net.lacks_len);
  within = omega (arith, net.lack_len v h);
}

-- one more at a place of the rows
pub raised_rows : (rows : List (List ℕ)) (i v : ℕ) → IsPlace rows i v
    → Raised (flow_of rows) (flow_of (with_ticks rows i v (ticks_at rows i v + 1))) v i
raised_rows rows i v at = record {
  here = ticks-with_here rows i v (ticks_at rows i v + 1) at;
  else = λ w j ne. ticks-with_else rows i v (ticks_at rows i v + 1) j w at (λ a b. ne b a);
}

-- one less there
pub lowered_rows : (rows : List (List ℕ)) (i v : ℕ) → IsPlace rows i v → 0 < ticks_at rows i v
    → Raised (flow_of (with_ticks rows i v (ticks_at rows i v - 1))) (flow_of rows) v i
lowered_rows rows i v at some = record {
  here = omega (arith, some, ticks-with_here rows i v (ticks_at rows i v - 1) at);
  else = λ w j ne. sym (ticks-with_else rows i v (ticks_at rows i v - 1) j w at (λ a b. ne b a));
}

-- one less that a job still needs
pub lowered_lacks : (lacks : List (List ℕ)) (v k : ℕ) → IsPlace lacks v k → 0 < ticks_at lacks v k
    → Raised (lack_of (with_ticks lacks v k (ticks_at lacks v k - 1))) (lack_of lacks) v k
lowered_lacks lacks v k at some = record {
  here = omega (arith, some, ticks-with_here lacks v k (ticks_at lacks v k - 1) at);
  else = λ w j ne. sym (ticks-with_else lacks v k (ticks_at lacks v k - 1) w j at ne);
}

-- the rows with one more at a place
abbrev pub raised_at : List (List ℕ) → ℕ → ℕ → List (List ℕ)
raised_at rows i v = with_ticks rows i v (ticks_at rows i v + 1)

-- the rows with one less at a place
abbrev pub lowered_at : List (List ℕ) → ℕ → ℕ → List (List ℕ)
lowered_at rows i v = with_ticks rows i v (ticks_at rows i v - 1)

-- a write leaves the places
pub raised_place : (rows : List (List ℕ)) (i v j w : ℕ) → IsPlace rows i v → IsPlace rows j w
    → IsPlace (raised_at rows i v) j w
raised_place rows i v j w at other = record {
  row = omega (arith, other.row, length-with rows i v (ticks_at rows i v + 1));
  within = omega (arith, other.within, length-row-with rows i v (ticks_at rows i v + 1) j at);
}

-- a tick moves from interval p to interval j, which was short
pub shift_net : (l : Load) (rows lacks : List (List ℕ)) (room : List ℕ) (v j p : ℕ)
    → IsNet l rows lacks room j
    → v < l.width → j < l.count → p < l.count → ticks_at rows j v < span l j → job l v j ≡ job l v p
    → 0 < ticks_at (raised_at rows j v) p v
    → IsNet l (lowered_at (raised_at rows j v) p v) lacks room p
shift_net l rows lacks room v j p net h in_j in_p lt same some =
    let at_j = net_place l rows lacks room j v j net h in_j in
    let at_p = net_place l rows lacks room j v p net h in_p in
    let up = raised_at rows j v in
    let at_p' : IsPlace up p v = raised_place rows j v p v at_j at_p in
    record {
      rows_len = length-with up p v (ticks_at up p v - 1) ∙ length-with rows j v (ticks_at rows j v + 1)
          ∙ net.rows_len;
      row_len = λ i a. length-row-with up p v (ticks_at up p v - 1) i at_p'
          ∙ length-row-with rows j v (ticks_at rows j v + 1) i at_j ∙ net.row_len i a;
      lacks_len = net.lacks_len;
      lack_len = net.lack_len;
      room_len = net.room_len;
      flow = shift_flow l (flow_of rows) (flow_of up) (flow_of (lowered_at up p v)) (lack_of lacks)
          (λ i. get_or room i 0) v j p
          net.flow h in_j in_p lt same (raised_rows rows j v at_j) (lowered_rows up p v at_p' some);
    }

-- the short interval gets a tick that its job still needs
pub close_net : (l : Load) → IsLoad l → (rows lacks : List (List ℕ)) (room : List ℕ) (v j : ℕ)
    → IsNet l rows lacks room j
    → v < l.width → j < l.count → ticks_at rows j v < span l j → 0 < ticks_at lacks v (job l v j)
    → IsNet l (raised_at rows j v) (lowered_at lacks v (job l v j)) room l.count
close_net l ok rows lacks room v j net h in_j lt some =
    let at_j = net_place l rows lacks room j v j net h in_j in
    let k = job l v j in
    let at_k = lack_place l rows lacks room j v k net h (job_in l ok v j h in_j) in
    record {
      rows_len = length-with rows j v (ticks_at rows j v + 1) ∙ net.rows_len;
      row_len = λ i a. length-row-with rows j v (ticks_at rows j v + 1) i at_j ∙ net.row_len i a;
      lacks_len = length-with lacks v k (ticks_at lacks v k - 1) ∙ net.lacks_len;
      lack_len = λ w a. length-row-with lacks v k (ticks_at lacks v k - 1) w at_k ∙ net.lack_len w a;
      room_len = net.room_len;
      flow = close_flow l (flow_of rows) (flow_of (raised_at rows j v)) (lack_of lacks)
          (lack_of (lowered_at lacks v k)) (λ i. get_or room i 0)
          v j net.flow h in_j lt (raised_rows rows j v at_j) (lowered_lacks lacks v k at_k some);
    }

-- an interval is within the round
pub span_le : (l : Load) → IsLoad l → (i : ℕ) → i < l.count → span l i ≤ l.round
span_le l ok i h = omega (arith, marks_le l ok (i + 1) l.count (omega arith) (omega arith), ok.last)

-- one more somewhere is no less anywhere
pub raised_more : (rows : List (List ℕ)) (j v i w : ℕ) → IsPlace rows j v
    → ticks_at rows i w ≤ ticks_at (raised_at rows j v) i w
raised_more rows j v i w at = elim (cases_eq i j) [
  | inl e ↦ elim (cases_eq w v) [
    | inl e' ↦ (let here : ticks_at (raised_at rows j v) i w
        ≡ ticks_at rows i w + 1 =
        rw e (rw e' (ticks-with_here rows j v (ticks_at rows j v + 1) at)) in omega (arith, here))
    | inr ne ↦ omega (arith, ticks-with_else rows j v (ticks_at rows j v + 1) i w at (λ a b. ne b))
  ]
  | inr ne ↦ omega (arith, ticks-with_else rows j v (ticks_at rows j v + 1) i w at (λ a b. ne a))
]

-- the cells of other jobs stay
pub shift_others : (l : Load) (rows lacks : List (List ℕ)) (room : List ℕ) (v j p : ℕ)
    → IsNet l rows lacks room j
    → v < l.width → j < l.count → p < l.count → job l v j ≡ job l v p → (w i : ℕ) → (w ≡ v
    → job l v i ≡ job l v j → ⊥)
    → ticks_at (lowered_at (raised_at rows j v) p v) i w ≡ ticks_at rows i w
shift_others l rows lacks room v j p net h in_j in_p same w i ne =
    let at_j = net_place l rows lacks room j v j net h in_j in
    let at_p = net_place l rows lacks room j v p net h in_p in
    let up = raised_at rows j v in
    let at_p' : IsPlace up p v = raised_place rows j v p v at_j at_p in
    ticks-with_else up p v (ticks_at up p v - 1) i w at_p' (λ a b. ne b (ap (λ n. job l v n) a ∙ sym same))
    ∙ ticks-with_else rows j v (ticks_at rows j v + 1) i w at_j (λ a b. ne b (ap (λ n. job l v n) a))
