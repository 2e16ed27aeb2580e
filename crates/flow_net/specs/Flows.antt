-- The network of a host as lists: what each vCPU is due, the marks, and a flow.
-- Source: for the fluid schedule S. K. Baruah, N. K. Cohen, C. G. Plaxton, D. A. Varvel, "Proportionate
-- progress: a notion of fairness in resource allocation", Algorithmica 15, 1996.
use Rattle.std.specs.Prelude.{◌≡◌, ℕ, ◌-◌, ◌*◌, ◌/◌, ◌<◌, ◌≤◌, List, length, slice_index}
use Rattle.tab_core.specs.declared.TheConstants.{ROUND}
use Rattle.tab_core.specs.Sums.{total}
use Rattle.flow_net.specs.Load.{Load, IsFlow, round_demand, jobs, span, used}
use Rattle.flow_net.specs.Rows.{row_at, ticks_at}

-- the demands on the cores
abbrev pub load_of : List ℕ → List ℕ → List ℕ → ℕ → Load
load_of costs periods marks cores = record {
  width = length costs;
  count = length marks - 1;
  cores = cores;
  round = ROUND;
  cost = λ v. slice_index costs v;
  period = λ v. slice_index periods v;
  mark = λ i. slice_index marks i;
}

-- the demands fit the cores
abbrev pub FitsCores : Load → Type 0
FitsCores l = total (round_demand l) l.width ≤ l.cores * l.round

-- what a vCPU gets in an interval
abbrev pub flow_of : List (List ℕ) → ℕ → ℕ → ℕ
flow_of rows v i = ticks_at rows i v

-- what a job still needs
abbrev pub lack_of : List (List ℕ) → ℕ → ℕ → ℕ
lack_of lacks v k = ticks_at lacks v k

-- what all jobs still need
abbrev pub all_lacks : Load → List (List ℕ) → ℕ
all_lacks l lacks = total (λ v. total (lack_of lacks v) (jobs l v)) l.width

-- a row of ticks for each interval, what each job still needs, and the room that each interval has
-- left
pub record IsNet (l : Load) (rows lacks : List (List ℕ)) (room : List ℕ) (hole : ℕ) : Type 0 where
  pub rows_len : length rows ≡ l.count
  pub row_len : (i : ℕ) → i < l.count → length (row_at rows i) ≡ l.width
  pub lacks_len : length lacks ≡ l.width
  pub lack_len : (v : ℕ) → v < l.width → length (row_at lacks v) ≡ jobs l v
  pub room_len : length room ≡ l.count
  pub flow : IsFlow l (flow_of rows) (lack_of lacks) (λ i. slice_index room i) hole

-- the opening flow: what the fluid schedule gives, in whole ticks
abbrev pub fluid : Load → ℕ → ℕ → ℕ
fluid l v i = l.cost v * span l i / l.period v

-- the ticks that all jobs get together
abbrev pub flow_sum : Load → List (List ℕ) → ℕ
flow_sum l rows = total (used l (flow_of rows)) l.count
