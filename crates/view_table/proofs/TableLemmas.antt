-- Rows of vCPUs, and their shares.
use Rattle.std.proofs.Common.{◌*◌, ◌/◌, ◌<◌, ◌^◌, arith, ◌≡◌, ℕ, ◌∙◌, ap, sym, Bool, List, Option, Some, ◌++◌}
use Rattle.vcpu_names.specs.Names.{name_at}
use Rattle.view_table.specs.Table.{cores_cell, row_cells, table_row, table_row_of}
use Rattle.view_table.specs.Given.{figure_at}
use Rattle.view_table.specs.declared.figures.Figure.{Figure}
use Rattle.std.proofs.Math.Nat.{div-le_self}
use Rattle.std.specs.List.{slice_get}
use Rattle.tab_core.specs.declared.vcpu.Vcpu.{Vcpu}
use Rattle.view_doc.specs.declared.view.Stretch.{Stretch}
use Rattle.view_doc.specs.declared.view.Task.{Task}

-- the row of a vCPU that has a line
pub row_at : (host : Option (List Vcpu)) (refused : Bool) (tick width : ℕ) (names : List (List ℕ)) (tasks : List Task)
    (slots : List Stretch) (cores v : ℕ) (t : Task) (name : List ℕ) (f : Figure)
    → slice_get tasks v ≡ Some t → name ≡ name_at names v → f ≡ figure_at slots refused v
    → table_row host refused tick width names tasks slots cores v
    ≡ row_cells host tick width name t f ++ cores_cell slots cores v
row_at host refused tick width names tasks slots cores v t name f has named figures =
    ap (table_row_of host refused tick width names slots cores v) has
    ∙ (ap (λ n. row_cells host tick width n t (figure_at slots refused v) ++ cores_cell slots cores v) (sym named)
    ∙ ap (λ g. row_cells host tick width name t g ++ cores_cell slots cores v) (sym figures))

-- shares are sums of few bits
pub small_share : (cost period : ℕ) → cost < 2 ^ 32 → cost * 1000000 / period < 2 ^ 52
small_share cost period low = omega (arith, div-le_self (cost * 1000000) period)

-- parts of a round are sums of few bits
pub small_part : (ticks : ℕ) → ticks < 2 ^ 32 → ticks * 1000000 / 102600 < 2 ^ 52
small_part ticks low = small_share ticks 102600 low
