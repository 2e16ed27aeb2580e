-- The line that says why tables are no plan: `no: ` and the fault in words.
use Rattle.std.specs.Prelude.{ℕ, List, [], ◌++◌, codes, decimal}
use Rattle.vcpu_names.specs.Names.{name_at}
use Rattle.table_check.specs.declared.fault.CheckFault.{CheckFault}
use Rattle.table_check.specs.declared.fault.CheckFault.TheVariants.{BadShape, Twice, Short, NoMemory}

-- the line of a bad shape: the core, and the segment with the bad end
unfoldable pub shape_line : ℕ → ℕ → List ℕ
shape_line core place = codes "no: core "
    ++ (decimal core ++ (codes " has a bad end at segment " ++ (decimal place ++ codes "\n")))

-- the line of a vCPU that is on two cores at one tick
unfoldable pub twice_line : List ℕ → ℕ → ℕ → ℕ → List ℕ
twice_line name core other tick =
    codes "no: " ++ (name ++ (codes " stands on cores "
    ++ (decimal core
    ++ (codes " and " ++ (decimal other ++ (codes " at tick " ++ (decimal tick ++ codes "\n")))))))

-- the line of a vCPU that gets less than its cost in a period
unfoldable pub short_line : List ℕ → ℕ → ℕ → ℕ → List ℕ
short_line name got cost period_no =
    codes "no: " ++ (name ++ (codes " has "
    ++ (decimal got ++ (codes " of "
    ++ (decimal cost ++ (codes " ticks in period " ++ (decimal period_no ++ codes "\n")))))))

-- the line of a fault, for vCPUs of these names; out of memory is no fault of the tables, and has no
-- line here
abbrev pub check_fault_line : List (List ℕ) → CheckFault → List ℕ
check_fault_line names (BadShape core place) = shape_line core place
check_fault_line names (Twice vcpu tick core other) = twice_line (name_at names vcpu) core other tick
check_fault_line names (Short vcpu period_no got cost) = short_line (name_at names vcpu) got cost period_no
check_fault_line names NoMemory = []
