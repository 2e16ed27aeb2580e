-- What is shown of a view, and the words for it.
use Rattle.std.specs.Prelude.{ℕ, List, [], codes, max}
use Rattle.vcpu_names.specs.Names.{name_at}
use Rattle.view_doc.specs.declared.view.Use.{Use}
use Rattle.view_doc.specs.declared.view.Use.TheVariants.{Idle, Slot, Shared}
use Rattle.view_doc.specs.declared.view.View.{View}
use Rattle.view_doc.specs.Views.{reach_of, shown_in}

-- the name of whoever has a stretch, and nothing where nobody has
abbrev pub holder_name : List (List ℕ) → Use → List ℕ
holder_name names Idle = []
holder_name names (Slot vcpu) = name_at names vcpu
holder_name names (Shared vcpu) = name_at names vcpu

-- how a stretch is used: by nobody, in a slot, or shared
abbrev pub how_text : Use → List ℕ
how_text Idle = codes "idle"
how_text (Slot vcpu) = codes "slot"
how_text (Shared vcpu) = codes "shared"

-- the count of the lanes: that of the plan's cores, or more where the run has more
abbrev pub lanes_in : View → ℕ
lanes_in view = max view.cores (reach_of (shown_in view))
