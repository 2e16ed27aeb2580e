-- A view as comma-separated values: a line for each segment or stint. No field needs quotes, since names
-- have neither commas nor quotes.
-- Source: RFC 4180, with a line feed alone at the end of a line.
use Rattle.std.specs.Prelude.{ℕ, Bool, true, false, ◌++◌, List, codes, decimal, flat_map}
use Rattle.view_doc.specs.declared.view.Stretch.{Stretch}
use Rattle.view_doc.specs.declared.view.View.{View}
use Rattle.view_doc.specs.Views.{shown_in}
use Rattle.view_export.specs.Shown.{holder_name, how_text}

-- the first line; a run's has its counts of events
abbrev pub csv_head : Bool → List ℕ
csv_head false = codes "core,from,end,vcpu,how\n"
csv_head true = codes "core,from,end,vcpu,how,used,seen\n"

-- the line of a plan's segment
unfoldable pub slot_line : List (List ℕ) → Stretch → List ℕ
slot_line names s = decimal s.core ++ (codes "," ++ (decimal s.from ++ (codes "," ++ (decimal s.end
    ++ (codes "," ++ (holder_name names s.by ++ (codes "," ++ (how_text s.by ++ codes "\n"))))))))

-- the line of a run's stint
unfoldable pub csv_stint : List (List ℕ) → Stretch → List ℕ
csv_stint names s = decimal s.core ++ (codes "," ++ (decimal s.from ++ (codes "," ++ (decimal s.end
    ++ (codes "," ++ (holder_name names s.by ++ (codes "," ++ (how_text s.by
    ++ (codes "," ++ (decimal s.used ++ (codes "," ++ (decimal s.seen ++ codes "\n"))))))))))))

-- the line of a stint of a run, or of a segment of a plan
abbrev pub csv_line : Bool → List (List ℕ) → Stretch → List ℕ
csv_line false names s = slot_line names s
csv_line true names s = csv_stint names s

-- the text of these stretches
abbrev pub csv_of : Bool → List (List ℕ) → List Stretch → List ℕ
csv_of is_run names stretches = csv_head is_run ++ flat_map (csv_line is_run names) stretches

-- the text of a view
abbrev pub csv_text : View → List ℕ
csv_text view = csv_of view.is_run view.names.items (shown_in view)
