-- The picture of a lane: its label, its bars, on a vCPU's lane of a plan its longest wait, and its key.
use Rattle.std.specs.Prelude.{ℕ, ◌++◌, List, codes, if◌then◌else◌}
use Rattle.view_svg.specs.Columns.{columns_text}
use Rattle.view_svg.specs.Drawings.{PaletteView, VcpusView}
use Rattle.view_svg.specs.Keys.{keys_text}
use Rattle.view_svg.specs.Lanes.{bars_text, label_text, lane_waits_text}
use Rattle.view_svg.specs.declared.drawing.Band.{Band}
use Rattle.view_lanes.specs.Shown.{is_dense}
use Rattle.view_lanes.specs.declared.frame.Bar.{Bar}

-- the bars of a lane: as boxes, or as columns where they are many
unfoldable pub lane_body : Band → PaletteView → List Bar → List ℕ
lane_body b p bars = if is_dense bars then columns_text b p bars else bars_text b p bars

-- the lane of the core or vCPU of a number in this band
abbrev pub lane_text : VcpusView → ℕ → Band → PaletteView → List Bar → List ℕ
lane_text of row b p bars = label_text b of.names row bars
    ++ (lane_body b p bars ++ (lane_waits_text b of row ++ (keys_text b p bars ++ codes "</g>\n")))
