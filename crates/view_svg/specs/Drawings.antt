-- What a lane is drawn of: a band of the picture, what is known of the vCPUs, and what keys are shown as.
use Rattle.std.specs.Prelude.{ℕ, ◌<◌, ◌≤◌, ◌^◌, List, Option}
use Rattle.view_doc.specs.declared.view.Task.{Task}
use Rattle.view_svg.specs.declared.drawing.Band.{Band}
use Rattle.view_svg.specs.declared.drawing.Palette.{Palette}
use Rattle.view_svg.specs.declared.drawing.Vcpus.{Vcpus}
use Rattle.view_table.specs.declared.figures.Figures.{Figures}

-- a band is in a picture: a lane of it can be drawn there
pub record IsInPicture (b : Band) : Type 0 where
  pub low : b.y < 2 ^ 31
  pub high : b.high ≤ 4000

-- the vCPUs by number: their names, their figures, and the latencies that they were promised, in nanoseconds
pub record VcpusView : Type 0 where
  pub names : List (List ℕ)
  pub figures : Figures
  pub promises : List (Option ℕ)

-- what is known of the vCPUs, as the references show it
abbrev pub vcpus_view : Vcpus → VcpusView
vcpus_view v = record {
  names = v.names.now;
  figures = v.figures.now;
  promises = v.promises.now;
}

-- what keys are shown as, by number: names, tasks and tones
pub record PaletteView : Type 0 where
  pub names : List (List ℕ)
  pub tasks : List Task
  pub colours : List ℕ

-- what keys are shown as, as the references show it
abbrev pub palette_view : Palette → PaletteView
palette_view p = record {
  names = p.names.now;
  tasks = p.tasks.now;
  colours = p.colours.now;
}
