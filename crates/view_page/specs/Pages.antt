-- A view as one page of HTML, which loads nothing: what is shown, its tables, its pictures, the script of a run, and what
-- differs from an older plan. Names are of letters, digits and three signs, so no name is markup.
-- Source: HTML, WHATWG, Living Standard.
use Rattle.std.specs.Prelude.{ℕ, ◌++◌, ◌==◌, ◌||◌, Bool, true, false, List, [], ◌∷◌, codes, decimal, if◌then◌else◌, length, not, Option, Some, None, option_copied, slice_index}
use Rattle.tab_core.specs.declared.vcpu.Vcpu.{Vcpu}
use Rattle.tab_words.specs.Texts.{texts_below}
use Rattle.view_doc.specs.declared.view.View.{View}
use Rattle.view_table.specs.TableTexts.{table_text, vm_table_text}
use Rattle.view_table.specs.declared.figures.Figures.{Figures}
use Rattle.view_lanes.specs.Shown.{cores_in, shows_nothing}
use Rattle.view_lanes.specs.declared.frame.ChartOptions.{ChartOptions}
use Rattle.view_chart.specs.Charts.{chart_text}
use Rattle.view_page.specs.declared.page.Page.{Page}

-- a byte that HTML never reads as markup: none of " & ' < >
abbrev pub is_plain : ℕ → Bool
is_plain byte = not ((byte == 34) || ((byte == 38) || ((byte == 39) || ((byte == 60) || (byte == 62)))))

-- a byte as HTML has it in a text
abbrev pub byte_text : ℕ → List ℕ
byte_text byte = if byte == 38 then codes "&amp;" else if byte == 60 then codes "&lt;"
    else if byte == 62 then codes "&gt;" else byte ∷ []

-- the byte of a number of a text, as HTML has it
abbrev pub escaped_at : List ℕ → ℕ → List ℕ
escaped_at bytes i = byte_text (slice_index bytes i)

-- bytes as HTML has them
abbrev pub escaped : List ℕ → List ℕ
escaped bytes = texts_below (escaped_at bytes) (length bytes)

-- ---- parts

-- the head, and how many cores, vCPUs and nanoseconds of a tick there are
unfoldable pub top_text : ℕ → ℕ → ℕ → List ℕ
top_text cores vcpus tick = codes "<!DOCTYPE html>\n<html lang=\"en\">\n<head>\n<meta charset=\"utf-8\">\n<meta name=\"viewport\" content=\"width=device-width,initial-scale=1\">\n<title>Cores and vCPUs</title>\n<style>\n:root{color-scheme:light dark;--ground:#ffffff;--words:#1d2433;--dim:#5d6778;--card:#f6f7f9;--line:#d5dae3}\n@media (prefers-color-scheme:dark){:root{--ground:#12161e;--words:#e4e8ef;--dim:#9aa5b5;--card:#1b212c;--line:#343d4c}}\nbody{margin:0 auto;max-width:96rem;padding:1rem;background:var(--ground);color:var(--words);font:1rem/1.5 system-ui,sans-serif}\nh1{font-size:1.5rem}h2{margin:1.5rem 0 .5rem;font-size:1.15rem}\ndl{display:grid;grid-template-columns:max-content 1fr;gap:.25rem 1rem}dt{color:var(--dim)}dd{margin:0}\npre,figure{margin:0;overflow-x:auto;background:var(--card);border:1px solid var(--line);border-radius:.5rem}\npre{padding:.75rem;font:.85rem/1.4 monospace}pre:empty::before{content:'nothing differs'}\nfigure svg{display:block;width:100%;min-width:60rem;height:auto}\n</style>\n</head>\n<body>\n<h1>Cores and vCPUs</h1>\n<dl><dt>cores</dt><dd>" ++ (decimal cores
    ++ (codes "</dd><dt>vCPUs</dt><dd>" ++ (decimal vcpus ++ (codes "</dd><dt>tick</dt><dd>" ++ (decimal tick
    ++ codes " ns</dd></dl>\n")))))

-- the tables by vCPU and by virtual machine; where `tableau check` refuses them, its line is above each
unfoldable pub both_tables : Option (List Vcpu) → List ℕ → ℕ → View → List ℕ
both_tables host refusal tick view = codes "<h2>By vCPU and by core</h2>\n<pre tabindex=\"0\">"
    ++ (table_text host refusal tick view
    ++ (codes "</pre>\n<h2>By virtual machine and by core</h2>\n<pre tabindex=\"0\">"
    ++ (vm_table_text host refusal tick view ++ codes "</pre>\n")))

-- the tables by vCPU and by virtual machine, where the view has a vCPU of a plan
abbrev pub tables_part : Option (List Vcpu) → List ℕ → ℕ → View → List ℕ
tables_part host refusal tick view = if length view.tasks.items == 0 then [] else both_tables host refusal tick view

-- all of a view, by core or by vCPU: the first picture or the second
abbrev pub whole_options : Bool → ℕ → ChartOptions
whole_options by_vcpu tick = record {
  by_vcpu = by_vcpu;
  first = 0;
  last = 255;
  from = 0;
  to = None;
  width = 1500;
  tick_ns = tick;
  picture = if by_vcpu then 2 else 1;
}

-- a picture without promised waits, if it has a tick and a lane
abbrev pub picture_text : ChartOptions → View → Figures → List ℕ
picture_text options view figures =
    if shows_nothing options view then [] else chart_text options view figures []

-- the pictures by core and by vCPU
abbrev pub pictures_part : ℕ → View → Figures → List ℕ
pictures_part tick view figures = codes "<h2>Picture of the cores</h2>\n<figure tabindex=\"0\">\n"
    ++ (picture_text (whole_options false tick) view figures
    ++ (codes "</figure>\n<h2>Picture of the vCPUs</h2>\n<figure tabindex=\"0\">\n"
    ++ (picture_text (whole_options true tick) view figures ++ codes "</figure>\n")))

-- the script of a run
unfoldable pub script_text : List ℕ → List ℕ
script_text script = codes "<h2>Script</h2>\n<pre tabindex=\"0\">" ++ (escaped script ++ codes "</pre>\n")

-- the script of a run, where one is given
abbrev pub script_part : Option (List ℕ) → List ℕ
script_part None = []
script_part (Some script) = script_text script

-- what differs from an older plan
unfoldable pub framed_text : List ℕ → List ℕ
framed_text text = codes "<h2>What differs from the older plan</h2>\n<pre tabindex=\"0\">" ++ (text ++ codes "</pre>\n")

-- what differs from an older plan, where one is given
abbrev pub differences_part : Option (List ℕ) → List ℕ
differences_part None = []
differences_part (Some text) = framed_text text

-- ---- the page

-- the page of a plan or a run: its tables and pictures, and where these are given, the script and what
-- differs from an older plan
abbrev pub page_text : Page → List ℕ
page_text page = top_text (cores_in page.view.now) (length page.view.now.names.items) page.tick_ns
    ++ (tables_part (option_copied page.host) page.figures.now.refusal.items page.tick_ns page.view.now
    ++ (pictures_part page.tick_ns page.view.now page.figures.now
    ++ (script_part (option_copied page.script)
    ++ (differences_part (option_copied page.differences) ++ codes "</body>\n</html>\n"))))
