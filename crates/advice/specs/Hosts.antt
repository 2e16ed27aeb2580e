-- The advice on a host section: where it is no TOML, and that it has too many vCPUs.
use Rattle.std.specs.Prelude.{ℕ, ◌-◌, List, ◌++◌, codes, decimal, take}
use Rattle.advice.specs.KeyLines.{line_part, vcpu_start}
use Rattle.advice.specs.Lines.{line_at}
use Rattle.advice.specs.Mistaken.{kind_of_text, kind_text}
use Rattle.advice.specs.Parts.{quoted}
use Rattle.advice.specs.Places.{place_after_all}
use Rattle.advice.specs.declared.host_text.Place.{Place}

-- the advice on a host section that is no TOML from this place on: the reader's message, the line in quotes, and what
-- the text is
abbrev pub toml_text_at : List ℕ → Place → List ℕ → List ℕ
toml_text_at text place message = codes "tableau: host, line "
    ++ (decimal place.line ++ (codes ", column " ++ (decimal place.column ++ (codes ": "
    ++ (message ++ (codes "\ntableau: " ++ (quoted (line_at place.line text)
    ++ (codes "; " ++ (kind_text (kind_of_text text (line_at place.line text) message) ++ codes "\n")))))))))

-- the advice on a host section that is no TOML from this byte on, as the reader's message says
abbrev pub toml_text : List ℕ → ℕ → List ℕ → List ℕ
toml_text text at message = toml_text_at text (place_after_all (take at text)) message

-- the advice on a host of more than 256 vCPUs: the line that begins the first that is too many, and how many to leave out
abbrev pub many_text : List ℕ → ℕ → List ℕ
many_text section count = codes "tableau: host"
    ++ (line_part (vcpu_start 256 section) ++ (codes ": a host has at most 256 vCPUs, and this one "
    ++ (decimal count ++ (codes "; leave out " ++ (decimal (count - 256) ++ codes "\n")))))
