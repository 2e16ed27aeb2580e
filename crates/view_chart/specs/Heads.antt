-- The head of a picture: the words for readers, the colours, and the lines above the lanes.
use Rattle.std.specs.Prelude.{ℕ, ◌+◌, ◌-◌, ◌*◌, ◌/◌, ◌++◌, ◌&&◌, Bool, true, false, List, [], codes, decimal, drop, take}
use Rattle.tab_words.specs.Texts.{texts_below}
use Rattle.view_lanes.specs.Titles.{sub_text, title_text}
use Rattle.view_lanes.specs.declared.titles.Head.{Head}

-- the size in pixels, and in units of the picture; the ids end in the picture's number
unfoldable pub svg_begin : ℕ → ℕ → ℕ → ℕ → List ℕ
svg_begin picture width height tall = codes "<svg xmlns=\"http://www.w3.org/2000/svg\" width=\"" ++ (decimal width
    ++ (codes "\" height=\"" ++ (decimal height ++ (codes "\" viewBox=\"0 0 150000 " ++ (decimal tall
    ++ (codes "\" role=\"img\" aria-labelledby=\"t" ++ (decimal picture ++ (codes " d" ++ (decimal picture
    ++ (codes "\" font-family=\"DejaVu Sans,Verdana,Arial,sans-serif\">\n<title id=\"t" ++ (decimal picture
    ++ codes "\">")))))))))))

-- where the words below the title begin
unfoldable pub desc_begin : ℕ → List ℕ
desc_begin picture = codes "</title>\n<desc id=\"d" ++ (decimal picture ++ codes "\">")

-- ---- colours

-- twelve colours, on each of which the words have a contrast of 5.7 or more: six letters each
abbrev pub colours_text : List ℕ
colours_text = codes "93b5fdeab927ace5d9d9a3cc82b24ddabc989f92efe1dd637cae9bb9ccf3c389c8e2d8ab"

-- the six letters of the colour of a number
abbrev pub colour_of : ℕ → List ℕ
colour_of k = take 6 (drop (6 * k) colours_text)

-- the classes of a colour's four tones: plain, with a dark foot, with stripes, and with stripes that lean
-- to the left
unfoldable pub tone_rules : ℕ → ℕ → List ℕ → List ℕ
tone_rules picture k colour = codes ".c" ++ (decimal k ++ (codes "{fill:#" ++ (colour ++ (codes "}.c"
    ++ (decimal (k + 12) ++ (codes "{fill:url(#f" ++ (decimal picture ++ (codes "-" ++ (decimal k ++ (codes ")}.c"
    ++ (decimal (k + 24) ++ (codes "{fill:url(#r" ++ (decimal picture ++ (codes "-" ++ (decimal k ++ (codes ")}.c"
    ++ (decimal (k + 36) ++ (codes "{fill:url(#l" ++ (decimal picture ++ (codes "-" ++ (decimal k
    ++ codes ")}")))))))))))))))))))))

-- the fill of a colour with a dark foot
unfoldable pub foot_fill : ℕ → ℕ → List ℕ → List ℕ
foot_fill picture k colour = codes "<linearGradient id=\"f" ++ (decimal picture ++ (codes "-" ++ (decimal k
    ++ (codes "\" x2=\"0\" y2=\"1\"><stop offset=\".78\" stop-color=\"#" ++ (colour
    ++ codes "\"/><stop offset=\".78\" stop-color=\"#1d2433\"/></linearGradient>")))))

-- the fill of a colour with stripes, turned by so many degrees; its id begins with a letter for the side
unfoldable pub stripes : List ℕ → ℕ → ℕ → List ℕ → ℕ → List ℕ
stripes side picture k colour turn = codes "<pattern id=\"" ++ (side ++ (decimal picture ++ (codes "-" ++ (decimal k
    ++ (codes "\" width=\"450\" height=\"450\" patternUnits=\"userSpaceOnUse\" patternTransform=\"rotate("
    ++ (decimal turn ++ (codes ")\"><path fill=\"#" ++ (colour
    ++ codes "\" d=\"M0 0h450v450h-450z\"/><path fill=\"#1d2433\" fill-opacity=\".35\" d=\"M0 0h110v450h-110z\"/></pattern>"))))))))

-- the classes of the four tones of the colour of a number
abbrev pub rules_at : ℕ → ℕ → List ℕ
rules_at picture k = tone_rules picture k (colour_of k)

-- the fills of a colour: with a dark foot, with stripes, and with stripes that lean to the left
abbrev pub fills_of : ℕ → ℕ → List ℕ → List ℕ
fills_of picture k colour = foot_fill picture k colour
    ++ (stripes (codes "r") picture k colour 45 ++ stripes (codes "l") picture k colour 135)

-- the fills of the colour of a number
abbrev pub fills_at : ℕ → ℕ → List ℕ
fills_at picture k = fills_of picture k (colour_of k)

-- the classes of words, lanes and lines on a bright page
abbrev pub style_begin : List ℕ
style_begin = codes "</desc>\n<style>text{fill:#1d2433}.dim,.dim text{fill:#5d6778}.on text{fill:#1d2433}.label{font-weight:bold}.name{font-family:DejaVu Sans Mono,Menlo,Consolas,monospace}.ground{fill:#ffffff}.lane{fill:#f0f2f6}.grid{stroke:#ffffff;stroke-width:100}.cut{stroke:#ffffff;stroke-width:80}.seam{stroke:#ffffff;stroke-width:25}.round{stroke:#1d2433;stroke-width:140}.sh{fill-opacity:.62}.wait{stroke:#1d2433;stroke-width:180}.late{fill:#b3261e;font-weight:bold}.key{fill:#9aa5b5}g path:hover{stroke:#1d2433;stroke-width:150}"

-- the classes of words, lanes and lines on a dark page
abbrev pub style_dark : List ℕ
style_dark = codes "@media(prefers-color-scheme:dark){text{fill:#e4e8f0}.dim,.dim text{fill:#9aa5b5}.ground{fill:#12161f}.lane{fill:#232a38}.grid,.cut,.seam{stroke:#12161f}.round,.wait{stroke:#e4e8f0}.late{fill:#ff8a80}g path:hover{stroke:#e4e8f0}}</style>\n<defs>"

-- the classes and fills of a picture of this number on its page
abbrev pub style_text : ℕ → List ℕ
style_text picture = style_begin ++ (texts_below (rules_at picture) 12 ++ (style_dark
    ++ (texts_below (fills_at picture) 12 ++ codes "</defs>\n")))

-- ---- the lines above the lanes

-- the ground of a picture that is so tall, and the beginning of the title's text
unfoldable pub title_begin : ℕ → List ℕ
title_begin tall = codes "<path class=\"ground\" d=\"M0 0H150000V" ++ (decimal tall
    ++ codes "H0z\"/>\n<text x=\"4000\" y=\"3000\" font-size=\"1800\" class=\"label\">")

-- what boxes are, of a run: a key, right of the title, of slots and of shared time
abbrev pub boxes_key : Bool → List ℕ
boxes_key false = []
boxes_key true = codes "<path class=\"key\" d=\"M118300 2100h1600v900h-1600z\"/><text x=\"120300\" y=\"3000\" font-size=\"900\" class=\"dim\">in a slot</text><path class=\"key sh\" d=\"M126500 2460h1600v540h-1600z\"/><text x=\"128500\" y=\"3000\" font-size=\"900\" class=\"dim\">besides its slots (shared)</text>\n"

-- what columns are, and how many ticks each has
unfoldable pub columns_note : ℕ → List ℕ
columns_note ticks = codes "<text x=\"146000\" y=\"5000\" font-size=\"900\" class=\"dim\" text-anchor=\"end\">Lanes of many boxes are columns of "
    ++ (decimal ticks ++ codes " ticks: each is as high as its part of them.</text>\n")

-- what columns are and how many ticks each has, where some lane is drawn in columns
abbrev pub columns_key : Bool → ℕ → List ℕ
columns_key false ticks = []
columns_key true ticks = columns_note ticks

-- the end of the head: the keys of boxes and of columns
abbrev pub head_end : Head → List ℕ
head_end h = codes "</text>\n" ++ (boxes_key (h.is_run && h.boxes) ++ columns_key h.columns ((h.to - h.from) / 200))

-- the head of a picture that is so wide in pixels and so tall in units
abbrev pub head_text : ℕ → ℕ → Head → List ℕ
head_text width tall h = svg_begin h.picture width (width * tall / 150000) tall
    ++ (title_text h ++ (desc_begin h.picture ++ (sub_text h ++ (style_text h.picture ++ (title_begin tall
    ++ (title_text h ++ (codes "</text>\n<text x=\"4000\" y=\"5000\" font-size=\"1100\" class=\"dim\">"
    ++ (sub_text h ++ head_end h))))))))
