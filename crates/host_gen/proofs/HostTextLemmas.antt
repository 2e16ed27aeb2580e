-- The host text in the parts in which it is written.
use Rattle.std.proofs.Common.{◌≡◌, ◌≢◌, unwrap_or, ◌==◌, ℕ, Bool, true, false, if◌then◌else◌, List, [], ◌∷◌, ◌++◌, codes, decimal, Option, Some, None, refl, ap, ◌∙◌, append_assoc, IfSome, arith}
use Rattle.std.proofs.lemmas.Grind.{flat_map-append}
use Rattle.std.proofs.lemmas.Bool.Decides.{nat_tests}
use Rattle.tab_core.specs.declared.TheConstants.{TICK_NS}
use Rattle.tab_core.specs.declared.host.Host.{Host}
use Rattle.tab_core.specs.declared.reservation.Reservation.{Reservation}
use Rattle.tab_core.specs.declared.vcpu.Vcpu.{Vcpu}
use Rattle.tab_words.specs.Texts.{Line, line_of, text_of}
use Rattle.host_gen.specs.HostText.{capped_lines, head_lines, key_words, in_quotes, truth_word, vcpu_text, format_lines, named_tick, number_lines}

-- the line of a key and its value, and what follows it
pub key_line : (key value rest : List ℕ)
    → line_of (key_words key value) ++ rest ≡ key ++ (codes " = " ++ (value ++ 10 ∷ rest))
unfolding line_of
key_line key value rest = simp append_assoc

-- the line of a key and its value, and the lines that follow it
key_first : (key value : List ℕ) (lines : List Line) (rest : List ℕ) → text_of lines ≡ rest
    → text_of (key_words key value ∷ lines) ≡ key ++ (codes " = " ++ (value ++ 10 ∷ rest))
key_first key value lines rest is =
    key_line key value (text_of lines) ∙ ap (λ r. key ++ (codes " = " ++ (value ++ 10 ∷ r))) is

-- the lines of the default tick's format
pub first_pieces : text_of (format_lines None) ≡ codes "format = 1\n"
first_pieces = key_first (codes "format") (codes "1") [] [] refl

-- the lines of a format that names a tick, piece by piece
pub second_pieces : (tick : ℕ)
    → text_of (format_lines (Some tick)) ≡ codes "format = 2\ntick_ns = " ++ (decimal tick ++ codes "\n")
second_pieces tick =
    let named : List Line = key_words (codes "tick_ns") (decimal tick) ∷ [] in
    key_first (codes "format") (codes "2") named _ (key_first (codes "tick_ns") (decimal tick) [] [] refl)

-- the host's other lines, piece by piece
pub number_pieces : (host : Host)
    → text_of (number_lines host)
    ≡ codes "cores = "
    ++ (decimal host.cores
    ++ (codes "\nlag = " ++ (decimal host.lag
    ++ (codes "\nsliver = " ++ (decimal host.sliver
    ++ (codes "\nquantum = " ++ (decimal host.quantum ++ codes "\n")))))))
number_pieces host =
    let quantum : List Line = key_words (codes "quantum") (decimal host.quantum) ∷ [] in
    let sliver : List Line = key_words (codes "sliver") (decimal host.sliver) ∷ quantum in
    let lag : List Line = key_words (codes "lag") (decimal host.lag) ∷ sliver in
    key_first (codes "cores") (decimal host.cores) lag _
    (key_first (codes "lag") (decimal host.lag) sliver _
    (key_first (codes "sliver") (decimal host.sliver) quantum _
    (key_first (codes "quantum") (decimal host.quantum) [] [] refl)))

-- both parts are the lines before the vCPUs'
pub head_parts : (host : Host)
    → text_of (head_lines host)
    ≡ text_of (format_lines (named_tick host.tick_ns)) ++ text_of (number_lines host)
head_parts host = flat_map-append line_of (format_lines (named_tick host.tick_ns)) (number_lines host)

-- the default tick isn't named, and another one is
pub named_none : (tick : ℕ) → tick ≡ TICK_NS → named_tick tick ≡ None
named_none tick is = rw is refl

pub named_some : (tick : ℕ) → tick ≢ TICK_NS → named_tick tick ≡ Some tick
named_some tick other = by_test (tick == TICK_NS) refl
  where
    by_test : (usual : Bool) → (tick == TICK_NS) ≡ usual
        → ◌≡◌ {A = Option ℕ} (if usual then None else Some tick) (Some tick)
    by_test true is = absurd (other (grind (arith, nat_tests)))
    by_test false is = refl

-- what is so of a host's tick is so of the tick that is named
pub if_named : (P : ℕ → Type 0) (tick : ℕ) → P tick → IfSome (named_tick tick) P
if_named P tick is = by_test (tick == TICK_NS)
  where
    by_test : (usual : Bool) → IfSome (if usual then None else Some tick) P
    by_test true = tt
    by_test false = is

-- the tick that is named, or the default where none is, is the host's
pub named_is : (tick : ℕ) → unwrap_or (named_tick tick) TICK_NS ≡ tick
named_is tick = by_test (tick == TICK_NS) refl
  where
    by_test : (usual : Bool) → (tick == TICK_NS) ≡ usual
        → unwrap_or (if usual then None else Some tick) TICK_NS ≡ tick
    by_test true is = grind (arith, nat_tests)
    by_test false is = refl

-- a vCPU's lines, piece by piece, before others
admitted_pieces : (name : List ℕ) (r : Reservation) (truth : List ℕ) (lines : List Line)
    → text_of (key_words (codes "name") (in_quotes name) ∷ key_words (codes "share_ppm") (decimal r.share_ppm)
    ∷ key_words (codes "latency_ns") (decimal r.latency_ns) ∷ key_words (codes "runnable") truth ∷ lines)
    ≡ codes "name = \""
    ++ (name
    ++ (codes "\"\nshare_ppm = " ++ (decimal r.share_ppm
    ++ (codes "\nlatency_ns = " ++ (decimal r.latency_ns
    ++ (codes "\nrunnable = " ++ (truth ++ (codes "\n" ++ text_of lines))))))))
admitted_pieces name r truth lines =
    let runnable : List Line = key_words (codes "runnable") truth ∷ lines in
    let latency : List Line = key_words (codes "latency_ns") (decimal r.latency_ns) ∷ runnable in
    let share : List Line = key_words (codes "share_ppm") (decimal r.share_ppm) ∷ latency in
    key_first (codes "name") (in_quotes name) share _
    (key_first (codes "share_ppm") (decimal r.share_ppm) latency _
    (key_first (codes "latency_ns") (decimal r.latency_ns) runnable _
    (key_first (codes "runnable") truth lines (text_of lines) refl)))
    ∙ ap (λ rest. codes "name = \"" ++ rest) (append_assoc name (34 ∷ []) _)

-- those of an admitted vCPU
pub vcpu_pieces : (vcpu : Vcpu) (r : Reservation) → vcpu.reservation ≡ Some r
    → vcpu_text vcpu
    ≡ codes "\n[[vcpu]]\nname = \""
    ++ (vcpu.name
    ++ (codes "\"\nshare_ppm = " ++ (decimal r.share_ppm
    ++ (codes "\nlatency_ns = " ++ (decimal r.latency_ns
    ++ (codes "\nrunnable = " ++ (truth_word vcpu.runnable
    ++ (codes "\n" ++ text_of (capped_lines vcpu.capped)))))))))
unfolding vcpu_text line_of
vcpu_pieces vcpu r is = rw is
    (ap (λ rest. codes "\n[[vcpu]]\n" ++ rest)
    (admitted_pieces vcpu.name r (truth_word vcpu.runnable) (capped_lines vcpu.capped)))

-- one that isn't admitted has none
pub vcpu_without : (vcpu : Vcpu) → vcpu.reservation ≡ None → vcpu_text vcpu ≡ []
unfolding vcpu_text
vcpu_without vcpu is = rw is
