-- Numbers with a unit after them.
use Rattle.std.proofs.Common.{◌≡◌, inl, inr, codes, [], ℕ, ◌<◌, List, ◌++◌, Option, Some, None, MatchOption, subst, sym, ◌∙◌, arith}
use Rattle.std.proofs.lemmas.List.{append_cancel_right}
use Rattle.tab_core.specs.declared.TheConstants.{MAX_LATENCY_NS, WHOLE_PPM}
use Rattle.sizes_doc.specs.Inside.Held.{HoldsSaturated}
use Rattle.sizes_doc.specs.Sizes.{HasPoint, IsBadLatency, IsBadShare, IsMeasure, IsNoShare, IsPercent, IsPercentage, IsShareAbove, IsShareWord, IsPointed, IsTime, IsTimeAbove, IsTimeIn, IsTimeOr}
use Rattle.sizes_doc.specs.declared.fault.Part.TheVariants as part

-- what holds a value of one kind holds it of a wider kind
pub held_of : (narrow wide : ℕ → Type 0) (held : ℕ) → ((n : ℕ) → narrow n → wide n) → HoldsSaturated narrow held
    → HoldsSaturated wide held
held_of narrow wide held wider holds = record {
  value = holds.value;
  is = wider holds.value holds.is;
  kept = holds.kept;
}

-- a word that is a time in no unit is none
pub no_time : (word : List ℕ) → ((n : ℕ) → IsTimeIn (codes "ms") 1000000 word n → ⊥)
    → ((n : ℕ) → IsTimeIn (codes "us") 1000 word n → ⊥) → ((n : ℕ) → IsTimeIn (codes "ns") 1 word n → ⊥)
    → ((n : ℕ) → IsTimeIn (codes "s") 1000000000 word n → ⊥) → (n : ℕ) → IsTime word n → ⊥
no_time word no_ms no_us no_ns no_s n is =
    elim is [
      | inl ms ↦ no_ms n ms
      | inr (inl us) ↦ no_us n us
      | inr (inr (inl ns)) ↦ no_ns n ns
      | inr (inr (inr s)) ↦ no_s n s
    ]

-- bytes that are neither a whole percentage nor one with a point are none
pub no_percentage : (bytes : List ℕ) → ((n : ℕ) → IsMeasure [] 10000 bytes n → ⊥)
    → ((n : ℕ) → HasPoint 4 10000 bytes n → ⊥) → (n : ℕ) → IsPercentage bytes n → ⊥
no_percentage bytes no_whole no_point n is = elim is [ inl whole ↦ no_whole n whole | inr point ↦ no_point n point ]

-- a word that is neither in percent nor in parts per million is none
pub no_part : (word : List ℕ) → ((n : ℕ) → IsPercent word n → ⊥)
    → ((n : ℕ) → IsMeasure (codes "ppm") 1 word n → ⊥) → (n : ℕ) → IsShareWord word n → ⊥
no_part word no_percent no_ppm n is = elim is [ inl percent ↦ no_percent n percent | inr ppm ↦ no_ppm n ppm ]

-- a percentage with its sign is what is before the sign
pub percent_before : (word bytes : List ℕ) (ppm : ℕ) → word ≡ bytes ++ codes "%" → (p : IsPercent word ppm)
    → p.bytes ≡ bytes
percent_before word bytes ppm is p = append_cancel_right p.bytes bytes (codes "%") (sym p.written ∙ is)

-- a share that is read as none is none
pub share_zero : (word : List ℕ) (ppm : ℕ) → HoldsSaturated (IsShareWord word) ppm → ppm ≡ 0 → IsBadShare word part.ShareZero
share_zero word ppm holds none =
    let same : ppm ≡ holds.value = holds.kept.exact (omega (arith, none)) in
    IsNoShare (subst (IsShareWord word) (sym same ∙ none) holds.is)

-- one that is read as more than the whole is above it
pub share_above : (word : List ℕ) (ppm : ℕ) → HoldsSaturated (IsShareWord word) ppm → WHOLE_PPM < ppm
    → IsBadShare word part.ShareAbove
share_above word ppm holds above = IsShareAbove holds.value holds.is (omega (arith, holds.kept.least, above))

-- a latency that is read as more than the bound is above it
pub latency_above : (word : List ℕ) (ns : ℕ) → HoldsSaturated (IsTime word) ns → MAX_LATENCY_NS < ns
    → IsBadLatency word part.LatencyAbove
latency_above word ns holds above = IsTimeAbove holds.value holds.is (omega (arith, holds.kept.least, above))

-- a percentage is whole or has a point
pub percentage_with : (bytes : List ℕ) (r : Option ℕ) → ((n : ℕ) → IsMeasure [] 10000 bytes n → ⊥)
    → MatchOption r ((n : ℕ) → HasPoint 4 10000 bytes n → ⊥) (HoldsSaturated (HasPoint 4 10000 bytes))
    → MatchOption r ((n : ℕ) → IsPercentage bytes n → ⊥) (HoldsSaturated (IsPercentage bytes))
percentage_with bytes None no_whole read = no_percentage bytes no_whole read
percentage_with bytes (Some held) no_whole read =
    held_of (HasPoint 4 10000 bytes) (λ n. IsPercentage bytes n) held (λ n is. inr is) read

-- one with its sign is one before the sign
pub percent_with : (word bytes : List ℕ) (r : Option ℕ) → word ≡ bytes ++ codes "%"
    → MatchOption r ((n : ℕ) → IsPercentage bytes n → ⊥) (HoldsSaturated (IsPercentage bytes))
    → MatchOption r ((n : ℕ) → IsPercent word n → ⊥) (HoldsSaturated (IsPercent word))
percent_with word bytes None is read = λ n p.
    read n (subst (λ (b : List ℕ). IsPercentage b n) (percent_before word bytes n is p) p.is)
percent_with word bytes (Some held) is read =
    held_of (λ n. IsPercentage bytes n) (IsPercent word) held
    (λ n of. record { bytes = bytes; written = is; is = of }) read

-- parts per million are in percent or by themselves
pub part_with : (word : List ℕ) (r : Option ℕ) → ((n : ℕ) → IsPercent word n → ⊥)
    → MatchOption r ((n : ℕ) → IsMeasure (codes "ppm") 1 word n → ⊥) (HoldsSaturated (IsMeasure (codes "ppm") 1 word))
    → MatchOption r ((n : ℕ) → IsShareWord word n → ⊥) (HoldsSaturated (IsShareWord word))
part_with word None no_percent read = no_part word no_percent read
part_with word (Some held) no_percent read =
    held_of (IsMeasure (codes "ppm") 1 word) (λ n. IsShareWord word n) held (λ n is. inr is) read

-- a time is in one of four units
pub time_with : (word : List ℕ) (r : Option ℕ) → ((n : ℕ) → IsTimeIn (codes "ms") 1000000 word n → ⊥)
    → ((n : ℕ) → IsTimeIn (codes "us") 1000 word n → ⊥) → ((n : ℕ) → IsTimeIn (codes "ns") 1 word n → ⊥)
    → MatchOption r ((n : ℕ) → IsTimeIn (codes "s") 1000000000 word n → ⊥)
    (HoldsSaturated (IsTimeIn (codes "s") 1000000000 word))
    → MatchOption r ((n : ℕ) → IsTime word n → ⊥) (HoldsSaturated (IsTime word))
time_with word None no_ms no_us no_ns read = no_time word no_ms no_us no_ns read
time_with word (Some held) no_ms no_us no_ns read =
    held_of (IsTimeIn (codes "s") 1000000000 word) (λ n. IsTime word n) held (λ n is. inr (inr (inr is))) read

-- a time with a point is what is before its unit
pub pointed_before : (unit : List ℕ) (factor : ℕ) (word bytes : List ℕ) (ns : ℕ) → word ≡ bytes ++ unit
    → (p : IsPointed unit factor word ns) → p.bytes ≡ bytes
pointed_before unit factor word bytes ns is p = append_cancel_right p.bytes bytes unit (sym p.written ∙ is)

-- one with a unit is one before the unit
pub pointed_with : (unit : List ℕ) (factor : ℕ) (word bytes : List ℕ) (r : Option ℕ) → word ≡ bytes ++ unit
    → MatchOption r ((n : ℕ) → HasPoint 9 factor bytes n → ⊥) (HoldsSaturated (HasPoint 9 factor bytes))
    → MatchOption r ((n : ℕ) → IsPointed unit factor word n → ⊥) (HoldsSaturated (IsPointed unit factor word))
pointed_with unit factor word bytes None is read = λ n p.
    read n (subst (λ (b : List ℕ). HasPoint 9 factor b n) (pointed_before unit factor word bytes n is p) p.is)
pointed_with unit factor word bytes (Some held) is read =
    held_of (HasPoint 9 factor bytes) (IsPointed unit factor word) held
    (λ n of. record { bytes = bytes; written = is; is = of }) read

-- a time in a unit is a whole number of it, or has a point
pub time_in_with : (unit : List ℕ) (factor : ℕ) (word : List ℕ) (r : Option ℕ)
    → ((n : ℕ) → IsMeasure unit factor word n → ⊥)
    → MatchOption r ((n : ℕ) → IsPointed unit factor word n → ⊥) (HoldsSaturated (IsPointed unit factor word))
    → MatchOption r ((n : ℕ) → IsTimeIn unit factor word n → ⊥) (HoldsSaturated (IsTimeIn unit factor word))
time_in_with unit factor word None no_whole read = λ n is.
    elim is [ inl whole ↦ no_whole n whole | inr point ↦ read n point ]
time_in_with unit factor word (Some held) no_whole read =
    held_of (IsPointed unit factor word) (λ n. IsTimeIn unit factor word n) held (λ n is. inr is) read

-- a time may be a number without a unit
pub time_or_with : (factor : ℕ) (word : List ℕ) (r : Option ℕ) → ((n : ℕ) → IsMeasure [] factor word n → ⊥)
    → MatchOption r ((n : ℕ) → IsTime word n → ⊥) (HoldsSaturated (IsTime word))
    → MatchOption r ((n : ℕ) → IsTimeOr factor word n → ⊥) (HoldsSaturated (IsTimeOr factor word))
time_or_with factor word None no_number read = λ n is.
    elim is [ inl number ↦ no_number n number | inr time ↦ read n time ]
time_or_with factor word (Some held) no_number read =
    held_of (λ n. IsTime word n) (λ n. IsTimeOr factor word n) held (λ n is. inr is) read
