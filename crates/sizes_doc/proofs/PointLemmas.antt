-- Numbers with a point, of which the parts are read.
use Rattle.std.proofs.Common.{◌≡◌, ◌≢◌, codes, ℕ, ◌+◌, ◌*◌, List, ◌++◌, decimal, refl, ap, sym, subst, ◌∙◌}
use Rattle.std.specs.List.{All}
use Rattle.tab_words.specs.Numbers.{Spells}
use Rattle.sizes_doc.proofs.DecimalLemmas.{cut_once, number_no_point}
use Rattle.sizes_doc.specs.Inside.Held.{HoldsSaturated, IsSaturated}
use Rattle.sizes_doc.specs.Sizes.{AreDecimals, HasPoint}

-- what is before the point and after it makes a number with a point
pub pointed : (most factor : ℕ) (bytes before after : List ℕ) (number count held : ℕ) → bytes ≡ before ++ codes "." ++ after
    → Spells before number → AreDecimals most factor after count → IsSaturated (number * factor + count) held
    → HoldsSaturated (HasPoint most factor bytes) held
pointed most factor bytes before after number count held is spelled decimals kept = record {
  value = number * factor + count;
  is = record {
    number = number;
    decimals = after;
    count = count;
    fits = spelled.fits;
    after = decimals;
    written = is ∙ ap (λ (front : List ℕ). front ++ codes "." ++ after) spelled.digits;
    counted = refl;
  };
  kept = kept;
}

-- where the number before the first point, or the decimals after it, are none, there is no such number
pub not_before : (most factor : ℕ) (bytes before after : List ℕ) → bytes ≡ before ++ codes "." ++ after
    → All (λ byte. byte ≢ 46) before → ((n : ℕ) → Spells before n → ⊥) → (value : ℕ) → HasPoint most factor bytes value → ⊥
not_before most factor bytes before after is plain none value point =
    let parts = cut_once before after (decimal point.number) point.decimals plain
    (number_no_point point.number point.fits) (sym is ∙ point.written) in
    none point.number (record { fits = point.fits; digits = parts.0 })

pub not_after : (most factor : ℕ) (bytes before after : List ℕ) → bytes ≡ before ++ codes "." ++ after
    → All (λ byte. byte ≢ 46) before → ((n : ℕ) → AreDecimals most factor after n → ⊥) → (value : ℕ) → HasPoint most factor bytes value → ⊥
not_after most factor bytes before after is plain none value point =
    let parts = cut_once before after (decimal point.number) point.decimals plain
    (number_no_point point.number point.fits) (sym is ∙ point.written) in
    none point.count (subst (λ (d : List ℕ). AreDecimals most factor d point.count) (sym parts.1) point.after)
