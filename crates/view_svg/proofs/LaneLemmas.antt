-- A vCPU without a bar has no path.
use Rattle.std.proofs.Common.{arith, refl, ◌≡◌, ℕ, Bool, true, false, List, [], ◌∷◌}
use Rattle.std.proofs.lemmas.Grind.{common_steps}
use Rattle.std.specs.List.{list_any}
use Rattle.std.specs.Prelude.{◌==◌}
use Rattle.view_svg.specs.Drawings.{PaletteView}
use Rattle.view_svg.specs.Lanes.{is_bar_of, vcpu_paths}
use Rattle.view_svg.specs.declared.drawing.Band.{Band}
use Rattle.view_lanes.specs.declared.frame.Bar.{Bar}

-- without a bar there is none of a way of running
no_way : (v : ℕ) (shared : Bool) (bars : List Bar) → list_any (λ (bar : Bar). bar.key == v) bars ≡ false
    → list_any (is_bar_of v shared) bars ≡ false
no_way v shared [] none = refl
no_way v shared (bar ∷ bars) none =
    let one : (bar.key == v) ≡ false = grind (arith, common_steps, none) in
    let rest : list_any (λ (b : Bar). b.key == v) bars ≡ false = grind (arith, common_steps, none) in
    grind (arith, common_steps, one, no_way v shared bars rest)

-- without a bar there is no path
pub no_paths : (b : Band) (p : PaletteView) (bars : List Bar) (v : ℕ)
    → list_any (λ (bar : Bar). bar.key == v) bars ≡ false → vcpu_paths b p bars v ≡ []
no_paths b p bars v none = rw (no_way v false bars none, no_way v true bars none) refl
