use Rattle.std.proofs.Common.{◌≡◌, ◌+◌, [], ◌∷◌, length, length-append, arith, ap, ◌∙◌, sym, inl, inr}
use Rattle.std.proofs.lemmas.Bool.{cases_eq}
use Rattle.flow_net.specs.Flows.{fluid}
use Rattle.flow_net.specs.Inside.Demanded.{load}
use Rattle.flow_net.proofs.Cells.{push_rows, ticks-push_here, ticks-push_else}
use Rattle.flow_net.proofs.opening.opening_rows.Goals as goal

pub loop-i-preserved : goal.loop-i-preserved
loop-i-preserved c =
    let l = load c.args.demands.now in
    let rows = c.loop-i.rows.items in
    let row = c.in_ok-opening_row.field-0 in
    let inv = c.loop-i.invariant in
    let items = c.in_ok-push.ensures.items in
    record {
      len = rw items (length-append rows (row ∷ []) ∙ ap (λ n. n + 1) inv.len);
      widths = rw items (push_rows rows row c.loop-i.i (λ i r. length r
          ≡ l.width) inv.len inv.widths c.in_ok-opening_row.ensures.len);
      shares = λ v j a h. rw items (elim (cases_eq j c.loop-i.i) [
        | inl e ↦ ticks-push_here rows row j v (omega (arith, e, inv.len))
            ∙ c.in_ok-opening_row.ensures.shares v a ∙ ap (λ n. fluid l v n) (sym e)
        | inr ne ↦ ticks-push_else rows row j v (omega (arith, h, ne, inv.len))
            ∙ inv.shares v j a (omega (arith, h, ne))
      ]);
    }
