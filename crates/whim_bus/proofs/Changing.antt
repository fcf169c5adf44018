-- One row of a whim bus changed, as its text sees it. Assumes nothing.
use Rattle.std.proofs.Common.{◌≡◌, ℕ, ◌<◌, List, map, length, get_or, set, sym, ap, subst, ◌∙◌}
use Rattle.std.proofs.lemmas.List.{get_or-map, map-set}
use Rattle.shelf.specs.Model.{Model}
use Rattle.whim_bus.specs.declared.rows.Row.{Row as KeptRow}
use Rattle.whim_bus.specs.declared.state.Line.{Line}
use Rattle.whim_bus.specs.declared.state.Line.TheVariants.{Held}
use Rattle.whim_bus.specs.declared.state.WhimBus.{WhimBus}
use Rattle.whim_bus.specs.Rows.{Row, blank}
use Rattle.whim_bus.specs.State.{row, with_row, with_rows}
use Rattle.whim_bus.specs.Text.{on_row}
use Rattle.whim_bus.specs.View.{row_of, view}

-- the row of this number
pub row_at : (xs : List KeptRow) (k : ℕ) (d : KeptRow) → k < length xs → get_or (map row_of xs) k blank ≡ row_of (get_or xs k d)
row_at xs k d l = get_or-map row_of xs k d blank l

module _ {X : Type 0} (model : X → Model) (s : WhimBus X) (n : length s.rows ≡ 16) (f : Row → Row) (k p : ℕ) (x d : KeptRow) (e : row_of x ≡ f (row_of (get_or s.rows p d))) (q : p ≡ k) (l : p < 16) where
  pub changed : with_rows (map row_of (set s.rows p x)) (view model s) ≡ with_row k (f (row (view model s) k)) (view model s)
  changed =
      ap (λ (rs : List Row). with_rows rs (view model s))
      (map-set row_of s.rows p x
      ∙ ap (λ (r : Row). set (map row_of s.rows) p r) (e ∙ ap f (sym (row_at s.rows p d (subst (λ (m : ℕ). p < m) (sym n) l)))))
      ∙ ap (λ (j : ℕ). with_row j (f (row (view model s) j)) (view model s)) q

  -- the row that holds the line
  pub held_changed : s.line ≡ Held k → with_rows (map row_of (set s.rows p x)) (view model s) ≡ on_row f s.line (view model s)
  held_changed h = changed ∙ ap (λ (j : Line). on_row f j (view model s)) (sym h)
