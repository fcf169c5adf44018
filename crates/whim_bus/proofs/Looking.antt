-- What is looked for among the rows, in the library's words and in those of the text. Assumes nothing.
use Rattle.std.proofs.Common.{◌≡◌, ℕ, ◌+◌, Bool, true, false, cond, not, ◌&&◌, ◌||◌, ltb, leb, List, [], ◌∷◌, map, length, get_or, Some, None, Option, refl, sym, ap, ap₂, ◌∙◌, arith}
use Rattle.std.specs.List.{list_any, position_or_len, count_by}
use Rattle.std.specs.Option.{is_some, MatchOption}
use Rattle.std.proofs.lemmas.Bool.{lt-ltb, le-ltb, ltb-true, ltb-false, leb-true, leb-false}
use Rattle.std.proofs.lemmas.List.{length-map, get_or_past}
use Rattle.std.proofs.lemmas.List.Sums.{passes_at_first}
use Rattle.shelf.specs.declared.Way.{Way}
use Rattle.shelf.specs.declared.Way.TheVariants.{Out}
use Rattle.shelf.specs.Model.{Model}
use Rattle.bus.specs.State.{Name}
use Rattle.whim_bus.specs.declared.rows.Row.{Row as KeptRow}
use Rattle.whim_bus.specs.Rows.{Row, blank, is_open, is_empty, is_named}
use Rattle.whim_bus.specs.Means.{found}
use Rattle.whim_bus.specs.State.{Whim, odd}
use Rattle.whim_bus.specs.Showing.{is_out, coming_back}
use Rattle.whim_bus.specs.Refusing.{found_any, full}
use Rattle.whim_bus.specs.View.{row_of}

pub any_row : (p : Row → Bool) (xs : List KeptRow) → list_any (λ x. p (row_of x)) xs ≡ list_any p (map row_of xs)
any_row p [] = refl
any_row p (x ∷ xs) = ap (λ (b : Bool). p (row_of x) || b) (any_row p xs)

first_row : (p : Row → Bool) (xs : List KeptRow) → position_or_len (λ x. p (row_of x)) xs ≡ position_or_len p (map row_of xs)
first_row p [] = refl
first_row p (x ∷ xs) = ap (λ (n : ℕ). cond (not (p (row_of x))) (1 + n) 0) (first_row p xs)

pub goes_out : (w : Way) (a b : Bool) → w ≡ Out → a ≡ b → a ≡ is_out w && b
goes_out w a b e f = f ∙ ap (λ (x : Way). is_out x && b) (sym e)

-- the first that passes, if one does
abbrev pub passing : (Row → Bool) → List Row → Option ℕ
passing p rs = cond (ltb (position_or_len p rs) (length rs)) (Some (position_or_len p rs)) None

pub position_row : (p : Row → Bool) (xs : List KeptRow)
    → cond (ltb (position_or_len (λ x. p (row_of x)) xs) (length xs)) (Some (position_or_len (λ x. p (row_of x)) xs)) None ≡ passing p (map row_of xs)
position_row p xs =
    ap₂ (λ (n i : ℕ). cond (ltb i n) (Some i) None) (sym (length-map xs row_of)) (first_row p xs)

-- the place that is found is the number of a row
pub numbered : (p : Row → Bool) (rs : List Row) (o r : Option ℕ) → length rs ≡ 16 → o ≡ passing p rs → MatchOption o (r ≡ None) (λ i. r ≡ cond (ltb i 16) (Some i) None) → r ≡ passing p rs
numbered p rs None r n h m = m ∙ h
numbered p rs (Some i) r n h m = m ∙ go (ltb (position_or_len p rs) (length rs)) refl h ∙ h
  where
    go : (t : Bool) → ltb (position_or_len p rs) (length rs) ≡ t → Some i ≡ cond t (Some (position_or_len p rs)) None → cond (ltb i 16) (Some i) None ≡ Some i
    go true e h = let q : i ≡ position_or_len p rs = cc in ap (λ (b : Bool). cond b (Some i) None) (lt-ltb _ _ (omega (arith, ltb-true _ _ e, q, n)))
    go false e h = absurd cc

-- one passes exactly where the first passes
there : (p : Row → Bool) → p blank ≡ false → (rs : List Row) → ltb (position_or_len p rs) (length rs) ≡ p (get_or rs (position_or_len p rs) blank)
there p b rs = go (ltb (position_or_len p rs) (length rs)) refl
  where
    go : (t : Bool) → ltb (position_or_len p rs) (length rs) ≡ t → t ≡ p (get_or rs (position_or_len p rs) blank)
    go true e = sym (passes_at_first p rs blank (ltb-true _ _ e))
    go false e = sym (ap p (get_or_past rs (position_or_len p rs) blank (ltb-false _ _ e)) ∙ b)

pub passing_open : (w : Whim) → odd w.draw ≡ true → passing is_open w.rows ≡ coming_back w
passing_open w h = ap₂ (λ (s t : Bool). cond (s && t) (Some (position_or_len is_open w.rows)) None) (sym h) (there is_open refl w.rows)

module _ (m : Model) (rs : List Row) (n : Name) where
  -- the nexus of this name is open
  pub no_room : true ≡ list_any (is_named n) rs → None ≡ cond (is_some (found m rs n) || leb 16 (count_by is_open rs)) None (Some (position_or_len is_empty rs))
  no_room h = ap (λ (t : Bool). cond (t || leb 16 (count_by is_open rs)) None (Some (position_or_len is_empty rs))) (h ∙ sym (found_any m rs n))

  -- it is not
  pub room : length rs ≡ 16 → false ≡ list_any (is_named n) rs → passing is_empty rs ≡ cond (is_some (found m rs n) || leb 16 (count_by is_open rs)) None (Some (position_or_len is_empty rs))
  room l h =
      go (leb 16 (position_or_len is_empty rs)) refl
      ∙ ap₂ (λ (s t : Bool). cond (s || t) None (Some (position_or_len is_empty rs))) (h ∙ sym (found_any m rs n)) (sym (full rs l))
    where
      go : (t : Bool) → leb 16 (position_or_len is_empty rs) ≡ t → passing is_empty rs ≡ cond t None (Some (position_or_len is_empty rs))
      go true e = ap (λ (t : Bool). cond t (Some (position_or_len is_empty rs)) None) (le-ltb _ _ (omega (arith, leb-true _ _ e, l)))
      go false e = ap (λ (t : Bool). cond t (Some (position_or_len is_empty rs)) None) (lt-ltb _ _ (omega (arith, leb-false _ _ e, l)))
