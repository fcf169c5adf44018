-- All rows emptied one by one. Assumes nothing.
use Rattle.std.proofs.Common.{◌≡◌, ℕ, ◌+◌, ◌<◌, ◌≤◌, List, map, ◌++◌, length, get_or, take, drop, set, sym, subst, ap, ap₂, ◌∙◌, take_all}
use Rattle.std.proofs.lemmas.List.{get_or-map, map-set, length-map, drop_all, append-nil}
use Rattle.std.proofs.lemmas.List.Edits.{map_over_more}
use Rattle.whim_bus.specs.declared.rows.Row.{Row as KeptRow}
use Rattle.whim_bus.specs.Rows.{Row, emptied}
use Rattle.whim_bus.specs.View.{row_of}

-- the rows ys are xs with those before i emptied
abbrev pub Cleared : List KeptRow → ℕ → List KeptRow → Type 0
Cleared xs i ys = map row_of ys ≡ map emptied (take i (map row_of xs)) ++ drop i (map row_of xs)

pub clear_more : (xs ys : List KeptRow) (i : ℕ) (y d : KeptRow) → i < length xs → length ys ≡ length xs → Cleared xs i ys → row_of y ≡ emptied (row_of (get_or ys i d))
    → Cleared xs (i + 1) (set ys i y)
clear_more xs ys i y d l n h e =
    map-set row_of ys i y
    ∙ ap (λ (r : Row). set (map row_of ys) i r) e
    ∙ map_over_more emptied (map row_of xs) (map row_of ys) i (row_of (get_or ys i d)) (subst (λ (m : ℕ). i < m) (sym (length-map xs row_of)) l) h
    (sym (get_or-map row_of ys i d (row_of (get_or ys i d)) (subst (λ (m : ℕ). i < m) (sym n) l)))

pub clear_all : (xs ys : List KeptRow) (i : ℕ) → length xs ≤ i → Cleared xs i ys → map row_of ys ≡ map emptied (map row_of xs)
clear_all xs ys i l h =
    let past : length (map row_of xs) ≤ i = subst (λ (m : ℕ). m ≤ i) (sym (length-map xs row_of)) l in
    h
    ∙ ap₂ (λ (p q : List Row). map emptied p ++ q) (take_all i (map row_of xs) past) (drop_all i (map row_of xs) past)
    ∙ append-nil (map emptied (map row_of xs))
