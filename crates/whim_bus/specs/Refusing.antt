-- Which greetings are refused, by what is kept of the rows. Assumes nothing.
use Rattle.std.specs.Prelude.{◌≡◌, ℕ, suc, ◌+◌, ◌<◌, Bool, true, false, cond, not, ◌||◌, leb, ◌⊎◌, List, [], ◌∷◌, length, is_some, Some, nat_le, refl}
use Rattle.std.specs.List.{list_any, position_or_len, count_by}
use Rattle.std.proofs.Common.{sym, ap, ◌∙◌, inl, inr, ⊎_elim, arith}
use Rattle.std.proofs.lemmas.Bool.{lt-leb}
use Rattle.std.proofs.lemmas.List.Sums.{sum_by-cons}
use Rattle.shelf.specs.Model.{Model}
use Rattle.bus.specs.State.{Name}
use Rattle.whim_bus.specs.Rows.{Row, is_open, is_empty, is_named}
use Rattle.whim_bus.specs.Means.{nexus, found}

pub found_any : (m : Model) (rs : List Row) (n : Name) → is_some (found m rs n) ≡ list_any (is_named n) rs
found_any m [] n = refl
found_any m (r ∷ rs) n = go (is_named n r) (found_any m rs n)
  where
    go : (t : Bool) → is_some (found m rs n) ≡ list_any (is_named n) rs → is_some (cond t (Some (nexus m r)) (found m rs n)) ≡ t || list_any (is_named n) rs
    go true h = refl
    go false h = h

-- either an empty row is found and not all are open, or neither
pub room_or_none : (rs : List Row)
    → ((count_by is_open rs < length rs) × (position_or_len is_empty rs < length rs)) ⊎ ((count_by is_open rs ≡ length rs) × (position_or_len is_empty rs ≡ length rs))
room_or_none [] = inr (refl, refl)
room_or_none (r ∷ rs) = go (is_open r) (sum_by-cons (λ r. cond (is_open r) 1 0) r rs) (room_or_none rs)
  where
    go : (t : Bool) → count_by is_open (r ∷ rs) ≡ cond t 1 0 + count_by is_open rs
        → ((count_by is_open rs < length rs) × (position_or_len is_empty rs < length rs)) ⊎ ((count_by is_open rs ≡ length rs) × (position_or_len is_empty rs ≡ length rs))
        → ((count_by is_open (r ∷ rs) < suc (length rs)) × (cond (not (not t)) (1 + position_or_len is_empty rs) 0 < suc (length rs)))
        ⊎ ((count_by is_open (r ∷ rs) ≡ suc (length rs)) × (cond (not (not t)) (1 + position_or_len is_empty rs) 0 ≡ suc (length rs)))
    go true e (inl p) = inl (omega arith, omega arith)
    go true e (inr p) = inr (omega arith, omega arith)
    go false e (inl p) = inl (omega arith, omega arith)
    go false e (inr p) = inl (omega arith, omega arith)

pub full : (rs : List Row) → length rs ≡ 16 → nat_le 16 (count_by is_open rs) ≡ nat_le 16 (position_or_len is_empty rs)
full rs e =
    ⊎_elim (λ p. lt-leb 16 (count_by is_open rs) (omega arith) ∙ sym (lt-leb 16 (position_or_len is_empty rs) (omega arith)))
    (λ p. ap (λ (n : ℕ). leb 16 n) (p.0 ∙ sym p.1)) (room_or_none rs)
