-- Rows that are looked up by name, and one of them changed. Assumes nothing.
use Rattle.std.specs.Prelude.{◌≡◌, ℕ, zero, suc, ◌+◌, ◌-◌, ◌<◌, Bool, true, false, cond, not, ◌&&◌, ◌||◌, List, [], ◌∷◌, map, length, Some, None, Option, ◌==◌, slice_index_or, slice_set, refl}
use Rattle.std.specs.List.{list_any, count_by}
use Rattle.std.proofs.Common.{sym, ap, ap₂, subst, ◌∙◌, ⊎_elim, arith}
use Rattle.std.proofs.lemmas.List.{get_or_past, set_past}
use Rattle.std.proofs.lemmas.List.Folds.{list_any_at}
use Rattle.std.proofs.lemmas.List.Sums.{sum_by-cons, sum_by-set}
use Rattle.std.proofs.lemmas.Bool.{cases_lt, eqb-true, and_parts, and_from, or_parts, not-true, false≢true}
use Rattle.shelf.specs.Model.{Model}
use Rattle.bus.specs.State.{Name, Nexus, same_tag, same_name, put}
use Rattle.bus.proofs.Names.{same_name_refl}
use Rattle.whim_bus.specs.Rows.{Row, blank, row_name, is_open, is_named, emptied}
use Rattle.whim_bus.specs.Means.{nexus, found, apart}

---- names

tag_eq : (a b : Option ℕ) → same_tag a b ≡ true → a ≡ b
tag_eq None None h = refl
tag_eq None (Some b) h = absurd (false≢true h)
tag_eq (Some a) None h = absurd (false≢true h)
tag_eq (Some a) (Some b) h = ap Some (eqb-true a b h)

pub name_eq : (a b : Name) → same_name a b ≡ true → a ≡ b
name_eq a b h =
    let p = and_parts (a.target == b.target) _ h in
    let q = and_parts (a.lun == b.lun) _ p.1 in
    λ i. record { target = eqb-true _ _ p.0 i; lun = eqb-true _ _ q.0 i; tag = tag_eq a.tag b.tag q.1 i }

---- no row but the one of this number has the name

abbrev pub Alone : ℕ → Name → List Row → Type 0
Alone k n [] = Unit {0}
Alone zero n (r ∷ rs) = list_any (is_named n) rs ≡ false
Alone (suc k) n (r ∷ rs) = (is_named n r ≡ false) × Alone k n rs

-- a name that no row has
pub absent_alone : (k : ℕ) (n : Name) (rs : List Row) → list_any (is_named n) rs ≡ false → Alone k n rs
absent_alone k n [] h = tt
absent_alone zero n (r ∷ rs) h = (or_parts (is_named n r) _ h).1
absent_alone (suc k) n (r ∷ rs) h = ((or_parts (is_named n r) _ h).0, absent_alone k n rs (or_parts (is_named n r) _ h).1)

-- an open row is one of the rows
pub open_below : (k : ℕ) (rs : List Row) → is_open (slice_index_or rs k blank) ≡ true → k < length rs
open_below k rs o = ⊎_elim (λ l. l) (λ l. absurd (false≢true (sym (ap is_open (get_or_past rs k blank l)) ∙ o))) (cases_lt k (length rs))

named_itself : (r : Row) → is_open r ≡ true → is_named (row_name r) r ≡ true
named_itself r h = and_from (is_open r) _ h (same_name_refl (row_name r))

-- the name of an open row, where open rows have different names
pub open_alone : (k : ℕ) (rs : List Row) → apart rs ≡ true → is_open (slice_index_or rs k blank) ≡ true → Alone k (row_name (slice_index_or rs k blank)) rs
open_alone k [] a h = tt
open_alone zero (r ∷ rs) a h =
    let p : not (is_open r && list_any (is_named (row_name r)) rs) ≡ true = (and_parts (not (is_open r && list_any (is_named (row_name r)) rs)) _ a).0 in
    ap (λ (t : Bool). t && list_any (is_named (row_name r)) rs) (sym h) ∙ not-true _ p
open_alone (suc k) (r ∷ rs) a h =
    let p = and_parts (not (is_open r && list_any (is_named (row_name r)) rs)) _ a in
    (other (is_named (row_name (slice_index_or rs k blank)) r) refl (not-true _ p.0), open_alone k rs p.1 h)
  where
    other : (t : Bool) → is_named (row_name (slice_index_or rs k blank)) r ≡ t → is_open r && list_any (is_named (row_name r)) rs ≡ false → t ≡ false
    other false e f = refl
    other true e f =
        let q = and_parts (is_open r) _ e in
        let same : row_name (slice_index_or rs k blank) ≡ row_name r = name_eq _ _ q.1 in
        let there : list_any (is_named (row_name r)) rs ≡ true = list_any_at (is_named (row_name r)) rs k blank (open_below k rs h) (subst (λ (n : Name). is_named n (slice_index_or rs k blank) ≡ true) same (named_itself (slice_index_or rs k blank) h)) in
        sym (sym f ∙ and_from _ _ q.0 there)

---- the look-up

pub found_none : (m : Model) (rs : List Row) (n : Name) → list_any (is_named n) rs ≡ false → found m rs n ≡ None
found_none m [] n h = refl
found_none m (r ∷ rs) n h =
    let p = or_parts (is_named n r) _ h in
    ap (λ (t : Bool). cond t (Some (nexus m r)) (found m rs n)) p.0 ∙ found_none m rs n p.1

pub found_here : (m : Model) (k : ℕ) (rs : List Row) → is_open (slice_index_or rs k blank) ≡ true → Alone k (row_name (slice_index_or rs k blank)) rs
    → found m rs (row_name (slice_index_or rs k blank)) ≡ Some (nexus m (slice_index_or rs k blank))
found_here m k [] h a = absurd (false≢true h)
found_here m zero (r ∷ rs) h a = ap (λ (t : Bool). cond t (Some (nexus m r)) (found m rs (row_name r))) (named_itself r h)
found_here m (suc k) (r ∷ rs) h a =
    ap (λ (t : Bool). cond t (Some (nexus m r)) (found m rs (row_name (slice_index_or rs k blank)))) a.0 ∙ found_here m k rs h a.1

-- the nexus that a row has, if any
abbrev pub nexus_in : Model → Row → Option Nexus
nexus_in m r = cond (is_open r) (Some (nexus m r)) None

-- a row that had no nexus, or one of the same name, is changed
pub found_set : (m : Model) (k : ℕ) (rs : List Row) (r' : Row) → k < length rs → Alone k (row_name r') rs
    → (is_open (slice_index_or rs k blank) ≡ true → row_name (slice_index_or rs k blank) ≡ row_name r')
    → (j : Name) → found m (slice_set rs k r') j ≡ put (row_name r') (nexus_in m r') (found m rs) j
found_set m k [] r' l a s j = absurd (omega arith)
found_set m zero (r ∷ rs) r' l a s j = go (same_name j (row_name r')) refl (is_open r')
  where
    -- the old row has no other name
    stale : same_name j (row_name r') ≡ false → (t : Bool) → is_named j r ≡ t → t ≡ false
    stale e false f = refl
    stale e true f =
        let q = and_parts (is_open r) _ f in
        sym (sym e ∙ subst (λ (n : Name). same_name j n ≡ true) (s q.0) q.1)

    go : (t : Bool) → same_name j (row_name r') ≡ t → (o : Bool)
        → cond (o && t) (Some (nexus m r')) (found m rs j) ≡ cond t (cond o (Some (nexus m r')) None) (cond (is_named j r) (Some (nexus m r)) (found m rs j))
    go true e true = refl
    go true e false = found_none m rs j (subst (λ (n : Name). list_any (is_named n) rs ≡ false) (sym (name_eq j (row_name r') e)) a)
    go false e true = sym (ap (λ (t : Bool). cond t (Some (nexus m r)) (found m rs j)) (stale e (is_named j r) refl))
    go false e false = sym (ap (λ (t : Bool). cond t (Some (nexus m r)) (found m rs j)) (stale e (is_named j r) refl))
found_set m (suc k) (r ∷ rs) r' l a s j =
    ap (λ (o : Option Nexus). cond (is_named j r) (Some (nexus m r)) o) (found_set m k rs r' (omega arith) a.1 s j)
    ∙ go (same_name j (row_name r')) refl
  where
    go : (t : Bool) → same_name j (row_name r') ≡ t
        → cond (is_named j r) (Some (nexus m r)) (cond t (nexus_in m r') (found m rs j)) ≡ cond t (nexus_in m r') (cond (is_named j r) (Some (nexus m r)) (found m rs j))
    go true e =
        ap (λ (t : Bool). cond t (Some (nexus m r)) (nexus_in m r'))
        (subst (λ (n : Name). is_named n r ≡ false) (sym (name_eq j (row_name r') e)) a.0)
    go false e = refl

---- how many are open

-- what one row adds to the count
abbrev one : Bool → ℕ
one t = cond t 1 0

-- row k of rs is changed to r'
module _ (k : ℕ) (rs : List Row) (r' : Row) where
  recount : k < length rs → count_by is_open (slice_set rs k r') + one (is_open (slice_index_or rs k blank)) ≡ count_by is_open rs + one (is_open r')
  recount l = sum_by-set (λ r. one (is_open r)) rs k r' blank l

  pub number_same : is_open r' ≡ is_open (slice_index_or rs k blank) → count_by is_open (slice_set rs k r') ≡ count_by is_open rs
  number_same h = ⊎_elim (λ l. omega (arith, recount l, ap one h)) (λ p. ap (count_by is_open) (set_past rs k r' p)) (cases_lt k (length rs))

  pub number_more : k < length rs → is_open (slice_index_or rs k blank) ≡ false → is_open r' ≡ true → count_by is_open (slice_set rs k r') ≡ suc (count_by is_open rs)
  number_more l h o = omega (arith, recount l, ap one h, ap one o)

  pub number_less : is_open (slice_index_or rs k blank) ≡ true → is_open r' ≡ false → count_by is_open (slice_set rs k r') ≡ count_by is_open rs - 1
  number_less h o = omega (arith, recount (open_below k rs h), ap one h, ap one o)

---- open rows keep different names

any_set : (p : Row → Bool) (k : ℕ) (rs : List Row) (r' : Row) → list_any p rs ≡ false → p r' ≡ false → list_any p (slice_set rs k r') ≡ false
any_set p k [] r' h o = refl
any_set p zero (r ∷ rs) r' h o = ap₂ (λ (a b : Bool). a || b) o (or_parts (p r) _ h).1
any_set p (suc k) (r ∷ rs) r' h o = ap₂ (λ (a b : Bool). a || b) (or_parts (p r) _ h).0 (any_set p k rs r' (or_parts (p r) _ h).1 o)

pub apart_set : (k : ℕ) (rs : List Row) (r' : Row) → apart rs ≡ true → Alone k (row_name r') rs → apart (slice_set rs k r') ≡ true
apart_set k [] r' h a = refl
apart_set zero (r ∷ rs) r' h a =
    and_from _ _ (ap (λ (t : Bool). not (is_open r' && t)) a ∙ no_more (is_open r')) (and_parts (not (is_open r && list_any (is_named (row_name r)) rs)) _ h).1
  where
    no_more : (t : Bool) → not (t && false) ≡ true
    no_more true = refl
    no_more false = refl
apart_set (suc k) (r ∷ rs) r' h a =
    let p = and_parts (not (is_open r && list_any (is_named (row_name r)) rs)) _ h in
    and_from _ _ (go (is_open r) refl (not-true _ p.0)) (apart_set k rs r' p.1 a.1)
  where
    strange : is_open r ≡ true → (t : Bool) → is_named (row_name r) r' ≡ t → t ≡ false
    strange o false e = refl
    strange o true e =
        let q = and_parts (is_open r') _ e in
        let same : row_name r ≡ row_name r' = name_eq _ _ q.1 in
        sym (sym a.0 ∙ subst (λ (n : Name). is_named n r ≡ true) same (named_itself r o))

    go : (t : Bool) → is_open r ≡ t → t && list_any (is_named (row_name r)) rs ≡ false → not (t && list_any (is_named (row_name r)) (slice_set rs k r')) ≡ true
    go false o e = refl
    go true o e = ap not (any_set (is_named (row_name r)) k rs r' e (strange o (is_named (row_name r) r') refl))

---- all rows emptied

pub found_cleared : (m : Model) (rs : List Row) (n : Name) → found m (map emptied rs) n ≡ None
found_cleared m [] n = refl
found_cleared m (r ∷ rs) n = found_cleared m rs n

pub number_cleared : (rs : List Row) → count_by is_open (map emptied rs) ≡ 0
number_cleared [] = refl
number_cleared (r ∷ rs) = omega (arith, sum_by-cons (λ r. one (is_open r)) (emptied r) (map emptied rs), number_cleared rs)

pub apart_cleared : (rs : List Row) → apart (map emptied rs) ≡ true
apart_cleared [] = refl
apart_cleared (r ∷ rs) = apart_cleared rs
