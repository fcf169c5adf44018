-- The laws that every shelf shows. Assumes nothing.
use Rattle.std.specs.Prelude.{ℕ, ◌≤◌, ◌≡◌, false, ◌&&◌, List, eqb}
use Rattle.shelf.specs.declared.Way.TheVariants.{Still, Out}
use Rattle.shelf.specs.Model.{Kind, Model, is_present, way_of, count_of, byte_of, status_of, finished}

-- what a way of answering owes
pub record Owed (k : Kind) : Type 0 where
  -- a command moves at most 2,048 bytes, and none where its way is none
  pub small : (t l : ℕ) (c : List ℕ) → k.count t l c ≤ 2048
  pub still : (t l : ℕ) (c : List ℕ) → k.way t l c ≡ Still → k.count t l c ≡ 0
  -- only an out command with status 00h changes anything
  pub only_out : (t l : ℕ) (h c o : List ℕ) → (k.way t l c ≡ Out → ⊥) → k.after t l h c o ≡ h
  pub only_good : (t l : ℕ) (h c o : List ℕ) → (k.status t l h c ≡ 0 → ⊥) → k.after t l h c o ≡ h

-- two shelves whose units answer alike, and which hold the same in this unit
pub record Alike (a b : Model) (t l : ℕ) : Type 0 where
  pub kind : a.kind ≡ b.kind
  pub holds : a.holds t l ≡ b.holds t l

-- all laws of a shelf
pub record Laws (m : Model) : Type 0 where
  pub owed : Owed m.kind
  -- presence, way and count stay equal whatever is finished
  pub presence_stays : (t l : ℕ) (c o : List ℕ) (t' : ℕ) → is_present (finished m t l c o) t' ≡ is_present m t'
  pub way_stays : (t l : ℕ) (c o : List ℕ) (t' l' : ℕ) (d : List ℕ) → way_of (finished m t l c o) t' l' d ≡ way_of m t' l' d
  pub count_stays : (t l : ℕ) (c o : List ℕ) (t' l' : ℕ) (d : List ℕ) → count_of (finished m t l c o) t' l' d ≡ count_of m t' l' d
  -- finishing changes its own unit and no other
  pub own_unit : (t l : ℕ) (c o : List ℕ) (t' l' : ℕ) → (eqb t' t && eqb l' l) ≡ false → (finished m t l c o).holds t' l' ≡ m.holds t' l'
  -- answers about a unit, and its change, depend on it alone
  pub byte_alone : (n : Model) (t l : ℕ) (c : List ℕ) (i : ℕ) → Alike m n t l → byte_of m t l c i ≡ byte_of n t l c i
  pub status_alone : (n : Model) (t l : ℕ) (c : List ℕ) → Alike m n t l → status_of m t l c ≡ status_of n t l c
  pub change_alone : (n : Model) (t l : ℕ) (c o : List ℕ) → Alike m n t l → (finished m t l c o).holds t l ≡ (finished n t l c o).holds t l
