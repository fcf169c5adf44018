-- The laws that hold by the form of a shelf's meaning, for every shelf. Assumes nothing.
use Rattle.std.proofs.Common.{◌≡◌, ℕ, Bool, false, cond, ◌&&◌, List, eqb, refl, ap₂}
use Rattle.shelf.specs.Model.{Kind, Model}
use Rattle.shelf.specs.Laws.{Owed, Laws}

-- each law of a shelf, where its way of answering keeps what it owes
pub lawful : (m : Model) → Owed m.kind → Laws m
lawful m o =
    record {
      owed = o;
      presence_stays = λ t l c o t'. refl;
      way_stays = λ t l c o t' l' d. refl;
      count_stays = λ t l c o t' l' d. refl;
      own_unit = λ t l c o t' l' e. other (eqb t' t && eqb l' l) _ _ e;
      byte_alone = λ n t l c i a. ap₂ (λ (k : Kind) (h : List ℕ). k.byte t l h c i) a.kind a.holds;
      status_alone = λ n t l c a. ap₂ (λ (k : Kind) (h : List ℕ). k.status t l h c) a.kind a.holds;
      change_alone = λ n t l c o a.
          ap₂ (λ (k : Kind) (h : List ℕ). cond (eqb t t && eqb l l) (k.after t l h c o) h) a.kind a.holds;
    }
  where
    other : (b : Bool) (x y : List ℕ) → b ≡ false → cond b x y ≡ y
    other b x y e = rw e refl
