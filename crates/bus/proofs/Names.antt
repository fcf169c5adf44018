-- Names of nexuses are told apart by their parts. Assumes nothing.
use Rattle.std.proofs.Common.{◌≡◌, ℕ, Bool, true, false, cond, eqb, Some, None, Option, refl, ap}
use Rattle.std.proofs.lemmas.Bool.{eq-eqb, eqb-true, and_from, and_parts, false≢true}
use Rattle.bus.specs.State.{Name, Nexus, same_tag, same_name, put}

same_tag_refl : (g : Option ℕ) → same_tag g g ≡ true
same_tag_refl None = refl
same_tag_refl (Some a) = eq-eqb a a refl

pub same_name_refl : (n : Name) → same_name n n ≡ true
same_name_refl n = and_from _ _ (eq-eqb n.target n.target refl) (and_from _ _ (eq-eqb n.lun n.lun refl) (same_tag_refl n.tag))

-- what is put under a name is found there
pub put_here : (n : Name) (o : Option Nexus) (f : Name → Option Nexus) → put n o f n ≡ o
put_here n o f = ap (λ (b : Bool). cond b o (f n)) (same_name_refl n)

-- what is put last under a name counts
pub put_again : (n : Name) (o p : Option Nexus) (f : Name → Option Nexus) (m : Name) → put n o (put n p f) m ≡ put n o f m
put_again n o p f m = go (same_name m n)
  where
    go : (b : Bool) → cond b o (cond b p (f m)) ≡ cond b o (f m)
    go true = refl
    go false = refl

-- where one name alone has a nexus, it is that one
pub put_only : (n : Name) (x : Nexus) (m : Name) (y : Nexus) → put n (Some x) (λ k. None) m ≡ Some y → x ≡ y
put_only n x m y e = go (same_name m n) e
  where
    go : (b : Bool) → cond b (Some x) None ≡ Some y → x ≡ y
    go true e = cc
    go false e = absurd cc

same_tag_is : (a b : Option ℕ) → same_tag a b ≡ true → a ≡ b
same_tag_is None None h = refl
same_tag_is None (Some b) h = absurd (false≢true h)
same_tag_is (Some a) None h = absurd (false≢true h)
same_tag_is (Some a) (Some b) h = ap Some (eqb-true a b h)

-- names that pass for one are one
pub same_name_is : (a b : Name) → same_name a b ≡ true → a ≡ b
same_name_is a b h =
    let p = and_parts (eqb a.target b.target) _ h in
    let q = and_parts (eqb a.lun b.lun) (same_tag a.tag b.tag) p.1 in
    λ i. record { target = eqb-true a.target b.target p.0 i; lun = eqb-true a.lun b.lun q.0 i; tag = same_tag_is a.tag b.tag q.1 i }

pub apart_name : (a b : Name) → (a ≡ b → ⊥) → same_name a b ≡ false
apart_name a b h = go (same_name a b) refl
  where
    go : (t : Bool) → same_name a b ≡ t → t ≡ false
    go true e = absurd (h (same_name_is a b e))
    go false e = refl

-- nothing else changes
pub put_there : (n : Name) (o : Option Nexus) (f : Name → Option Nexus) (m : Name) → same_name m n ≡ false → put n o f m ≡ f m
put_there n o f m h = ap (λ (b : Bool). cond b o (f m)) h
