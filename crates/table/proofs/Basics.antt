-- Facts on slots by number, chains, names and first bytes. Assumes nothing.
use Rattle.std.proofs.Common.{◌≡◌, ℕ, zero, suc, ◌+◌, ◌-◌, ◌≤◌, Bool, true, false, cond, not, ◌&&◌, ◌||◌, eqb, leb, List, [], ◌∷◌, ◌++◌, length, take, Some, None, Option, sym, refl, ap, ◌∙◌, subst, add-one, arith, length-append}
use Rattle.std.proofs.Math.Bool.{and-false, or-false}
use Rattle.std.proofs.Math.Seq.{take-length, take-nil}
use lib.Seq.{take-append-le}
use Rattle.std.proofs.lemmas.Bool.{and_parts, and_from, or_parts, or_from, or_right, eqb-true, eqb-false, eq-eqb, ne_eqb, leb-true, le-leb, both_ways}
use Rattle.shelf.specs.Serving.{firsts, outs}
use Rattle.shelf.specs.declared.Way.{Way}
use Rattle.shelf.specs.declared.Way.TheVariants.{Still, In, Out}
use Rattle.table.specs.Sound.{Once}
use Rattle.table.specs.Engine.{Entry, every, tally, or_else, seek, first_of, without, stands_on, put_slot, numbered}

-- impossible tests
pub wrong : {A : Type 0} → (t : Bool) → t ≡ true → t ≡ false → A
wrong t p q = absurd (both_ways t q p)

-- a property of each slot, after one was changed
pub put_cases : (P : ℕ → Entry → Type 0) (k : ℕ) (x : Entry) (f : ℕ → Entry) → P k x → ((j : ℕ) → (j ≡ k → ⊥) → P j (f j))
    → (j : ℕ) → P j (put_slot k x f j)
put_cases P k x f h others j = go (eqb j k) refl
  where
    go : (t : Bool) → eqb j k ≡ t → P j (cond t x (f j))
    go true e = subst (λ (i : ℕ). P i x) (sym (eqb-true j k e)) h
    go false e = others j (eqb-false j k e)

pub put_here : {A : Type 0} (k : ℕ) (x y : A) → cond (eqb k k) x y ≡ x
put_here k x y = ap (λ (t : Bool). cond t x y) (eq-eqb k k refl)

pub put_there : {A : Type 0} (j k : ℕ) (x y : A) → (j ≡ k → ⊥) → cond (eqb j k) x y ≡ y
put_there j k x y h = ap (λ (t : Bool). cond t x y) (ne_eqb j k h)

-- the slots are 1 to 16
pub numbered_is : (k : ℕ) → numbered k ≡ true → (1 ≤ k) × (k ≤ 16)
numbered_is k h = let p = and_parts (leb 1 k) (leb k 16) h in (leb-true 1 k p.0, leb-true k 16 p.1)

pub is_numbered : (k : ℕ) → 1 ≤ k → k ≤ 16 → numbered k ≡ true
is_numbered k a b = and_from _ _ (le-leb 1 k a) (le-leb k 16 b)

-- all slots, the first of them, how many
pub every_at : (n : ℕ) (p : ℕ → Bool) → every n p ≡ true → (k : ℕ) → 1 ≤ k → k ≤ n → p k ≡ true
unfolding every
every_at zero p h k a b = absurd (omega arith)
every_at (suc n) p h k a b =
    let q = and_parts (p (suc n)) (every n p) h in
    go (eqb k (suc n)) refl (every_at n p q.1 k a) q.0
  where
    go : (t : Bool) → eqb k (suc n) ≡ t → (k ≤ n → p k ≡ true) → p (suc n) ≡ true → p k ≡ true
    go true e ih here = subst (λ (i : ℕ). p i ≡ true) (sym (eqb-true k (suc n) e)) here
    go false e ih here = let ne = eqb-false k (suc n) e in ih (omega arith)

pub seek_some : (n : ℕ) (p : ℕ → Bool) (k : ℕ) → seek n p ≡ Some k → p k ≡ true
unfolding seek
seek_some zero p k h = absurd cc
seek_some (suc n) p k h = go (seek n p) (p (suc n)) refl refl (seek_some n p k) h
  where
    go : (o : Option ℕ) (t : Bool) → seek n p ≡ o → p (suc n) ≡ t → (seek n p ≡ Some k → p k ≡ true)
        → or_else o (cond t (Some (suc n)) None) ≡ Some k → p k ≡ true
    go (Some j) t e f ih h = ih (e ∙ h)
    go None true e f ih h = let q : suc n ≡ k = cc in subst (λ (i : ℕ). p i ≡ true) q f
    go None false e f ih h = absurd cc

pub seek_none : (n : ℕ) (p : ℕ → Bool) → seek n p ≡ None → (k : ℕ) → 1 ≤ k → k ≤ n → p k ≡ false
unfolding seek
seek_none zero p h k a b = absurd (omega arith)
seek_none (suc n) p h k a b = go (seek n p) (p (suc n)) refl refl (λ e. seek_none n p e k a) h
  where
    go : (o : Option ℕ) (t : Bool) → seek n p ≡ o → p (suc n) ≡ t → (seek n p ≡ None → k ≤ n → p k ≡ false)
        → or_else o (cond t (Some (suc n)) None) ≡ None → p k ≡ false
    go (Some j) t e f ih h = absurd cc
    go None true e f ih h = absurd cc
    go None false e f ih h = at (eqb k (suc n)) refl
      where
        at : (t : Bool) → eqb k (suc n) ≡ t → p k ≡ false
        at true q = subst (λ (i : ℕ). p i ≡ false) (sym (eqb-true k (suc n) q)) f
        at false q = let ne = eqb-false k (suc n) q in ih e (omega arith)

-- a walk to the first of the slots 1 to 16 that passes, before slot k
module _ (p : ℕ → Bool) where
  seek_next : (n : ℕ) (t : Bool) → seek n p ≡ None → p (suc n) ≡ t → seek (suc n) p ≡ cond t (Some (suc n)) None
  unfolding seek
  seek_next n t h g = ap (λ (o : Option ℕ). or_else o (cond (p (suc n)) (Some (suc n)) None)) h ∙ ap (λ (t : Bool). cond t (Some (suc n)) None) g

  seek_stays : (k n d : ℕ) → seek n p ≡ Some k → seek (d + n) p ≡ Some k
  unfolding seek
  seek_stays k n zero h = let e : n ≡ 0 + n = omega arith in subst (λ (m : ℕ). seek m p ≡ Some k) e h
  seek_stays k n (suc d) h =
      let e : suc (d + n) ≡ suc d + n = omega arith in
      subst (λ (m : ℕ). seek m p ≡ Some k) e (ap (λ (o : Option ℕ). or_else o (cond (p (suc (d + n))) (Some (suc (d + n))) None)) (seek_stays k n d h))

  pub seek_found : (k : ℕ) → 1 ≤ k → k ≤ 16 → seek (k - 1) p ≡ None → p k ≡ true → seek 16 p ≡ Some k
  seek_found k a b h g =
      let here : k ≡ suc (k - 1) = omega arith in
      let on : suc (k - 1) ≡ k = omega arith in
      let all : (16 - k) + suc (k - 1) ≡ 16 = omega arith in
      subst (λ (n : ℕ). seek n p ≡ Some k) all
      (seek_stays k (suc (k - 1)) (16 - k) (seek_next (k - 1) true h (subst (λ (n : ℕ). p n ≡ true) here g) ∙ ap (λ (n : ℕ). Some n) on))

pub first_of_some : (ks : List ℕ) (p : ℕ → Bool) (k : ℕ) → first_of ks p ≡ Some k → (stands_on k ks ≡ true) × (p k ≡ true)
unfolding first_of stands_on
first_of_some [] p k h = absurd cc
first_of_some (j ∷ js) p k h = go (p j) refl (first_of_some js p k) h
  where
    go : (t : Bool) → p j ≡ t → (first_of js p ≡ Some k → (stands_on k js ≡ true) × (p k ≡ true))
        → cond t (Some j) (first_of js p) ≡ Some k → ((eqb k j || stands_on k js) ≡ true) × (p k ≡ true)
    go true e ih h =
        let q : j ≡ k = cc in
        (ap (λ (t : Bool). t || stands_on k js) (eq-eqb k j (sym q)), subst (λ (i : ℕ). p i ≡ true) q e)
    go false e ih h =
        let r = ih h in
        (or_right (eqb k j) (stands_on k js) r.0, r.1)

-- chains
pub nobody : (k : ℕ) → stands_on k [] ≡ false
unfolding stands_on
nobody k = refl

pub stands_cons : (j k : ℕ) (ks : List ℕ) → stands_on j (k ∷ ks) ≡ (eqb j k || stands_on j ks)
unfolding stands_on
stands_cons j k ks = refl

pub stands_head : (k : ℕ) (ks : List ℕ) → stands_on k (k ∷ ks) ≡ true
unfolding stands_on
stands_head k ks = ap (λ (t : Bool). t || stands_on k ks) (eq-eqb k k refl)

pub stands_tail : (j k : ℕ) (ks : List ℕ) → (j ≡ k → ⊥) → stands_on j (k ∷ ks) ≡ stands_on j ks
unfolding stands_on
stands_tail j k ks ne = ap (λ (t : Bool). t || stands_on j ks) (ne_eqb j k ne)

pub stands_without : (j k : ℕ) (ks : List ℕ) → stands_on j (without k ks) ≡ (not (eqb j k) && stands_on j ks)
unfolding stands_on without
stands_without j k [] = go (eqb j k)
  where
    go : (t : Bool) → false ≡ (not t && false)
    go true = refl
    go false = refl
stands_without j k (i ∷ is) = go (eqb i k) (eqb j k) (eqb j i) refl refl refl (stands_without j k is)
  where
    go : (s t u : Bool) → eqb i k ≡ s → eqb j k ≡ t → eqb j i ≡ u → stands_on j (without k is) ≡ (not (eqb j k) && stands_on j is)
        → stands_on j (cond s (without k is) (i ∷ without k is)) ≡ (not t && (u || stands_on j is))
    go true true u a b c ih = ih ∙ ap (λ (t : Bool). not t && stands_on j is) b
    go true false true a b c ih =
        absurd (eqb-false j k b (eqb-true j i c ∙ eqb-true i k a))
    go true false false a b c ih = ih ∙ ap (λ (t : Bool). not t && stands_on j is) b
    go false true true a b c ih = absurd (eqb-false i k a (sym (eqb-true j i c) ∙ eqb-true j k b))
    go false true false a b c ih = ap (λ (t : Bool). t || stands_on j (without k is)) c ∙ ih ∙ ap (λ (t : Bool). not t && stands_on j is) b
    go false false true a b c ih = ap (λ (t : Bool). t || stands_on j (without k is)) c
    go false false false a b c ih = ap (λ (t : Bool). t || stands_on j (without k is)) c ∙ ih ∙ ap (λ (t : Bool). not t && stands_on j is) b

pub stands_append : (j k : ℕ) (ks : List ℕ) → stands_on j (ks ++ k ∷ []) ≡ (stands_on j ks || eqb j k)
unfolding stands_on
stands_append j k [] = or-false (eqb j k)
stands_append j k (i ∷ is) = go (eqb j i) (stands_append j k is)
  where
    go : (t : Bool) → stands_on j (is ++ k ∷ []) ≡ (stands_on j is || eqb j k) → (t || stands_on j (is ++ k ∷ [])) ≡ ((t || stands_on j is) || eqb j k)
    go true ih = refl
    go false ih = ih

-- chains without repetition
pub once_without : (k : ℕ) (ks : List ℕ) → Once ks → Once (without k ks)
unfolding without
once_without k [] o = tt
once_without k (j ∷ js) o = go (eqb j k) (once_without k js o.1)
  where
    go : (t : Bool) → Once (without k js) → Once (cond t (without k js) (j ∷ without k js))
    go true ih = ih
    go false ih = (stands_without j k js ∙ ap (λ (t : Bool). not (eqb j k) && t) o.0 ∙ and-false (not (eqb j k)), ih)

pub once_append : (k : ℕ) (ks : List ℕ) → Once ks → stands_on k ks ≡ false → Once (ks ++ k ∷ [])
once_append k [] o n = (nobody k, tt)
once_append k (j ∷ js) o n =
    let p = or_parts (eqb k j) (stands_on k js) (sym (stands_cons k j js) ∙ n) in
    (stands_append j k js ∙ or_from _ _ o.0 (ne_eqb j k (λ e. eqb-false k j p.0 (sym e))), once_append k js o.1 p.1)

-- how many slots pass
pub tally_same : (n : ℕ) (p q : ℕ → Bool) → ((k : ℕ) → 1 ≤ k → k ≤ n → p k ≡ q k) → tally n p ≡ tally n q
unfolding tally
tally_same zero p q h = refl
tally_same (suc n) p q h =
    let a = tally_same n p q (λ k l u. h k l (omega arith)) in
    let b = h (suc n) (omega arith) (omega arith) in
    rw (a, b)

pub tally_one : (n : ℕ) (p q : ℕ → Bool) (k : ℕ) → 1 ≤ k → k ≤ n → p k ≡ false → q k ≡ true
    → ((j : ℕ) → (j ≡ k → ⊥) → p j ≡ q j) → tally n q ≡ suc (tally n p)
unfolding tally
tally_one zero p q k l u a b h = absurd (omega arith)
tally_one (suc n) p q k l u a b h = go (eqb k (suc n)) refl (λ v. tally_one n p q k l v a b h)
  where
    go : (t : Bool) → eqb k (suc n) ≡ t → (k ≤ n → tally n q ≡ suc (tally n p))
        → cond (q (suc n)) 1 0 + tally n q ≡ suc (cond (p (suc n)) 1 0 + tally n p)
    go true e ih =
        let i = eqb-true k (suc n) e in
        let s = tally_same n p q (λ j x y. h j (λ w. omega arith)) in
        let pa : p (suc n) ≡ false = subst (λ (i : ℕ). p i ≡ false) i a in
        let qa : q (suc n) ≡ true = subst (λ (i : ℕ). q i ≡ true) i b in
        rw (pa, qa, s) (omega arith)
    go false e ih =
        let ne = eqb-false k (suc n) e in
        let s = h (suc n) (λ w. ne (sym w)) in
        let r = ih (omega arith) in
        rw (s, r) (omega arith)

pub tally_full : (n : ℕ) (p : ℕ → Bool) → ((k : ℕ) → 1 ≤ k → k ≤ n → p k ≡ true) → tally n p ≡ n
unfolding tally
tally_full zero p h = refl
tally_full (suc n) p h =
    let a = tally_full n p (λ k l u. h k l (omega arith)) in
    let b = h (suc n) (omega arith) (omega arith) in
    rw (a, b) (omega arith)

pub tally_at_most : (n : ℕ) (p : ℕ → Bool) → tally n p ≤ n
unfolding tally
tally_at_most zero p = omega arith
tally_at_most (suc n) p = go (p (suc n)) (tally_at_most n p)
  where
    go : (t : Bool) → tally n p ≤ n → cond t 1 0 + tally n p ≤ suc n
    go true h = omega arith
    go false h = omega arith

pub tally_all : (n : ℕ) (p : ℕ → Bool) → tally n p ≡ n → (k : ℕ) → 1 ≤ k → k ≤ n → p k ≡ true
unfolding tally
tally_all zero p h k l u = absurd (omega arith)
tally_all (suc n) p h k l u = go (p (suc n)) refl h (tally_at_most n p) (λ e. tally_all n p e k l)
  where
    go : (t : Bool) → p (suc n) ≡ t → cond t 1 0 + tally n p ≡ suc n → tally n p ≤ n → (tally n p ≡ n → k ≤ n → p k ≡ true) → p k ≡ true
    go true e h b ih = at (eqb k (suc n)) refl
      where
        at : (t : Bool) → eqb k (suc n) ≡ t → p k ≡ true
        at true q = subst (λ (i : ℕ). p i ≡ true) (sym (eqb-true k (suc n) q)) e
        at false q = let ne = eqb-false k (suc n) q in ih (omega arith) (omega arith)
    go false e h b ih = absurd (omega arith)

pub tally_none : (n : ℕ) (p : ℕ → Bool) → ((k : ℕ) → p k ≡ false) → tally n p ≡ 0
unfolding tally
tally_none zero p h = refl
tally_none (suc n) p h = rw (h (suc n), tally_none n p h)

-- first bytes
pub length_firsts : (n : ℕ) (f : ℕ → ℕ) → length (firsts n f) ≡ n
length_firsts zero f = refl
length_firsts (suc n) f = length-append (firsts n f) (f n ∷ []) ∙ rw (length_firsts n f) (add-one n)

pub take_firsts : (s p : ℕ) (f : ℕ → ℕ) → s ≤ p → take s (firsts p f) ≡ firsts s f
take_firsts s zero f h = go s h
  where
    go : (s : ℕ) → s ≤ 0 → take {A = ℕ} s [] ≡ firsts s f
    go zero h = refl
    go (suc s) h = absurd (omega arith)
take_firsts s (suc p) f h = go (eqb s (suc p)) refl (take_firsts s p f)
  where
    go : (t : Bool) → eqb s (suc p) ≡ t → (s ≤ p → take s (firsts p f) ≡ firsts s f) → take s (firsts (suc p) f) ≡ firsts s f
    go true e ih =
        let q : s ≡ suc p = eqb-true s (suc p) e in
        subst (λ (i : ℕ). take i (firsts (suc p) f) ≡ firsts i f) (sym q)
        (subst (λ (i : ℕ). take i (firsts (suc p) f) ≡ firsts (suc p) f) (length_firsts (suc p) f) (take-length (firsts (suc p) f)))
    go false e ih =
        let ne = eqb-false s (suc p) e in
        let le : s ≤ p = omega arith in
        take-append-le s (firsts p f) (f p ∷ []) (rw (length_firsts p f) le) ∙ ih le

pub take_outs : (s p : ℕ) (w : Way) (f : ℕ → ℕ) → s ≤ p → take s (outs w p f) ≡ outs w s f
take_outs s p Still f h = take-nil s
take_outs s p In f h = take-nil s
take_outs s p Out f h = take_firsts s p f h
