-- Chains by next numbers stand for lists: take, put back, append, unlink, walk. Assumes nothing.
use Rattle.std.proofs.Common.{◌≡◌, ℕ, zero, suc, ◌≤◌, Bool, true, false, cond, ◌||◌, eqb, List, [], ◌∷◌, ◌++◌, length, sym, refl, ap, ◌∙◌, subst, arith}
use Rattle.std.proofs.lemmas.Bool.{or_parts, or_right, eqb-true, eqb-false, eq-eqb, ne_eqb}
use Rattle.table.specs.Engine.{numbered, stands_on, without, tally}
use Rattle.table.specs.View.{chain, Links, before}
use Rattle.table.specs.Sound.{Once}
use Rattle.table.proofs.Basics.{wrong, put_here, put_there, numbered_is, nobody, stands_cons, tally_one, tally_none, tally_at_most}

-- a next number changed
abbrev pub set_next : ℕ → ℕ → (ℕ → ℕ) → ℕ → ℕ
set_next k n f j = cond (eqb j k) n (f j)

-- next numbers that agree on a chain
pub links_same : (f g : ℕ → ℕ) (h : ℕ) (ks : List ℕ) → ((k : ℕ) → stands_on k ks ≡ true → g k ≡ f k) → Links f h ks → Links g h ks
links_same f g h [] e l = l
links_same f g h (k ∷ ks) e l = (
  l.0,
  l.1,
  subst (λ (n : ℕ). Links g n ks) (sym (e k (stands_cons k k ks ∙ ap (λ (t : Bool). t || stands_on k ks) (eq-eqb k k refl))))
      (links_same f g (f k) ks (λ j s. e j (stands_cons j k ks ∙ or_right (eqb j k) (stands_on j ks) s)) l.2),
)

pub off_chain : (j k : ℕ) (ks : List ℕ) → stands_on j ks ≡ true → stands_on k ks ≡ false → j ≡ k → ⊥
off_chain j k ks s n e = wrong (stands_on j ks) s (ap (λ (i : ℕ). stands_on i ks) e ∙ n)

-- the next number of a slot that is not on the chain
pub links_off : (f : ℕ → ℕ) (k n h : ℕ) (ks : List ℕ) → stands_on k ks ≡ false → Links f h ks → Links (set_next k n f) h ks
links_off f k n h ks off l = links_same f (set_next k n f) h ks (λ j s. put_there j k n (f j) (off_chain j k ks s off)) l

-- put back at the head
pub put_back : (f : ℕ → ℕ) (h k : ℕ) (ks : List ℕ) → numbered k ≡ true → stands_on k ks ≡ false → Links f h ks → Links (set_next k h f) k (k ∷ ks)
put_back f h k ks nk n l = (
  refl,
  nk,
  subst (λ (i : ℕ). Links (set_next k h f) i ks) (sym (put_here k h (f k)))
      (links_off f k h h ks n l),
)

-- append: the last one's next number, or the head
abbrev pub last_of : ℕ → List ℕ → ℕ
last_of d [] = d
last_of d (k ∷ ks) = last_of k ks

pub on_last : (d : ℕ) (ks : List ℕ) → stands_on (last_of d ks) (d ∷ ks) ≡ true
on_last d [] = stands_cons d d [] ∙ ap (λ (t : Bool). t || stands_on d []) (eq-eqb d d refl)
on_last d (k ∷ ks) = stands_cons (last_of k ks) d (k ∷ ks) ∙ or_right (eqb (last_of k ks) d) (stands_on (last_of k ks) (k ∷ ks)) (on_last k ks)

pub append_links : (f : ℕ → ℕ) (h d k : ℕ) (ks : List ℕ) → numbered k ≡ true → stands_on k (d ∷ ks) ≡ false → Once (d ∷ ks) → Links f h (d ∷ ks)
    → Links (set_next (last_of d ks) k (set_next k 0 f)) h ((d ∷ ks) ++ k ∷ [])
append_links f h d k [] nk n o l =
    let ne : k ≡ d → ⊥ = eqb-false k d (or_parts (eqb k d) (stands_on k []) (sym (stands_cons k d []) ∙ n)).0 in
    (l.0, l.1, (put_here d k (set_next k 0 f d), nk, put_there k d k (set_next k 0 f k) ne ∙ put_here k 0 (f k)))
append_links f h d k (j ∷ js) nk n o l = (
  l.0,
  l.1,
  subst (λ (i : ℕ). Links (set_next (last_of j js) k (set_next k 0 f)) i ((j ∷ js) ++ k ∷ []))
      (sym (put_there d (last_of j js) k (set_next k 0 f d) (λ e. off_chain (last_of j js) d (j ∷ js) (on_last j js) o.0 (sym e)) ∙ put_there d k 0 (f d) (λ e. eqb-false k d p.0 (sym e))))
      (append_links f (f d) j k js nk p.1 o.1 l.2),
)
  where
    p : (eqb k d ≡ false) × (stands_on k (j ∷ js) ≡ false)
    p = or_parts (eqb k d) (stands_on k (j ∷ js)) (sym (stands_cons k d (j ∷ js)) ∙ n)

-- a chain without k where k does not stand
pub without_off : (k : ℕ) (ks : List ℕ) → stands_on k ks ≡ false → without k ks ≡ ks
unfolding without
without_off k [] n = refl
without_off k (j ∷ js) n =
    let p = or_parts (eqb k j) (stands_on k js) (sym (stands_cons k j js) ∙ n) in
    ap (λ (t : Bool). cond t (without k js) (j ∷ without k js)) (ne_eqb j k (λ e. eqb-false k j p.0 (sym e))) ∙ ap (λ (l : List ℕ). j ∷ l) (without_off k js p.1)

pub without_other : (k d : ℕ) (ks : List ℕ) → (k ≡ d → ⊥) → without k (d ∷ ks) ≡ d ∷ without k ks
unfolding without
without_other k d ks nd = ap (λ (t : Bool). cond t (without k ks) (d ∷ without k ks)) (ne_eqb d k (λ e. nd (sym e)))

-- unlink: the head, or the next number of the one before
pub unlink_head : (f : ℕ → ℕ) (h k : ℕ) (ks : List ℕ) → Once (k ∷ ks) → Links f h (k ∷ ks) → Links f (f k) (without k (k ∷ ks))
unfolding without
unlink_head f h k ks o l =
    subst (Links f (f k)) (sym (ap (λ (t : Bool). cond t (without k ks) (k ∷ without k ks)) (eq-eqb k k refl) ∙ without_off k ks o.0)) l.2

pub on_before : (k d : ℕ) (ks : List ℕ) → stands_on (before k d ks) (d ∷ ks) ≡ true
on_before k d [] = stands_cons d d [] ∙ ap (λ (t : Bool). t || stands_on d []) (eq-eqb d d refl)
on_before k d (j ∷ js) = go (eqb j k) (on_before k j js)
  where
    go : (t : Bool) → stands_on (before k j js) (j ∷ js) ≡ true → stands_on (cond t d (before k j js)) (d ∷ j ∷ js) ≡ true
    go true ih = stands_cons d d (j ∷ js) ∙ ap (λ (t : Bool). t || stands_on d (j ∷ js)) (eq-eqb d d refl)
    go false ih = stands_cons (before k j js) d (j ∷ js) ∙ or_right (eqb (before k j js) d) (stands_on (before k j js) (j ∷ js)) ih

pub unlink_links : (f : ℕ → ℕ) (h d k : ℕ) (ks : List ℕ) → (k ≡ d → ⊥) → stands_on k ks ≡ true → Once (d ∷ ks) → Links f h (d ∷ ks)
    → Links (set_next (before k d ks) (f k) f) h (d ∷ without k ks)
unfolding without stands_on
unlink_links f h d k [] nd s o l = wrong false s refl
unlink_links f h d k (j ∷ js) nd s o l = go (eqb j k) refl (λ nj sj. unlink_links f (f d) j k js nj sj o.1 l.2)
  where
    go : (t : Bool) → eqb j k ≡ t → ((k ≡ j → ⊥) → stands_on k js ≡ true → Links (set_next (before k j js) (f k) f) (f d) (j ∷ without k js))
        → Links (set_next (cond t d (before k j js)) (f k) f) h (d ∷ cond t (without k js) (j ∷ without k js))
    go true e ih =
        let jk : j ≡ k = eqb-true j k e in (
          l.0,
          l.1,
          subst (λ (i : ℕ). Links (set_next d (f k) f) i (without k js)) (sym (put_here d (f k) (f d)))
              (subst (Links (set_next d (f k) f) (f k)) (sym (without_off k js (ap (λ (i : ℕ). stands_on i js) (sym jk) ∙ o.1.0)))
              (links_same f (set_next d (f k) f) (f k) js
              (λ i si. put_there i d (f k) (f i) (λ z. wrong (stands_on d (j ∷ js)) (stands_cons d j js ∙ or_right (eqb d j) (stands_on d js) (ap (λ (m : ℕ). stands_on m js) (sym z) ∙ si)) o.0))
              (subst (λ (i : ℕ). Links f (f i) js) jk l.2.2))),
        )
    go false e ih =
        let nj : k ≡ j → ⊥ = λ z. eqb-false j k e (sym z) in
        let sj : stands_on k js ≡ true = sym (ap (λ (t : Bool). t || stands_on k js) (ne_eqb k j nj)) ∙ s in (
          l.0,
          l.1,
          subst (λ (i : ℕ). Links (set_next (before k j js) (f k) f) i (j ∷ without k js))
              (sym (put_there d (before k j js) (f k) (f d) (λ z. off_chain (before k j js) d (j ∷ js) (on_before k j js) o.0 (sym z))))
              (ih nj sj),
        )

-- a walk has at most as many slots as turns
pub chain_short : (n : ℕ) (f : ℕ → ℕ) (h : ℕ) → length (chain n f h) ≤ n
unfolding chain
chain_short zero f h = omega arith
chain_short (suc n) f h = go (numbered h) (chain_short n f (f h))
  where
    go : (t : Bool) → length (chain n f (f h)) ≤ n → length (cond t (h ∷ chain n f (f h)) []) ≤ suc n
    go true l = omega (arith, l)
    go false l = omega arith

-- a walk of as many turns sees the whole chain
pub chain_is : (n : ℕ) (f : ℕ → ℕ) (h : ℕ) (ks : List ℕ) → Links f h ks → length ks ≤ n → chain n f h ≡ ks
unfolding chain
chain_is zero f h [] l u = refl
chain_is zero f h (k ∷ ks) l u = absurd (omega arith)
chain_is (suc n) f h [] l u = ap (λ (i : ℕ). cond (numbered i) (i ∷ chain n f (f i)) []) l
chain_is (suc n) f h (k ∷ ks) l u =
    ap (λ (i : ℕ). cond (numbered i) (i ∷ chain n f (f i)) []) l.0
    ∙ ap (λ (t : Bool). cond t (k ∷ chain n f (f k)) []) l.1
    ∙ ap (λ (r : List ℕ). k ∷ r) (chain_is n f (f k) ks l.2 (omega arith))

-- a chain without repetition has at most sixteen slots
pub counted_length : (f : ℕ → ℕ) (h : ℕ) (ks : List ℕ) → Once ks → Links f h ks → length ks ≡ tally 16 (λ k. stands_on k ks)
counted_length f h [] o l = sym (tally_none 16 (λ k. stands_on k []) nobody)
counted_length f h (k ∷ ks) o l =
    let num : (1 ≤ k) × (k ≤ 16) = numbered_is k l.1 in
    ap suc (counted_length f (f k) ks o.1 l.2)
    ∙ sym (tally_one 16 (λ j. stands_on j ks) (λ j. stands_on j (k ∷ ks)) k num.0 num.1 o.0 (stands_cons k k ks ∙ ap (λ (t : Bool). t || stands_on k ks) (eq-eqb k k refl))
    (λ j ne. sym (stands_cons j k ks ∙ ap (λ (t : Bool). t || stands_on j ks) (ne_eqb j k ne))))

pub at_most_16 : (f : ℕ → ℕ) (h : ℕ) (ks : List ℕ) → Once ks → Links f h ks → length ks ≤ 16
at_most_16 f h ks o l = let e = counted_length f h ks o l in let t = tally_at_most 16 (λ k. stands_on k ks) in omega (arith, e, t)
