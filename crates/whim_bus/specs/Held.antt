-- Changes of the row that holds the line, as changes of its nexus. Assumes nothing.
use Rattle.std.specs.Prelude.{◌≡◌, ℕ, zero, suc, ◌<◌, ◌≤◌, Bool, true, cond, List, [], ◌∷◌, ◌++◌, length, take, Some, None, Option, ◌==◌, slice_set, refl}
use Rattle.std.proofs.Common.{sym, ap, ap₂, subst, ◌∙◌, ⊎_elim, arith, length-set, length-append, get_or-set_same, take_all}
use Rattle.std.proofs.Math.Seq.{take-nil}
use Rattle.std.proofs.lemmas.Bool.{cases_lt, ne_eqb, eq-eqb}
use Rattle.std.proofs.lemmas.List.{take-append-le}
use Rattle.shelf.specs.declared.Way.{Way}
use Rattle.shelf.specs.declared.Way.TheVariants.{Still, In, Out}
use Rattle.shelf.specs.Model.{Model, way_of}
use Rattle.shelf.specs.Serving.{firsts, outs}
use Rattle.bus.specs.State.{Name, Nexus, free, held, put, adjust, change, close, restored}
use Rattle.whim_bus.specs.declared.state.Line.{Line}
use Rattle.whim_bus.specs.declared.state.Line.TheVariants.{Free, Held}
use Rattle.whim_bus.specs.Rows.{Stage, empty, fresh, commanded, ended, Row, blank, row_name, is_open, emptied, going_back}
use Rattle.whim_bus.specs.State.{Whim, row, with_row, with_line}
use Rattle.whim_bus.specs.Means.{collected, nexus, found, line_of, cable, apart, row_sound, all_sound, line_sound, sound}
use Rattle.whim_bus.specs.Lookup.{Alone, open_below, open_alone, found_here, nexus_in, found_set, number_same, number_less, apart_set}
use Rattle.whim_bus.specs.Sound.{sound_is, each_at, each_set, emptied_sound}

---- out bytes

firsts_length : (n : ℕ) (f : ℕ → ℕ) → length (firsts n f) ≡ n
firsts_length zero f = refl
firsts_length (suc n) f = simp length-append (omega (arith, firsts_length n f))

pub firsts_fewer : (n p : ℕ) (f : ℕ → ℕ) → n ≤ p → take n (firsts p f) ≡ firsts n f
firsts_fewer n zero f l = let z : n ≡ 0 = omega arith in ap (λ (k : ℕ). take k []) z ∙ sym (ap (λ (k : ℕ). firsts k f) z)
firsts_fewer n (suc p) f l = ⊎_elim (λ h. less (omega arith) (firsts_fewer n p f (omega arith))) (λ h. whole (omega arith)) (cases_lt n (suc p))
  where
    less : n ≤ p → take n (firsts p f) ≡ firsts n f → take n (firsts p f ++ f p ∷ []) ≡ firsts n f
    less h rest = take-append-le n (firsts p f) (f p ∷ []) (subst (λ (k : ℕ). n ≤ k) (sym (firsts_length p f)) h) ∙ rest

    whole : n ≡ suc p → take n (firsts (suc p) f) ≡ firsts n f
    whole h =
        take_all n (firsts (suc p) f) (subst (λ (k : ℕ). k ≤ n) (sym (firsts_length (suc p) f)) (omega arith))
        ∙ ap (λ (k : ℕ). firsts k f) (sym h)

pub firsts_kept : (n p v : ℕ) (f : ℕ → ℕ) → n ≤ p → firsts n (λ i. cond (i == p) v (f i)) ≡ firsts n f
firsts_kept zero p v f l = refl
firsts_kept (suc n) p v f l =
    ap₂ (λ (xs : List ℕ) (x : ℕ). xs ++ x ∷ []) (firsts_kept n p v f (omega arith))
    (ap (λ (t : Bool). cond t v (f n)) (ne_eqb n p (λ e. omega arith)))

-- one more is given
pub firsts_given : (p v : ℕ) (f : ℕ → ℕ) → firsts (suc p) (λ i. cond (i == p) v (f i)) ≡ firsts p f ++ v ∷ []
firsts_given p v f =
    ap₂ (λ (xs : List ℕ) (x : ℕ). xs ++ x ∷ []) (firsts_kept p p v f (omega arith)) (ap (λ (t : Bool). cond t v (f p)) (eq-eqb p p refl))

outs_fewer : (w : Way) (n p : ℕ) (f : ℕ → ℕ) → n ≤ p → outs w n f ≡ take n (outs w p f)
outs_fewer Still n p f l = sym (take-nil n)
outs_fewer In n p f l = sym (take-nil n)
outs_fewer Out n p f l = sym (firsts_fewer n p f l)

-- going back to the saved place
collected_back : (m : Model) (r : Row) (g : Stage) → r.saved ≤ r.place → collected m (going_back r) g ≡ take r.saved (collected m r g)
collected_back m r empty l = sym (take-nil r.saved)
collected_back m r fresh l = sym (take-nil r.saved)
collected_back m r (commanded d) l = outs_fewer (way_of m r.target r.greeting.lun d) r.saved r.place r.bytes l
collected_back m r (ended d st) l = outs_fewer (way_of m r.target r.greeting.lun d) r.saved r.place r.bytes l

pub nexus_back : (m : Model) (r : Row) → r.saved ≤ r.place → nexus m (going_back r) ≡ restored (nexus m r)
nexus_back m r l =
    λ i.
    record {
      leave = (nexus m r).leave;
      command = (nexus m r).command;
      status = (nexus m r).status;
      place = r.saved;
      saved = r.saved;
      collected = collected_back m r r.stage l i;
    }

---- the row and its nexus

-- rows and line after row k is changed
module _ (w : Whim) (k : ℕ) (different : apart w.rows ≡ true) (each : all_sound w.shelf w.rows ≡ true) (sixteen : length w.rows ≡ 16) where
  pub row_changed : k < length w.rows → (r' : Row) → row (with_row k r' w) k ≡ r'
  row_changed l r' = get_or-set_same w.rows k r' blank l

  pub set_sound : (l : Line) (r' : Row) → Alone k (row_name r') w.rows → row_sound w.shelf r' ≡ true → line_sound (row (with_row k r' w)) l ≡ true
      → sound (with_line l (with_row k r' w)) ≡ true
  set_sound l r' a s h =
      sound_is (with_line l (with_row k r' w))
      (record {
        sixteen = length-set w.rows k r' ∙ sixteen;
        different = apart_set k w.rows r' different a;
        each = each_set w.shelf w.rows k r' each s;
        held_open = h;
      })

  module _ (o : is_open (row w k) ≡ true) where
    pub alone : Alone k (row_name (row w k)) w.rows
    alone = open_alone k w.rows different o

    pub there : found w.shelf w.rows (row_name (row w k)) ≡ Some (nexus w.shelf (row w k))
    there = found_here w.shelf k w.rows o alone

    -- its nexus is changed, and the line stays
    pub changed_cable : w.line ≡ Held k → (r' : Row) (f : Nexus → Nexus) → row_name r' ≡ row_name (row w k) → is_open r' ≡ true
        → nexus w.shelf r' ≡ f (nexus w.shelf (row w k)) → cable (with_row k r' w) ≡ change (row_name (row w k)) f (cable w)
    changed_cable line r' f same o' e =
        λ i.
        record {
          shelf = w.shelf;
          nexuses = λ j. path j i;
          opened = number_same k w.rows r' (o' ∙ sym o) i;
          line = line_path i;
          begun = [];
        }
      where
        there' : nexus_in w.shelf r' ≡ adjust f (found w.shelf w.rows (row_name (row w k)))
        there' = ap (λ (t : Bool). cond t (Some (nexus w.shelf r')) None) o' ∙ ap Some e ∙ sym (ap (adjust f) there)

        path : (j : Name) → found w.shelf (slice_set w.rows k r') j
            ≡ put (row_name (row w k)) (adjust f (found w.shelf w.rows (row_name (row w k)))) (found w.shelf w.rows) j
        path j =
            found_set w.shelf k w.rows r' (open_below k w.rows o) (subst (λ (n : Name). Alone k n w.rows) (sym same) alone) (λ _. sym same) j
            ∙ ap₂ (λ (n : Name) (x : Option Nexus). put n x (found w.shelf w.rows) j) same there'

        line_path : line_of (row (with_row k r' w)) w.line ≡ line_of (row w) w.line
        line_path =
            ap (λ (l : Line). line_of (row (with_row k r' w)) l) line
            ∙ ap held (ap row_name (row_changed (open_below k w.rows o) r') ∙ same)
            ∙ sym (ap (λ (l : Line). line_of (row w) l) line)

    -- its nexus is closed, and the line is free
    pub closed_cable : cable (with_line Free (with_row k (emptied (row w k)) w)) ≡ close (row_name (row w k)) (cable w)
    closed_cable =
        λ i.
        record {
          shelf = w.shelf;
          nexuses = λ j. found_set w.shelf k w.rows (emptied (row w k)) (open_below k w.rows o) alone (λ _. refl) j i;
          opened = number_less k w.rows (emptied (row w k)) o refl i;
          line = free;
          begun = [];
        }

    pub closed_sound : sound (with_line Free (with_row k (emptied (row w k)) w)) ≡ true
    closed_sound = set_sound Free (emptied (row w k)) alone (emptied_sound w.shelf (row w k) (each_at w.shelf w.rows k each)) refl

    -- its row stays open and sound, on the line or off it
    pub changed_sound : (r' : Row) → row_name r' ≡ row_name (row w k) → is_open r' ≡ true → row_sound w.shelf r' ≡ true
        → (sound (with_line (Held k) (with_row k r' w)) ≡ true) × (sound (with_line Free (with_row k r' w)) ≡ true)
    changed_sound r' same o' s =
        let a : Alone k (row_name r') w.rows = subst (λ (n : Name). Alone k n w.rows) (sym same) alone in
        (set_sound (Held k) r' a s (ap is_open (row_changed (open_below k w.rows o) r') ∙ o'), set_sound Free r' a s refl)
