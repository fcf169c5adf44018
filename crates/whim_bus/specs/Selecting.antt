-- A whim bus keeps the rules of a bus: a selection that is not refused. Assumes nothing.
use Rattle.std.specs.Prelude.{◌≡◌, ℕ, ◌%◌, ◌<◌, Bool, true, false, cond, ltb, List, [], ◌∷◌, length, Some, None, Option, ◌==◌, nat_le, nat_lt, refl}
use Rattle.std.specs.List.{list_any, position_or_len, count_by}
use Rattle.std.proofs.Common.{sym, ap, ◌∙◌, ⊎_elim, arith, get_or-set_same}
use Rattle.std.proofs.lemmas.Bool.{lt-ltb, and_from, not-true, false≢true}
use Rattle.std.proofs.lemmas.List.Sums.{passes_at_first}
use Rattle.scsi.specs.declared.greeting.Greeting.{Greeting}
use Rattle.scsi.specs.Greetings.{greeting, greeting_of}
use Rattle.scsi.specs.Messages.{lun_of, permits_leave}
use Rattle.shelf.specs.Model.{is_present}
use Rattle.bus.specs.State.{held}
use Rattle.bus.specs.Calls.{selected, lost, absent}
use Rattle.bus.specs.Refusals.{name_of}
use Rattle.bus.specs.Effects.{Selects, opens}
use Rattle.whim_bus.specs.declared.state.Line.TheVariants.{Held}
use Rattle.whim_bus.specs.Rows.{Row, blank, row_name, is_open, is_empty, is_named, taken_by}
use Rattle.whim_bus.specs.State.{Whim, row, odd, next_whim, drawn}
use Rattle.whim_bus.specs.Means.{cable, sound}
use Rattle.whim_bus.specs.Text.{opens_row, selects, selection}
use Rattle.whim_bus.specs.Lookup.{Alone, absent_alone, found_set, number_more}
use Rattle.whim_bus.specs.Refusing.{room_or_none}
use Rattle.whim_bus.specs.Sound.{Sound, sound_is}
use Rattle.whim_bus.specs.Held.{set_sound}

-- a greeting's LUN has three bits
low_greeting : (b : ℕ) (tag : Option ℕ) (g : Greeting) → greeting b tag ≡ Some g → nat_lt g.lun 8 ≡ true
low_greeting b tag g = go (nat_le 0x80 b)
  where
    go : (t : Bool) → cond t (Some (record { lun = lun_of b; leave = permits_leave b; tag = tag })) None ≡ Some g → nat_lt g.lun 8 ≡ true
    go true e =
        let same : record { lun = lun_of b; leave = permits_leave b; tag = tag } ≡ g = cc in
        ap (λ (x : Greeting). ltb x.lun 8) (sym same) ∙ lt-ltb (b % 8) 8 (omega arith)
    go false e = absurd cc

no_greeting : (g : Greeting) (A : Type 0) → ◌≡◌ {A = Option Greeting} None (Some g) → A
no_greeting g A e = absurd cc

pub greeting_low : (bs : List ℕ) (g : Greeting) → greeting_of bs ≡ Some g → nat_lt g.lun 8 ≡ true
greeting_low [] g e = no_greeting g _ e
greeting_low (b ∷ []) g e = low_greeting b None g e
greeting_low (b ∷ x ∷ []) g e = no_greeting g _ e
greeting_low (b ∷ x ∷ tag ∷ []) g e = go (x == 0x20) e
  where
    go : (t : Bool) → cond t (greeting b (Some tag)) None ≡ Some g → nat_lt g.lun 8 ≡ true
    go true e = low_greeting b (Some tag) g e
    go false e = no_greeting g _ e
greeting_low (b ∷ x ∷ y ∷ z ∷ bs) g e = no_greeting g _ e

module _ (w : Whim) (s : Sound w.shelf w.rows (row w) w.line) (t : ℕ) (g : Greeting) (low : ltb g.lun 8 ≡ true)
    (strange : list_any (is_named (name_of t g)) w.rows ≡ false) (room : count_by is_open w.rows < 16) where
  in_rows : position_or_len is_empty w.rows < length w.rows
  in_rows =
      ⊎_elim (λ p. p.1)
      (λ p. absurd (let e : count_by is_open w.rows ≡ length w.rows = p.0 in let n : length w.rows ≡ 16 = s.sixteen in omega arith))
      (room_or_none w.rows)

  vacant : is_open (row w (position_or_len is_empty w.rows)) ≡ false
  vacant = not-true _ (passes_at_first is_empty w.rows blank in_rows)

  lonely : Alone (position_or_len is_empty w.rows) (name_of t g) w.rows
  lonely = absent_alone (position_or_len is_empty w.rows) (name_of t g) w.rows strange

  placed : row (opens_row t g (position_or_len is_empty w.rows) (drawn w)) (position_or_len is_empty w.rows) ≡ taken_by t g (row w (position_or_len is_empty w.rows))
  placed = get_or-set_same w.rows (position_or_len is_empty w.rows) (taken_by t g (row w (position_or_len is_empty w.rows))) blank in_rows

  open_rule : cable (opens_row t g (position_or_len is_empty w.rows) (drawn w)) ≡ opens t (Some g) (cable w)
  open_rule =
      λ i.
      record {
        shelf = w.shelf;
        nexuses = λ j.
            found_set w.shelf (position_or_len is_empty w.rows) w.rows (taken_by t g (row w (position_or_len is_empty w.rows))) in_rows lonely
            (λ o. absurd (false≢true (sym vacant ∙ o))) j i;
        opened = number_more (position_or_len is_empty w.rows) w.rows (taken_by t g (row w (position_or_len is_empty w.rows))) in_rows vacant refl i;
        line = ap (λ (r : Row). held (row_name r)) placed i;
        begun = [];
      }

  open_order : sound (opens_row t g (position_or_len is_empty w.rows) (drawn w)) ≡ true
  open_order =
      set_sound (drawn w) (position_or_len is_empty w.rows) s.different s.each s.sixteen (Held (position_or_len is_empty w.rows))
      (taken_by t g (row w (position_or_len is_empty w.rows))) lonely (and_from (nat_lt g.lun 8) true low refl) (ap is_open placed)

  -- a selection that is not refused
  pub chosen : (bs : List ℕ) → greeting_of bs ≡ Some g → Selects (cable w) t bs (selection t w) (cable (selects t (Some g) w)) × (sound (selects t (Some g) w) ≡ true)
  chosen bs e = go (is_present w.shelf t) refl (odd (next_whim w))
    where
      go : (p : Bool) → is_present w.shelf t ≡ p → (q : Bool)
          → Selects (cable w) t bs (cond p (cond q lost selected) absent) (cable (cond p (cond q (drawn w) (opens_row t g (position_or_len is_empty w.rows) (drawn w))) w))
          × (sound (cond p (cond q (drawn w) (opens_row t g (position_or_len is_empty w.rows) (drawn w))) w) ≡ true)
      go true h true = ((h, refl), sound_is w s)
      go true h false = ((h, open_rule ∙ sym (ap (λ (o : Option Greeting). opens t o (cable w)) e)), open_order)
      go false h q = ((h, refl), sound_is w s)
