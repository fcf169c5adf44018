-- A bus whose text says where it refuses and what it grants keeps the rules. Assumes nothing.
use Rattle.std.proofs.Common.{◌≡◌, ℕ, true, false, not, is_some, Some, None, Option, sym, refl, ap, ◌∙◌}
use mathlib.Core.Bool.{false≢true}
use Rattle.bus.specs.Kinds.{byte_shown}
use Rattle.bus.specs.State.{BusState}
use Rattle.bus.specs.Calls.{Call, take, Reply, refused, took, is_refused, took_shown}
use Rattle.bus.specs.Refusals.{due}
use Rattle.bus.specs.Rules.{InOrder, Did}

-- a call that does not fit
pub turned_down : (b : BusState) (c : Call) (r : Reply) (b' : BusState) → due b c ≡ true → r ≡ refused 11 → b' ≡ b → Did b c r b'
turned_down b c r b' d a e =
    record {
      turned_down = ap is_refused a ∙ sym d;
      number = λ n f. cc;
      kept = λ h. e;
      byte = λ v is_take byte. absurd (false≢true (sym (ap (due b) is_take ∙ ap (λ (o : Option ℕ). not (is_some o)) byte) ∙ d));
      keeps_rules = λ o h. absurd (false≢true (sym h ∙ ap is_refused a));
    }

-- a call that fits
pub granted_by : (b : BusState) (c : Call) (r : Reply) (b' : BusState) → due b c ≡ false → is_refused r ≡ false
    → ((v : ℕ) → c ≡ take → byte_shown b.shown ≡ Some v → r ≡ took v) → (b.order ≡ true → InOrder b c r b') → Did b c r b'
granted_by b c r b' d a t i =
    record {
      turned_down = a ∙ sym d;
      number = λ n e. absurd (false≢true (sym a ∙ ap is_refused e));
      kept = λ h. absurd (false≢true (sym a ∙ h));
      byte = t;
      keeps_rules = λ o h. i o;
    }

-- a take that fits is not refused
pub took_it : (o : Option ℕ) → not (is_some o) ≡ false → is_refused (took_shown o) ≡ false
took_it None h = absurd (false≢true (sym h))
took_it (Some v) h = refl
