-- What making a device answers. Assumes nothing.
use Rattle.std.specs.Prelude.{◌≡◌, ℕ, cond, Some, None, Ok, Err, Option, Result, nat_le}
use Rattle.devices.specs.declared.device.MakeError.{MakeError}
use Rattle.devices.specs.declared.device.MakeError.TheVariants.{NoSuchTarget, TooManyBlocks, OutOfMemory}

-- targets are 0 to 6; there the refusal is what else is due
abbrev pub refused_at : ℕ → Option MakeError → Option MakeError
refused_at t other = cond (nat_le t 6) other (Some NoSuchTarget)

-- the refusal that is due; where none is, a device that is so, or want of memory
abbrev pub Making : {D : Type 0} → Option MakeError → (D → Type 0) → Result D MakeError → Type 0
Making due P (Ok d) = (due ≡ None) × P d
Making due P (Err NoSuchTarget) = due ≡ Some NoSuchTarget
Making due P (Err TooManyBlocks) = due ≡ Some TooManyBlocks
Making due P (Err OutOfMemory) = due ≡ None
