-- A bus that only pauses keeps the rules. Assumes nothing.
use Rattle.std.proofs.Common.{◌≡◌, ℕ, Bool, true, false, cond, List, [], ◌∷◌, sym, refl, subst}
use Rattle.bus.specs.declared.Shown.{Shown}
use Rattle.bus.specs.declared.Shown.TheVariants.{Pause}
use Rattle.bus.specs.State.{Name, Nexus, Line, free, retaken, held, Cable, BusState, clear}
use Rattle.bus.specs.Calls.{Call, select, accept, command, give, take, speak, wait, reset, Reply, refused, done}
use Rattle.bus.specs.Refusals.{due}
use Rattle.bus.specs.Effects.{aborts, ends_line, speaks}
use Rattle.bus.specs.Showing.{LineShows, HoldsShow}
use Rattle.bus.specs.Rules.{Rule, Did, PausingIsAllowed}
use Rattle.bus.proofs.Texts.{turned_down, granted_by}

holder_pauses : (c : Cable) (n : Name) (x : Nexus) (bs : List ℕ) (s : Shown) → HoldsShow c n x bs s → HoldsShow c n x bs Pause
holder_pauses c n x [] s h = tt
holder_pauses c n x (b ∷ bs) s h = (h.0, h.1, tt)

line_pauses : (c : Cable) (l : Line) (s : Shown) → LineShows c l s → LineShows c l Pause
line_pauses c free s h = (h.0, tt)
line_pauses c (retaken t k) s h = tt
line_pauses c (held n) s h = (h.0, h.1, holder_pauses c n h.0 c.begun s h.2)

abbrev pauses : Cable → BusState
pauses c = record { cable = c; shown = Pause; order = true }

-- a call that goes by the rules, after which the bus pauses
granted : (c : Cable) (k : Call) (c' : Cable) → due (pauses c) k ≡ false → (k ≡ take → ⊥) → Rule (pauses c) k done c' → LineShows c' c'.line Pause → Did (pauses c) k done (pauses c')
granted c k c' d other r s = granted_by (pauses c) k done (pauses c') d refl (λ v e. absurd (other e)) (λ o. record { rule = r; shows = s; order = refl })

-- a call that does not fit
misfit : (c : Cable) (k : Call) → due (pauses c) k ≡ true → Did (pauses c) k (refused 11) (pauses c)
misfit c k d = turned_down (pauses c) k (refused 11) (pauses c) d refl refl

speaking : (c : Cable) (m : List ℕ) → LineShows c c.line Pause → LineShows (speaks m c) (speaks m c).line Pause
speaking c m h = go (aborts m)
  where
    ended : (l : Line) → LineShows c c.line Pause → LineShows (ends_line l c) (ends_line l c).line Pause
    ended free h = h
    ended (retaken t k) h = (refl, tt)
    ended (held n) h = (refl, tt)

    go : (a : Bool) → LineShows (cond a (ends_line c.line c) c) (cond a (ends_line c.line c) c).line Pause
    go true = ended c.line h
    go false = h

answers : (c : Cable) → LineShows c c.line Pause → (k : Call)
    → (r : Reply) × (b : BusState) × Did (pauses c) k r b × (b.shown ≡ Pause)
answers c h (select t g) = (refused 11, _, misfit c (select t g) refl, refl)
answers c h accept = (refused 11, _, misfit c accept refl, refl)
answers c h (command d) = (refused 11, _, misfit c (command d) refl, refl)
answers c h (give v) = (refused 11, _, misfit c (give v) refl, refl)
answers c h take = (refused 11, _, misfit c take refl, refl)
answers c h (speak m) = (done, _, granted c (speak m) (speaks m c) refl (λ e. cc) refl (speaking c m h), refl)
answers c h wait = (done, _, granted c wait c refl (λ e. cc) refl h, refl)
answers c h reset = (done, _, granted c reset (clear c) refl (λ e. cc) refl (refl, tt), refl)

pub pausing_is_allowed : PausingIsAllowed
pausing_is_allowed =
    record {
      after_any_call = λ b c r b' h. record { rule = h.rule; shows = line_pauses b'.cable b'.cable.line b'.shown h.shows; order = refl };
      for_ever = λ b o p s k.
          subst (λ (a : BusState). (r : Reply) × (b' : BusState) × Did a k r b' × (b'.shown ≡ Pause)) (λ i. record { cable = b.cable; shown = sym p i; order = sym o i })
          (answers b.cable (line_pauses b.cable b.cable.line b.shown s) k);
    }
