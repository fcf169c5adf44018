-- How a bus with at most one nexus changes. Assumes nothing.
use Rattle.std.proofs.Common.{◌≡◌, ℕ, Bool, true, false, cond, List, [], Some, None, Option, sym, refl, ap, ◌∙◌, subst}
use Rattle.shelf.specs.Model.{Model}
use Rattle.bus.specs.declared.Shown.{Shown}
use Rattle.bus.specs.declared.Shown.TheVariants.{DataOut, DataIn, Command, Status, MessageIn}
use Rattle.bus.specs.Kinds.{byte_shown}
use Rattle.bus.specs.State.{Name, Nexus, Line, free, retaken, held, BusState, AtRest, same_name, put, adjust, change, close, sent, moved, given, ended}
use Rattle.bus.specs.Calls.{command, give, take, done, took}
use Rattle.bus.specs.Single.{resting, holding}
use Rattle.bus.specs.Effects.{completes, finishes, takes}
use Rattle.bus.specs.Showing.{Shows, LineShows, MayShow}
use Rattle.bus.specs.Rules.{Did}
use Rattle.bus.proofs.Names.{put_here, put_again, put_only}

-- the nexus changes
pub changed : (m : Model) (n : Name) (x : Nexus) (f : Nexus → Nexus) → change n f (holding m n x) ≡ holding m n (f x)
changed m n x f = λ i. record { shelf = m; nexuses = λ k. path k i; opened = 1; line = held n; begun = [] }
  where
    path : (k : Name) → put n (adjust f (put n (Some x) (λ j. None) n)) (put n (Some x) (λ j. None)) k ≡ put n (Some (f x)) (λ j. None) k
    path k =
        ap (λ (o : Option Nexus). put n (adjust f o) (put n (Some x) (λ j. None)) k) (put_here n (Some x) (λ j. None))
        ∙ put_again n (Some (f x)) (Some x) (λ j. None) k

-- the nexus is closed
pub closed : (m : Model) (n : Name) (x : Nexus) → close n (holding m n x) ≡ resting m
closed m n x = λ i. record { shelf = m; nexuses = λ k. go (same_name k n) i; opened = 0; line = free; begun = [] }
  where
    go : (b : Bool) → cond b None (cond b (Some x) None) ≡ None
    go true = refl
    go false = refl

-- the nexus is finished
pub completed : (m : Model) (n : Name) (x : Nexus) → completes n ((holding m n x).nexuses n) (holding m n x) ≡ resting (finishes n x.command x.collected m)
completed m n x =
    ap (λ (o : Option Nexus). completes n o (holding m n x)) (put_here n (Some x) (λ k. None))
    ∙ closed (finishes n x.command x.collected m) n x

-- a bus at rest
pub at_rest : (b : BusState) → AtRest b → Shows b → b.cable ≡ resting b.cable.shelf
at_rest b r s = λ i. record { shelf = b.cable.shelf; nexuses = λ n. r.none n i; opened = r.no_count i; line = r.line i; begun = nothing b.cable.line r.line s i }
  where
    nothing : (l : Line) → l ≡ free → LineShows b.cable l b.shown → b.cable.begun ≡ []
    nothing free e h = h.0
    nothing (retaken t k) e h = absurd cc
    nothing (held n) e h = absurd cc

-- what may be shown to the nexus
pub shown_to : (m : Model) (n : Name) (x : Nexus) (s : Shown) → LineShows (holding m n x) (held n) s → MayShow m (put n (Some x) (λ k. None)) n x s
shown_to m n x s h = subst (λ (y : Nexus). MayShow m (put n (Some x) (λ k. None)) n y s) (sym (put_only n x n h.0 h.1)) h.2

---- what a granted call does on a bus in order, by what is shown

abbrev pub showing : Model → Name → Nexus → Shown → BusState
showing m n x s = record { cable = holding m n x; shown = s; order = true }

pub did_command : (m : Model) (n : Name) (x : Nexus) (d : List ℕ) (b : BusState) → Did (showing m n x Command) (command d) done b → b.cable ≡ holding m n (sent d x)
did_command m n x d b h = (h.keeps_rules refl refl).rule ∙ changed m n x (sent d)

pub did_give : (m : Model) (n : Name) (x : Nexus) (v : ℕ) (b : BusState) → Did (showing m n x DataOut) (give v) done b → b.cable ≡ holding m n (given v x)
did_give m n x v b h = (h.keeps_rules refl refl).rule ∙ changed m n x (given v)

-- the byte taken is the byte shown
same_byte : (b b' : BusState) (v w : ℕ) → byte_shown b.shown ≡ Some w → Did b take (took v) b' → v ≡ w
same_byte b b' v w s h = let e = h.byte w refl s in cc

pub did_take_data : (m : Model) (n : Name) (x : Nexus) (v w : ℕ) (b : BusState) → Did (showing m n x (DataIn w)) take (took v) b → (v ≡ w) × (b.cable ≡ holding m n (moved x))
did_take_data m n x v w b h = (same_byte _ b v w refl h, (h.keeps_rules refl refl).rule ∙ changed m n x moved)

pub did_take_status : (m : Model) (n : Name) (x : Nexus) (v w : ℕ) (b : BusState) → Did (showing m n x (Status w)) take (took v) b → (v ≡ w) × (b.cable ≡ holding m n (ended v x))
did_take_status m n x v w b h = (same_byte _ b v w refl h, (h.keeps_rules refl refl).rule ∙ changed m n x (ended v))

pub did_take_complete : (m : Model) (n : Name) (x : Nexus) (v : ℕ) (b : BusState) → Did (showing m n x (MessageIn 0)) take (took v) b
    → b.cable ≡ resting (finishes n x.command x.collected m)
did_take_complete m n x v b h =
    let e = same_byte _ b v 0 refl h in
    subst (λ (w : ℕ). b.cable ≡ takes 7 w n (holding m n x)) e (h.keeps_rules refl refl).rule ∙ completed m n x
